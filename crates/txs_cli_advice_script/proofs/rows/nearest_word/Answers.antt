use Rattle.std.proofs.Common.{subst, lit<}
use Rattle.std.proofs.lemmas.Iterator.Splits.{YieldsList-from_str_split}
use Rattle.std.proofs.lemmas.Iterator.Consumers.{YieldsList-at, YieldsList-end}
use Rattle.txs_cli_advice_script.specs.Nears.{Nearest}
use Rattle.txs_cli_advice_script.proofs.NearLaws.{Nearest-item}
use Rattle.txs_cli_advice_script.proofs.rows.nearest_word.Goals as goal

pub loop-it-preserved : goal.loop-it-preserved
loop-it-preserved c = Nearest-item (λ it. it.now) c.loop-it.yielded c.in-Some.it c.args.best c.loop-it.best c.nearer-best.result c.loop-it.invariant c.nearer-best.ensures.one c.nearer-best.ensures.nearer

pub returns : goal.returns
returns c =
    let split = YieldsList-from_str_split 32 c.args.row.now (lit< tt) c.split-it-items.ensures.text c.split-it-items.ensures.has_more c.split-it-items.ensures.pattern in
    let end = YieldsList-end (YieldsList-at c.into_iter-it-iterator.ensures.into_iter_gives split) c.loop-it.yielded _ c.loop-it.yielded_by _ _ c.in-None.is c.next.ensures.steps in
    subst (λ ns. Nearest ns c.args.best c.loop-it.best) end.0 c.loop-it.invariant
