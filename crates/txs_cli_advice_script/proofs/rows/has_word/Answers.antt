use Rattle.std.proofs.Common.{rules, tests, lit<}
use Rattle.std.specs.Str.{bytes_eq}
use Rattle.std.proofs.lemmas.Iterator.Splits.{YieldsList-from_str_split}
use Rattle.std.proofs.lemmas.Iterator.Search.{any_from_yields_List}
use Rattle.txs_cli_advice_script.specs.Rows.{has_word}
use Rattle.txs_cli_advice_script.proofs.rows.has_word.Goals as goal

pub returns : goal.returns
unfolding has_word
returns c =
    any_from_yields_List (λ it. bytes_eq it c.args.word.now) _ _ _ c.any.ensures.ran
    (YieldsList-from_str_split 32 c.args.row.now (lit< tt) c.split.ensures.text c.split.ensures.has_more c.split.ensures.pattern)
    (λ x b q k. search (rules, tests))
