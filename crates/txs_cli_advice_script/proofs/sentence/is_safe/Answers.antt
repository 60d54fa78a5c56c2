use Rattle.std.proofs.Common.{rules, tests, not}
use Rattle.std.proofs.lemmas.Iterator.{YieldsList-from_chars}
use Rattle.std.proofs.lemmas.Iterator.Search.{all_from_yields_List}
use Rattle.txs_reader.specs.Sign.{is_escaped}
use Rattle.txs_cli_advice_script.specs.Sentences.{is_safe}
use Rattle.txs_cli_advice_script.proofs.sentence.is_safe.Goals as goal

pub returns : goal.returns
unfolding is_safe
returns c =
    all_from_yields_List (λ it. not (is_escaped it)) _ _ _ c.all.ensures.ran (YieldsList-from_chars c.args.text.now c.utf8.text c.chars.ensures.rest)
    (λ x b q k. search (rules, tests))
