use Rattle.std.proofs.Common.{sym, ◌∙◌, subst}
use Rattle.txs_reader.specs.Safe.{Safe}
use Rattle.txs_cli_advice_script.proofs.Shows.{Safe-from_is_safe}
use Rattle.txs_cli_advice_script.proofs.sentence.if_safe.Goals as goal

pub returns-then-is_safe-clause-safe : goal.returns-then-is_safe-clause-safe
returns-then-is_safe-clause-safe c =
    subst (λ text. Safe text) c.as_str.ensures.value (Safe-from_is_safe c.as_str.result.now c.as_str.utf8 (sym c.is_safe.ensures ∙ c.if-is_safe.true))
