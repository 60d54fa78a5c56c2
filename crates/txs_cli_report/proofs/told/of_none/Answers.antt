use Rattle.std.proofs.Common.{◌++◌, ◌∙◌, ℕ, List, None, Some, ap}
use Rattle.txs_cli_report.specs.Lent.{script_of}
use Rattle.txs_cli_report.specs.Lines.{lesson_of}
use Rattle.txs_cli_report.proofs.told.of_none.Goals as goal

pub returns-clause-errors : goal.returns-clause-errors
returns-clause-errors c = (_, c.in_ok-explain.ensures ∙ ap (λ (l : List ℕ). l ++ lesson_of (script_of c.args.script).file (script_of c.args.script).text None (Some _)) c.answer-told.ensures.errors)
