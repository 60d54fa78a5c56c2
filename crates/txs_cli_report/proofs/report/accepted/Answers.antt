use Rattle.std.proofs.Common.{◌∙◌}
use Rattle.txs_cli_report.proofs.report.accepted.Goals as goal

pub returns : goal.returns
returns c = let e = c.answer.ensures in record { output = e.whole ∙ c.in_ok-output.ensures.items; errors = e.errors; status = e.status }
