use Rattle.std.proofs.Common.{sym, ap}
use Rattle.txs_world_protocol.specs.declared.event.Outcome.{Outcome}
use Rattle.txs_cli_report.specs.Lines.{status_of}
use Rattle.txs_cli_report.proofs.told.status_of.Goals as goal

pub returns-in-Failed : goal.returns-in-Failed
returns-in-Failed c = sym (ap (λ (o : Outcome). status_of o) c.in-Failed.is)
