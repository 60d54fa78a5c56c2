use Rattle.std.proofs.Common.{rules}
use Rattle.txs_machine.proofs.schedule.report_of.Goals as goal

pub returns : goal.returns
returns c = record { ended = search rules; printed = search rules; counted = search rules; traced = search rules; placed = search rules }
