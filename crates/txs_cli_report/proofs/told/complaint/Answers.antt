use Rattle.std.proofs.Common.{[], rules}
use Rattle.txs_cli_report.proofs.Threads.{none_printed}
use Rattle.txs_cli_report.proofs.told.complaint.Goals as goal

pub returns-clause-status : goal.returns-clause-status
returns-clause-status c = search rules

pub returns-clause-output : goal.returns-clause-output
returns-clause-output c = none_printed c.new.result.items c.new-2.result.items c.new-3.result.items [] c.new.ensures.items c.new-2.ensures.items c.new-3.ensures.items
