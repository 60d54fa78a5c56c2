use Rattle.std.proofs.Common.{refl, rules}
use Rattle.txs_cli_report.proofs.Threads.{none_printed}
use Rattle.txs_cli_report.proofs.told.answer.Goals as goal

pub returns-clause-status : goal.returns-clause-status
returns-clause-status c = search rules

pub returns-clause-whole : goal.returns-clause-whole
returns-clause-whole c = none_printed c.new.result.items c.new-2.result.items c.args.output.items c.args.output.items c.new.ensures.items c.new-2.ensures.items refl
