use Rattle.txs_audit_evidence.proofs.Printing.{part_many, part_plain}
use Rattle.txs_audit_evidence.proofs.acts.part_of.Goals as goal

pub returns-clause-part : goal.returns-clause-part
returns-clause-part c = part_plain c.args.trace.now c.split_at.result.0.now c.split_at-2.result.1.now c.args.from c.args.to c.split_at.ensures.front c.split_at-2.ensures.back

pub returns-clause-many : goal.returns-clause-many
returns-clause-many c = part_many c.args.trace.now c.split_at.result.0.now c.split_at-2.result.1.now c.args.from c.args.to c.requires.order c.requires.within c.split_at.ensures.front c.split_at-2.ensures.back
