use Rattle.txs_audit_order.specs.Going.{IsTaking}
use Rattle.txs_audit_order.proofs.taking.Taking.reach_all.Given as goal

abbrev pub invariant-loop-book : goal.invariant-loop-book
invariant-loop-book l = IsTaking l.lengths l.rows l.self.cut.items l.self.passed.items
