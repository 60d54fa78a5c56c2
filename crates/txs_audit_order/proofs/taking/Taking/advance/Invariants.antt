use Rattle.txs_audit_order.specs.Going.{IsTaking}
use Rattle.txs_audit_order.proofs.taking.Taking.advance.Given as goal

abbrev pub invariant-loop-i : goal.invariant-loop-i
invariant-loop-i l = IsTaking l.lengths l.rows l.self.cut.items l.self.passed.items
