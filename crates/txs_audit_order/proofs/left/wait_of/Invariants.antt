use Rattle.std.proofs.Common.{take}
use Rattle.txs_audit_order.specs.Waiting.{IsWait}
use Rattle.txs_audit_order.proofs.left.wait_of.Given as goal

abbrev pub invariant-loop-link : goal.invariant-loop-link
invariant-loop-link l = IsWait (take l.link-index l.row) l.cut l.at l.wait
