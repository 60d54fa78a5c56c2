use Rattle.std.proofs.Common.{◌≡◌, drop}
use Rattle.txs_audit_order.specs.Going.{free_in}
use Rattle.txs_audit_order.proofs.taking.is_free.Given as goal

abbrev pub invariant-loop-link : goal.invariant-loop-link
invariant-loop-link l = free_in (drop l.link-index l.row) l.cut l.at ≡ free_in l.row l.cut l.at
