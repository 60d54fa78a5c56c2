use Rattle.std.proofs.Common.{◌≡◌, ◌+◌, drop}
use Rattle.txs_audit_order.specs.Many.{many_of}
use Rattle.txs_audit_order.proofs.sizes.count.Given as goal

abbrev pub invariant-loop-cell : goal.invariant-loop-cell
invariant-loop-cell l = l.many + many_of l.kind (drop l.cell-index l.cells) ≡ many_of l.fn.kind l.fn.cells
