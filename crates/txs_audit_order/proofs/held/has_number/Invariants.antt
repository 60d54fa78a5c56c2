use Rattle.std.proofs.Common.{◌≡◌, drop}
use Rattle.txs_frame.specs.Frame.{has_number}
use Rattle.txs_audit_order.proofs.held.has_number.Given as goal

abbrev pub invariant-loop-cell : goal.invariant-loop-cell
invariant-loop-cell l = has_number (drop l.cell-index l.refs) l.number ≡ has_number l.refs l.number
