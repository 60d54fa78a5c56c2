use Rattle.std.proofs.Common.{◌≡◌, drop}
use Rattle.txs_theorem_serial.specs.Serial.{are_held}
use Rattle.txs_audit_order.proofs.held.are_held.Given as goal

abbrev pub invariant-loop-read : goal.invariant-loop-read
invariant-loop-read l = are_held l.done (drop l.read-index l.reads) ≡ are_held l.done l.reads
