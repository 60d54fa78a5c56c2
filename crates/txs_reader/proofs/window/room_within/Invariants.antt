use Rattle.std.proofs.Common.{◌≡◌, ◌≤◌, ◌+◌, ◌-◌, min, length}
use Rattle.txs_reader.specs.Sign.{signs, room}
use Rattle.txs_reader.specs.Window.{total}
use Rattle.txs_reader.proofs.window.room_within.Given as goal

abbrev pub invariant-loop-left : goal.invariant-loop-left
invariant-loop-left l = record {
  few : l.left ≤ l.limit;
  rest : l.limit - l.left + min l.left (total room (signs l.rest)) ≡ min l.limit (total room (signs l.bytes));
}

abbrev pub decreases-loop-left : goal.decreases-loop-left
decreases-loop-left l = length l.rest
