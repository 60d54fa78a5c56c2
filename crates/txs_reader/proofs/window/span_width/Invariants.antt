use Rattle.std.proofs.Common.{◌≡◌, ◌≤◌, ◌+◌, length}
use Rattle.txs_reader.specs.Sign.{signs, width}
use Rattle.txs_reader.specs.Window.{total, first_within, begun}
use Rattle.txs_reader.proofs.window.span_width.Given as goal

abbrev pub invariant-loop-begun : goal.invariant-loop-begun
invariant-loop-begun l = record {
  few : l.wide + l.left ≤ l.limit;
  rest : l.wide + total width (begun l.begun (first_within l.left (signs l.rest))) ≡ total width (begun l.span (first_within l.limit (signs l.bytes)));
}

abbrev pub decreases-loop-begun : goal.decreases-loop-begun
decreases-loop-begun l = length l.rest
