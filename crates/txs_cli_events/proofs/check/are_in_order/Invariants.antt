use Rattle.std.proofs.Common.{◌≡◌, ◌+◌, length, drop}
use Rattle.txs_cli_events.specs.Noted.{RestOfBooks, AreInOrder}
use Rattle.txs_cli_events.proofs.check.are_in_order.Given as goal

abbrev pub invariant-loop-note : goal.invariant-loop-note
invariant-loop-note l = record {
  one_each : length l.counts.items ≡ 1 + length l.report.atom_books.items;
  rest : RestOfBooks l.report l.counts.items (drop l.note-index l.notes) → AreInOrder l.report l.notes;
}
