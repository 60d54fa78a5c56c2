use Rattle.std.proofs.Common.{◌≡◌, ◌≤◌, drop, length}
use Rattle.txs_reader.specs.Tree.{trees, trees_of}
use Rattle.txs_value_data.specs.PlainValue.{row_depth, plain_row}
use Rattle.txs_value_data.specs.View.{plains_of}
use Rattle.txs_resolve.specs.Literals.{literals}
use Rattle.txs_resolve.proofs.Literals.{values_after}
use Rattle.txs_resolve.proofs.values.+literal.Given as goal

abbrev pub invariant-literals-loop-form : goal.invariant-literals-loop-form
invariant-literals-loop-form l = record {
  same : literals l.room (trees_of (trees l.forms)) ≡ values_after l.values.items (literals l.room (trees_of (trees (drop l.form-index l.forms))));
  low : row_depth (plain_row (plains_of l.values.items)) ≤ l.room;
  so_many : length l.values.items ≡ l.form-index;
}
