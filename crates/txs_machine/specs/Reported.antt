-- What a report has of the state behind a run.
use Rattle.std.specs.Prelude.{◌≡◌, ◌∷◌, length}
use Rattle.txs_world_protocol.specs.SeenEvent.{atoms_below}
use Rattle.txs_world_protocol.specs.declared.report.Report.{Report}
use Rattle.txs_world_shared.specs.Parts.{values_of, faults_of}
use Rattle.txs_world_shared.specs.SharedState.{PlainShared}

-- A report has the books of this state, behind the store's one for each atom, and the values and faults that it leaves.
pub record IsReportOf (s : PlainShared) (r : Report) : Type 0 where
  pub books : r.book.items ∷ r.atom_books.items ≡ s.books
  pub atoms : length r.atom_books.items ≡ atoms_below s.cells (length s.cells)
  pub cells : r.cells.items ≡ values_of s
  pub failed : r.failed.items ≡ faults_of s
