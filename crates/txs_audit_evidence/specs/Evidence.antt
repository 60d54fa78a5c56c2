-- The books of a report gone through, and what it is that they were.
use Rattle.std.specs.Prelude.{◌≡◌, ◌<◌, ◌&&◌, ℕ, zero, suc, true, false, List, [], length, Option, Some, None, Result, Ok, Err, Vec}
use Rattle.std.proofs.Common.{get_or}
use Rattle.txs_value_data.specs.Places.{nth}
use Rattle.txs_value_cell.specs.Agents.{agents_from}
use Rattle.txs_value_data.specs.declared.value.CellId.{CellId}
use Rattle.txs_value_data.specs.declared.value.Value.{Value}
use Rattle.txs_world_book.specs.Atom.{atom_after}
use Rattle.txs_world_book.specs.Book.{actors, opening}
use Rattle.txs_world_book.specs.Served.{cells_of}
use Rattle.txs_world_protocol.specs.declared.report.Report.{Report}
use Rattle.txs_tree_meaning.specs.View.{Parts, program_of}
use Rattle.txs_theorem_audit.specs.Audited as audited
use Rattle.txs_theorem_audit.specs.Audited.{PlainReport, books_of, entry_of, report_as, and_then, check}
use Rattle.txs_theorem_audit.specs.Verdict.{atom_found, atoms_found, atoms_from, fits_sizes, has_failed, has_values, is_value, length_if, store_found}
use Rattle.txs_audit_book.specs.Replayed.{IsLegalBook, PlainReplay, plain_replay}
use Rattle.txs_audit_book.specs.Swapped.{SwapsAre, atom_test}
use Rattle.txs_audit_book.specs.Tests.{store_test}
use Rattle.txs_audit_book.specs.Judged.{as_found, is_fine}
use Rattle.txs_audit_book.specs.declared.finding.Finding.{Finding}

-- a program and a report
pub record PlainBooks : Type 0 where
  pub program : Parts
  pub report : PlainReport

abbrev pub plain_books : Parts → Report → PlainBooks
plain_books p r = record { program = p; report = report_as r }

-- the store's book gone through
abbrev pub replay_in : PlainBooks → PlainReplay
replay_in b = plain_replay (cells_of b.program.cells) (length b.program.threads) b.report.book

-- the atoms, in the order of their cells
abbrev pub atoms_in : PlainBooks → List CellId
atoms_in b = atoms_from 0 b.program.cells

-- the report has the right sizes, and each of its books is legal
pub record AreLegal (b : PlainBooks) : Type 0 where
  pub fits : fits_sizes (program_of b.program) b.report ≡ true
  pub store : IsLegalBook (store_test (cells_of b.program.cells) (length b.program.threads)) b.report.book
  pub atoms : (n : ℕ) (c : CellId) → nth (atoms_in b) n ≡ Some c → IsLegalBook (atom_test c (actors (length b.program.threads) (cells_of b.program.cells))) (books_of b.report (suc n))

-- these are the books, gone through, the swaps of each atom, and the table of the program's functions
pub record AreGone (b : PlainBooks) (replay : PlainReplay) (swaps : List (List (ℕ × Value))) (functions : Parts) : Type 0 where
  pub legal : AreLegal b
  pub replayed : replay ≡ replay_in b
  pub many : length swaps ≡ length (atoms_in b)
  pub swapped : (n : ℕ) → n < length swaps → SwapsAre (get_or swaps n []) (books_of b.report (suc n))
  pub table : functions ≡ b.program

-- these are the swaps of the book with this number, if it is an atom's; a book that has none is the store's or has no events
abbrev pub SwapsIn : PlainBooks → ℕ → Option (List (ℕ × Value)) → Type 0
SwapsIn b zero o = o ≡ None
SwapsIn b (suc n) None = books_of b.report (suc n) ≡ []
SwapsIn b (suc n) (Some h) = SwapsAre h (books_of b.report (suc n))

-- what the store's book leaves
abbrev pub StoreLeft : Parts → Report → Finding → Type 0
StoreLeft p r f =
    as_found f ≡ check (has_values p.cells (report_as r) 0 p.cells r.cells.items && has_failed (cells_of p.cells) r.book.items (agents_from 0 p.cells) r.failed.items) 0 (length_if (entry_of (report_as r) 0))

-- the store's book was gone through, and an audit finds nothing in it; or that is what it finds
abbrev pub StoreOpened : Parts → Report → Result PlainReplay Finding → Type 0
StoreOpened p r (Ok replay) =
    (replay ≡ replay_in (plain_books p r)) × IsLegalBook (store_test (cells_of p.cells) (length p.threads)) r.book.items × (store_found (program_of p) (report_as r) ≡ audited.Fine)
StoreOpened p r (Err f) = (as_found f ≡ store_found (program_of p) (report_as r)) × (is_fine (as_found f) ≡ false)

-- what the book of the n-th atom leaves
abbrev pub AtomLeft : Parts → Report → ℕ → CellId → Finding → Type 0
AtomLeft p r n c f =
    as_found f ≡ check (is_value (atom_after (opening (cells_of p.cells) c.number) (books_of (report_as r) (suc n)) (length (books_of (report_as r) (suc n)))) (nth r.cells.items c.number)) 0 (length_if (entry_of (report_as r) 0))

-- the book of the n-th atom was gone through, and an audit finds nothing in it; or that is what it finds
abbrev pub AtomOpened : Parts → Report → ℕ → CellId → Result (List (ℕ × Value)) Finding → Type 0
AtomOpened p r n c (Ok h) =
    IsLegalBook (atom_test c (actors (length p.threads) (cells_of p.cells))) (books_of (report_as r) (suc n)) × SwapsAre h (books_of (report_as r) (suc n)) × (atom_found (program_of p) (report_as r) c ≡ audited.Fine)
AtomOpened p r n c (Err f) = (as_found f ≡ atom_found (program_of p) (report_as r) c) × (is_fine (as_found f) ≡ false)

-- these are the swaps of so many atoms' books, and each is legal
pub record AreSwaps (p : Parts) (r : Report) (swaps : List (List (ℕ × Value))) : Type 0 where
  pub legal : (n : ℕ) (c : CellId) → n < length swaps → nth (atoms_from 0 p.cells) n ≡ Some c → IsLegalBook (atom_test c (actors (length p.threads) (cells_of p.cells))) (books_of (report_as r) (suc n))
  pub swapped : (n : ℕ) → n < length swaps → SwapsAre (get_or swaps n []) (books_of (report_as r) (suc n))

-- the books of all atoms were gone through, and an audit finds nothing in them; or that is what it finds
abbrev pub AtomsOpened : {Z : Type 0} → Parts → Report → Result (Vec (List (ℕ × Value)) Z) Finding → Type 0
AtomsOpened p r (Ok swaps) =
    AreSwaps p r swaps.items × (length swaps.items ≡ length (atoms_from 0 p.cells)) × (atoms_found (program_of p) (report_as r) (atoms_from 0 p.cells) ≡ audited.Fine)
AtomsOpened p r (Err f) = (as_found f ≡ atoms_found (program_of p) (report_as r) (atoms_from 0 p.cells)) × (is_fine (as_found f) ≡ false)

-- The books were gone through, and an audit finds nothing in them; or that is what it finds.
abbrev pub Opened : Parts → Report → Result PlainBooks Finding → Type 0
Opened p r (Ok b) = (b ≡ plain_books p r) × (store_found (program_of p) (report_as r) ≡ audited.Fine) × (atoms_found (program_of p) (report_as r) (atoms_from 0 p.cells) ≡ audited.Fine)
Opened p r (Err f) = (as_found f ≡ and_then (store_found (program_of p) (report_as r)) (atoms_found (program_of p) (report_as r) (atoms_from 0 p.cells))) × (is_fine (as_found f) ≡ false)
