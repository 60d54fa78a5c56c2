-- What a report of the right sizes has.
use Rattle.std.proofs.Common.{◌≡◌, ◌<◌, ◌&&◌, ◌==◌, ℕ, zero, suc, true, List, [], ◌∷◌, length, get_or, Some, refl, sym, ap, arith}
use Rattle.std.proofs.lemmas.Bool.{eqb-true}
use Rattle.txs_value_data.specs.Places.{nth}
use Rattle.txs_value_cell.specs.Agents.{agents_from}
use Rattle.txs_tree_meaning.specs.View.{Parts, program_of, threads_of}
use Rattle.txs_tree_meaning.specs.declared.node.Thread.{Thread}
use Rattle.txs_world_book.proofs.Outcomes.{both}
use Rattle.txs_theorem_audit.specs.Audited.{PlainReport}
use Rattle.txs_theorem_audit.specs.Verdict.{atoms_from, fits_sizes}

-- one entry for each cell, atom and agent
pub record Sizes (p : Parts) (r : PlainReport) : Type 0 where
  pub cells : length r.cells ≡ length p.cells
  pub books : length r.atom_books ≡ length (atoms_from 0 p.cells)
  pub failed : length r.failed ≡ length (agents_from 0 p.cells)

pub sized : (p : Parts) (r : PlainReport) → fits_sizes (program_of p) r ≡ true → Sizes p r
sized p r h =
    let P = program_of p in
    let last = length r.cells == length P.cells && length r.failed == length (agents_from 0 P.cells) in
    let three = length r.atom_books == length (atoms_from 0 P.cells) && last in
    let four = length r.agents == length (agents_from 0 P.cells) && three in
    let a = both (length r.threads == length P.threads) four h in
    let b = both (length r.agents == length (agents_from 0 P.cells)) three a.1 in
    let c = both (length r.atom_books == length (atoms_from 0 P.cells)) last b.1 in
    let d = both (length r.cells == length P.cells) (length r.failed == length (agents_from 0 P.cells)) c.1 in
    record {
      cells = eqb-true (length r.cells) (length p.cells) d.0;
      books = eqb-true (length r.atom_books) (length (atoms_from 0 p.cells)) c.0;
      failed = eqb-true (length r.failed) (length (agents_from 0 p.cells)) d.1;
    }

pub threads_many : (ts : List Thread) → length (threads_of ts) ≡ length ts
threads_many [] = refl
threads_many (t ∷ ts) = ap suc (threads_many ts)

-- what is read at an index is there
pub nth_at : {A : Type 0} (xs : List A) (i : ℕ) (x : A) → i < length xs → x ≡ get_or xs i x → nth xs i ≡ Some x
nth_at [] i x lt is = absurd (omega (arith, lt))
nth_at (y ∷ xs) zero x lt is = ap Some (sym is)
nth_at (y ∷ xs) (suc i) x lt is = nth_at xs i x (omega (arith, lt)) is
