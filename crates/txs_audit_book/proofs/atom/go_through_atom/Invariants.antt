use Rattle.std.proofs.Common.{◌≡◌, ℕ, [], drop, take}
use Rattle.txs_theorem_audit.specs.Verdict.{book_found}
use Rattle.txs_audit_book.specs.Swapped.{GoneSwaps, atom_test}
use Rattle.txs_audit_book.proofs.atom.go_through_atom.Given as goal

-- the events so far are gone through, and what is found is what the others give
abbrev pub invariant-loop-i : goal.invariant-loop-i
invariant-loop-i l =
    record {
      gone : GoneSwaps l.swaps.swaps l.swaps.views.items (take l.i l.book);
      rest : (index : ℕ → ℕ → ℕ) → book_found (atom_test l.cell l.actors) index (take l.i l.book) (drop l.i l.book) ≡ book_found (atom_test l.cell l.actors) index [] l.book;
    }
