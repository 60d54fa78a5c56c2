use Rattle.std.proofs.Common.{◌≡◌, ℕ, [], drop, take}
use Rattle.txs_world_book.specs.Served.{cells_of}
use Rattle.txs_audit_book.specs.Gone.{GoneParts}
use Rattle.txs_theorem_audit.specs.Verdict.{book_found}
use Rattle.txs_audit_book.specs.Tests.{store_test}
use Rattle.txs_audit_book.proofs.replay.go_through.Given as goal

-- the events so far are gone through, and what is found is what the others give
abbrev pub invariant-loop-i : goal.invariant-loop-i
invariant-loop-i l =
    record {
      cells : l.parts.cells ≡ cells_of l.definitions;
      threads : l.parts.threads ≡ l.threads;
      gone : GoneParts l.parts (take l.i l.book);
      rest : (index : ℕ → ℕ → ℕ) → book_found (store_test (cells_of l.definitions) l.threads) index (take l.i l.book) (drop l.i l.book) ≡ book_found (store_test (cells_of l.definitions) l.threads) index [] l.book;
    }
