use Rattle.std.proofs.Common.{◌≡◌, ◌+◌, length}
use Rattle.txs_history.specs.Logged.{locks_of}
use Rattle.txs_threads.proofs.Opening.{AreNext}
use Rattle.txs_threads.proofs.atoms.open_logged.Given as goal

-- the atoms that are left have the locks that are left
abbrev pub invariant-loop-book : goal.invariant-loop-book
invariant-loop-book g l =
    record {
      book : l.opened.seen.book ≡ g.J.Naming.book;
      count : l.opened.count ≡ locks_of g.J.Run.code.cells;
      left : l.opened.next + length l.book-iterator.rest.items ≡ l.opened.count;
      next : AreNext g.J.Run.code.cells l.opened.next l.book-iterator.rest.items;
    }
