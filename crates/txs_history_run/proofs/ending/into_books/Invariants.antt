use Rattle.std.proofs.Common.{◌≡◌, ◌≤◌, ◌+◌, ◌++◌, length, map, vec_capacity}
use Rattle.txs_history_run.specs.Back.{book_of}
use Rattle.txs_history_run.proofs.ending.into_books.Given as goal

abbrev pub invariant-loop-atom : goal.invariant-loop-atom
invariant-loop-atom g l =
    record {
      room : length l.fn.atoms.items ≤ vec_capacity l.books;
      many : length l.books.items + length l.atom-iterator.rest.items ≡ length l.fn.atoms.items;
      moved : l.books.items ++ map book_of l.atom-iterator.rest.items ≡ map book_of l.fn.atoms.items;
    }
