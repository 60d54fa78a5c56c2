use Rattle.std.proofs.Common.{◌≡◌, ◌≤◌, ◌+◌, ◌++◌, length, map, vec_capacity}
use Rattle.txs_world_book.specs.Atom.{PlainAtom}
use Rattle.txs_world_shared.proofs.parts.move_books.Given as goal

abbrev pub invariant-loop-atom : goal.invariant-loop-atom
invariant-loop-atom l =
    record {
      room : length l.fn.atoms.items ≤ vec_capacity l.books;
      many : length l.books.items + length l.atom-iterator.rest.items ≡ length l.fn.atoms.items;
      moved : l.books.items ++ map (λ (a : PlainAtom). a.book) l.atom-iterator.rest.items ≡ map (λ (a : PlainAtom). a.book) l.fn.atoms.items;
    }
