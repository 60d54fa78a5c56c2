use Rattle.std.proofs.Common.{◌≡◌, vec_capacity}
use Rattle.txs_audit_order.specs.Linked.{AreLengths}
use Rattle.txs_audit_order.specs.Ordered.{books_as}
use Rattle.txs_audit_order.proofs.order.all_lengths.Given as goal

abbrev pub invariant-loop-book : goal.invariant-loop-book
invariant-loop-book l =
    record {
      room : vec_capacity l.lengths ≡ l.books;
      all : AreLengths (books_as l.report) l.book l.lengths.items;
    }
