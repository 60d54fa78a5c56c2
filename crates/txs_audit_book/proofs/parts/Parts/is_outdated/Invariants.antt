use Rattle.std.proofs.Common.{◌≡◌, ◌≤◌, ◌+◌, length, take}
use Rattle.txs_world_book.specs.Book.{times_written}
use Rattle.txs_audit_book.proofs.parts.Parts.is_outdated.Given as goal

-- there is one write for each round, and those up to this place
abbrev pub invariant-loop : goal.invariant-loop
invariant-loop l =
    record {
      within : l.place ≤ length l.done;
      times : times_written l.fn.cell.number l.since l.done ≡ l.counter + times_written l.fn.cell.number l.since (take l.place l.done);
    }
