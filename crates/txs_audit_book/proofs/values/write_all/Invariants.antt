use Rattle.std.proofs.Common.{◌≡◌, drop, length, true}
use Rattle.txs_audit_book.specs.Moves.{written_all, all_below, AllWithin}
use Rattle.txs_audit_book.proofs.values.write_all.Given as goal

-- what is left has its places, and writing it completes the whole
abbrev pub invariant-loop-item : goal.invariant-loop-item
invariant-loop-item l =
    record {
      places : all_below (length l.histories.items) (drop l.item-index l.writes) ≡ true;
      within : AllWithin l.events l.histories.items;
      whole : written_all l.events l.histories.items (drop l.item-index l.writes) ≡ written_all l.events l.fn.histories.items l.writes;
    }
