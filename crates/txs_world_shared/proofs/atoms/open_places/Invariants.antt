use Rattle.std.proofs.Common.{◌≡◌, ◌≤◌, ◌++◌, suc, length, drop, vec_capacity}
use Rattle.txs_world_shared.specs.Kept.{places_of}
use Rattle.txs_world_shared.proofs.atoms.open_places.Given as goal

-- those that are there and those to come are all, and there is room for them
abbrev pub invariant-loop-cell : goal.invariant-loop-cell
invariant-loop-cell l =
    record {
      many : length l.places.items ≡ l.cell-index;
      within : l.cell-index ≤ length l.cells;
      room : vec_capacity l.places ≡ suc (length l.cells);
      all : l.places.items ++ places_of l.atoms (drop l.cell-index l.cells) ≡ places_of 0 l.cells;
      few : l.atoms ≤ l.cell-index;
    }
