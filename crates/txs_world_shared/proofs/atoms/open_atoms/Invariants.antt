use Rattle.std.proofs.Common.{◌≡◌, ◌++◌, drop}
use Rattle.txs_world_shared.specs.Kept.{atoms_of}
use Rattle.txs_world_shared.proofs.atoms.open_atoms.Given as goal

-- those that are there and those to come are all
abbrev pub invariant-loop-number : goal.invariant-loop-number
invariant-loop-number l = l.atoms.items ++ atoms_of l.number (drop l.number l.cells) ≡ atoms_of 0 l.cells
