use Rattle.std.proofs.Common.{◌≡◌, ◌≤◌, ◌++◌, drop, length, take}
use Rattle.txs_world_shared.specs.Parts.{fault_of, faults_from, faults_of}
use Rattle.txs_explore.proofs.told.has_faults.Given as goal

abbrev pub invariant-loop-i : goal.invariant-loop-i
invariant-loop-i l = record { within : l.at ≤ length l.failed; so_far : take l.at l.failed ++ faults_from (fault_of l.shared) l.i (drop l.i l.cells) ≡ faults_of l.shared }
