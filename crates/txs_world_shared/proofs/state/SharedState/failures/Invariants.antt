use Rattle.std.proofs.Common.{◌≡◌, ◌++◌, drop}
use Rattle.txs_world_shared.specs.Parts.{fault_of, faults_from, faults_of}
use Rattle.txs_world_shared.proofs.state.SharedState.failures.Given as goal

abbrev pub invariant-loop-i : goal.invariant-loop-i
invariant-loop-i l = l.faults.items ++ faults_from (fault_of l.self) l.i (drop l.i l.cells) ≡ faults_of l.self
