use Rattle.std.proofs.Common.{◌≡◌}
use Rattle.txs_explore.specs.Runners.{is_due, those}
use Rattle.txs_world_shared.specs.SharedState.{shared_of}
use Rattle.txs_explore.specs.Node.{asks_in}
use Rattle.txs_explore.proofs.look.Node.due.Given as goal

abbrev pub invariant-loop-k : goal.invariant-loop-k
invariant-loop-k l = l.due.items ≡ those (λ k. is_due l.self.shared.cells l.self.shared.threads (shared_of l.self.shared) k (asks_in l.self.looks.items k)) 0 l.k
