use Rattle.std.proofs.Common.{ℕ, List, [], ◌∷◌}
use Rattle.txs_world_protocol.specs.declared.ask.Ask.{Ask}
use Rattle.txs_value_cell.specs.declared.cell.CellDefinition.{CellDefinition}
use Rattle.txs_world.specs.Laws.{ServeKeeps}
use Rattle.txs_theorem_runs.specs.Invariant.{SharedStands}
use Rattle.txs_theorem_runs.specs.Shared.{Shared}
use Rattle.txs_theorem_runs.proofs.Serving.{serving_stands}
use Rattle.txs_world_shared.specs.Laws.{after_ask, after_asks, AreLawful}
use Rattle.txs_world_shared.proofs.law.serves_stand.Goals as goal

all_stand : ServeKeeps → (cells : List CellDefinition) (threads : ℕ) (xs : List (ℕ × Ask)) (sh : Shared) → AreLawful cells threads xs sh → SharedStands cells threads sh → SharedStands cells threads (after_asks cells xs sh)
all_stand keeps cells threads [] sh may st = st
all_stand keeps cells threads (x ∷ xs) sh may st = all_stand keeps cells threads xs (after_ask cells x sh) may.1 (serving_stands keeps cells threads sh x.0 st x.1 may.0)

pub returns : goal.returns
returns c = all_stand c.serve_keeps.ensures
