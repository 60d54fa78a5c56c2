-- Where an agent hands in the action that it took.
use Rattle.std.specs.Prelude.{ℕ, Bool, true, false, List, [], ◌∷◌, if◌then◌else◌}
use Rattle.txs_world_protocol.specs.declared.ask.Ask.{Ask}
use Rattle.txs_world_protocol.specs.declared.ask.Ask.TheVariants as ask
use Rattle.txs_theorem_runs.specs.Told.{Entry}

-- whether an ask hands an action in
abbrev pub is_finish : Ask → Bool
is_finish (ask.Finish g new sends) = true
is_finish _ = false

-- where these entries hand in the action that was taken before them; this end, where none does
abbrev pub finished_at : ℕ → List Entry → ℕ
finished_at end [] = end
finished_at end (e ∷ es) = if is_finish e.ask then e.at else finished_at end es
