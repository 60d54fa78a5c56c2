-- A list of turns, with a part of it in which an actor tries in vain, and the list without the actor's turns in that part.
use Rattle.std.specs.Prelude.{◌≡◌, ℕ, Bool, List, [], ◌∷◌, ◌++◌}
use Rattle.txs_value_cell.specs.declared.cell.CellDefinition.{CellDefinition}
use Rattle.txs_code_meaning.specs.Machine.{ThreadCode}
use Rattle.txs_theorem_runs.specs.Invariant.{RunInvariant}
use Rattle.txs_theorem_runs.specs.Run.{State}
use Rattle.txs_theorem_runs.specs.Stages.{Idle}
use Rattle.txs_theorem_alike.specs.Anew.{BothBegin}
use Rattle.txs_theorem_alike.specs.Tries.{without, TryAmong}
use Rattle.txs_theorem_alike.specs.InStages.{AlikeInStages}
use Rattle.txs_theorem_alike.specs.States.{StatesAlike, after_turns, GoFreely}

-- The same turns before; then turns among which an actor tries in vain, in the second list without its own; then its begin and the same turns: the states are alike.
abbrev pub FailedTriesAreLeftOut : Type 0
FailedTriesAreLeftOut = (cells : List CellDefinition) (threads : ℕ) (codes : ℕ → ThreadCode) (agent : ℕ → Bool) (a : ℕ) (turns later : List ℕ) (st other : State)
    → RunInvariant cells threads codes st → RunInvariant cells threads codes other
    → (alike : AlikeInStages cells agent st other) → alike.first a ≡ Idle → alike.second a ≡ Idle → BothBegin cells threads codes a st other
    → TryAmong cells threads codes agent a turns st other
    → BothBegin cells threads codes a (after_turns cells threads codes turns st) (after_turns cells threads codes (without a turns) other)
    → GoFreely cells threads codes agent later (after_turns cells threads codes (turns ++ a ∷ []) st)
    → GoFreely cells threads codes agent later (after_turns cells threads codes (without a turns ++ a ∷ []) other)
    → StatesAlike cells agent (after_turns cells threads codes (turns ++ a ∷ later) st) (after_turns cells threads codes (without a turns ++ a ∷ later) other)
