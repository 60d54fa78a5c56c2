-- A list of turns, and the same list without an actor's tries that failed.
use Rattle.std.specs.Prelude.{ℕ, Bool, List, [], ◌∷◌, ◌++◌}
use Rattle.txs_value_cell.specs.declared.cell.CellDefinition.{CellDefinition}
use Rattle.txs_value_data.specs.declared.fault.Span.{Span}
use Rattle.txs_code_meaning.specs.Machine.{ThreadCode}
use Rattle.txs_theorem_runs.specs.Invariant.{RunInvariant}
use Rattle.txs_theorem_runs.specs.Run.{State}
use Rattle.txs_theorem_runs.specs.Staged.{StagedActor}
use Rattle.txs_theorem_alike.specs.Anew.{StandsAtBegin}
use Rattle.txs_theorem_alike.specs.Tries.{without, TryAmong}
use Rattle.txs_theorem_alike.specs.States.{StatesAlike, after_turns, GoFreely}
use Rattle.txs_theorem_alike.specs.Turns.{AsksFreely}

-- The actor's next instruction begins a transaction, for the first time or anew, and nothing stops it there.
pub record IsAtBegin (cells : List CellDefinition) (threads : ℕ) (codes : ℕ → ThreadCode) (a : ℕ) (st : State) : Type 0 where
  pub span : Span
  pub stands : StandsAtBegin (codes a) span (st.actors a)
  pub asks : AsksFreely cells threads (codes a) a (st.actors a).at st.shared

-- From one state of a run: turns among which an actor tries a transaction in vain, up to where it begins it anew, then its begin and any turns, come to what the same list without the
-- actor's tries comes to.
abbrev pub TriesAreLeftOut : Type 0
TriesAreLeftOut = (cells : List CellDefinition) (threads : ℕ) (codes : ℕ → ThreadCode) (agent : ℕ → Bool) (a : ℕ) (turns later : List ℕ) (st : State)
    → RunInvariant cells threads codes st → ((b : ℕ) → StagedActor (agent b) (codes b))
    → IsAtBegin cells threads codes a st → TryAmong cells threads codes agent a turns st st
    → IsAtBegin cells threads codes a (after_turns cells threads codes turns st) → IsAtBegin cells threads codes a (after_turns cells threads codes (without a turns) st)
    → GoFreely cells threads codes agent later (after_turns cells threads codes (turns ++ a ∷ []) st)
    → GoFreely cells threads codes agent later (after_turns cells threads codes (without a turns ++ a ∷ []) st)
    → StatesAlike cells agent (after_turns cells threads codes (turns ++ a ∷ later) st) (after_turns cells threads codes (without a turns ++ a ∷ later) st)
