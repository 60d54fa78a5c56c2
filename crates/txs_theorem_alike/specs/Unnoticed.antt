-- Turns of an actor that nobody notices and that bring it back to where it was: a swap that has to be made again, a loop that looks and waits.
use Rattle.std.specs.Prelude.{◌≡◌, ℕ, Bool, true, ◌==◌, List, [], ◌∷◌}
use Rattle.txs_world_protocol.specs.declared.ask.Ask.{Ask}
use Rattle.txs_value_cell.specs.declared.cell.CellDefinition.{CellDefinition}
use Rattle.txs_code_meaning.specs.Machine.{ThreadCode}
use Rattle.txs_theorem_runs.specs.Invariant.{RunInvariant}
use Rattle.txs_theorem_runs.specs.Run.{TakesTurn, State, play}
use Rattle.txs_theorem_runs.specs.Staged.{StagedActor}
use Rattle.txs_theorem_runs.specs.Stages.{Idle}
use Rattle.txs_theorem_alike.specs.Actors.{ActorsAlike, AsksNext}
use Rattle.txs_theorem_alike.specs.Commits.{reply_to}
use Rattle.txs_theorem_alike.specs.States.{holds, StatesAlike, GoesFreely, after_turns}
use Rattle.txs_theorem_alike.specs.Tries.{without, if_own}
use Rattle.txs_theorem_alike.specs.Unseen.{is_unseen}

-- what an actor asks next, if it asks, only looks or comes to nothing
abbrev pub LooksOnly : List CellDefinition → (ℕ → ThreadCode) → ℕ → State → Type 0
LooksOnly cells codes a st = (q : Ask) → AsksNext (codes a) (st.actors a).at q → is_unseen q (reply_to cells a q st.shared) ≡ true

-- Actors take these turns in the first state; in those of one actor it only looks, and nothing stops another, neither here nor where that one takes none.
abbrev pub LooksAmong : List CellDefinition → ℕ → (ℕ → ThreadCode) → (ℕ → Bool) → ℕ → List ℕ → State → State → Type 0
LooksAmong cells threads codes agent a [] st other = Unit {0}
LooksAmong cells threads codes agent a (b ∷ turns) st other =
    if_own (a == b)
    (LooksOnly cells codes a st × LooksAmong cells threads codes agent a turns (play cells threads codes (TakesTurn b) st) other)
    (StagedActor (agent b) (codes b) × GoesFreely cells threads codes b st × GoesFreely cells threads codes b other
    × LooksAmong cells threads codes agent a turns (play cells threads codes (TakesTurn b) st) (play cells threads codes (TakesTurn b) other))

-- From one state of a run: turns of an actor in which it only looks, and which bring it back to where it was, may be left out of a list of turns. It holds no place of a journal there.
abbrev pub LooksAreLeftOut : Type 0
LooksAreLeftOut = (cells : List CellDefinition) (threads : ℕ) (codes : ℕ → ThreadCode) (agent : ℕ → Bool) (a : ℕ) (turns : List ℕ) (st : State)
    → RunInvariant cells threads codes st → ((b : ℕ) → StagedActor (agent b) (codes b)) → LooksAmong cells threads codes agent a turns st st
    → ActorsAlike ((after_turns cells threads codes turns st).actors a) (st.actors a)
    → holds (agent a) (st.actors a) ≡ Idle → holds (agent a) ((after_turns cells threads codes turns st).actors a) ≡ Idle
    → StatesAlike cells agent (after_turns cells threads codes turns st) (after_turns cells threads codes (without a turns) st)
