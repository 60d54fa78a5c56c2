-- A list of turns without those of tries that failed.
use Rattle.std.proofs.Common.{◌≡◌, ℕ, List, [], ◌∷◌, ◌++◌, refl, sym, subst}
use Rattle.txs_value_cell.specs.declared.cell.CellDefinition.{CellDefinition}
use Rattle.txs_code_meaning.specs.Machine.{ThreadCode}
use Rattle.txs_theorem_runs.specs.Invariant.{PlayHolds, RunInvariant}
use Rattle.txs_theorem_runs.specs.Run.{TakesTurn, State, play}
use Rattle.txs_theorem_alike.specs.Tries.{without}
use Rattle.txs_theorem_alike.specs.States.{StatesAlike, after_turns, GoFreely}
use Rattle.txs_theorem_alike.specs.Whole.{FailedTriesAreLeftOut}
use Rattle.txs_theorem_alike.proofs.Anew.{failed_tries_are_nothing}
use Rattle.txs_theorem_alike.proofs.States.{stages_are_alike, runs_keep_states}

module _ (holds : PlayHolds) (cells : List CellDefinition) (threads : ℕ) (codes : ℕ → ThreadCode) where
  all_hold : (turns : List ℕ) (st : State) → RunInvariant cells threads codes st → RunInvariant cells threads codes (after_turns cells threads codes turns st)
  all_hold [] st h = h
  all_hold (b ∷ turns) st h = all_hold turns (play cells threads codes (TakesTurn b) st) (holds cells threads codes (TakesTurn b) st h)

  -- turns behind others
  in_turn : (turns later : List ℕ) (st : State) → after_turns cells threads codes (turns ++ later) st ≡ after_turns cells threads codes later (after_turns cells threads codes turns st)
  in_turn [] later st = refl
  in_turn (b ∷ turns) later st = in_turn turns later (play cells threads codes (TakesTurn b) st)

pub failed_tries_are_left_out : PlayHolds → FailedTriesAreLeftOut
failed_tries_are_left_out holds cells threads codes agent a turns later st other h g alike e f both among ends free loose =
    subst (λ u. StatesAlike cells agent u (run (without a turns ++ a ∷ later) other)) (sym (in_turn holds cells threads codes turns (a ∷ later) st))
    (subst (λ u. StatesAlike cells agent (run later (next (run turns st))) u) (sym (in_turn holds cells threads codes (without a turns) (a ∷ later) other))
    (runs_keep_states holds cells threads codes agent later (next (run turns st)) (next (run (without a turns) other))
    (all_hold holds cells threads codes (a ∷ []) (run turns st) (all_hold holds cells threads codes turns st h))
    (all_hold holds cells threads codes (a ∷ []) (run (without a turns) other) (all_hold holds cells threads codes (without a turns) other g))
    (stages_are_alike cells agent (next (run turns st)) (next (run (without a turns) other)) (failed_tries_are_nothing holds cells threads codes agent a turns st other h g alike e f both among ends))
    (subst (GoFreely cells threads codes agent later) (in_turn holds cells threads codes turns (a ∷ []) st) free)
    (subst (GoFreely cells threads codes agent later) (in_turn holds cells threads codes (without a turns) (a ∷ []) other) loose)))
  where
    run : List ℕ → State → State
    run ts s = after_turns cells threads codes ts s

    next : State → State
    next s = play cells threads codes (TakesTurn a) s
