-- The next turns of an actor, as the machine has them and as searches have them.
use Rattle.std.proofs.Common.{◌≡◌, ℕ, zero, suc, Bool, true, false, nat_lt, List, [], ◌∷◌, Option, Some, None, if◌then◌else◌, refl, ap, ◌∙◌}
use Rattle.txs_code_meaning.specs.Machine.{ThreadCode, Configuration, Turned, Ended, Failed, Asking, Unfinished, Stuck, turn}
use Rattle.txs_code_meaning.specs.PlainCode.{PlainCode}
use Rattle.txs_machine_actor.specs.PlainActor.{code_of}
use Rattle.txs_theorem_runs.specs.Run.{Stop, Play, State, TakesTurn}
use Rattle.txs_explore.specs.Runners.{goes_alone, plays_from_here, plays_at, next_plays}
use Rattle.txs_machine.specs.Scheduled.{after_turns, is_quiet, turns_next, turns_at, own_turns}
use Rattle.txs_explore.specs.Told.{explored}

quiet_same : (t : Turned Configuration) → is_quiet t ≡ goes_alone t
quiet_same (Ended s) = refl
quiet_same (Failed f s) = refl
quiet_same (Asking s) = refl
quiet_same (Unfinished c) = refl
quiet_same Stuck = refl

next_same : (kd : ThreadCode) (k : ℕ) (may : Bool) (c : Configuration) (more : List Play) → turns_next kd k may c more ≡ plays_from_here kd k may c more
next_same kd k true c more = ap (λ b. TakesTurn k ∷ (if b then more else [])) (quiet_same (turn kd c))
next_same kd k false c more = refl

at_same : (kd : ThreadCode) (k : ℕ) (may : Bool) (t : Turned Configuration) (o : Option Stop) (more : List Play) → turns_at kd k may t o more ≡ plays_at kd k may t o more
at_same kd k may (Ended s) o more = refl
at_same kd k may (Failed f s) o more = refl
at_same kd k may (Asking s) o more = refl
at_same kd k may (Unfinished c) None more = next_same kd k may c more
at_same kd k may (Unfinished c) (Some why) more = refl
at_same kd k may Stuck o more = refl

pub own_are_next : (code : PlainCode) (limit k n : ℕ) (st : State) → own_turns code limit k n st ≡ next_plays (explored code limit) k n st
unfolding own_turns next_plays
own_are_next code limit k zero st = refl
own_are_next code limit k (suc n) st =
    at_same (code_of code k) k (nat_lt (st.actors k).turns limit) (st.actors k).at (st.actors k).stopped (own_turns code limit k n (after_turns code (TakesTurn k ∷ []) st))
    ∙ ap (λ more. plays_at (code_of code k) k (nat_lt (st.actors k).turns limit) (st.actors k).at (st.actors k).stopped more) (own_are_next code limit k n (after_turns code (TakesTurn k ∷ []) st))
