-- A run by a schedule is an interleaving: its turns are those of the code's actors.
use Rattle.std.proofs.Common.{◌≡◌, ◌<◌, ◌≤◌, ◌+◌, ℕ, zero, suc, true, ◌&&◌, nat_lt, List, [], ◌∷◌, ◌++◌, refl, sym, ap, subst, ◌∙◌, arith}
use Rattle.std.proofs.lemmas.Bool.Decides.{nat_tests}
use Rattle.txs_world_protocol.specs.declared.report.ActorReport.{ActorReport}
use Rattle.txs_value_data.proofs.SameLemmas.{and_both}
use Rattle.txs_code_meaning.specs.PlainCode.{PlainCode}
use Rattle.txs_theorem_runs.specs.Run.{State, Play}
use Rattle.txs_world_shared.specs.SharedState.{PlainShared}
use Rattle.txs_machine.specs.Agents.{actors_of}
use Rattle.txs_machine.specs.Schedule.{player, all_named}
use Rattle.txs_machine.specs.Scheduled.{after_turns, run_of, most_turns, ArePlays, AreRounds, AreScheduled, AreTurnsBelow, IsScheduledRun, IsInterleaving, asks_from}
use Rattle.txs_machine.specs.declared.schedule.Play.{Play as AnyPlay}
use Rattle.txs_machine.proofs.Going.{AreOf, turns_of}

below_append : (m : ℕ) (xs ys : List Play) → AreTurnsBelow m xs → AreTurnsBelow m ys → AreTurnsBelow m (xs ++ ys)
below_append m [] ys h g = g
below_append m (x ∷ xs) ys h g = (h.0, below_append m xs ys h.1 g)

-- turns of one actor are below a number where the actor is
of_one : (m k : ℕ) (us : List Play) → k < m → AreOf k us → AreTurnsBelow m us
of_one m k [] less h = tt
of_one m k (y ∷ us) less h = (subst (λ n. n < m) (sym h.0) less, of_one m k us less h.1)

less_of : (a b : ℕ) → nat_lt a b ≡ true → a < b
less_of a b h = grind (arith, nat_tests, h)

is_less : (a b : ℕ) → a < b → nat_lt a b ≡ true
is_less a b h = grind (arith, nat_tests, h)

plays_below : (code : PlainCode) (limit m : ℕ) (ys : List AnyPlay) (st : State) (us : List Play) → all_named m ys ≡ true → ArePlays code limit ys st us → AreTurnsBelow m us
plays_below code limit m [] st us named h = subst (AreTurnsBelow m) (sym h) tt
plays_below code limit m (y ∷ ys) st us named h =
    let both = and_both (nat_lt (player y) m) (all_named m ys) named in
    subst (AreTurnsBelow m) (sym h.2)
    (below_append m h.0 h.1 (of_one m (player y) h.0 (less_of (player y) m both.0) (turns_of code limit (player y) (most_turns y) st h.0 h.3))
    (plays_below code limit m ys (after_turns code h.0 st) h.1 both.1 h.4))

asks_named : (n k m : ℕ) → k + n ≤ m → all_named m (asks_from k n) ≡ true
asks_named zero k m le = refl
asks_named (suc n) k m le = ap (λ b. b && all_named m (asks_from (suc k) n)) (is_less k m (omega (arith, le))) ∙ asks_named n (suc k) m (omega (arith, le))

rounds_below : (code : PlainCode) (limit n : ℕ) (st : State) (us : List Play) → AreRounds code limit n st us → AreTurnsBelow (actors_of code) us
rounds_below code limit zero st us h = subst (AreTurnsBelow (actors_of code)) (sym h.1) tt
rounds_below code limit (suc n) st us h =
    let m = actors_of code in
    subst (AreTurnsBelow m) (sym h.3)
    (below_append m h.1 h.2 (plays_below code limit m (asks_from 0 m) st h.1 (asks_named m 0 m (omega arith)) h.4) (rounds_below code limit n (after_turns code h.1 st) h.2 h.5))

scheduled_below : (code : PlainCode) (limit : ℕ) (ys : List AnyPlay) (us : List Play) → all_named (actors_of code) ys ≡ true → AreScheduled code limit ys true us → AreTurnsBelow (actors_of code) us
scheduled_below code limit ys us named h =
    subst (AreTurnsBelow (actors_of code)) (sym h.2)
    (below_append (actors_of code) h.0 h.1 (plays_below code limit (actors_of code) ys (run_of code []) h.0 named h.3) (rounds_below code limit h.4.0 (after_turns code h.0 (run_of code [])) h.1 h.4.1))

pub interleaved : (code : PlainCode) (limit : ℕ) (ys : List AnyPlay) (s : PlainShared) (threads agents : List ActorReport)
    → all_named (actors_of code) ys ≡ true → IsScheduledRun code limit ys true s threads agents → IsInterleaving code s threads agents
interleaved code limit ys s threads agents named run = record {
  turns = run.turns;
  below = scheduled_below code limit ys run.turns named run.scheduled;
  shared = run.shared;
  threads_are = run.threads_are;
  agents_are = run.agents_are;
}
