-- Code of which something is known wherever it comes to, so that its asks come in their stages.
use Rattle.std.proofs.Common.{◌≡◌, ℕ, zero, suc, Bool, List, [], refl, sym, ap, subst}
use Rattle.txs_world_protocol.specs.Ask.{Exchange}
use Rattle.txs_code_meaning.specs.Machine.{ThreadCode, fetch, Configuration, Turned, Ended, Failed, Asking, Unfinished, Stuck, and_then, turn, run}
use Rattle.txs_code_meaning.specs.Opening.{given, opening}
use Rattle.txs_theorem_runs.specs.Staged.{TurnIsStaged}
use Rattle.txs_theorem_runs.specs.Standing.{MayStandHere, MayRun, TakesTurns, StandingActor, StandingIsStaged}
use Rattle.txs_theorem_runs.proofs.Staging.{act_staged}

-- something holds of each configuration that the code comes to, whatever it is told; from it follows that the instruction at hand may stand there
pub record KnownCode (agent : Bool) (code : ThreadCode) : Type 1 where
  pub Holds : Configuration → Type 0
  pub opens : Holds (opening code [])
  pub may : (c : Configuration) → Holds c → MayStandHere agent c.doing (fetch code c.body c.place)
  pub runs : (c : Configuration) → Holds c → MayRun agent c.state.acting
  pub turns : (c : Configuration) → Holds c → TakesTurns agent c.state.acting (fetch code c.body c.place)
  pub given : (xs : List Exchange) (c : Configuration) → Holds c → Holds (given xs c)
  pub keeps : (c d : Configuration) → Holds c → turn code c ≡ Unfinished d → Holds d

-- a turn of what is staged, in a state without exchanges to come
turn_staged : (agent : Bool) (code : ThreadCode) (c : Configuration) → c.state.todo ≡ [] → MayStandHere agent c.doing (fetch code c.body c.place) → MayRun agent c.state.acting → TakesTurns agent c.state.acting (fetch code c.body c.place) → TurnIsStaged agent code c
turn_staged agent code c e may run turns =
    subst (λ l. TurnIsStaged agent code (record c { state = record c.state { todo = l } })) (sym e) (λ st at. act_staged agent c code (fetch code c.body c.place) may run turns st at)

-- what is known goes on to be known
pub run_known : (code : ThreadCode) (agent : Bool) (k : KnownCode agent code) (m : ℕ) (c d : Configuration) → k.Holds c → run code m c ≡ Unfinished d → k.Holds d
run_known code agent k zero c d h e = subst k.Holds (same_place c d e) h
  where
    place_or : Configuration → Turned Configuration → Configuration
    place_or c (Unfinished u) = u
    place_or c (Ended s) = c
    place_or c (Failed f s) = c
    place_or c (Asking s) = c
    place_or c Stuck = c

    same_place : (c d : Configuration) → Unfinished c ≡ Unfinished d → c ≡ d
    same_place c d e = ap (place_or c) e
run_known code agent k (suc m) c d h e = go (run_known code agent k m) (turn code c) refl e
  where
    is_unfinished : Turned Configuration → Type 0
    is_unfinished (Unfinished u) = Unit {0}
    is_unfinished (Ended s) = ⊥
    is_unfinished (Failed f s) = ⊥
    is_unfinished (Asking s) = ⊥
    is_unfinished Stuck = ⊥

    go : ((c d : Configuration) → k.Holds c → run code m c ≡ Unfinished d → k.Holds d) → (o : Turned Configuration) → turn code c ≡ o → and_then o (run code m) ≡ Unfinished d → k.Holds d
    go more (Unfinished u) i e = more u d (k.keeps c u h i) e
    go more (Ended s) i e = absurd (subst is_unfinished (sym e) tt)
    go more (Failed f s) i e = absurd (subst is_unfinished (sym e) tt)
    go more (Asking s) i e = absurd (subst is_unfinished (sym e) tt)
    go more Stuck i e = absurd (subst is_unfinished (sym e) tt)

pub standing_staged : StandingIsStaged
standing_staged agent code known m xs c e todo = let h = known m xs c e in turn_staged agent code c todo h.0 h.1 h.2

pub standing_actor : (agent : Bool) (code : ThreadCode) → KnownCode agent code → StandingActor agent code
standing_actor agent code k m xs c e =
    let h = run_known code agent k m (opening code xs) c (k.given xs (opening code []) k.opens) e in
    (k.may c h, k.runs c h, k.turns c h)
