-- Turns keep states alike.
use Rattle.std.proofs.Common.{◌≡◌, inl, inr, ◌<◌, ℕ, Bool, true, false, ◌&&◌, ◌==◌, List, [], ◌∷◌, length, map, Option, Some, None, if◌then◌else◌, refl, sym, ap, ◌∙◌, subst}
use Rattle.std.proofs.lemmas.Bool.{true≢false}
use Rattle.txs_world_protocol.specs.declared.event.Event.{Event}
use Rattle.txs_value_cell.specs.declared.cell.CellDefinition.{CellDefinition}
use Rattle.txs_value_data.specs.declared.fault.Fault.{Fault}
use Rattle.txs_value_data.proofs.SameLemmas.{numbers}
use Rattle.txs_value_data.specs.Limits.{reruns}
use Rattle.txs_world_book.specs.Book.{is_there}
use Rattle.txs_world_book.specs.Served.{cells_of}
use Rattle.txs_code_meaning.specs.ActorState.{InHand}
use Rattle.txs_code_meaning.specs.Machine.{ThreadCode, Configuration, Turned, Ended, Failed, Asking, Unfinished, Stuck}
use Rattle.txs_theorem_runs.specs.Invariant.{ActorInvariant, PlayHolds}
use Rattle.txs_theorem_runs.specs.Run.{Stop, TakesTurn, Actor, Moved, State, turns_from, play}
use Rattle.txs_theorem_runs.specs.Shared.{Shared}
use Rattle.txs_theorem_runs.specs.Staged.{HasFault, IsOver, StagedActor, StandsIn, IsStaged, stage_of}
use Rattle.txs_theorem_runs.specs.Stages.{Stage, Idle, Open}
use Rattle.txs_theorem_runs.specs.Told.{exchange_of}
use Rattle.txs_theorem_alike.specs.Actors.{SameButPlaces, ActorsAlike}
use Rattle.txs_theorem_alike.specs.Books.{SamePoint, Alike}
use Rattle.txs_theorem_alike.specs.Failures.{failures}
use Rattle.txs_theorem_alike.specs.InStages.{AlikeHaveStages, StagesAreAlike}
use Rattle.txs_theorem_alike.specs.Stages.{SameStage, Idles, Tries, AllAlike}
use Rattle.txs_theorem_alike.specs.States.{is_over, places_at, holds, StatesAlike, TurnsKeepStates, RunsKeepStates}
use Rattle.txs_theorem_alike.specs.Turns.{IsAble, StayAlikeIn}
use Rattle.txs_theorem_alike.proofs.Actors.{rests, rests_plain, absurdly, at_or}
use Rattle.txs_theorem_alike.proofs.Failures.{few_failures_leave_tries}
use Rattle.txs_theorem_alike.proofs.Growing.{point_begins}
use Rattle.txs_theorem_alike.proofs.Answering.{refs_newest}
use Rattle.txs_theorem_alike.proofs.Stages.{steps}
use Rattle.txs_theorem_alike.proofs.Turns.{turn_keeps_alike}

pub able : (cells : List CellDefinition) (threads : ℕ) (agent : Bool) (code : ThreadCode) (books : ℕ → List Event) (a : ℕ) (x : Actor)
    → StagedActor agent code → ActorInvariant cells threads agent code books a x → failures (map exchange_of x.entries) < reruns → IsAble agent code x.at
able cells threads agent code books a x asks h few = by x.at refl
  where
    by : (o : Turned Configuration) → x.at ≡ o → IsAble agent code o
    by (Ended s) e = tt
    by (Failed f s) e = tt
    by (Asking s) e = tt
    by (Unfinished c) e =
        let ran = h.ran ∙ e in
        let staged : IsStaged agent h.stage (Unfinished c) = subst (λ o. IsStaged agent h.stage o) e h.staged in
        (few_failures_leave_tries code x.turns (map exchange_of x.entries) c ran staged.0 few, asks x.turns (map exchange_of x.entries) c ran staged.0)
    by Stuck e = tt

-- ---- the stages of alike states

-- The stage of an actor, which holds its places: one whose action is over is as if it had its read point at the end of the book.
abbrev pub stage_by : Bool → ℕ → Turned Configuration → Option Stop → Stage
stage_by agent n (Ended s) o = Idle
stage_by agent n (Failed f s) o = Idle
stage_by agent n (Asking s) o = Idle
stage_by agent n (Unfinished c) None = if agent && is_over c.state.acting then Open n else stage_of agent c
stage_by agent n (Unfinished c) (Some why) = Idle
stage_by agent n Stuck o = Idle

over_of : (agent : Bool) (c d : Configuration) → SameButPlaces (Unfinished c) (Unfinished d) → (agent && is_over c.state.acting) ≡ (agent && is_over d.state.acting)
over_of agent c d n = ap (λ (b : Configuration). agent && is_over b.state.acting) (ap (at_or c) n)

fault_is : (o : Option Fault) → is_there o ≡ true → HasFault o
fault_is None e = absurd (true≢false (sym e))
fault_is (Some f) e = tt

fault_not : (o : Option Fault) → is_there o ≡ false → HasFault o → ⊥
fault_not None e h = h
fault_not (Some f) e h = true≢false e

over_is : (o : Option InHand) → is_over o ≡ true → IsOver o
over_is None e = absurd (true≢false (sym e))
over_is (Some h) e = fault_is h.fault e

over_not : (o : Option InHand) → is_over o ≡ false → IsOver o → ⊥
over_not None e h = h
over_not (Some h) e k = fault_not h.fault e k

-- an actor whose action isn't over is in the stage of its configuration
staged_in : (agent : Bool) (s : Stage) (c : Configuration) → (agent && is_over c.state.acting) ≡ false → StandsIn agent s c → stage_of agent c ≡ s
staged_in false s c e h = h
staged_in true s c e (inl h) = h
staged_in true s c e (inr h) = absurd (over_not c.state.acting e h.1)

stands_by : (agent : Bool) (n : ℕ) (c : Configuration) → StandsIn agent (if agent && is_over c.state.acting then Open n else stage_of agent c) c
stands_by false n c = refl
stands_by true n c = by (is_over c.state.acting) refl
  where
    by : (i : Bool) → is_over c.state.acting ≡ i → StandsIn true (if i then Open n else stage_of true c) c
    by true e = inr (tt, over_is c.state.acting e)
    by false e = inl refl

staged_by : (agent : Bool) (n : ℕ) (st : Stage) (o : Turned Configuration) → IsStaged agent st o → IsStaged agent (stage_by agent n o None) o
staged_by agent n st (Ended s) h = h
staged_by agent n st (Failed f s) h = h
staged_by agent n st (Asking s) h = h
staged_by agent n st (Unfinished c) h = (h.0, stands_by agent n c)
staged_by agent n st Stuck h = h

-- an actor of a run is in its stage
pub in_stage : (agent : Bool) (n : ℕ) (st : Stage) (x : Actor) → IsStaged agent st x.at → x.stopped ≡ None → IsStaged agent (stage_by agent n x.at x.stopped) x.at
in_stage agent n st x h e = subst (λ w. IsStaged agent (stage_by agent n x.at w) x.at) (sym e) (staged_by agent n st x.at h)

-- who rests is where the other rests
pub other_rests : (o p : Turned Configuration) → SameButPlaces o p → rests o ≡ true → rests p ≡ true
other_rests o p n e = sym (rests_plain p) ∙ sym (ap rests n) ∙ rests_plain o ∙ e

rests_idle : (agent : Bool) (p : Turned Configuration) (w : Option Stop) → rests p ≡ true → places_at agent p w ≡ Idle
rests_idle agent (Ended s) w e = refl
rests_idle agent (Failed f s) w e = refl
rests_idle agent (Asking s) w e = refl
rests_idle agent (Unfinished c) w e = absurdly (sym e)
rests_idle agent Stuck w e = refl

stage_idle : (agent : Bool) (n : ℕ) (p : Turned Configuration) (w : Option Stop) → rests p ≡ true → stage_by agent n p w ≡ Idle
stage_idle agent n (Ended s) w e = refl
stage_idle agent n (Failed f s) w e = refl
stage_idle agent n (Asking s) w e = refl
stage_idle agent n (Unfinished c) w e = absurdly (sym e)
stage_idle agent n Stuck w e = refl

module _ (cells : List CellDefinition) (sh th : Shared) where
  abbrev Same : Stage → Stage → Type 0
  Same s t = SameStage cells sh th s t

  pub both_idle : (s t : Stage) → s ≡ Idle → t ≡ Idle → Same s t
  both_idle s t e f = subst (λ u. Same u t) (sym e) (subst (λ u. Same Idle u) (sym f) Idles)

  -- places that are the same are so in stages
  module _ (ends : SamePoint (cells_of cells) (sh.books 0) (th.books 0) (length (sh.books 0)) (length (th.books 0))) where
    abbrev n : ℕ
    n = length (sh.books 0)

    abbrev m : ℕ
    m = length (th.books 0)

    to_if : (i j : Bool) → i ≡ j → (s t : Stage) → Same (if i then Idle else s) (if j then Idle else t) → Same (if i then Open n else s) (if j then Open m else t)
    to_if true true e s t h = Tries n m ends
    to_if false false e s t h = h
    to_if true false e s t h = absurd (true≢false e)
    to_if false true e s t h = absurd (true≢false (sym e))

    to_stage : (agent : Bool) (o p : Turned Configuration) (w : Option Stop) → SameButPlaces o p → Same (places_at agent o w) (places_at agent p w) → Same (stage_by agent n o w) (stage_by agent m p w)
    to_stage agent (Unfinished c) (Unfinished d) None e h = to_if (agent && is_over c.state.acting) (agent && is_over d.state.acting) (over_of agent c d e) (stage_of agent c) (stage_of agent d) h
    to_stage agent (Unfinished c) (Unfinished d) (Some why) e h = Idles
    to_stage agent (Unfinished c) (Ended s) w e h = absurdly (sym (ap rests e))
    to_stage agent (Unfinished c) (Failed f s) w e h = absurdly (sym (ap rests e))
    to_stage agent (Unfinished c) (Asking s) w e h = absurdly (sym (ap rests e))
    to_stage agent (Unfinished c) Stuck w e h = absurdly (sym (ap rests e))
    to_stage agent (Ended s) p w e h = both_idle Idle (stage_by agent m p w) refl (stage_idle agent m p w (other_rests (Ended s) p e refl))
    to_stage agent (Failed f s) p w e h = both_idle Idle (stage_by agent m p w) refl (stage_idle agent m p w (other_rests (Failed f s) p e refl))
    to_stage agent (Asking s) p w e h = both_idle Idle (stage_by agent m p w) refl (stage_idle agent m p w (other_rests (Asking s) p e refl))
    to_stage agent Stuck p w e h = both_idle Idle (stage_by agent m p w) refl (stage_idle agent m p w (other_rests Stuck p e refl))

    pub to_stages : (agent : Bool) (k l : Actor) → ActorsAlike k l → Same (holds agent k) (holds agent l) → Same (stage_by agent n k.at k.stopped) (stage_by agent m l.at l.stopped)
    to_stages agent k l a h =
        subst (λ w. Same (places_at agent k.at k.stopped) (places_at agent l.at w) → Same (stage_by agent n k.at k.stopped) (stage_by agent m l.at w)) a.1 (to_stage agent k.at l.at k.stopped a.0) h

  -- and the other way round
  from_if : (i j : Bool) → i ≡ j → (u v s t : Stage) → Same (if i then u else s) (if j then v else t) → Same (if i then Idle else s) (if j then Idle else t)
  from_if true true e u v s t h = Idles
  from_if false false e u v s t h = h
  from_if true false e u v s t h = absurd (true≢false e)
  from_if false true e u v s t h = absurd (true≢false (sym e))

  from_stage : (agent : Bool) (n m : ℕ) (o p : Turned Configuration) (w : Option Stop) → SameButPlaces o p → Same (stage_by agent n o w) (stage_by agent m p w) → Same (places_at agent o w) (places_at agent p w)
  from_stage agent n m (Unfinished c) (Unfinished d) None e h = from_if (agent && is_over c.state.acting) (agent && is_over d.state.acting) (over_of agent c d e) (Open n) (Open m) (stage_of agent c) (stage_of agent d) h
  from_stage agent n m (Unfinished c) (Unfinished d) (Some why) e h = Idles
  from_stage agent n m (Unfinished c) (Ended s) w e h = absurdly (sym (ap rests e))
  from_stage agent n m (Unfinished c) (Failed f s) w e h = absurdly (sym (ap rests e))
  from_stage agent n m (Unfinished c) (Asking s) w e h = absurdly (sym (ap rests e))
  from_stage agent n m (Unfinished c) Stuck w e h = absurdly (sym (ap rests e))
  from_stage agent n m (Ended s) p w e h = both_idle Idle (places_at agent p w) refl (rests_idle agent p w (other_rests (Ended s) p e refl))
  from_stage agent n m (Failed f s) p w e h = both_idle Idle (places_at agent p w) refl (rests_idle agent p w (other_rests (Failed f s) p e refl))
  from_stage agent n m (Asking s) p w e h = both_idle Idle (places_at agent p w) refl (rests_idle agent p w (other_rests (Asking s) p e refl))
  from_stage agent n m Stuck p w e h = both_idle Idle (places_at agent p w) refl (rests_idle agent p w (other_rests Stuck p e refl))

  pub from_stages : (agent : Bool) (n m : ℕ) (k l : Actor) → ActorsAlike k l → Same (stage_by agent n k.at k.stopped) (stage_by agent m l.at l.stopped) → Same (holds agent k) (holds agent l)
  from_stages agent n m k l a h =
      subst (λ w. Same (stage_by agent n k.at k.stopped) (stage_by agent m l.at w) → Same (places_at agent k.at k.stopped) (places_at agent l.at w)) a.1 (from_stage agent n m k.at l.at k.stopped a.0) h

  -- actors in stages that are the same hold places that are the same
  staged_if : (agent : Bool) (i j : Bool) → i ≡ j → (c d : Configuration) (s t : Stage) → (agent && is_over c.state.acting) ≡ i → (agent && is_over d.state.acting) ≡ j → StandsIn agent s c → StandsIn agent t d → Same s t
      → Same (if i then Idle else stage_of agent c) (if j then Idle else stage_of agent d)
  staged_if agent true true e c d s t i j h g same = Idles
  staged_if agent false false e c d s t i j h g same = subst (λ u. Same u (stage_of agent d)) (sym (staged_in agent s c i h)) (subst (λ u. Same s u) (sym (staged_in agent t d j g)) same)
  staged_if agent true false e c d s t i j h g same = absurd (true≢false e)
  staged_if agent false true e c d s t i j h g same = absurd (true≢false (sym e))

  staged_hold : (agent : Bool) (s t : Stage) (o p : Turned Configuration) (w : Option Stop) → SameButPlaces o p → (w ≡ None → IsStaged agent s o) → (w ≡ None → IsStaged agent t p) → Same s t → Same (places_at agent o w) (places_at agent p w)
  staged_hold agent s t (Unfinished c) (Unfinished d) None e h g same =
      staged_if agent (agent && is_over c.state.acting) (agent && is_over d.state.acting) (over_of agent c d e) c d s t refl refl (h refl).1 (g refl).1 same
  staged_hold agent s t (Unfinished c) (Unfinished d) (Some why) e h g same = Idles
  staged_hold agent s t (Unfinished c) (Ended u) w e h g same = absurdly (sym (ap rests e))
  staged_hold agent s t (Unfinished c) (Failed f u) w e h g same = absurdly (sym (ap rests e))
  staged_hold agent s t (Unfinished c) (Asking u) w e h g same = absurdly (sym (ap rests e))
  staged_hold agent s t (Unfinished c) Stuck w e h g same = absurdly (sym (ap rests e))
  staged_hold agent s t (Ended u) p w e h g same = both_idle Idle (places_at agent p w) refl (rests_idle agent p w (other_rests (Ended u) p e refl))
  staged_hold agent s t (Failed f u) p w e h g same = both_idle Idle (places_at agent p w) refl (rests_idle agent p w (other_rests (Failed f u) p e refl))
  staged_hold agent s t (Asking u) p w e h g same = both_idle Idle (places_at agent p w) refl (rests_idle agent p w (other_rests (Asking u) p e refl))
  staged_hold agent s t Stuck p w e h g same = both_idle Idle (places_at agent p w) refl (rests_idle agent p w (other_rests Stuck p e refl))

  pub staged_holds : (agent : Bool) (s t : Stage) (k l : Actor) → ActorsAlike k l → (k.stopped ≡ None → IsStaged agent s k.at) → (l.stopped ≡ None → IsStaged agent t l.at) → Same s t → Same (holds agent k) (holds agent l)
  staged_holds agent s t k l a h g same =
      subst (λ w. Same (places_at agent k.at k.stopped) (places_at agent l.at w)) a.1 (staged_hold agent s t k.at l.at k.stopped a.0 h (λ e. g (sym a.1 ∙ e)) same)

-- ---- alike states are alike in stages, and the other way round

pub ends_alike : (cells : List CellDefinition) (sh th : Shared) → Alike cells sh th → SamePoint (cells_of cells) (sh.books 0) (th.books 0) (length (sh.books 0)) (length (th.books 0))
ends_alike cells sh th h = point_begins (cells_of cells) (sh.books 0) (th.books 0) (refs_newest cells 0 sh th h)

-- the stages of the actors of a state
abbrev pub stages_in : (ℕ → Bool) → State → ℕ → Stage
stages_in agent st b = stage_by (agent b) (length (st.shared.books 0)) (st.actors b).at (st.actors b).stopped

pub all_alike : (cells : List CellDefinition) (agent : ℕ → Bool) (st other : State) → StatesAlike cells agent st other → AllAlike cells st.shared other.shared (stages_in agent st) (stages_in agent other)
all_alike cells agent st other h = record {
  shared = h.shared;
  stages = λ b. to_stages cells st.shared other.shared (ends_alike cells st.shared other.shared h.shared) (agent b) (st.actors b) (other.actors b) (h.actors b) (h.places b);
}

pub alike_have_stages : AlikeHaveStages
alike_have_stages cells threads codes agent st other h g asks alike = record {
  first = stages_in agent st;
  second = stages_in agent other;
  all = all_alike cells agent st other alike;
  actors = alike.actors;
  in_first = λ b e. in_stage (agent b) (length (st.shared.books 0)) (h.actors (agent b) b (asks b)).stage (st.actors b) (h.actors (agent b) b (asks b)).staged e;
  in_other = λ b e. in_stage (agent b) (length (other.shared.books 0)) (g.actors (agent b) b (asks b)).stage (other.actors b) (g.actors (agent b) b (asks b)).staged e;
}

pub stages_are_alike : StagesAreAlike
stages_are_alike cells agent st other h = record {
  shared = h.all.shared;
  actors = h.actors;
  places = λ b. staged_holds cells st.shared other.shared (agent b) (h.first b) (h.second b) (st.actors b) (other.actors b) (h.actors b) (h.in_first b) (h.in_other b) (h.all.stages b);
}

-- ---- turns

pub turns_keep_states : TurnsKeepStates
turns_keep_states cells threads codes agent a st other asks h g alike free loose = record {
  shared = r.1.all.shared;
  actors = λ b. acts b (a == b);
  places = λ b. keep b (a == b) refl (r.1.all.stages b);
}
  where
    k : Actor
    k = st.actors a

    l : Actor
    l = other.actors a

    m : Moved
    m = turns_from cells threads (codes a) a k.at k.stopped k st.shared

    n : Moved
    n = turns_from cells threads (codes a) a l.at l.stopped l other.shared

    x : ℕ → Stage
    x b = stages_in agent st b

    y : ℕ → Stage
    y b = stages_in agent other b

    r : ActorsAlike m.actor n.actor × StayAlikeIn cells (agent a) a x y m n
    r =
        turn_keeps_alike steps cells threads (codes a) (agent a) a k l st.shared other.shared x y (all_alike cells agent st other alike) (alike.actors a)
        (λ z. (in_stage (agent a) (length (st.shared.books 0)) (h.actors (agent a) a asks).stage k (h.actors (agent a) a asks).staged z, able cells threads (agent a) (codes a) st.shared.books a k asks (h.actors (agent a) a asks) free.tries))
        (λ z. (in_stage (agent a) (length (other.shared.books 0)) (g.actors (agent a) a asks).stage l (g.actors (agent a) a asks).staged z, able cells threads (agent a) (codes a) other.shared.books a l asks (g.actors (agent a) a asks) loose.tries))
        free.asks loose.asks

    acts : (b : ℕ) (i : Bool) → ActorsAlike (if i then m.actor else st.actors b) (if i then n.actor else other.actors b)
    acts b true = r.0
    acts b false = alike.actors b

    keep : (b : ℕ) (i : Bool) → (a == b) ≡ i → SameStage cells m.shared n.shared (if i then r.1.first else x b) (if i then r.1.other else y b)
        → SameStage cells m.shared n.shared (holds (agent b) (if i then m.actor else st.actors b)) (holds (agent b) (if i then n.actor else other.actors b))
    keep b true e same =
        subst (λ c. SameStage cells m.shared n.shared (holds (agent c) m.actor) (holds (agent c) n.actor)) (numbers a b e)
        (staged_holds cells m.shared n.shared (agent a) r.1.first r.1.other m.actor n.actor r.0 r.1.in_first r.1.in_other same)
    keep b false e same = from_stages cells m.shared n.shared (agent b) (length (st.shared.books 0)) (length (other.shared.books 0)) (st.actors b) (other.actors b) (alike.actors b) same

pub runs_keep_states : PlayHolds → RunsKeepStates
runs_keep_states invariant cells threads codes agent [] st other h g alike free loose = alike
runs_keep_states invariant cells threads codes agent (a ∷ turns) st other h g alike free loose =
    runs_keep_states invariant cells threads codes agent turns (play cells threads codes (TakesTurn a) st) (play cells threads codes (TakesTurn a) other)
    (invariant cells threads codes (TakesTurn a) st h) (invariant cells threads codes (TakesTurn a) other g)
    (turns_keep_states cells threads codes agent a st other free.0 h g alike free.1 loose.1) free.2 loose.2
