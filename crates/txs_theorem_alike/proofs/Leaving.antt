-- A try that failed leaves nothing.
use Rattle.std.proofs.Common.{◌≡◌, ℕ, Bool, true, false, ◌==◌, List, [], ◌∷◌, length, Option, Some, None, if◌then◌else◌, refl, sym, ap, ◌∙◌, subst, arith}
use Rattle.std.proofs.lemmas.Bool.{false≢true}
use Rattle.txs_world_protocol.specs.declared.ask.Ask.{Ask}
use Rattle.txs_world_protocol.specs.declared.ask.Reply.{Reply}
use Rattle.txs_world_protocol.specs.declared.ask.Reply.TheVariants as reply
use Rattle.txs_world_protocol.specs.Ask.{Exchange}
use Rattle.txs_value_cell.specs.declared.cell.CellDefinition.{CellDefinition}
use Rattle.txs_value_data.proofs.SameLemmas.{numbers}
use Rattle.txs_code_meaning.specs.ActorState.{ActorState}
use Rattle.txs_code_meaning.specs.Machine.{ThreadCode, fetch, Activity, Outside, Restarting, Running, Applying, Swapping, Configuration, Turned, Ended, Failed, Asking, Unfinished, Stuck, turn}
use Rattle.txs_code_meaning.specs.Opening.{given}
use Rattle.txs_theorem_runs.specs.Goes.{AsksAt}
use Rattle.txs_theorem_runs.specs.Invariant.{PlayHolds}
use Rattle.txs_theorem_runs.specs.Run.{TakesTurn, Stop, Actor, State, Moved, exchange, comes_to, replied, asked, asks_for, turned, turns_from, play}
use Rattle.txs_theorem_runs.specs.Shared.{Shared, book_for, serve_on, may_ask}
use Rattle.txs_theorem_runs.specs.Staged.{IsStaged, StagedActor}
use Rattle.txs_theorem_alike.specs.States.{GoesFreely, after_turns}
use Rattle.txs_theorem_runs.specs.Stages.{Stage, Idle}
use Rattle.txs_theorem_alike.specs.Actors.{ActorsAlike}
use Rattle.txs_theorem_alike.specs.Beginnings.{undo_in, undo, IsTrying, IsOfTry, KeepsStart}
use Rattle.txs_theorem_alike.specs.Turns.{StayAlikeIn}
use Rattle.txs_theorem_alike.specs.Unseen.{IsWithin, is_unseen}
use Rattle.txs_theorem_alike.specs.Stages.{SameStage, Rests, Idles, Tries, Redoes, Swaps, AllAlike, behind}
use Rattle.txs_theorem_alike.specs.Tries.{Begins, AlikeBut, StillTries, TriesOn, TryIsUnseen, OthersGoOn, kept_if, without, if_own, TryAmong, FailedTryLeavesNothing}
use Rattle.txs_theorem_alike.proofs.Failing.{turn_keeps_start}
use Rattle.txs_theorem_alike.proofs.Turns.{turn_keeps_alike}
use Rattle.txs_theorem_alike.proofs.Relating as relating
use Rattle.txs_theorem_alike.proofs.Stages.{steps}
use Rattle.txs_theorem_alike.proofs.Unseen.{unseen}
use Rattle.txs_theorem_alike.proofs.States.{able}

pub itself : (a : ℕ) → (a == a) ≡ true
itself a = grind (arith)

-- ---- what is shared after an ask that nobody sees

within_first : (cells : List CellDefinition) (sh th : Shared) (s t : Stage) → SameStage cells sh th s t → IsWithin cells sh s
within_first cells sh th _ _ Rests = tt
within_first cells sh th _ _ Idles = tt
within_first cells sh th _ _ (Tries p q h) = h.in_first
within_first cells sh th _ _ (Redoes p q v w h g) = (h.in_first, g.in_first)
within_first cells sh th _ _ (Swaps c p q h) = h.in_first

pub still_alike : (cells : List CellDefinition) (a : ℕ) (q : Ask) (sh th : Shared) (x y : ℕ → Stage) → AllAlike cells sh th x y → is_unseen q (serve_on cells a q (sh.books (book_for cells q))).reply ≡ true → AllAlike cells (behind cells a q sh) th x y
still_alike cells a q sh th x y h u =
    relating.on cells (behind cells a q sh) sh th x x y
    (relating.back cells sh (behind cells a q sh) x x (unseen cells a q sh x (λ b. within_first cells sh th (x b) (y b) (h.stages b)) u)) h

-- ---- where an actor is

abbrev here_or : Configuration → Turned Configuration → Configuration
here_or c (Ended s) = c
here_or c (Failed f s) = c
here_or c (Asking s) = c
here_or c (Unfinished d) = d
here_or c Stuck = c

abbrev is_on : Turned Configuration → Bool
is_on (Ended s) = false
is_on (Failed f s) = false
is_on (Asking s) = false
is_on (Unfinished d) = true
is_on Stuck = false

abbrev is_stopped : Option Stop → Bool
is_stopped None = false
is_stopped (Some why) = true

-- exchanges to come don't count for where a try began
undo_given : (D : Activity) (xs : List Exchange) (c : Configuration) → undo_in D (given xs c) ≡ undo_in D c
undo_given Outside xs c = refl
undo_given (Restarting left) xs c = refl
undo_given (Running left inner from) xs c = refl
undo_given (Applying left from work values) xs c = refl
undo_given (Swapping swap from) xs c = refl

-- an actor that still tries stands where its turn kept the start
begins_by : (start : Configuration) (o : Turned Configuration) (x : Actor) → x.at ≡ o → KeepsStart start o → StillTries x → Begins start x
begins_by start (Ended s) x e k t = absurd (false≢true (ap is_on (sym e ∙ t.1)))
begins_by start (Failed f s) x e k t = absurd (false≢true (ap is_on (sym e ∙ t.1)))
begins_by start (Asking s) x e k t = absurd (false≢true (ap is_on (sym e ∙ t.1)))
begins_by start (Unfinished d) x e k t = (d, e, k (subst (λ c. IsTrying c.doing) (ap (here_or d) (sym t.1 ∙ e)) t.2), t.3)
begins_by start Stuck x e k t = absurd (false≢true (ap is_on (sym e ∙ t.1)))

module _ (cells : List CellDefinition) (threads : ℕ) (code : ThreadCode) (a : ℕ) (x : Actor) (sh th : Shared) (u v : ℕ → Stage) (all : AllAlike cells sh th u v) (c : Configuration)
    (here : x.at ≡ Unfinished c) (part : IsOfTry (fetch code c.body c.place) c.doing) (quiet : (q : Ask) → AsksAt code c q → is_unseen q (serve_on cells a q (sh.books (book_for cells q))).reply ≡ true) where
  -- what is shared is alike, and the actor begins where it began
  abbrev Left : Moved → Type 0
  Left m = AllAlike cells m.shared th u v × Begins (undo c) m.actor

  keeps : KeepsStart (undo c) (turn code c)
  keeps = turn_keeps_start code c part

  keeps_given : (xs : List Exchange) → KeepsStart (undo c) (turn code (given xs c))
  keeps_given xs = subst (λ s. KeepsStart s (turn code (given xs c))) (undo_given c.doing xs c) (turn_keeps_start code (given xs c) part)

  replied_begins : (q : Ask) (r : Reply) (k : ℕ) → StillTries (replied code c q r k x) → Begins (undo c) (replied code c q r k x)
  replied_begins q (reply.At p) k t = begins_by (undo c) _ (replied code c q (reply.At p) k x) refl (keeps_given (exchange q (reply.At p) ∷ [])) t
  replied_begins q (reply.Is w) k t = begins_by (undo c) _ (replied code c q (reply.Is w) k x) refl (keeps_given (exchange q (reply.Is w) ∷ [])) t
  replied_begins q (reply.Views p vs) k t = begins_by (undo c) _ (replied code c q (reply.Views p vs) k x) refl (keeps_given (exchange q (reply.Views p vs) ∷ [])) t
  replied_begins q reply.Done k t = begins_by (undo c) _ (replied code c q reply.Done k x) refl (keeps_given (exchange q reply.Done ∷ [])) t
  replied_begins q (reply.Retry d) k t = begins_by (undo c) _ (replied code c q (reply.Retry d) k x) refl (keeps_given (exchange q (reply.Retry d) ∷ [])) t
  replied_begins q (reply.Changed d) k t = begins_by (undo c) _ (replied code c q (reply.Changed d) k x) refl (keeps_given (exchange q (reply.Changed d) ∷ [])) t
  replied_begins q (reply.AgentIsFailed g) k t = begins_by (undo c) _ (replied code c q (reply.AgentIsFailed g) k x) refl (keeps_given (exchange q (reply.AgentIsFailed g) ∷ [])) t
  replied_begins q (reply.Action n b w) k t = begins_by (undo c) _ (replied code c q (reply.Action n b w) k x) refl (keeps_given (exchange q (reply.Action n b w) ∷ [])) t
  replied_begins q (reply.Opened p w) k t = begins_by (undo c) _ (replied code c q (reply.Opened p w) k x) refl (keeps_given (exchange q (reply.Opened p w) ∷ [])) t
  replied_begins q reply.Idle k t = (c, here, refl, t.3)
  replied_begins q reply.Full k t = absurd (false≢true (sym (ap is_stopped t.3)))
  replied_begins q reply.Memory k t = absurd (false≢true (sym (ap is_stopped t.3)))

  asked_left : (b : Bool) (q : Ask) → AsksAt code c q → StillTries (asked b cells code a c q x sh).actor → Left (asked b cells code a c q x sh)
  asked_left true q e t = (still_alike cells a q sh th u v all (quiet q e), replied_begins q (serve_on cells a q (sh.books (book_for cells q))).reply (length (sh.books (book_for cells q))) t)
  asked_left false q e t = absurd (false≢true (sym (ap is_stopped t.3)))

  waits_left : (s : ActorState) (o : Option Ask) → turn code c ≡ Asking s → s.wants ≡ o → StillTries (asks_for cells threads code a c s o x sh).actor → Left (asks_for cells threads code a c s o x sh)
  waits_left s None e w t = absurd (false≢true (ap is_on t.1))
  waits_left s (Some q) e w t = asked_left (may_ask cells threads sh.taken a q (sh.books (book_for cells q))) q (s, e, w) t

  turned_left : (o : Turned Configuration) → turn code c ≡ o → StillTries (turned cells threads code a c o x sh).actor → Left (turned cells threads code a c o x sh)
  turned_left (Ended s) e t = absurd (false≢true (ap is_on t.1))
  turned_left (Failed f s) e t = absurd (false≢true (ap is_on t.1))
  turned_left (Asking s) e t = waits_left s s.wants e refl t
  turned_left (Unfinished d) e t = (all, begins_by (undo c) (Unfinished d) (comes_to (Unfinished d) x) refl (subst (KeepsStart (undo c)) e keeps) t)
  turned_left Stuck e t = absurd (false≢true (ap is_on t.1))

  going_left : (w : Option Stop) → w ≡ x.stopped → StillTries (turns_from cells threads code a (Unfinished c) w x sh).actor → Left (turns_from cells threads code a (Unfinished c) w x sh)
  going_left None e t = turned_left (turn code c) refl t
  going_left (Some why) e t = absurd (false≢true (sym (ap is_stopped (e ∙ t.3))))

pub try_is_unseen : TryIsUnseen
try_is_unseen cells threads codes agent a st other alike own = record {
  first = alike.first;
  second = alike.second;
  all = left.0;
  actors = λ b e. subst (λ i. ActorsAlike (if i then m.actor else st.actors b) (other.actors b)) (sym e) (alike.actors b e);
  in_first = λ b e. subst (λ i. (if i then m.actor else st.actors b).stopped ≡ None → IsStaged (agent b) (alike.first b) (if i then m.actor else st.actors b).at) (sym e) (alike.in_first b e);
  in_other = alike.in_other;
  out_first = alike.out_first;
  out_other = alike.out_other;
  start = alike.start;
  tries = subst (λ i. Begins alike.start (if i then m.actor else st.actors a)) (sym (itself a)) (subst (λ s. Begins s m.actor) same left.1);
  waits = alike.waits;
}
  where
    x : Actor
    x = st.actors a

    m : Moved
    m = turns_from cells threads (codes a) a x.at x.stopped x st.shared

    same : undo own.here ≡ alike.start
    same = ap undo (ap (here_or own.here) (sym own.is_here ∙ alike.tries.1)) ∙ alike.tries.2

    still : StillTries m.actor
    still = subst (λ i. StillTries (if i then m.actor else st.actors a)) (itself a) own.still

    left : AllAlike cells m.shared other.shared alike.first alike.second × Begins (undo own.here) m.actor
    left =
        subst (λ o. StillTries (turns_from cells threads (codes a) a o x.stopped x st.shared).actor → AllAlike cells (turns_from cells threads (codes a) a o x.stopped x st.shared).shared other.shared alike.first alike.second × Begins (undo own.here) (turns_from cells threads (codes a) a o x.stopped x st.shared).actor)
        (sym own.is_here)
        (going_left cells threads (codes a) a x st.shared other.shared alike.first alike.second alike.all own.here own.is_here own.part own.unseen x.stopped refl) still

-- ---- a turn of another

pub others_go_on : OthersGoOn
others_go_on cells threads codes agent a b st other differs asks h g alike free loose = record {
  first = λ d. if b == d then r.1.first else alike.first d;
  second = λ d. if b == d then r.1.other else alike.second d;
  all = r.1.all;
  actors = λ d e. acts d (b == d) e;
  in_first = λ d e. stands d (b == d) refl e;
  in_other = λ d e. stand d (b == d) refl e;
  out_first = subst (λ i. (if i then r.1.first else alike.first a) ≡ Idle) (sym apart) alike.out_first;
  out_other = subst (λ i. (if i then r.1.other else alike.second a) ≡ Idle) (sym apart) alike.out_other;
  start = alike.start;
  tries = subst (λ i. Begins alike.start (if i then m.actor else st.actors a)) (sym apart) alike.tries;
  waits = subst (λ i. Begins alike.start (if i then n.actor else other.actors a)) (sym apart) alike.waits;
}
  where
    k : Actor
    k = st.actors b

    l : Actor
    l = other.actors b

    m : Moved
    m = turns_from cells threads (codes b) b k.at k.stopped k st.shared

    n : Moved
    n = turns_from cells threads (codes b) b l.at l.stopped l other.shared

    apart : (b == a) ≡ false
    apart = by (b == a) refl
      where
        by : (i : Bool) → (b == a) ≡ i → (b == a) ≡ false
        by true e = absurd (false≢true (sym differs ∙ subst (λ d. (a == d) ≡ true) (sym (numbers b a e)) (itself a)))
        by false e = e

    r : ActorsAlike m.actor n.actor × StayAlikeIn cells (agent b) b alike.first alike.second m n
    r =
        turn_keeps_alike steps cells threads (codes b) (agent b) b k l st.shared other.shared alike.first alike.second alike.all (alike.actors b differs)
        (λ z. (alike.in_first b differs z, able cells threads (agent b) (codes b) st.shared.books b k asks (h.actors (agent b) b asks) free.tries))
        (λ z. (alike.in_other b differs z, able cells threads (agent b) (codes b) other.shared.books b l asks (g.actors (agent b) b asks) loose.tries))
        free.asks loose.asks

    acts : (d : ℕ) (i : Bool) → (a == d) ≡ false → ActorsAlike (if i then m.actor else st.actors d) (if i then n.actor else other.actors d)
    acts d true e = r.0
    acts d false e = alike.actors d e

    stands : (d : ℕ) (i : Bool) → (b == d) ≡ i → (a == d) ≡ false → (if i then m.actor else st.actors d).stopped ≡ None → IsStaged (agent d) (if i then r.1.first else alike.first d) (if i then m.actor else st.actors d).at
    stands d true e f z = subst (λ c. IsStaged (agent c) r.1.first m.actor.at) (numbers b d e) (r.1.in_first z)
    stands d false e f z = alike.in_first d f z

    stand : (d : ℕ) (i : Bool) → (b == d) ≡ i → (a == d) ≡ false → (if i then n.actor else other.actors d).stopped ≡ None → IsStaged (agent d) (if i then r.1.other else alike.second d) (if i then n.actor else other.actors d).at
    stand d true e f z = subst (λ c. IsStaged (agent c) r.1.other n.actor.at) (numbers b d e) (r.1.in_other z)
    stand d false e f z = alike.in_other d f z

-- ---- lists of turns

pub failed_try_leaves_nothing : PlayHolds → FailedTryLeavesNothing
failed_try_leaves_nothing holds cells threads codes agent a [] st other h g alike among = alike
failed_try_leaves_nothing holds cells threads codes agent a (b ∷ turns) st other h g alike among =
    by (a == b) refl
    (λ k w. failed_try_leaves_nothing holds cells threads codes agent a turns after other (holds cells threads codes (TakesTurn b) st h) g k w)
    (λ k w. failed_try_leaves_nothing holds cells threads codes agent a turns after beside (holds cells threads codes (TakesTurn b) st h) (holds cells threads codes (TakesTurn b) other g) k w)
    among
  where
    after : State
    after = play cells threads codes (TakesTurn b) st

    beside : State
    beside = play cells threads codes (TakesTurn b) other

    by : (i : Bool) → (a == b) ≡ i
        → (AlikeBut cells agent a after other → TryAmong cells threads codes agent a turns after other → AlikeBut cells agent a (after_turns cells threads codes turns after) (after_turns cells threads codes (without a turns) other))
        → (AlikeBut cells agent a after beside → TryAmong cells threads codes agent a turns after beside → AlikeBut cells agent a (after_turns cells threads codes turns after) (after_turns cells threads codes (without a turns) beside))
        → if_own i (TriesOn cells threads codes a st × TryAmong cells threads codes agent a turns after other)
        (StagedActor (agent b) (codes b) × GoesFreely cells threads codes b st × GoesFreely cells threads codes b other × TryAmong cells threads codes agent a turns after beside)
        → AlikeBut cells agent a (after_turns cells threads codes turns after) (after_turns cells threads codes (kept_if i b (without a turns)) other)
    by true e own others w = own (subst (λ d. AlikeBut cells agent a (play cells threads codes (TakesTurn d) st) other) (numbers a b e) (try_is_unseen cells threads codes agent a st other alike w.0)) w.1
    by false e own others w = others (others_go_on cells threads codes agent a b st other e w.0 h g alike w.1 w.2) w.3
