-- Two actors that commit on different refs: nobody can tell which of them came first.
use Rattle.std.proofs.Common.{◌≡◌, ℕ, Bool, true, false, ◌==◌, List, [], ◌∷◌, length, None, refl, sym, ap, subst, ◌∙◌, if◌then◌else◌}
use Rattle.std.proofs.lemmas.Bool.{true≢false}
use Rattle.txs_world_protocol.specs.declared.ask.Ask.{Ask}
use Rattle.txs_world_protocol.specs.declared.ask.Reply.{Reply}
use Rattle.txs_value_cell.specs.declared.cell.CellDefinition.{CellDefinition}
use Rattle.txs_value_data.proofs.SameLemmas.{numbers, number-itself}
use Rattle.txs_code_meaning.specs.Machine.{ThreadCode, Configuration, Unfinished, Asking, turn}
use Rattle.txs_code_meaning.specs.Opening.{given}
use Rattle.txs_theorem_runs.specs.Invariant.{ActorInvariant}
use Rattle.txs_theorem_runs.specs.Run.{TakesTurn, Actor, Moved, moved, State, exchange, hears, replied, asked, asks_for, turned, turns_from, play}
use Rattle.txs_theorem_runs.specs.Shared.{Shared, book_for, may_ask}
use Rattle.txs_theorem_runs.specs.Staged.{StagedActor, IsStaged, StagedFrom}
use Rattle.txs_theorem_runs.specs.Stages.{Stage, Resting, Idle, Open, Viewing, Swapping, AsksIn, stage_after}
use Rattle.txs_theorem_alike.specs.Actors.{ActorsAlike, AsksNext}
use Rattle.txs_theorem_alike.specs.Commits.{CommitAsk, ask_of, reply_to, Exchanged, CommitsCommute}
use Rattle.txs_theorem_alike.specs.Books.{Alike}
use Rattle.txs_theorem_alike.specs.Stages.{SameStage, behind}
use Rattle.txs_theorem_alike.specs.States.{holds}
use Rattle.txs_theorem_alike.specs.Unseen.{IsWithin}
use Rattle.txs_theorem_alike.proofs.Actors.{Kind, takes_it, stays, is_full, no_memory, kind_of, by_kind, kinds_alike, replied_by, same_want}
use Rattle.txs_theorem_alike.proofs.Exchanging.{exchanged}
use Rattle.txs_theorem_alike.proofs.States.{staged_holds}
use Rattle.txs_theorem_alike.proofs.Turns.{stage_by, replied_staged}
use Rattle.txs_theorem_alike.proofs.Within.{commit_in, redo_in, places_are_within}

-- ---- the turn of an actor that asks

module _ (cells : List CellDefinition) (threads : ℕ) where
  pub asked_turn : (code : ThreadCode) (a : ℕ) (q : Ask) (x : Actor) (sh : Shared) (n : AsksNext code x.at q) → x.stopped ≡ None → may_ask cells threads sh.taken a q (sh.books (book_for cells q)) ≡ true
      → turns_from cells threads code a x.at x.stopped x sh ≡ moved (replied code n.0 q (reply_to cells a q sh) (length (sh.books (book_for cells q))) x) (behind cells a q sh)
  asked_turn code a q x sh n goes may =
      ap (λ o. turns_from cells threads code a o x.stopped x sh) n.1
      ∙ ap (λ w. turns_from cells threads code a (Unfinished n.0) w x sh) goes
      ∙ ap (λ o. turned cells threads code a n.0 o x sh) n.2.1
      ∙ ap (λ o. asks_for cells threads code a n.0 n.2.0 o x sh) n.2.2
      ∙ ap (λ b. asked b cells code a n.0 q x sh) may

-- an actor with the same reply, wherever in the book that was
replied_alike : (code : ThreadCode) (c : Configuration) (q : Ask) (r : Reply) (k j : ℕ) (x : Actor) → ActorsAlike (replied code c q r k x) (replied code c q r j x)
replied_alike code c q r k j x =
    subst (λ y. ActorsAlike y (replied code c q r j x)) (sym (replied_by code c q r k x))
    (subst (λ y. ActorsAlike (by_kind (kind_of r) (hears code c q r k x) x) y) (sym (replied_by code c q r j x)) (kinds_alike (kind_of r) (hears code c q r k x) (hears code c q r j x) x x (refl, refl) (refl, refl)))

within_by : (cells : List CellDefinition) (sh : Shared) (k : Kind) (after before : Stage) → IsWithin cells sh after → IsWithin cells sh before → IsWithin cells sh (stage_by k after before)
within_by cells sh takes_it after before h g = h
within_by cells sh stays after before h g = g
within_by cells sh is_full after before h g = g
within_by cells sh no_memory after before h g = g

-- a commit hands out no place
commit_within : (cells : List CellDefinition) (sh : Shared) (agent : Bool) (q : CommitAsk) (r : Reply) (st : Stage) → AsksIn agent st (ask_of q) → IsWithin cells sh st → IsWithin cells sh (stage_after st (ask_of q) r)
commit_within cells sh agent q r Resting ok h = absurd ok
commit_within cells sh agent q r Idle ok h = absurd ok
commit_within cells sh agent q r (Open at) ok h = commit_in cells sh at q.at q.view q.sets q.commuted q.ensured q.sends r h
commit_within cells sh agent q r (Viewing at view) ok h = redo_in cells sh at view q.at q.view q.sets q.commuted q.ensured q.sends r h
commit_within cells sh agent q r (Swapping c at) ok h = absurd ok

-- ---- an actor's commit in a run

module _ (cells : List CellDefinition) (threads : ℕ) (agent : Bool) (code : ThreadCode) (books : Shared) (a : ℕ) (x : Actor) (asks : StagedActor agent code) (h : ActorInvariant cells threads agent code books.books a x) (q : CommitAsk) (n : AsksNext code x.at (ask_of q)) where
  staged_here : IsStaged agent h.stage (Unfinished n.0)
  staged_here = subst (λ o. IsStaged agent h.stage o) n.1 h.staged

  from_here : StagedFrom agent h.stage (Asking n.2.0) (λ p r. turn code (given (exchange p r ∷ []) n.0))
  from_here = subst (λ o. StagedFrom agent h.stage o (λ p r. turn code (given (exchange p r ∷ []) n.0))) n.2.1 (asks x.turns _ n.0 (h.ran ∙ n.1) staged_here.0 h.stage staged_here.1)

  is_asked : from_here.0 ≡ ask_of q
  is_asked = same_want n.2.0 from_here.0 (ask_of q) from_here.1 n.2.2

  asks_in : AsksIn agent h.stage (ask_of q)
  asks_in = subst (λ p. AsksIn agent h.stage p) is_asked from_here.2

  goes_to : (r : Reply) → IsStaged agent (stage_after h.stage (ask_of q) r) (turn code (given (exchange (ask_of q) r ∷ []) n.0))
  goes_to r = subst (λ p. IsStaged agent (stage_after h.stage p r) (turn code (given (exchange p r ∷ []) n.0))) is_asked (from_here.3 r)

  -- the stage that it is in then
  abbrev pub later : Reply → Stage
  later r = stage_by (kind_of r) (stage_after h.stage (ask_of q) r) h.stage

  pub later_staged : (r : Reply) (k : ℕ) → (replied code n.0 (ask_of q) r k x).stopped ≡ None → IsStaged agent (later r) (replied code n.0 (ask_of q) r k x).at
  later_staged r k = replied_staged agent code n.0 (ask_of q) r k x h.stage (λ e. h.staged) (goes_to r)

  pub later_within : (r : Reply) → IsWithin cells books h.stage → IsWithin cells books (later r)
  later_within r w = within_by cells books (kind_of r) (stage_after h.stage (ask_of q) r) h.stage (commit_within cells books agent q r h.stage asks_in w) w

-- ---- both

pub commits_commute : CommitsCommute
commits_commute cells threads codes agent a b q r st h asks apart na ga nb gb free_of room one other = record {
  shared = subst (λ u. Alike cells u later_ba.shared) (sym shared_ab) (subst (λ u. Alike cells qr u) (sym shared_ba) both.shared);
  actors = λ e. acts e (a == e) (b == e) refl refl;
  places = λ e. keep e (a == e) (b == e) refl refl;
}
  where
    sh : Shared
    sh = st.shared

    qr : Shared
    qr = behind cells b (ask_of r) (behind cells a (ask_of q) sh)

    rq : Shared
    rq = behind cells a (ask_of q) (behind cells b (ask_of r) sh)

    both : Exchanged cells a b (ask_of q) (ask_of r) sh
    both = exchanged cells a b q r sh free_of room

    -- the turns
    turn_of : ℕ → Actor → Shared → Moved
    turn_of c x u = turns_from cells threads (codes c) c x.at x.stopped x u

    after_a : State
    after_a = play cells threads codes (TakesTurn a) st

    after_b : State
    after_b = play cells threads codes (TakesTurn b) st

    differ : (b == a) ≡ false
    differ = by (b == a) refl
      where
        by : (t : Bool) → (b == a) ≡ t → t ≡ false
        by true e = absurd (true≢false (sym (subst (λ c. (a == c) ≡ true) (sym (numbers b a e)) (number-itself a)) ∙ apart))
        by false e = refl

    still_b : after_a.actors b ≡ st.actors b
    still_b = ap (λ t. if t then (turn_of a (st.actors a) sh).actor else st.actors b) apart

    still_a : after_b.actors a ≡ st.actors a
    still_a = ap (λ t. if t then (turn_of b (st.actors b) sh).actor else st.actors a) differ

    m_a : Moved
    m_a = turn_of a (st.actors a) sh

    m_b : Moved
    m_b = turn_of b (st.actors b) sh

    later_ab : Moved
    later_ab = turn_of b (after_a.actors b) after_a.shared

    later_ba : Moved
    later_ba = turn_of a (after_b.actors a) after_b.shared

    is_a : m_a ≡ moved (replied (codes a) na.0 (ask_of q) (reply_to cells a (ask_of q) sh) (length (sh.books 0)) (st.actors a)) (behind cells a (ask_of q) sh)
    is_a = asked_turn cells threads (codes a) a (ask_of q) (st.actors a) sh na ga (one.1.asks (ask_of q) na).0

    is_b : m_b ≡ moved (replied (codes b) nb.0 (ask_of r) (reply_to cells b (ask_of r) sh) (length (sh.books 0)) (st.actors b)) (behind cells b (ask_of r) sh)
    is_b = asked_turn cells threads (codes b) b (ask_of r) (st.actors b) sh nb gb (other.1.asks (ask_of r) nb).0

    may_b : may_ask cells threads (behind cells a (ask_of q) sh).taken b (ask_of r) ((behind cells a (ask_of q) sh).books 0) ≡ true
    may_b = subst (λ u. may_ask cells threads u.taken b (ask_of r) (u.books 0) ≡ true) (ap (λ m. m.shared) is_a) (one.2.1.asks (ask_of r) (nb.0, ap (λ k. k.at) still_b ∙ nb.1, nb.2)).0

    may_a : may_ask cells threads (behind cells b (ask_of r) sh).taken a (ask_of q) ((behind cells b (ask_of r) sh).books 0) ≡ true
    may_a = subst (λ u. may_ask cells threads u.taken a (ask_of q) (u.books 0) ≡ true) (ap (λ m. m.shared) is_b) (other.2.1.asks (ask_of q) (na.0, ap (λ k. k.at) still_a ∙ na.1, na.2)).0

    is_ab : later_ab ≡ moved (replied (codes b) nb.0 (ask_of r) (reply_to cells b (ask_of r) (behind cells a (ask_of q) sh)) (length ((behind cells a (ask_of q) sh).books 0)) (st.actors b)) qr
    is_ab =
        ap (λ k. turn_of b k after_a.shared) still_b
        ∙ ap (λ m. turn_of b (st.actors b) m.shared) is_a
        ∙ asked_turn cells threads (codes b) b (ask_of r) (st.actors b) (behind cells a (ask_of q) sh) nb gb may_b

    is_ba : later_ba ≡ moved (replied (codes a) na.0 (ask_of q) (reply_to cells a (ask_of q) (behind cells b (ask_of r) sh)) (length ((behind cells b (ask_of r) sh).books 0)) (st.actors a)) rq
    is_ba =
        ap (λ k. turn_of a k after_b.shared) still_a
        ∙ ap (λ m. turn_of a (st.actors a) m.shared) is_b
        ∙ asked_turn cells threads (codes a) a (ask_of q) (st.actors a) (behind cells b (ask_of r) sh) na ga may_a

    shared_ab : later_ab.shared ≡ qr
    shared_ab = ap (λ m. m.shared) is_ab

    shared_ba : later_ba.shared ≡ rq
    shared_ba = ap (λ m. m.shared) is_ba

    -- the actors
    reply_a : Reply
    reply_a = reply_to cells a (ask_of q) sh

    reply_b : Reply
    reply_b = reply_to cells b (ask_of r) sh

    same_a : (k j : ℕ) → ActorsAlike (replied (codes a) na.0 (ask_of q) reply_a k (st.actors a)) (replied (codes a) na.0 (ask_of q) (reply_to cells a (ask_of q) (behind cells b (ask_of r) sh)) j (st.actors a))
    same_a k j = subst (λ v. ActorsAlike (replied (codes a) na.0 (ask_of q) reply_a k (st.actors a)) (replied (codes a) na.0 (ask_of q) v j (st.actors a))) (sym both.first) (replied_alike (codes a) na.0 (ask_of q) reply_a k j (st.actors a))

    same_b : (k j : ℕ) → ActorsAlike (replied (codes b) nb.0 (ask_of r) (reply_to cells b (ask_of r) (behind cells a (ask_of q) sh)) k (st.actors b)) (replied (codes b) nb.0 (ask_of r) reply_b j (st.actors b))
    same_b k j = subst (λ v. ActorsAlike (replied (codes b) nb.0 (ask_of r) v k (st.actors b)) (replied (codes b) nb.0 (ask_of r) reply_b j (st.actors b))) (sym both.second) (replied_alike (codes b) nb.0 (ask_of r) reply_b k j (st.actors b))

    alike_a : ActorsAlike m_a.actor later_ba.actor
    alike_a = subst (λ m. ActorsAlike m.actor later_ba.actor) (sym is_a) (subst (λ m. ActorsAlike (replied (codes a) na.0 (ask_of q) reply_a (length (sh.books 0)) (st.actors a)) m.actor) (sym is_ba) (same_a _ _))

    alike_b : ActorsAlike later_ab.actor m_b.actor
    alike_b = subst (λ m. ActorsAlike m.actor m_b.actor) (sym is_ab) (subst (λ m. ActorsAlike (replied (codes b) nb.0 (ask_of r) (reply_to cells b (ask_of r) (behind cells a (ask_of q) sh)) (length ((behind cells a (ask_of q) sh).books 0)) (st.actors b)) m.actor) (sym is_b) (same_b _ _))

    acts : (e : ℕ) (i j : Bool) → (a == e) ≡ i → (b == e) ≡ j → ActorsAlike (if j then later_ab.actor else if i then m_a.actor else st.actors e) (if i then later_ba.actor else if j then m_b.actor else st.actors e)
    acts e true true s t = absurd (true≢false (sym (subst (λ c. (a == c) ≡ true) (sym (numbers b e t)) s) ∙ apart))
    acts e true false s t = alike_a
    acts e false true s t = alike_b
    acts e false false s t = (refl, refl)

    -- their places
    inv : (c : ℕ) → ActorInvariant cells threads (agent c) (codes c) sh.books c (st.actors c)
    inv c = h.actors (agent c) c (asks c)

    in_books : (c : ℕ) → IsWithin cells sh (inv c).stage
    in_books c = places_are_within cells threads codes st h (agent c) c (asks c)

    alike_places : (s : Stage) → IsWithin cells sh s → SameStage cells later_ab.shared later_ba.shared s s
    alike_places s w = subst (λ u. SameStage cells u later_ba.shared s s) (sym shared_ab) (subst (λ u. SameStage cells qr u s s) (sym shared_ba) (both.places s w))

    stage_a : Stage
    stage_a = later cells threads (agent a) (codes a) sh a (st.actors a) (asks a) (inv a) q na reply_a

    stage_b : Stage
    stage_b = later cells threads (agent b) (codes b) sh b (st.actors b) (asks b) (inv b) r nb reply_b

    staged_a : m_a.actor.stopped ≡ None → IsStaged (agent a) stage_a m_a.actor.at
    staged_a = subst (λ m. m.actor.stopped ≡ None → IsStaged (agent a) stage_a m.actor.at) (sym is_a) (later_staged cells threads (agent a) (codes a) sh a (st.actors a) (asks a) (inv a) q na reply_a (length (sh.books 0)))

    staged_ba : later_ba.actor.stopped ≡ None → IsStaged (agent a) stage_a later_ba.actor.at
    staged_ba =
        subst (λ m. m.actor.stopped ≡ None → IsStaged (agent a) stage_a m.actor.at) (sym is_ba)
        (subst (λ v. (replied (codes a) na.0 (ask_of q) v (length ((behind cells b (ask_of r) sh).books 0)) (st.actors a)).stopped ≡ None → IsStaged (agent a) stage_a (replied (codes a) na.0 (ask_of q) v (length ((behind cells b (ask_of r) sh).books 0)) (st.actors a)).at)
        (sym both.first) (later_staged cells threads (agent a) (codes a) sh a (st.actors a) (asks a) (inv a) q na reply_a (length ((behind cells b (ask_of r) sh).books 0))))

    staged_b : m_b.actor.stopped ≡ None → IsStaged (agent b) stage_b m_b.actor.at
    staged_b = subst (λ m. m.actor.stopped ≡ None → IsStaged (agent b) stage_b m.actor.at) (sym is_b) (later_staged cells threads (agent b) (codes b) sh b (st.actors b) (asks b) (inv b) r nb reply_b (length (sh.books 0)))

    staged_ab : later_ab.actor.stopped ≡ None → IsStaged (agent b) stage_b later_ab.actor.at
    staged_ab =
        subst (λ m. m.actor.stopped ≡ None → IsStaged (agent b) stage_b m.actor.at) (sym is_ab)
        (subst (λ v. (replied (codes b) nb.0 (ask_of r) v (length ((behind cells a (ask_of q) sh).books 0)) (st.actors b)).stopped ≡ None → IsStaged (agent b) stage_b (replied (codes b) nb.0 (ask_of r) v (length ((behind cells a (ask_of q) sh).books 0)) (st.actors b)).at)
        (sym both.second) (later_staged cells threads (agent b) (codes b) sh b (st.actors b) (asks b) (inv b) r nb reply_b (length ((behind cells a (ask_of q) sh).books 0))))

    keep : (e : ℕ) (i j : Bool) → (a == e) ≡ i → (b == e) ≡ j
        → SameStage cells later_ab.shared later_ba.shared (holds (agent e) (if j then later_ab.actor else if i then m_a.actor else st.actors e)) (holds (agent e) (if i then later_ba.actor else if j then m_b.actor else st.actors e))
    keep e true true s t = absurd (true≢false (sym (subst (λ c. (a == c) ≡ true) (sym (numbers b e t)) s) ∙ apart))
    keep e true false s t = subst (λ c. SameStage cells later_ab.shared later_ba.shared (holds (agent c) m_a.actor) (holds (agent c) later_ba.actor)) (numbers a e s)
        (staged_holds cells later_ab.shared later_ba.shared (agent a) stage_a stage_a m_a.actor later_ba.actor alike_a staged_a staged_ba
        (alike_places stage_a (later_within cells threads (agent a) (codes a) sh a (st.actors a) (asks a) (inv a) q na reply_a (in_books a))))
    keep e false true s t = subst (λ c. SameStage cells later_ab.shared later_ba.shared (holds (agent c) later_ab.actor) (holds (agent c) m_b.actor)) (numbers b e t)
        (staged_holds cells later_ab.shared later_ba.shared (agent b) stage_b stage_b later_ab.actor m_b.actor alike_b staged_ab staged_b
        (alike_places stage_b (later_within cells threads (agent b) (codes b) sh b (st.actors b) (asks b) (inv b) r nb reply_b (in_books b))))
    keep e false false s t =
        staged_holds cells later_ab.shared later_ba.shared (agent e) (inv e).stage (inv e).stage (st.actors e) (st.actors e) (refl, refl) (λ z. (inv e).staged) (λ z. (inv e).staged) (alike_places (inv e).stage (in_books e))
