-- Turns of one actor in a run.
use Rattle.std.proofs.Common.{◌≡◌, ◌<◌, ◌==◌, ℕ, zero, suc, true, false, List, [], ◌∷◌, ◌++◌, replicate, None, if◌then◌else◌, inl, inr, refl, ap, sym, ◌∙◌, subst, arith}
use Rattle.std.proofs.lemmas.Bool.Decides.{nat_tests}
use Rattle.txs_value_cell.specs.declared.cell.CellDefinition.{CellDefinition}
use Rattle.txs_code_meaning.specs.Machine.{ThreadCode, Configuration, Turned, Ended, Failed, Asking, Unfinished, Stuck, turn}
use Rattle.txs_history.specs.declared.log.Entry.TheVariants as entry
use Rattle.txs_theorem_runs.specs.Goes.{AsksNothing}
use Rattle.txs_theorem_runs.specs.Run.{Stop, Actor, State, Play, TakesTurn, IsStopped, Moved, moved, moves, comes_to, stop, stops_from, play, plays_from}
use Rattle.txs_theorem_runs.specs.Shared.{Shared, book_for, serve_on, shared_after}
use Rattle.txs_history.specs.declared.asked.Asked.{Asked}
use Rattle.txs_history.specs.Following.{IsAt, Strolls, IsLeft, IsNextAsk, after_turn, AreBelow}
use Rattle.txs_history.specs.Asked.{History, shared_by}
use Rattle.txs_history.proofs.Following.{turn_with_ask}
use Rattle.txs_history.proofs.Sharing.{shared_next}

eq_self : (a : ℕ) → (a == a) ≡ true
eq_self a = grind (arith, nat_tests)

-- one actor came to a place, and this is shared; all others are where they were
pub record Leads (a : ℕ) (z : Actor) (sh : Shared) (st st1 : State) : Type 0 where
  pub shared : st1.shared ≡ sh
  pub actor : st1.actors a ≡ z
  pub others : (b : ℕ) → (a == b) ≡ false → st1.actors b ≡ st.actors b

-- ---- whose turns these are

pub below_append : (m : ℕ) (xs ys : List Play) → AreBelow m xs → AreBelow m ys → AreBelow m (xs ++ ys)
below_append m [] ys p q = q
below_append m (x ∷ xs) ys p q = (p.0, below_append m xs ys p.1 q)

below_turns : (m a n : ℕ) → a < m → AreBelow m (replicate n (TakesTurn a))
below_turns m a zero less = tt
below_turns m a (suc n) less = (less, below_turns m a n less)

module _ (cells : List CellDefinition) (threads : ℕ) (codes : ℕ → ThreadCode) where
  pub plays_append : (ys zs : List Play) (st : State) → plays_from cells threads codes (ys ++ zs) st ≡ plays_from cells threads codes zs (plays_from cells threads codes ys st)
  plays_append [] zs st = refl
  plays_append (y ∷ ys) zs st = plays_append ys zs (play cells threads codes y st)

  -- the actor of a turn is what it is moved to, and another is where it was
  own_turn : (a : ℕ) (st : State) (m : Moved) → moves cells threads codes (TakesTurn a) st ≡ m → Leads a m.actor m.shared st (play cells threads codes (TakesTurn a) st)
  own_turn a st m is = record {
    shared = ap (λ (w : Moved). w.shared) is;
    actor = ap (λ t. if t then (moves cells threads codes (TakesTurn a) st).actor else st.actors a) (eq_self a) ∙ ap (λ (w : Moved). w.actor) is;
    others = λ b away. ap (λ t. if t then (moves cells threads codes (TakesTurn a) st).actor else st.actors b) away;
  }

  own_stop : (a : ℕ) (why : Stop) (st : State) (m : Moved) → moves cells threads codes (IsStopped a why) st ≡ m → Leads a m.actor m.shared st (play cells threads codes (IsStopped a why) st)
  own_stop a why st m is = record {
    shared = ap (λ (w : Moved). w.shared) is;
    actor = ap (λ t. if t then (moves cells threads codes (IsStopped a why) st).actor else st.actors a) (eq_self a) ∙ ap (λ (w : Moved). w.actor) is;
    others = λ b away. ap (λ t. if t then (moves cells threads codes (IsStopped a why) st).actor else st.actors b) away;
  }

  -- ---- turns that ask nothing

  quiet : (a : ℕ) (c : Configuration) (o : Turned Configuration) (st : State) → (st.actors a).at ≡ Unfinished c → (st.actors a).stopped ≡ None → turn (codes a) c ≡ o → AsksNothing o
      → moves cells threads codes (TakesTurn a) st ≡ moved (comes_to o (st.actors a)) st.shared
  quiet a c (Ended s) st at going is nothing = rw (at, going, is) refl
  quiet a c (Failed f s) st at going is nothing = rw (at, going, is) refl
  quiet a c (Asking s) st at going is nothing = absurd nothing
  quiet a c (Unfinished d) st at going is nothing = rw (at, going, is) refl
  quiet a c Stuck st at going is nothing = rw (at, going, is) refl

  pub walk : (a n : ℕ) (st : State) (z : Actor) → Strolls (codes a) n (st.actors a) z → Leads a z st.shared st (plays_from cells threads codes (replicate n (TakesTurn a)) st)
  walk a zero st z s = record { shared = refl; actor = s; others = λ b away. refl }
  walk a (suc n) st z (c, at, nothing, rest) =
      let o = turn (codes a) c in
      let st1 = play cells threads codes (TakesTurn a) st in
      let first = own_turn a st (moved (comes_to o (st.actors a)) st.shared) (quiet a c o st at.at at.going refl nothing) in
      let later = walk a n st1 z (subst (λ (y : Actor). Strolls (codes a) n y z) (sym first.actor) rest) in
      record {
        shared = later.shared ∙ first.shared;
        actor = later.actor;
        others = λ b away. later.others b away ∙ first.others b away;
      }

  -- ---- a turn with an ask

  asking : (a k : ℕ) (e : Asked) (st : State) → IsNextAsk cells threads (codes a) a (st.actors a) k e st.shared
      → Leads a (after_turn cells threads (codes a) a (st.actors a) st.shared) (shared_after cells e.ask (serve_on cells a e.ask (st.shared.books (book_for cells e.ask))) st.shared) st (play cells threads codes (TakesTurn a) st)
  asking a k e st next =
      let same = turn_with_ask cells threads (codes a) a (st.actors a) k e st.shared next in
      let first = own_turn a st (moves cells threads codes (TakesTurn a) st) refl in
      record {
        shared = first.shared ∙ ap (λ (w : Moved). w.shared) same;
        actor = first.actor;
        others = first.others;
      }

  -- what is shared then is what the history says
  shared_asked : (a k : ℕ) (e : Asked) (b : History) → e.actor ≡ a → k ≡ book_for cells e.ask
      → shared_after cells e.ask (serve_on cells a e.ask ((shared_by cells b).books (book_for cells e.ask))) (shared_by cells b) ≡ shared_by cells (b ++ entry.Event k e ∷ [])
  shared_asked a k e b actor home =
      ap (λ (i : ℕ). shared_after cells e.ask (serve_on cells i e.ask ((shared_by cells b).books (book_for cells e.ask))) (shared_by cells b)) (sym actor)
      ∙ (ap (λ (j : ℕ). shared_after cells e.ask (serve_on cells e.actor e.ask ((shared_by cells b).books j)) (shared_by cells b)) (sym home) ∙ sym (shared_next cells b k e home))

  pub serve : (a n : ℕ) (w : Actor) (k : ℕ) (e : Asked) (b : History) (st : State) → st.shared ≡ shared_by cells b
      → Strolls (codes a) n (st.actors a) w → IsNextAsk cells threads (codes a) a w k e (shared_by cells b)
      → Leads a (after_turn cells threads (codes a) a w (shared_by cells b)) (shared_by cells (b ++ entry.Event k e ∷ [])) st (plays_from cells threads codes (replicate n (TakesTurn a) ++ TakesTurn a ∷ []) st)
  serve a n w k e b st is s next =
      let st1 = plays_from cells threads codes (replicate n (TakesTurn a)) st in
      let walked = walk a n st w s in
      let here : st1.shared ≡ shared_by cells b = walked.shared ∙ is in
      let next1 = subst (λ (sh : Shared). IsNextAsk cells threads (codes a) a (st1.actors a) k e sh) (sym here)
      (subst (λ (y : Actor). IsNextAsk cells threads (codes a) a y k e (shared_by cells b)) (sym walked.actor) next) in
      let one = asking a k e st1 next1 in
      subst (λ (st3 : State). Leads a (after_turn cells threads (codes a) a w (shared_by cells b)) (shared_by cells (b ++ entry.Event k e ∷ [])) st st3)
      (sym (plays_append (replicate n (TakesTurn a)) (TakesTurn a ∷ []) st)) (record {
        shared = one.shared
            ∙ (ap (λ (sh : Shared). shared_after cells e.ask (serve_on cells a e.ask (sh.books (book_for cells e.ask))) sh) here ∙ shared_asked a k e b next.actor next.lock);
        actor = one.actor
            ∙ (ap (λ (y : Actor). after_turn cells threads (codes a) a y st1.shared) walked.actor ∙ ap (λ (sh : Shared). after_turn cells threads (codes a) a w sh) here);
        others = λ i away. one.others i away ∙ walked.others i away;
      })

  -- ---- the last turns of an actor

  stopping : (a : ℕ) (why : Stop) (c : Configuration) (st : State) (w : Actor) → st.actors a ≡ w → IsAt w c → Leads a (stop why w) st.shared st (play cells threads codes (IsStopped a why) st)
  stopping a why c st w is at =
      let first = own_stop a why st (moves cells threads codes (IsStopped a why) st) refl in
      record {
        shared = first.shared;
        actor = first.actor
            ∙ (ap (λ (y : Actor). stops_from why y.at y.stopped y) is ∙ (ap (λ t. stops_from why t w.stopped w) at.at ∙ ap (λ o. stops_from why (Unfinished c) o w) at.going));
        others = first.others;
      }

  pub finish : (m a n : ℕ) (w z : Actor) (st : State) → a < m → Strolls (codes a) n (st.actors a) w → IsLeft w z
      → (ys : List Play) × AreBelow m ys × Leads a z st.shared st (plays_from cells threads codes ys st)
  finish m a n w z st less s (inl same) =
      let walked = walk a n st w s in (
        replicate n (TakesTurn a),
        below_turns m a n less,
        record { shared = walked.shared; actor = walked.actor ∙ same; others = walked.others },
      )
  finish m a n w z st less s (inr (why, c, at, is)) =
      let st1 = plays_from cells threads codes (replicate n (TakesTurn a)) st in
      let walked = walk a n st w s in
      let last = stopping a why c st1 w walked.actor at in (
        replicate n (TakesTurn a) ++ IsStopped a why ∷ [],
        below_append m (replicate n (TakesTurn a)) (IsStopped a why ∷ []) (below_turns m a n less) (less, tt),
        subst (λ (st3 : State). Leads a z st.shared st st3) (sym (plays_append (replicate n (TakesTurn a)) (IsStopped a why ∷ []) st)) (record {
          shared = last.shared ∙ walked.shared;
          actor = last.actor ∙ sym is;
          others = λ b away. last.others b away ∙ walked.others b away;
        }),
      )

  pub below_served : (m a n : ℕ) → a < m → AreBelow m (replicate n (TakesTurn a) ++ TakesTurn a ∷ [])
  below_served m a n less = below_append m (replicate n (TakesTurn a)) (TakesTurn a ∷ []) (below_turns m a n less) (less, tt)
