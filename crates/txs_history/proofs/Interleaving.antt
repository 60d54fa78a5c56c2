-- A history is a run: one walk along it, with all that is shared and all actors.
use Rattle.std.proofs.Common.{◌≡◌, ◌<◌, ◌≤◌, ◌==◌, ℕ, zero, suc, Bool, true, false, List, [], ◌∷◌, ◌++◌, replicate, inl, inr, refl, ap, sym, ◌∙◌, subst, arith, append_assoc}
use Rattle.std.proofs.lemmas.List.{append-nil}
use Rattle.std.proofs.lemmas.Bool.Decides.{nat_tests}
use Rattle.txs_value_cell.specs.declared.cell.CellDefinition.{CellDefinition}
use Rattle.txs_code_meaning.specs.Machine.{ThreadCode}
use Rattle.txs_history.specs.declared.log.Entry.TheVariants as entry
use Rattle.txs_theorem_runs.specs.Run.{Actor, State, Play, TakesTurn, opens, plays_from, new_actor}
use Rattle.txs_theorem_runs.specs.Shared.{Shared}
use Rattle.txs_history.specs.declared.asked.Asked.{Asked}
use Rattle.txs_history.specs.Following.{Strolls, after_turn, Follows, AreBelow, HistoryIsRun}
use Rattle.txs_history.specs.Asked.{History, shared_by, asks_of}
use Rattle.txs_history.proofs.Counting.{AreOf, all_made, asks_most, asks_same, asks_other}
use Rattle.txs_history.proofs.Sharing.{locks_next}
use Rattle.txs_history.proofs.Turns.{Leads, below_append, below_served, plays_append, serve, finish}

module _ (cells : List CellDefinition) (threads : ℕ) (codes : ℕ → ThreadCode) (m : ℕ) (ends : ℕ → Actor) where
  -- each actor is on its way to its end along the rest of a history, of which it makes its own asks
  abbrev AreOn : History → History → State → Type 0
  AreOn b h st = (a : ℕ) → a < m → Follows cells threads (codes a) a b (st.actors a) (asks_of a h) h (ends a)

  -- there are turns that come to this, with each actor at its end
  abbrev Comes : Shared → State → Type 0
  Comes sh st = (ys : List Play) × AreBelow m ys × ((plays_from cells threads codes ys st).shared ≡ sh) × ((a : ℕ) → a < m → (plays_from cells threads codes ys st).actors a ≡ ends a)

  -- other turns come before
  comes_after : (sh : Shared) (st : State) (ys : List Play) → AreBelow m ys → Comes sh (plays_from cells threads codes ys st) → Comes sh st
  comes_after sh st ys first (zs, below, shared, actors) =
      let both = plays_append cells threads codes ys zs st in (
        ys ++ zs,
        below_append m ys zs first below,
        ap (λ (w : State). w.shared) both ∙ shared,
        λ a less. ap (λ (w : State). w.actors a) both ∙ actors a less,
      )

  -- ---- behind the last ask

  -- the first so many actors are at their ends
  record HaveEnded (i : ℕ) (st st1 : State) : Type 0 where
    shared : st1.shared ≡ st.shared
    ended : (a : ℕ) → a < i → st1.actors a ≡ ends a
    others : (a : ℕ) → i ≤ a → st1.actors a ≡ st.actors a

  abbrev End : ℕ → State → Type 0
  End i st = (ys : List Play) × AreBelow m ys × HaveEnded i st (plays_from cells threads codes ys st)

  end_case : (i : ℕ) (st st1 st2 : State) → HaveEnded i st st1 → Leads i (ends i) st1.shared st1 st2 → (a : ℕ) → a < suc i → (is : Bool) → (i == a) ≡ is → st2.actors a ≡ ends a
  end_case i st st1 st2 e led a less true is =
      let same : i ≡ a = grind (arith, nat_tests, is) in
      subst (λ (j : ℕ). st2.actors j ≡ ends j) same led.actor
  end_case i st st1 st2 e led a less false is =
      let lower : a < i = grind (arith, nat_tests, is, less) in
      led.others a is ∙ e.ended a lower

  end_next : (i : ℕ) (st : State) (ys : List Play) → AreBelow m ys → HaveEnded i st (plays_from cells threads codes ys st) → i < m
      → Follows cells threads (codes i) i [] (st.actors i) 0 [] (ends i) → End (suc i) st
  end_next i st ys below e less (none, n, w, s, left) =
      let st1 = plays_from cells threads codes ys st in
      let same : st1.actors i ≡ st.actors i = e.others i (omega arith) in
      let last = finish cells threads codes m i n w (ends i) st1 less (subst (λ (y : Actor). Strolls (codes i) n y w) (sym same) s) left in
      let st2 = plays_from cells threads codes last.0 st1 in (
        ys ++ last.0,
        below_append m ys last.0 below last.1,
        subst (λ (st3 : State). HaveEnded (suc i) st st3) (sym (plays_append cells threads codes ys last.0 st)) (record {
          shared = last.2.shared ∙ e.shared;
          ended = λ a lower. end_case i st st1 st2 e last.2 a lower (i == a) refl;
          others = λ a le. last.2.others a (grind (arith, nat_tests, le)) ∙ e.others a (omega (arith, le));
        }),
      )

  end_all : (i : ℕ) (st : State) → i ≤ m → ((a : ℕ) → a < m → Follows cells threads (codes a) a [] (st.actors a) 0 [] (ends a)) → End i st
  end_all zero st le on = ([], tt, record { shared = refl; ended = λ a less. absurd (omega (arith, less)); others = λ a l. refl })
  end_all (suc i) st le on =
      let before = end_all i st (omega (arith, le)) on in
      end_next i st before.0 before.1 before.2 (omega (arith, le)) (on i (omega (arith, le)))

  -- ---- along the history

  abbrev Goal : History → Type 0
  Goal h = (b : History) (st : State) → st.shared ≡ shared_by cells b → AreOf m h → AreOn b h st → Comes (shared_by cells (b ++ h)) st

  on_case : (b h : History) (k : ℕ) (e : Asked) (st st1 : State) (z : Actor) (sh : Shared) → Leads e.actor z sh st st1 → AreOn b (entry.Event k e ∷ h) st
      → Follows cells threads (codes e.actor) e.actor (b ++ entry.Event k e ∷ []) z (asks_of e.actor h) h (ends e.actor)
      → (a : ℕ) → a < m → (is : Bool) → (e.actor == a) ≡ is → Follows cells threads (codes a) a (b ++ entry.Event k e ∷ []) (st1.actors a) (asks_of a h) h (ends a)
  on_case b h k e st st1 z sh led on own a less true is =
      let same : e.actor ≡ a = grind (arith, nat_tests, is) in
      subst (λ (i : ℕ). Follows cells threads (codes i) i (b ++ entry.Event k e ∷ []) (st1.actors i) (asks_of i h) h (ends i)) same
      (subst (λ (y : Actor). Follows cells threads (codes e.actor) e.actor (b ++ entry.Event k e ∷ []) y (asks_of e.actor h) h (ends e.actor)) (sym led.actor) own)
  on_case b h k e st st1 z sh led on own a less false is =
      subst (λ (y : Actor). Follows cells threads (codes a) a (b ++ entry.Event k e ∷ []) y (asks_of a h) h (ends a)) (sym (led.others a is)) (passed (on a less))
    where
      passed : Follows cells threads (codes a) a b (st.actors a) (asks_of a (entry.Event k e ∷ h)) (entry.Event k e ∷ h) (ends a)
          → Follows cells threads (codes a) a (b ++ entry.Event k e ∷ []) (st.actors a) (asks_of a h) h (ends a)
      passed (inl f) = subst (λ (i : ℕ). Follows cells threads (codes a) a (b ++ entry.Event k e ∷ []) (st.actors a) i h (ends a)) (asks_other a k e h is) f
      passed (inr (r, n, w, one, s, next, f)) = absurd (grind (arith, nat_tests, is, next.actor))

  -- the actor of an ask takes its turn there, since it makes all of its own
  served : (b h : History) (k : ℕ) (e : Asked) (st : State) → Goal h → st.shared ≡ shared_by cells b → e.actor < m → AreOf m h → AreOn b (entry.Event k e ∷ h) st
      → Follows cells threads (codes e.actor) e.actor b (st.actors e.actor) (asks_of e.actor (entry.Event k e ∷ h)) (entry.Event k e ∷ h) (ends e.actor)
      → Comes (shared_by cells ((b ++ entry.Event k e ∷ []) ++ h)) st
  served b h k e st rest is less theirs on (inl f) =
      let a = e.actor in
      absurd (omega (arith, asks_same a k e h refl, asks_most cells threads (codes a) a (b ++ entry.Event k e ∷ []) (st.actors a) (asks_of a (entry.Event k e ∷ h)) h (ends a) f))
  served b h k e st rest is less theirs on (inr (r, n, w, one, s, next, f)) =
      let a = e.actor in
      let ys = replicate n (TakesTurn a) ++ TakesTurn a ∷ [] in
      let z = after_turn cells threads (codes a) a w (shared_by cells b) in
      let led = serve cells threads codes a n w k e b st is s next in
      let count : r ≡ asks_of a h = omega (arith, one, asks_same a k e h refl) in
      let own = subst (λ (i : ℕ). Follows cells threads (codes a) a (b ++ entry.Event k e ∷ []) z i h (ends a)) count f in
      comes_after (shared_by cells ((b ++ entry.Event k e ∷ []) ++ h)) st ys (below_served cells threads codes m a n less)
      (rest (b ++ entry.Event k e ∷ []) (plays_from cells threads codes ys st) led.shared theirs
      (λ i lower. on_case b h k e st (plays_from cells threads codes ys st) z (shared_by cells (b ++ entry.Event k e ∷ [])) led on own i lower (a == i) refl))

  along : (h : History) → Goal h
  along [] b st is theirs on =
      let all = end_all m st (omega arith) on in (
        all.0,
        all.1,
        all.2.shared ∙ (is ∙ ap (λ (l : History). shared_by cells l) (sym (append-nil b))),
        all.2.ended,
      )
  along (entry.Locks n ∷ h) b st is theirs on =
      subst (λ (l : History). Comes (shared_by cells l) st) (append_assoc b (entry.Locks n ∷ []) h)
      (along h (b ++ entry.Locks n ∷ []) st (is ∙ sym (locks_next cells b n)) theirs on)
  along (entry.Event k e ∷ h) b st is theirs on =
      subst (λ (l : History). Comes (shared_by cells l) st) (append_assoc b (entry.Event k e ∷ []) h)
      (served b h k e st (along h) is theirs.0 theirs.1 on (on e.actor theirs.0))

pub history_is_run : HistoryIsRun
history_is_run cells threads codes m h made ends follows sum =
    let all = all_made m h made (λ a less. asks_most cells threads (codes a) a [] (new_actor (codes a)) (made a) h (ends a) (follows a less)) sum in
    along cells threads codes m ends h [] (opens cells codes) refl all.theirs
    (λ a less. subst (λ (i : ℕ). Follows cells threads (codes a) a [] (new_actor (codes a)) i h (ends a)) (all.each a less) (follows a less))
