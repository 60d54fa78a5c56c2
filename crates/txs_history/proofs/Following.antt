-- How an actor that follows a history goes on.
use Rattle.std.proofs.Common.{◌≡◌, ℕ, zero, suc, List, [], ◌∷◌, ◌++◌, length, Some, None, inl, inr, refl, ap, sym, ◌∙◌, subst, append_assoc}
use Rattle.std.proofs.lemmas.List.{append-nil}
use mathlib.Core.List.{IsPrefix}
use Rattle.txs_value_cell.specs.declared.cell.CellDefinition.{CellDefinition}
use Rattle.txs_code_meaning.specs.Machine.{ThreadCode, Configuration, Unfinished, turn}
use Rattle.txs_history.specs.declared.log.Entry.TheVariants as entry
use Rattle.txs_theorem_runs.specs.Goes.{AsksAt}
use Rattle.txs_theorem_runs.specs.Run.{Stop, Actor, moved, replied, comes_to, new_actor, stop, turns_from, turned, asks_for, asked}
use Rattle.txs_theorem_runs.specs.Shared.{Shared, book_for, serve_on, shared_after}
use Rattle.txs_history.specs.declared.asked.Asked.{Asked}
use Rattle.txs_history.specs.Following.{IsAt, Strolls, IsLeft, IsNextAsk, after_turn, Follows, FollowsAll}
use Rattle.txs_history.specs.Asked.{History, shared_by}

-- ---- turns that ask nothing

pub strolls_join : (code : ThreadCode) (n m : ℕ) (x w z : Actor) → Strolls code n x w → Strolls code m w z → (k : ℕ) × Strolls code k x z
strolls_join code zero m x w z p q = (m, subst (λ (y : Actor). Strolls code m y z) (sym p) q)
strolls_join code (suc n) m x w z (c, at, nothing, rest) q =
    let r = strolls_join code n m (comes_to (turn code c) x) w z rest q in
    (suc r.0, (c, at, nothing, r.1))

-- one that goes on wasn't stopped
not_stopped : (why : Stop) (w z : Actor) (c : Configuration) → z ≡ stop why w → IsAt z c → ⊥
not_stopped why w z c is at =
    let both : Some why ≡ None = ap (λ (y : Actor). y.stopped) (sym is) ∙ at.going in
    absurd (cc both)

-- so it is where it came to
left_there : (w z : Actor) (c : Configuration) → IsLeft w z → IsAt z c → w ≡ z
left_there w z c (inl same) at = same
left_there w z c (inr (why, d, was, is)) at = absurd (not_stopped why w z c is at)

left_stops : (w z : Actor) (c : Configuration) (why : Stop) → IsLeft w z → IsAt z c → IsLeft w (stop why z)
left_stops w z c why left at =
    let same = left_there w z c left at in
    inr (why, c, subst (λ (y : Actor). IsAt y c) (sym same) at, ap (λ (y : Actor). stop why y) (sym same))

left_strolls : (code : ThreadCode) (n m : ℕ) (x w z v : Actor) → Strolls code n x w → IsLeft w z → Strolls code m z v → (k : ℕ) × (u : Actor) × Strolls code k x u × IsLeft u v
left_strolls code n zero x w z v s left t = (n, w, s, subst (λ (y : Actor). IsLeft w y) t left)
left_strolls code n (suc m) x w z v s left (c, at, nothing, t) =
    let same = left_there w z c left at in
    let r = strolls_join code n (suc m) x w v s (subst (λ (y : Actor). Strolls code (suc m) y v) (sym same) (c, at, nothing, t)) in
    (r.0, v, r.1, inl refl)

-- ---- a turn with an ask

-- what a turn makes of an actor and of what is shared, where its next ask is answered
pub turn_with_ask : (cells : List CellDefinition) (threads : ℕ) (code : ThreadCode) (a : ℕ) (w : Actor) (k : ℕ) (e : Asked) (sh : Shared) (next : IsNextAsk cells threads code a w k e sh)
    → turns_from cells threads code a w.at w.stopped w sh
    ≡ moved (replied code next.from e.ask (serve_on cells a e.ask (sh.books (book_for cells e.ask))).reply (length (sh.books (book_for cells e.ask))) w) (shared_after cells e.ask (serve_on cells a e.ask (sh.books (book_for cells e.ask))) sh)
turn_with_ask cells threads code a w k e sh next = go next.asks
  where
    go : AsksAt code next.from e.ask
        → turns_from cells threads code a w.at w.stopped w sh
        ≡ moved (replied code next.from e.ask (serve_on cells a e.ask (sh.books (book_for cells e.ask))).reply (length (sh.books (book_for cells e.ask))) w) (shared_after cells e.ask (serve_on cells a e.ask (sh.books (book_for cells e.ask))) sh)
    go (s, is, wants) =
        ap (λ t. turns_from cells threads code a t w.stopped w sh) next.going.at
        ∙ (ap (λ o. turns_from cells threads code a (Unfinished next.from) o w sh) next.going.going
        ∙ (ap (λ t. turned cells threads code a next.from t w sh) is
        ∙ (ap (λ o. asks_for cells threads code a next.from s o w sh) wants
        ∙ ap (λ b. asked b cells code a next.from e.ask w sh) next.may)))

-- ---- a longer history

module _ (cells : List CellDefinition) (threads : ℕ) (code : ThreadCode) (a : ℕ) where
  -- where a history goes on, the actor passes the rest by
  pub follows_on : (b : History) (x : Actor) (m : ℕ) (h rest : History) (z : Actor) → Follows cells threads code a b x m h z → Follows cells threads code a b x m (h ++ rest) z
  follows_on b x m [] [] z f = f
  follows_on b x m [] (entry.Locks n ∷ rest) z f = follows_on (b ++ entry.Locks n ∷ []) x m [] rest z f
  follows_on b x m [] (entry.Event k e ∷ rest) z f = inl (follows_on (b ++ entry.Event k e ∷ []) x m [] rest z f)
  follows_on b x m (entry.Locks n ∷ h) rest z f = follows_on (b ++ entry.Locks n ∷ []) x m h rest z f
  follows_on b x m (entry.Event k e ∷ h) rest z (inl f) = inl (follows_on (b ++ entry.Event k e ∷ []) x m h rest z f)
  follows_on b x m (entry.Event k e ∷ h) rest z (inr (r, n, w, is, s, next, f)) =
      inr (r, n, w, is, s, next, follows_on (b ++ entry.Event k e ∷ []) (after_turn cells threads code a w (shared_by cells b)) r h rest z f)

  pub follows_prefix : (m : ℕ) (h g : History) (z : Actor) → IsPrefix h g → FollowsAll cells threads code a m h z → FollowsAll cells threads code a m g z
  follows_prefix m h g z p f = subst (λ (l : History). FollowsAll cells threads code a m l z) p.1 (follows_on [] (new_actor code) m h p.0 z f)

  -- an actor before its first turn has passed all by
  pub new_follows : (h : History) → FollowsAll cells threads code a 0 h (new_actor code)
  new_follows h = follows_on [] (new_actor code) 0 [] h (new_actor code) (refl, 0, new_actor code, refl, inl refl)

  -- ---- more turns of the actor

  pub follows_strolls : (b : History) (x : Actor) (m : ℕ) (h : History) (z : Actor) (i : ℕ) (v : Actor)
      → Follows cells threads code a b x m h z → Strolls code i z v → Follows cells threads code a b x m h v
  follows_strolls b x m [] z i v (none, n, w, s, left) t =
      let r = left_strolls code n i x w z v s left t in
      (none, r.0, r.1, r.2, r.3)
  follows_strolls b x m (entry.Locks n ∷ h) z i v f t = follows_strolls (b ++ entry.Locks n ∷ []) x m h z i v f t
  follows_strolls b x m (entry.Event k e ∷ h) z i v (inl f) t = inl (follows_strolls (b ++ entry.Event k e ∷ []) x m h z i v f t)
  follows_strolls b x m (entry.Event k e ∷ h) z i v (inr (r, n, w, is, s, next, f)) t =
      inr (r, n, w, is, s, next, follows_strolls (b ++ entry.Event k e ∷ []) (after_turn cells threads code a w (shared_by cells b)) r h z i v f t)

  pub follows_stops : (b : History) (x : Actor) (m : ℕ) (h : History) (z : Actor) (c : Configuration) (why : Stop)
      → Follows cells threads code a b x m h z → IsAt z c → Follows cells threads code a b x m h (stop why z)
  follows_stops b x m [] z c why (none, n, w, s, left) at = (none, n, w, s, left_stops w z c why left at)
  follows_stops b x m (entry.Locks n ∷ h) z c why f at = follows_stops (b ++ entry.Locks n ∷ []) x m h z c why f at
  follows_stops b x m (entry.Event k e ∷ h) z c why (inl f) at = inl (follows_stops (b ++ entry.Event k e ∷ []) x m h z c why f at)
  follows_stops b x m (entry.Event k e ∷ h) z c why (inr (r, n, w, is, s, next, f)) at =
      inr (r, n, w, is, s, next, follows_stops (b ++ entry.Event k e ∷ []) (after_turn cells threads code a w (shared_by cells b)) r h z c why f at)

  next_last : (b : History) (x : Actor) (m : ℕ) (w : Actor) (k : ℕ) (e : Asked) → Follows cells threads code a b x m [] w → IsNextAsk cells threads code a w k e (shared_by cells b)
      → Follows cells threads code a b x (suc m) (entry.Event k e ∷ []) (after_turn cells threads code a w (shared_by cells b))
  next_last b x m w k e (none, n, v, s, left) next =
      let same = left_there v w next.from left next.going in
      let z = after_turn cells threads code a w (shared_by cells b) in
      inr (m, n, w, refl, subst (λ (y : Actor). Strolls code n x y) same s, next, (none, 0, z, refl, inl refl))

  next_at : (b : History) (x : Actor) (m : ℕ) (h l : History) (w : Actor) (k : ℕ) (e : Asked) → l ≡ b ++ h
      → Follows cells threads code a b x m h w → IsNextAsk cells threads code a w k e (shared_by cells l)
      → Follows cells threads code a b x (suc m) (h ++ entry.Event k e ∷ []) (after_turn cells threads code a w (shared_by cells l))
  next_at b x m [] l w k e is f next =
      let here : l ≡ b = is ∙ append-nil b in
      subst (λ (j : History). Follows cells threads code a b x (suc m) (entry.Event k e ∷ []) (after_turn cells threads code a w (shared_by cells j))) (sym here)
      (next_last b x m w k e f (subst (λ (j : History). IsNextAsk cells threads code a w k e (shared_by cells j)) here next))
  next_at b x m (entry.Locks n ∷ h) l w k e is f next = next_at (b ++ entry.Locks n ∷ []) x m h l w k e (is ∙ sym (append_assoc b (entry.Locks n ∷ []) h)) f next
  next_at b x m (entry.Event j y ∷ h) l w k e is (inl f) next = inl (next_at (b ++ entry.Event j y ∷ []) x m h l w k e (is ∙ sym (append_assoc b (entry.Event j y ∷ []) h)) f next)
  next_at b x m (entry.Event j y ∷ h) l w k e is (inr (r, n, v, one, s, was, f)) next =
      inr (suc r, n, v, ap suc one, s, was, next_at (b ++ entry.Event j y ∷ []) (after_turn cells threads code a v (shared_by cells b)) r h l w k e (is ∙ sym (append_assoc b (entry.Event j y ∷ []) h)) f next)

  -- its next ask is answered behind the history
  pub follows_more : (b : History) (x : Actor) (m : ℕ) (h : History) (w : Actor) (k : ℕ) (e : Asked)
      → Follows cells threads code a b x m h w → IsNextAsk cells threads code a w k e (shared_by cells (b ++ h))
      → Follows cells threads code a b x (suc m) (h ++ entry.Event k e ∷ []) (after_turn cells threads code a w (shared_by cells (b ++ h)))
  follows_more b x m h w k e f next = next_at b x m h (b ++ h) w k e refl f next
