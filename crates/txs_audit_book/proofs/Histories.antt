-- What an event makes of the histories.
use Rattle.std.proofs.Common.{◌≡◌, ◌≢◌, ◌≤◌, ◌<◌, ℕ, zero, suc, Bool, true, false, ◌&&◌, ◌==◌, nat_lt, nat_le, List, [], ◌∷◌, ◌++◌, length, take, get_or, set, Option, Some, None, refl, sym, ap, ◌∙◌, subst, arith, length-append, if◌then◌else◌}
use Rattle.std.proofs.lemmas.Bool.{lt-ltb, le-ltb, leb-true, leb-false}
use Rattle.std.proofs.lemmas.Bool.Decides.{nat_tests}
use Rattle.std.proofs.lemmas.List.{get_or-set_same, get_or-set_other, length-set, take_all, take-append-le}
use Rattle.txs_tree_eval_transaction.proofs.Halves.{ascend_add, entry_beyond, entry_added}
use Rattle.txs_tree_eval_transaction.specs.Pasts.{entry_at, latest}
use Rattle.txs_tree_eval_transaction.specs.Views.{held, value_in}
use Rattle.txs_value_cell.specs.Cells.{World}
use Rattle.txs_value_data.specs.declared.value.Value.{Value}
use Rattle.txs_world_book.specs.Book.{after, changed, written, writes_of, writes_to, is_there, value_or, cells_in, are_refs, has_ref}
use Rattle.txs_world_book.specs.declared.cell.StoreCell.{StoreCell}
use Rattle.txs_world_book.proofs.Growth.{after_front, after_last, unwritten_more, written_more, written_end}
use Rattle.txs_world_book.proofs.Older.{unset}
use Rattle.txs_world_book.proofs.Outcomes.{both}
use Rattle.txs_world_protocol.specs.Ask.{Writes, buffered}
use Rattle.txs_world_protocol.specs.declared.event.Event.{Event}
use Rattle.txs_audit_book.specs.Gone.{IsHistory, index_at, index_in}
use Rattle.txs_audit_book.specs.Moves.{with_value, written_all, AllWithin, with_entry}

-- ---- one history

-- behind its end a book changes nothing more
pub after_beyond : (w : World) (es : List Event) (p : ℕ) → length es ≤ p → after w es p ≡ after w es (length es)
after_beyond w [] p le = refl
after_beyond w (e ∷ es) zero le = absurd (omega (arith, le))
after_beyond w (e ∷ es) (suc p) le = after_beyond (changed e.kind w) es p (omega (arith, le))

longer : (es : List Event) (e : Event) → length (es ++ e ∷ []) ≡ suc (length es)
longer es e = length-append es (e ∷ []) ∙ omega arith

-- the world behind one more event
pub after_end : (w : World) (es : List Event) (e : Event) (p : ℕ) → length es < p → after w (es ++ e ∷ []) p ≡ changed e.kind (after w es (length es))
after_end w es e p lt = after_beyond w (es ++ e ∷ []) p (omega (arith, lt, longer es e)) ∙ after_last w es e

module _ (w : World) (es : List Event) (e : Event) (k : ℕ) (h : List (ℕ × Value)) (is : IsHistory w es k h) where
  whole : take (length es) es ≡ es
  whole = take_all (length es) es (omega arith)

  front : (j : ℕ) → j ≤ length es → take j (es ++ e ∷ []) ≡ take j es
  front j le = take-append-le j es (e ∷ []) le

  all_of : (j : ℕ) → length es < j → take j (es ++ e ∷ []) ≡ es ++ e ∷ []
  all_of j lt = take_all j (es ++ e ∷ []) (omega (arith, lt, longer es e))

  -- an event that doesn't write the cell
  pub history_same : writes_to e.kind k ≡ false → IsHistory w (es ++ e ∷ []) k h
  history_same off = record { at = λ p. at p (nat_le p (length es)) refl; moved = λ j le p. moved j p (nat_le j (length es)) refl; within = (let l = longer es e in let i = is.within in omega (arith, l, i)); ascend = is.ascend }
    where
      at : (p : ℕ) (b : Bool) → nat_le p (length es) ≡ b → held h p ≡ Some (after w (es ++ e ∷ []) p k)
      at p true q = is.at p ∙ ap (λ (R : World). Some (R k)) (sym (after_front w es (e ∷ []) p (leb-true p (length es) q)))
      at p false q =
          let lt = leb-false p (length es) q in
          is.at p ∙ ap (λ (R : World). Some (R k)) (after_beyond w es p (omega (arith, lt))) ∙ ap Some (sym (unset e.kind (after w es (length es)) k off)) ∙ ap (λ (R : World). Some (R k)) (sym (after_end w es e p lt))

      moved : (j p : ℕ) (b : Bool) → nat_le j (length es) ≡ b → written k p (take j (es ++ e ∷ [])) ≡ nat_lt p (index_at h j)
      moved j p true q = ap (written k p) (front j (leb-true j (length es) q)) ∙ is.moved j (leb-true j (length es) q) p
      moved j p false q =
          let lt = leb-false j (length es) q in
          let i = is.within in
          ap (written k p) (all_of j lt) ∙ unwritten_more k p es e off ∙ ap (written k p) (sym whole) ∙ is.moved (length es) (omega arith) p
          ∙ ap (λ o. nat_lt p (index_in o)) (entry_beyond h (length es) j is.ascend i (omega (arith, i, lt)))

  -- one that writes it
  pub history_put : (v : Value) → writes_to e.kind k ≡ true → changed e.kind (after w es (length es)) k ≡ v → IsHistory w (es ++ e ∷ []) k (h ++ (suc (length es), v) ∷ [])
  history_put v on new = record { at = λ p. at p (nat_le p (length es)) refl; moved = λ j le p. moved j p (nat_le j (length es)) refl; within = latest_put; ascend = ascend_add 0 h (suc (length es)) v (let i = is.within in omega (arith, i)) is.ascend }
    where
      n : ℕ
      n = suc (length es)

      latest_last : (m : ℕ) (l : List (ℕ × Value)) → latest m (l ++ (suc (length es), v) ∷ []) ≡ suc (length es)
      latest_last m [] = refl
      latest_last m (x ∷ l) = latest_last x.0 l

      latest_put : latest 0 (h ++ (suc (length es), v) ∷ []) ≤ length (es ++ e ∷ [])
      latest_put = (let a = latest_last 0 h in let l = longer es e in omega (arith, a, l))

      older : (p : ℕ) → p ≤ length es → entry_at (h ++ (suc (length es), v) ∷ []) p ≡ entry_at h p
      older p le = entry_added h (suc (length es)) v p ∙ ap (λ b. if b then entry_at h p else Some (suc (length es), v)) (lt-ltb p (suc (length es)) (omega (arith, le)))

      newer : (p : ℕ) → length es < p → entry_at (h ++ (suc (length es), v) ∷ []) p ≡ Some (suc (length es), v)
      newer p lt = entry_added h (suc (length es)) v p ∙ ap (λ b. if b then entry_at h p else Some (suc (length es), v)) (le-ltb p (suc (length es)) (omega (arith, lt)))

      at : (p : ℕ) (b : Bool) → nat_le p (length es) ≡ b → held (h ++ (suc (length es), v) ∷ []) p ≡ Some (after w (es ++ e ∷ []) p k)
      at p true q =
          let le = leb-true p (length es) q in
          ap value_in (older p le) ∙ is.at p ∙ ap (λ (R : World). Some (R k)) (sym (after_front w es (e ∷ []) p le))
      at p false q =
          let lt = leb-false p (length es) q in
          ap value_in (newer p lt) ∙ ap Some (sym new) ∙ ap (λ (R : World). Some (R k)) (sym (after_end w es e p lt))

      moved : (j p : ℕ) (b : Bool) → nat_le j (length es) ≡ b → written k p (take j (es ++ e ∷ [])) ≡ nat_lt p (index_at (h ++ (suc (length es), v) ∷ []) j)
      moved j p true q =
          let le = leb-true j (length es) q in
          ap (written k p) (front j le) ∙ is.moved j le p ∙ ap (λ o. nat_lt p (index_in o)) (sym (older j le))
      moved j p false q =
          let lt = leb-false j (length es) q in
          ap (written k p) (all_of j lt) ∙ told (nat_le p (length es)) refl ∙ ap (λ o. nat_lt p (index_in o)) (sym (newer j lt))
        where
          told : (b : Bool) → nat_le p (length es) ≡ b → written k p (es ++ e ∷ []) ≡ nat_lt p (suc (length es))
          told true r = let le = leb-true p (length es) r in written_more k p es e on le ∙ sym (lt-ltb p (suc (length es)) (omega (arith, le)))
          told false r = let lt = leb-false p (length es) r in written_end k p (es ++ e ∷ []) (omega (arith, lt, longer es e)) ∙ sym (le-ltb p (suc (length es)) (omega (arith, lt)))

  pub history_more : IsHistory w (es ++ e ∷ []) k (with_entry (suc (length es)) (buffered (writes_of e.kind) k) h)
  history_more = go (buffered (writes_of e.kind) k) refl
    where
      go : (o : Option Value) → buffered (writes_of e.kind) k ≡ o → IsHistory w (es ++ e ∷ []) k (with_entry (suc (length es)) o h)
      go None q = history_same (ap is_there q)
      go (Some v) q = history_put v (ap is_there q) (ap (λ o. value_or o (after w es (length es) k)) q)

-- ---- the opening

pub history_open : (w : World) (k : ℕ) → IsHistory w [] k ((0, w k) ∷ [])
history_open w k = record { at = λ p. ap (λ b. value_in (if b then None else Some (0, w k))) (le-ltb p 0 (omega arith)); moved = moved; within = omega arith; ascend = (omega arith, tt) }
  where
    moved : (j : ℕ) → j ≤ 0 → (p : ℕ) → written k p (take j []) ≡ nat_lt p (index_at ((0, w k) ∷ []) j)
    moved zero le p = sym (ap (λ b. nat_lt p (index_in (if b then None else Some (0, w k)))) (le-ltb 0 0 (omega arith)) ∙ le-ltb p 0 (omega arith))
    moved (suc j) le p = absurd (omega (arith, le))

-- ---- all of them

equal : (a b : ℕ) → (a == b) ≡ true → a ≡ b
equal a b e = grind (arith, nat_tests)

unequal : (a b : ℕ) → (a == b) ≡ false → a ≢ b
unequal a b e = grind (arith, nat_tests)

pub written_many : (n : ℕ) (hs : List (List (ℕ × Value))) (ws : Writes) → length (written_all n hs ws) ≡ length hs
written_many n hs [] = refl
written_many n hs (w ∷ ws) = written_many n (with_value hs w.0.number n w.1) ws ∙ length-set hs w.0.number (get_or hs w.0.number [] ++ (n, w.1) ∷ [])

-- no cell is written twice
abbrev pub Apart : Writes → Type 0
Apart [] = Unit {0}
Apart (w ∷ ws) = (buffered ws w.0.number ≡ None) × Apart ws

unbuffered : (cells : List StoreCell) (m k : ℕ) (ws : Writes) → k < m → are_refs cells m (cells_in ws) ≡ true → buffered ws k ≡ None
unbuffered cells m k [] lt h = refl
unbuffered cells m k (w ∷ ws) lt h =
    let a = both (has_ref cells w.0) (nat_le m w.0.number && are_refs cells (suc w.0.number) (cells_in ws)) h in
    let b = both (nat_le m w.0.number) (are_refs cells (suc w.0.number) (cells_in ws)) a.1 in
    let le = leb-true m w.0.number b.0 in
    go le (unbuffered cells (suc w.0.number) k ws (omega (arith, lt, le)) b.1) (w.0.number == k) refl
  where
    go : m ≤ w.0.number → buffered ws k ≡ None → (t : Bool) → (w.0.number == k) ≡ t → (if t then Some w.1 else buffered ws k) ≡ None
    go le r true e = let same = equal w.0.number k e in absurd (omega (arith, same, le, lt))
    go le r false e = r

pub refs_apart : (cells : List StoreCell) (m : ℕ) (ws : Writes) → are_refs cells m (cells_in ws) ≡ true → Apart ws
refs_apart cells m [] h = tt
refs_apart cells m (w ∷ ws) h =
    let a = both (has_ref cells w.0) (nat_le m w.0.number && are_refs cells (suc w.0.number) (cells_in ws)) h in
    let b = both (nat_le m w.0.number) (are_refs cells (suc w.0.number) (cells_in ws)) a.1 in
    (unbuffered cells (suc w.0.number) w.0.number ws (omega arith) b.1, refs_apart cells (suc w.0.number) ws b.1)

pub written_moves : (n : ℕ) (hs : List (List (ℕ × Value))) (ws : Writes) (k : ℕ) → Apart ws → k < length hs → get_or (written_all n hs ws) k [] ≡ with_entry n (buffered ws k) (get_or hs k [])
written_moves n hs [] k a lt = refl
written_moves n hs (w ∷ ws) k a lt =
    let x = get_or hs w.0.number [] ++ (n, w.1) ∷ [] in
    go (written_moves n (with_value hs w.0.number n w.1) ws k a.1 (omega (arith, lt, length-set hs w.0.number x))) (w.0.number == k) refl
  where
    x : List (ℕ × Value)
    x = get_or hs w.0.number [] ++ (n, w.1) ∷ []

    go : get_or (written_all n (with_value hs w.0.number n w.1) ws) k [] ≡ with_entry n (buffered ws k) (get_or (with_value hs w.0.number n w.1) k []) → (t : Bool) → (w.0.number == k) ≡ t
        → get_or (written_all n (with_value hs w.0.number n w.1) ws) k [] ≡ with_entry n (if t then Some w.1 else buffered ws k) (get_or hs k [])
    go r true e =
        let same = equal w.0.number k e in
        r ∙ ap (λ o. with_entry n o (get_or (with_value hs w.0.number n w.1) k [])) (ap (buffered ws) (sym same) ∙ a.0)
        ∙ ap (λ i. get_or (with_value hs w.0.number n w.1) i []) (sym same) ∙ get_or-set_same hs w.0.number (get_or hs w.0.number [] ++ (n, w.1) ∷ []) [] (subst (λ i. i < length hs) (sym same) lt)
        ∙ ap (λ i. get_or hs i [] ++ (n, w.1) ∷ []) same
    go r false e =
        let off : k ≢ w.0.number = λ q. unequal w.0.number k e (sym q) in
        r ∙ ap (with_entry n (buffered ws k)) (get_or-set_other hs w.0.number k (get_or hs w.0.number [] ++ (n, w.1) ∷ []) [] off)

-- ---- no index is above

set_within : (n : ℕ) (hs : List (List (ℕ × Value))) (k : ℕ) (y : List (ℕ × Value)) → latest 0 y ≤ n → AllWithin n hs → AllWithin n (set hs k y)
set_within n [] k y le h j = h j
set_within n (x ∷ hs) zero y le h zero = le
set_within n (x ∷ hs) zero y le h (suc j) = h (suc j)
set_within n (x ∷ hs) (suc k) y le h zero = h zero
set_within n (x ∷ hs) (suc k) y le h (suc j) = set_within n hs k y le (λ i. h (suc i)) j

pub within_put : (n : ℕ) (hs : List (List (ℕ × Value))) (k : ℕ) (v : Value) → AllWithin n hs → AllWithin n (with_value hs k n v)
within_put n hs k v h = set_within n hs k (get_or hs k [] ++ (n, v) ∷ []) (let e = last_of 0 (get_or hs k []) in omega (arith, e)) h
  where
    last_of : (m : ℕ) (l : List (ℕ × Value)) → latest m (l ++ (n, v) ∷ []) ≡ n
    last_of m [] = refl
    last_of m (x ∷ l) = last_of x.0 l
