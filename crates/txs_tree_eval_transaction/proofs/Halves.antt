-- What stands at an index is found in one half of the values alone.
use Rattle.std.specs.List.{slice_get}
use Rattle.std.proofs.Common.{◌≡◌, ◌≤◌, ◌<◌, ◌-◌, ℕ, suc, true, false, nat_lt, List, [], ◌∷◌, ◌++◌, length, take, drop, Option, Some, None, if◌then◌else◌, refl, sym, ap, ◌∙◌, subst, arith}
use Rattle.std.proofs.lemmas.List.{take-append-drop}
use Rattle.std.proofs.lemmas.Bool.{lt-ltb, le-ltb, leb-true, leb-false, false≢true}
use Rattle.txs_tree_eval_transaction.specs.Pasts.{Ascend, latest, begins_by, entry_from, entry_at}
use Rattle.txs_value_data.specs.declared.value.Value.{Value}

-- from a lesser index on they ascend too
lower : (n m : ℕ) (ws : List (ℕ × Value)) → n ≤ m → Ascend m ws → Ascend n ws
lower n m [] le h = tt
lower n m (w ∷ ws) le h = (omega (arith, le, h.0), h.1)

front : (n : ℕ) (xs ys : List (ℕ × Value)) → Ascend n (xs ++ ys) → Ascend n xs
front n [] ys h = tt
front n (w ∷ xs) ys h = (h.0, front w.0 xs ys h.1)

back : (n : ℕ) (xs ys : List (ℕ × Value)) → Ascend n (xs ++ ys) → Ascend 0 ys
back n [] ys h = lower 0 n ys (omega arith) h
back n (w ∷ xs) ys h = back w.0 xs ys h.1

pub ascend_take : (k : ℕ) (ws : List (ℕ × Value)) → Ascend 0 ws → Ascend 0 (take k ws)
ascend_take k ws h = front 0 (take k ws) (drop k ws) (subst (λ l. Ascend 0 l) (sym (take-append-drop k ws)) h)

pub ascend_drop : (k : ℕ) (ws : List (ℕ × Value)) → Ascend 0 ws → Ascend 0 (drop k ws)
ascend_drop k ws h = back 0 (take k ws) (drop k ws) (subst (λ l. Ascend 0 l) (sym (take-append-drop k ws)) h)

-- one behind the last
pub ascend_add : (n : ℕ) (ws : List (ℕ × Value)) (p : ℕ) (v : Value) → latest n ws ≤ p → Ascend n ws → Ascend n (ws ++ (p, v) ∷ [])
ascend_add n [] p v le h = (le, tt)
ascend_add n (w ∷ ws) p v le h = (h.0, ascend_add w.0 ws p v le h.1)

-- ---- what is found

both : (f : Option (ℕ × Value)) (xs ys : List (ℕ × Value)) (p : ℕ) → entry_from f (xs ++ ys) p ≡ entry_from (entry_from f xs p) ys p
both f [] ys p = refl
both f (w ∷ xs) ys p = both (if nat_lt p w.0 then f else Some w) xs ys p

-- where the first is above the index, all are
above : (f : Option (ℕ × Value)) (n : ℕ) (ys : List (ℕ × Value)) (p : ℕ) → p < n → Ascend n ys → entry_from f ys p ≡ f
above f n [] p lt h = refl
above f n (w ∷ ys) p lt h = ap (λ b. entry_from (if b then f else Some w) ys p) (lt-ltb p w.0 (omega (arith, lt, h.0))) ∙ above f w.0 ys p (omega (arith, lt, h.0)) h.1

in_front : (f : Option (ℕ × Value)) (ys : List (ℕ × Value)) (p : ℕ) → begins_by ys p ≡ false → Ascend 0 ys → entry_from f ys p ≡ f
in_front f [] p h a = refl
in_front f (w ∷ ys) p h a = above f w.0 (w ∷ ys) p (leb-false w.0 p h) (omega arith, a.1)

in_back : (f : Option (ℕ × Value)) (ys : List (ℕ × Value)) (p : ℕ) → begins_by ys p ≡ true → entry_from f ys p ≡ entry_at ys p
in_back f [] p h = absurd (false≢true h)
in_back f (w ∷ ys) p h = ap (λ b. entry_from (if b then f else Some w) ys p) (le-ltb p w.0 (leb-true w.0 p h)) ∙ sym (ap (λ b. entry_from (if b then None else Some w) ys p) (le-ltb p w.0 (leb-true w.0 p h)))

pub found_left : (k : ℕ) (ws : List (ℕ × Value)) (p : ℕ) → Ascend 0 ws → begins_by (drop k ws) p ≡ false → entry_at (take k ws) p ≡ entry_at ws p
found_left k ws p a h =
    sym (in_front (entry_at (take k ws) p) (drop k ws) p h (ascend_drop k ws a)) ∙ sym (both None (take k ws) (drop k ws) p) ∙ ap (λ l. entry_at l p) (take-append-drop k ws)

pub found_right : (k : ℕ) (ws : List (ℕ × Value)) (p : ℕ) → begins_by (drop k ws) p ≡ true → entry_at (drop k ws) p ≡ entry_at ws p
found_right k ws p h =
    sym (in_back (entry_at (take k ws) p) (drop k ws) p h) ∙ sym (both None (take k ws) (drop k ws) p) ∙ ap (λ l. entry_at l p) (take-append-drop k ws)

-- ---- at later indexes

-- behind the last index all stays
pub entry_beyond : (ws : List (ℕ × Value)) (p q : ℕ) → Ascend 0 ws → latest 0 ws ≤ p → latest 0 ws ≤ q → entry_at ws p ≡ entry_at ws q
entry_beyond ws p q a le le2 = go None 0 ws a le le2
  where
    least : (n : ℕ) (l : List (ℕ × Value)) → Ascend n l → n ≤ latest n l
    least n [] h = omega arith
    least n (w ∷ l) h = (let r = least w.0 l h.1 in let o = h.0 in omega (arith, o, r))

    go : (f : Option (ℕ × Value)) (n : ℕ) (l : List (ℕ × Value)) → Ascend n l → latest n l ≤ p → latest n l ≤ q → entry_from f l p ≡ entry_from f l q
    go f n [] h i j = refl
    go f n (w ∷ l) h i j =
        let r = least w.0 l h.1 in
        ap (λ b. entry_from (if b then f else Some w) l p) (le-ltb p w.0 (omega (arith, r, i)))
        ∙ go (Some w) w.0 l h.1 i j
        ∙ sym (ap (λ b. entry_from (if b then f else Some w) l q) (le-ltb q w.0 (omega (arith, r, j))))

-- what one more value changes
pub entry_added : (ws : List (ℕ × Value)) (n : ℕ) (v : Value) (p : ℕ) → entry_at (ws ++ (n, v) ∷ []) p ≡ (if nat_lt p n then entry_at ws p else Some (n, v))
entry_added ws n v p = both None ws ((n, v) ∷ []) p

-- the last one's index
pub latest_is : (n : ℕ) (ws : List (ℕ × Value)) (w : ℕ × Value) → slice_get ws (length ws - 1) ≡ Some w → w.0 ≡ latest n ws
latest_is n [] w h = absurd cc
latest_is n (x ∷ []) w h = ap (λ (o : Option (ℕ × Value)). index_or o) (sym h)
  where
    index_or : Option (ℕ × Value) → ℕ
    index_or None = 0
    index_or (Some y) = y.0
latest_is n (x ∷ y ∷ ws) w h = latest_is x.0 (y ∷ ws) w (ap (slice_get (y ∷ ws)) (less (length ws)) ∙ step (length ws) ∙ ap (slice_get (x ∷ y ∷ ws)) (sym (less (suc (length ws)))) ∙ h)
  where
    less : (k : ℕ) → suc k - 1 ≡ k
    less k = omega arith

    step : (k : ℕ) → slice_get (y ∷ ws) k ≡ slice_get (x ∷ y ∷ ws) (suc k)
    step k = refl
