-- What a commit writes, by one walk over what was set and what was commuted, and whether the two are apart, by another.
use Rattle.std.proofs.Common.{◌≡◌, ◌≢◌, ◌≤◌, ◌<◌, ◌+◌, ℕ, zero, suc, Bool, true, false, not, ◌&&◌, ◌||◌, ◌==◌, List, [], ◌∷◌, ◌++◌, length, take, drop, get_or, refl, sym, ap, ◌∙◌, subst, arith, append_assoc, if◌then◌else◌}
use Rattle.std.specs.Prelude.{nat_lt, nat_le}
use Rattle.std.proofs.lemmas.Bool.{false≢true, ltb-true, ltb-false, eqb-true}
use Rattle.txs_world_protocol.specs.Ask.{Writes, with_write}
use Rattle.txs_value_data.specs.declared.value.CellId.{CellId}
use Rattle.txs_value_data.specs.declared.value.Value.{Value}
use Rattle.txs_world_book.specs.Book.{has_ref, cells_in, are_refs}
use Rattle.txs_world.specs.Places.{place_of, Ascend, is_first}
use Rattle.txs_world.specs.Store.{is_among, are_apart, merged}
use Rattle.txs_world_book.specs.declared.cell.StoreCell.{StoreCell}
use Rattle.txs_world_book.proofs.Growth.{neither}
use Rattle.txs_world_book.proofs.Outcomes.{both}
use Rattle.txs_world.proofs.Merging.{true_le, tested, eqb_no, ltb_no}

-- refs that ascend, as what is written
pub ascend_refs : (cells : List StoreCell) (n : ℕ) (ws : Writes) → are_refs cells n (cells_in ws) ≡ true → Ascend n ws
ascend_refs cells n [] h = tt
ascend_refs cells n (w ∷ ws) h =
    let a = both (has_ref cells w.0) (nat_le n w.0.number && are_refs cells (suc w.0.number) (cells_in ws)) h in
    let b = both (nat_le n w.0.number) (are_refs cells (suc w.0.number) (cells_in ws)) a.1 in
    (true_le n w.0.number b.0, ascend_refs cells (suc w.0.number) ws b.1)

pub ascend_low : (m n : ℕ) (ws : Writes) → m ≤ n → Ascend n ws → Ascend m ws
ascend_low m n [] le h = tt
ascend_low m n (w ∷ ws) le h = (let low = h.0 in omega (arith, le, low), h.1)

pub ascend_drop : (n k : ℕ) (ws : Writes) → Ascend n ws → Ascend 0 (drop k ws)
ascend_drop n zero [] h = tt
ascend_drop n zero (w ∷ ws) h = ascend_low 0 n (w ∷ ws) (omega arith) h
ascend_drop n (suc k) [] h = tt
ascend_drop n (suc k) (w ∷ ws) h = ascend_drop (suc w.0.number) k ws h.1

-- ---- the walk that puts them together

-- of what was commuted, what stands before each that was set, and what is left at the end
abbrev pub zipped : Writes → Writes → Writes
zipped [] xs = xs
zipped (w ∷ ws) xs = take (place_of w.0.number xs) xs ++ w ∷ zipped ws (drop (place_of w.0.number xs) xs)

place_zero : (n m : ℕ) (xs : Writes) → n ≤ m → Ascend m xs → place_of n xs ≡ 0
place_zero n m [] le h = refl
place_zero n m (x ∷ xs) le h = let low = h.0 in ap (λ t. if t then suc (place_of n xs) else 0) (ltb_no x.0.number n (omega (arith, le, low)))

zip_at : (w : CellId × Value) (ws xs : Writes) → take 0 xs ++ w ∷ zipped ws (drop 0 xs) ≡ w ∷ zipped ws xs
zip_at w ws [] = refl
zip_at w ws (x ∷ xs) = refl

zip_first : (w : CellId × Value) (ws xs : Writes) → place_of w.0.number xs ≡ 0 → zipped (w ∷ ws) xs ≡ w ∷ zipped ws xs
zip_first w ws xs e = ap (λ k. take k xs ++ w ∷ zipped ws (drop k xs)) e ∙ zip_at w ws xs

zip_none : (ws : Writes) → zipped ws [] ≡ ws
zip_none [] = refl
zip_none (w ∷ ws) = ap (λ l. w ∷ l) (zip_none ws)

-- what comes next of what was commuted is put in its place first, or in the walk
zip_with : (ws : Writes) (c : CellId) (v : Value) (xs : Writes) → Ascend (suc c.number) xs → is_among c.number (cells_in ws) ≡ false → zipped (with_write ws c v) xs ≡ zipped ws ((c, v) ∷ xs)
zip_with [] c v xs up off = zip_first (c, v) [] xs (place_zero c.number (suc c.number) xs (omega arith) up)
zip_with (w ∷ ws) c v xs up off = go (zip_with ws c v xs up) (w.0.number == c.number) refl (nat_lt c.number w.0.number) refl
  where
    n : (w.0.number == c.number ≡ false) × (is_among c.number (cells_in ws) ≡ false)
    n = neither (w.0.number == c.number) (is_among c.number (cells_in ws)) off

    go : (is_among c.number (cells_in ws) ≡ false → zipped (with_write ws c v) xs ≡ zipped ws ((c, v) ∷ xs)) → (s : Bool) → (w.0.number == c.number) ≡ s → (t : Bool) → nat_lt c.number w.0.number ≡ t → zipped (with_write (w ∷ ws) c v) xs ≡ zipped (w ∷ ws) ((c, v) ∷ xs)
    go r true e t f = absurd (false≢true (sym n.0 ∙ e))
    go r false e true f =
        ap (λ l. zipped l xs) (tested ws w c v false true e f)
        ∙ zip_first (c, v) (w ∷ ws) xs (place_zero c.number (suc c.number) xs (omega arith) up)
        ∙ sym (ap (λ t. take (if t then suc (place_of w.0.number xs) else 0) ((c, v) ∷ xs) ++ w ∷ zipped ws (drop (if t then suc (place_of w.0.number xs) else 0) ((c, v) ∷ xs))) f)
    go r false e false f =
        let low : w.0.number ≤ c.number = ltb-false c.number w.0.number f in
        ap (λ l. zipped l xs) (tested ws w c v false false e f)
        ∙ zip_first w (with_write ws c v) xs (place_zero w.0.number (suc c.number) xs (omega (arith, low)) up)
        ∙ ap (λ l. w ∷ l) (r n.1)
        ∙ sym (zip_first w ws ((c, v) ∷ xs) (ap (λ t. if t then suc (place_of w.0.number xs) else 0) f))

or_none : (b : Bool) → (b || false) ≡ b
or_none true = refl
or_none false = refl

among_with : (ws : Writes) (c : CellId) (v : Value) (k : ℕ) → c.number ≢ k → is_among k (cells_in (with_write ws c v)) ≡ is_among k (cells_in ws)
among_with [] c v k other = ap (λ b. b || false) (eqb_no c.number k other)
among_with (w ∷ ws) c v k other = go (among_with ws c v k other) (w.0.number == c.number) refl (nat_lt c.number w.0.number) refl
  where
    no : (c.number == k) ≡ false
    no = eqb_no c.number k other

    go : is_among k (cells_in (with_write ws c v)) ≡ is_among k (cells_in ws) → (s : Bool) → (w.0.number == c.number) ≡ s → (t : Bool) → nat_lt c.number w.0.number ≡ t → is_among k (cells_in (with_write (w ∷ ws) c v)) ≡ (w.0.number == k || is_among k (cells_in ws))
    go r true e t f =
        let same : w.0.number ≡ c.number = eqb-true w.0.number c.number e in
        ap (λ l. is_among k (cells_in l)) (tested ws w c v true t e f) ∙ ap (λ i. i == k || is_among k (cells_in ws)) (sym same)
    go r false e true f = ap (λ l. is_among k (cells_in l)) (tested ws w c v false true e f) ∙ ap (λ b. b || (w.0.number == k || is_among k (cells_in ws))) no
    go r false e false f = ap (λ l. is_among k (cells_in l)) (tested ws w c v false false e f) ∙ ap (λ b. w.0.number == k || b) r

apart_with : (xs ws : Writes) (c : CellId) (v : Value) (n : ℕ) → c.number < n → Ascend n xs → are_apart (cells_in xs) (cells_in (with_write ws c v)) ≡ are_apart (cells_in xs) (cells_in ws)
apart_with [] ws c v n lt up = refl
apart_with (x ∷ xs) ws c v n lt up =
    let low = up.0 in
    let off : c.number ≢ x.0.number = λ q. absurd (omega (arith, lt, low, q)) in
    ap (λ b. not b && are_apart (cells_in xs) (cells_in (with_write ws c v))) (among_with ws c v x.0.number off)
    ∙ ap (λ b. not (is_among x.0.number (cells_in ws)) && b) (apart_with xs ws c v (suc x.0.number) (omega (arith, lt, low)) up.1)

not_true : (b : Bool) → not b ≡ true → b ≡ false
not_true true h = absurd (false≢true h)
not_true false h = refl

-- the walk gives what a commit writes
pub merged_zips : (ws xs : Writes) (n : ℕ) → Ascend n xs → are_apart (cells_in xs) (cells_in ws) ≡ true → merged ws xs ≡ zipped ws xs
merged_zips ws [] n up off = sym (zip_none ws)
merged_zips ws (x ∷ xs) n up off =
    let m = both (not (is_among x.0.number (cells_in ws))) (are_apart (cells_in xs) (cells_in ws)) off in
    merged_zips (with_write ws x.0 x.1) xs (suc x.0.number) up.1 (apart_with xs ws x.0 x.1 (suc x.0.number) (omega arith) up.1 ∙ m.1)
    ∙ zip_with ws x.0 x.1 xs up.1 (not_true (is_among x.0.number (cells_in ws)) m.0)

pub drop_write : (ws : Writes) (i : ℕ) (w : CellId × Value) → i < length ws → w ≡ get_or ws i w → drop i ws ≡ w ∷ drop (i + 1) ws
drop_write ws i w lt e = go ws i lt e ∙ ap (λ k. w ∷ drop k ws) next
  where
    next : suc i ≡ i + 1
    next = omega arith

    go : (xs : Writes) (j : ℕ) → j < length xs → w ≡ get_or xs j w → drop j xs ≡ w ∷ drop (suc j) xs
    go [] j l f = absurd (omega (arith, l))
    go (x ∷ xs) zero l f = ap (λ y. y ∷ xs) (sym f)
    go (x ∷ xs) (suc j) l f = go xs j (omega (arith, l)) f

-- one step of the walk
pub zip_next : (sets : Writes) (i : ℕ) (w : CellId × Value) (built rest whole : Writes) → i < length sets → w ≡ get_or sets i w → built ++ zipped (drop i sets) rest ≡ whole
    → ((built ++ take (place_of w.0.number rest) rest) ++ w ∷ []) ++ zipped (drop (i + 1) sets) (drop (place_of w.0.number rest) rest) ≡ whole
zip_next sets i w built rest whole lt e h =
    let p = place_of w.0.number rest in
    let more = zipped (drop (i + 1) sets) (drop p rest) in
    append_assoc (built ++ take p rest) (w ∷ []) more
    ∙ append_assoc built (take p rest) (w ∷ more)
    ∙ ap (λ l. built ++ zipped l rest) (sym (drop_write sets i w lt e))
    ∙ h

drop_past : (ws : Writes) (i : ℕ) → length ws ≤ i → drop i ws ≡ []
drop_past [] zero le = refl
drop_past [] (suc i) le = refl
drop_past (w ∷ ws) zero le = absurd (omega (arith, le))
drop_past (w ∷ ws) (suc i) le = drop_past ws i (omega (arith, le))

-- its end
pub zip_last : (sets : Writes) (i : ℕ) (built rest whole : Writes) → length sets ≤ i → built ++ zipped (drop i sets) rest ≡ whole → built ++ rest ≡ whole
zip_last sets i built rest whole le h = ap (λ l. built ++ zipped l rest) (sym (drop_past sets i le)) ∙ h

-- ---- the walk that finds whether they are apart

-- what has a lesser number is none of those from a number on
among_rest : (n k : ℕ) (ws : Writes) → n ≤ k → is_among k (cells_in (drop (place_of n ws) ws)) ≡ is_among k (cells_in ws)
among_rest n k [] le = refl
among_rest n k (w ∷ ws) le = go (among_rest n k ws le) (nat_lt w.0.number n) refl
  where
    go : is_among k (cells_in (drop (place_of n ws) ws)) ≡ is_among k (cells_in ws) → (t : Bool) → nat_lt w.0.number n ≡ t → is_among k (cells_in (drop (if t then suc (place_of n ws) else 0) (w ∷ ws))) ≡ (w.0.number == k || is_among k (cells_in ws))
    go r true e =
        let less : w.0.number < n = ltb-true w.0.number n e in
        r ∙ sym (ap (λ b. b || is_among k (cells_in ws)) (eqb_no w.0.number k (λ q. absurd (omega (arith, less, le, q)))))
    go r false e = refl

among_none : (k n : ℕ) (ws : Writes) → k < n → Ascend n ws → is_among k (cells_in ws) ≡ false
among_none k n [] lt h = refl
among_none k n (w ∷ ws) lt h =
    let low = h.0 in
    ap (λ b. b || is_among k (cells_in ws)) (eqb_no w.0.number k (λ q. absurd (omega (arith, lt, low, q)))) ∙ among_none k (suc w.0.number) ws (omega (arith, lt, low)) h.1

-- among those that ascend, the first that has no lesser number is the one, or none is
first_among : (n m : ℕ) (ws : Writes) → Ascend m ws → is_among n (cells_in (drop (place_of n ws) ws)) ≡ is_first n (drop (place_of n ws) ws)
first_among n m [] h = refl
first_among n m (w ∷ ws) h = go (first_among n (suc w.0.number) ws h.1) (nat_lt w.0.number n) refl
  where
    go : is_among n (cells_in (drop (place_of n ws) ws)) ≡ is_first n (drop (place_of n ws) ws) → (t : Bool) → nat_lt w.0.number n ≡ t → is_among n (cells_in (drop (if t then suc (place_of n ws) else 0) (w ∷ ws))) ≡ is_first n (drop (if t then suc (place_of n ws) else 0) (w ∷ ws))
    go r true e = r
    go r false e =
        let low : n ≤ w.0.number = ltb-false w.0.number n e in
        ap (λ b. w.0.number == n || b) (among_none n (suc w.0.number) ws (omega (arith, low)) h.1) ∙ or_none (w.0.number == n)

apart_rest : (xs : Writes) (m n : ℕ) (ws : Writes) → n ≤ m → Ascend m xs → are_apart (cells_in xs) (cells_in (drop (place_of n ws) ws)) ≡ are_apart (cells_in xs) (cells_in ws)
apart_rest [] m n ws le up = refl
apart_rest (x ∷ xs) m n ws le up =
    let low = up.0 in
    ap (λ b. not b && are_apart (cells_in xs) (cells_in (drop (place_of n ws) ws))) (among_rest n x.0.number ws (omega (arith, le, low)))
    ∙ ap (λ b. not (is_among x.0.number (cells_in ws)) && b) (apart_rest xs (suc x.0.number) n ws (omega (arith, le, low)) up.1)

-- how far the walk is
pub record Walks (commuted sets rest whole : Writes) (i : ℕ) : Type 0 where
  pub up : Ascend 0 (drop i commuted)
  pub low : Ascend 0 rest
  pub same : are_apart (cells_in (drop i commuted)) (cells_in rest) ≡ are_apart (cells_in whole) (cells_in sets)

-- what the walk tells at its next step
apart_step : (commuted rest : Writes) (i : ℕ) (w : CellId × Value) → i < length commuted → w ≡ get_or commuted i w → Ascend 0 (drop i commuted) → Ascend 0 rest
    → are_apart (cells_in (drop i commuted)) (cells_in rest) ≡ (not (is_first w.0.number (drop (place_of w.0.number rest) rest)) && are_apart (cells_in (drop (i + 1) commuted)) (cells_in (drop (place_of w.0.number rest) rest)))
apart_step commuted rest i w lt e up low =
    let there = drop_write commuted i w lt e in
    let n = w.0.number in
    let more = drop (i + 1) commuted in
    let rises : Ascend 0 (w ∷ more) = subst (Ascend 0) there up in
    ap (λ l. are_apart (cells_in l) (cells_in rest)) there
    ∙ ap (λ b. not b && are_apart (cells_in more) (cells_in rest)) (sym (among_rest n n rest (omega arith)) ∙ first_among n 0 rest low)
    ∙ ap (λ b. not (is_first n (drop (place_of n rest) rest)) && b) (sym (apart_rest more (suc n) n rest (omega arith) rises.1))

-- a ref of both
pub apart_found : (commuted sets rest whole : Writes) (i : ℕ) (w : CellId × Value) → i < length commuted → w ≡ get_or commuted i w → Walks commuted sets rest whole i → is_first w.0.number (drop (place_of w.0.number rest) rest) ≡ true
    → are_apart (cells_in whole) (cells_in sets) ≡ false
apart_found commuted sets rest whole i w lt e h found =
    sym h.same ∙ apart_step commuted rest i w lt e h.up h.low ∙ ap (λ b. not b && are_apart (cells_in (drop (i + 1) commuted)) (cells_in (drop (place_of w.0.number rest) rest))) found

-- the next one
pub apart_next : (commuted sets rest whole : Writes) (i : ℕ) (w : CellId × Value) → i < length commuted → w ≡ get_or commuted i w → Walks commuted sets rest whole i → is_first w.0.number (drop (place_of w.0.number rest) rest) ≡ false
    → Walks commuted sets (drop (place_of w.0.number rest) rest) whole (i + 1)
apart_next commuted sets rest whole i w lt e h off =
    record {
      up = let rises : Ascend 0 (w ∷ drop (i + 1) commuted) = subst (Ascend 0) (drop_write commuted i w lt e) h.up in ascend_low 0 (suc w.0.number) (drop (i + 1) commuted) (omega arith) rises.1;
      low = ascend_drop 0 (place_of w.0.number rest) rest h.low;
      same = sym (sym h.same ∙ apart_step commuted rest i w lt e h.up h.low ∙ ap (λ b. not b && are_apart (cells_in (drop (i + 1) commuted)) (cells_in (drop (place_of w.0.number rest) rest))) off);
    }
