-- Taking events, by the rows of links.
use Rattle.std.proofs.Common.{◌≡◌, ◌⊎◌, inl, inr, ◌<◌, ◌≤◌, ◌+◌, ◌-◌, ◌==◌, ◌&&◌, not, nat_lt, ℕ, zero, suc, Bool, true, false, List, [], ◌∷◌, ◌++◌, length, get_or, set, take, replicate, Some, refl, sym, ap, ◌∙◌, subst, arith, if◌then◌else◌}
use Rattle.std.proofs.lemmas.Bool.{and_from, and_parts, eqb-true, false≢true, lt-ltb, ltb-false, ltb-true, ne_eqb, cases_eq}
use Rattle.std.proofs.lemmas.List.{get_or_past, get_or-set_other, get_or-set_same, length-replicate, length-set, set_past, take_more}
use Rattle.std.specs.List.Sorted.{IsNonDecreasingBy}
use Rattle.txs_theorem_runs.specs.Told.{Place}
use Rattle.txs_theorem_serial.specs.Taken.{is_taken, taken_of}
use Rattle.txs_audit_order.specs.declared.links.Before.{Before}
use Rattle.txs_audit_order.specs.Going.{IsGone, IsTaking, none_gone, one_goes, are_taken, earlier_of, first_to_go, free_in, left_in, may_go, stands_in}

-- ---- rows

abbrev no_link : Before
no_link = record { at = 0; book = 0; earlier = 0 }

-- no link stands in the way where none at each index does
free_each : (row : List Before) (cut : List ℕ) (k : ℕ) → ((i : ℕ) → i < length row → stands_in cut k (get_or row i no_link) ≡ false) → free_in row cut k ≡ true
free_each [] cut k h = refl
free_each (x ∷ row) cut k h =
    ap (λ t. not t && free_in row cut k) (h 0 (omega arith)) ∙ free_each row cut k (λ i lt. h (suc i) (omega (arith, lt)))

-- what came before by one of the links passed is taken
taken_each : (row : List Before) (cut : List ℕ) (p i : ℕ) → are_taken cut (take p row) ≡ true → i < p → i < length row → is_taken cut (earlier_of (get_or row i no_link)) ≡ true
taken_each [] cut p i h low lt = absurd (omega (arith, lt))
taken_each (x ∷ row) cut zero i h low lt = absurd (omega (arith, low))
taken_each (x ∷ row) cut (suc p) zero h low lt = (and_parts (is_taken cut (earlier_of x)) (are_taken cut (take p row)) h).0
taken_each (x ∷ row) cut (suc p) (suc i) h low lt = taken_each row cut p i (and_parts (is_taken cut (earlier_of x)) (are_taken cut (take p row)) h).1 (omega (arith, low)) (omega (arith, lt))

taken_append : (cut : List ℕ) (xs ys : List Before) → are_taken cut xs ≡ true → are_taken cut ys ≡ true → are_taken cut (xs ++ ys) ≡ true
taken_append cut [] ys h g = g
taken_append cut (x ∷ xs) ys h g =
    let parts = and_parts (is_taken cut (earlier_of x)) (are_taken cut xs) h in
    and_from (is_taken cut (earlier_of x)) (are_taken cut (xs ++ ys)) parts.0 (taken_append cut xs ys parts.1 g)

-- one link more is passed
pub pass_more : (row : List Before) (cut : List ℕ) (p : ℕ) → p < length row → are_taken cut (take p row) ≡ true → is_taken cut (earlier_of (get_or row p no_link)) ≡ true → are_taken cut (take (p + 1) row) ≡ true
pass_more row cut p lt h t =
    subst (λ l. are_taken cut l ≡ true) (sym (take_more row p no_link lt)) (taken_append cut (take p row) (get_or row p no_link ∷ []) h (and_from (is_taken cut (earlier_of (get_or row p no_link))) true t refl))

not_standing : (cut : List ℕ) (k : ℕ) (x : Before) → is_taken cut (earlier_of x) ≡ true → stands_in cut k x ≡ false
not_standing cut k x t = ap (λ b. (x.at == k) && not b) t ∙ go (x.at == k)
  where
    go : (b : Bool) → (b && false) ≡ false
    go true = refl
    go false = refl

-- Where a link to a later event is the next that isn't passed, none stands in the way.
pub free_before : (row : List Before) (cut : List ℕ) (p k : ℕ) → p < length row → are_taken cut (take p row) ≡ true → IsNonDecreasingBy (λ (x : Before). x.at) row → k < (get_or row p no_link).at → free_in row cut k ≡ true
free_before row cut p k lt h up high = free_each row cut k (λ i low. go i low (nat_lt i p) refl)
  where
    go : (i : ℕ) → i < length row → (b : Bool) → nat_lt i p ≡ b → stands_in cut k (get_or row i no_link) ≡ false
    go i low true e = not_standing cut k (get_or row i no_link) (taken_each row cut p i h (ltb-true i p e) low)
    go i low false e =
        let far = up p i no_link (ltb-false i p e) low in
        let other : ((get_or row i no_link).at == k) ≡ false = ne_eqb (get_or row i no_link).at k (λ s. absurd (omega (arith, far, high, s))) in
        ap (λ b. b && not (is_taken cut (earlier_of (get_or row i no_link)))) other

-- Where all links are passed, none does.
pub free_past : (row : List Before) (cut : List ℕ) (p k : ℕ) → length row ≤ p → are_taken cut (take p row) ≡ true → free_in row cut k ≡ true
free_past row cut p k le h = free_each row cut k (λ i low. not_standing cut k (get_or row i no_link) (taken_each row cut p i h (omega (arith, le, low)) low))

-- ---- cuts

pub gone_many : (lengths : List ℕ) (rows : List (List Before)) {cut : List ℕ} → IsGone lengths rows cut → length cut ≡ length lengths
gone_many lengths rows none_gone = length-replicate (length lengths) 0
gone_many lengths rows (one_goes cut b g lt m) = length-set cut b (suc (taken_of cut b)) ∙ gone_many lengths rows g

-- where a book's next event may be taken it has one
pub may_there : (lengths : List ℕ) (rows : List (List Before)) (cut : List ℕ) (b : ℕ) → may_go lengths rows cut b ≡ true → get_or cut b 0 < get_or lengths b 0
may_there lengths rows cut b h = ltb-true (get_or cut b 0) (get_or lengths b 0) (and_parts (nat_lt (get_or cut b 0) (get_or lengths b 0)) (free_in (get_or rows b []) cut (get_or cut b 0)) h).0

-- there is a book of which there is an event
pub within : (lengths : List ℕ) (b k : ℕ) → k < get_or lengths b 0 → b < length lengths
within lengths b k lt = go (nat_lt b (length lengths)) refl
  where
    go : (t : Bool) → nat_lt b (length lengths) ≡ t → b < length lengths
    go true e = ltb-true b (length lengths) e
    go false e = (let past = get_or_past lengths b 0 (ltb-false b (length lengths) e) in absurd (omega (arith, lt, past)))

-- the next event of a book goes
pub goes : (lengths : List ℕ) (rows : List (List Before)) (cut : List ℕ) (b k : ℕ) → IsGone lengths rows cut → k ≡ get_or cut b 0 → k < get_or lengths b 0 → free_in (get_or rows b []) cut k ≡ true → IsGone lengths rows (set cut b (k + 1))
goes lengths rows cut b k g is lt free =
    subst (λ n. IsGone lengths rows (set cut b n)) next
    (one_goes cut b g (within lengths b k lt)
    (and_from (nat_lt (get_or cut b 0) (get_or lengths b 0)) (free_in (get_or rows b []) cut (get_or cut b 0)) (lt-ltb (get_or cut b 0) (get_or lengths b 0) (omega (arith, lt, is))) (subst (λ n. free_in (get_or rows b []) cut n ≡ true) is free)))
  where
    next : suc (get_or cut b 0) ≡ k + 1
    next = omega (arith, is)

-- what is taken stays taken
stays : (cut : List ℕ) (b k : ℕ) (p : Place) → k ≡ get_or cut b 0 → is_taken cut p ≡ true → is_taken (set cut b (k + 1)) p ≡ true
stays cut b k p is h = lt-ltb p.at (get_or (set cut b (k + 1)) p.book 0) (go (p.book == b) refl (nat_lt b (length cut)) refl)
  where
    was : p.at < get_or cut p.book 0
    was = ltb-true p.at (get_or cut p.book 0) h

    go : (t : Bool) → (p.book == b) ≡ t → (s : Bool) → nat_lt b (length cut) ≡ s → p.at < get_or (set cut b (k + 1)) p.book 0
    go true e true s =
        let same = eqb-true p.book b e in
        let here = ap (λ j. get_or (set cut b (k + 1)) j 0) same ∙ get_or-set_same cut b (k + 1) 0 (ltb-true b (length cut) s) in
        let before = ap (λ j. get_or cut j 0) same in
        omega (arith, was, here, before, is)
    go true e false s = subst (λ l. p.at < get_or l p.book 0) (sym (set_past cut b (k + 1) (ltb-false b (length cut) s))) was
    go false e s q = subst (λ n. p.at < n) (sym (get_or-set_other cut b p.book (k + 1) 0 (λ same. false≢true (sym e ∙ subst (λ j. (p.book == j) ≡ true) same (refl_eq p.book))))) was
      where
        refl_eq : (n : ℕ) → (n == n) ≡ true
        refl_eq n = grind arith

all_stay : (cut : List ℕ) (b k : ℕ) (xs : List Before) → k ≡ get_or cut b 0 → are_taken cut xs ≡ true → are_taken (set cut b (k + 1)) xs ≡ true
all_stay cut b k [] is h = refl
all_stay cut b k (x ∷ xs) is h =
    let parts = and_parts (is_taken cut (earlier_of x)) (are_taken cut xs) h in
    and_from (is_taken (set cut b (k + 1)) (earlier_of x)) (are_taken (set cut b (k + 1)) xs) (stays cut b k (earlier_of x) is parts.0) (all_stay cut b k xs is parts.1)

-- so many links of one row are passed
pub passes : (rows : List (List Before)) (cut passed : List ℕ) (b p : ℕ) → ((c : ℕ) → are_taken cut (take (get_or passed c 0) (get_or rows c [])) ≡ true) → are_taken cut (take p (get_or rows b [])) ≡ true
    → (c : ℕ) → are_taken cut (take (get_or (set passed b p) c 0) (get_or rows c [])) ≡ true
passes rows cut passed b p h here c = go (cases_eq c b) (nat_lt b (length passed)) refl
  where
    go : (c ≡ b) ⊎ (c ≡ b → ⊥) → (s : Bool) → nat_lt b (length passed) ≡ s → are_taken cut (take (get_or (set passed b p) c 0) (get_or rows c [])) ≡ true
    go (inl e) true s =
        subst (λ j. are_taken cut (take (get_or (set passed b p) j 0) (get_or rows j [])) ≡ true) (sym e)
        (subst (λ n. are_taken cut (take n (get_or rows b [])) ≡ true) (sym (get_or-set_same passed b p 0 (ltb-true b (length passed) s))) here)
    go (inl e) false s = subst (λ l. are_taken cut (take (get_or l c 0) (get_or rows c [])) ≡ true) (sym (set_past passed b p (ltb-false b (length passed) s))) (h c)
    go (inr ne) t s = subst (λ n. are_taken cut (take n (get_or rows c [])) ≡ true) (sym (get_or-set_other passed b c p 0 ne)) (h c)

-- a book's next event is taken
pub takes : (lengths : List ℕ) (rows : List (List Before)) (cut passed : List ℕ) (b k p : ℕ) → IsTaking lengths rows cut passed → k ≡ get_or cut b 0 → k < get_or lengths b 0 → free_in (get_or rows b []) cut k ≡ true
    → are_taken cut (take p (get_or rows b [])) ≡ true → IsTaking lengths rows (set cut b (k + 1)) (set passed b p)
takes lengths rows cut passed b k p h is lt free here = record {
  gone = goes lengths rows cut b k h.gone is lt free;
  many = length-set passed b p ∙ h.many;
  past = λ c. all_stay cut b k (take (get_or (set passed b p) c 0) (get_or rows c [])) is (passes rows cut passed b p h.past here c);
}

abbrev zeros : ℕ → List ℕ
zeros n = replicate n 0

zero_each : (n b : ℕ) → get_or (zeros n) b 0 ≡ 0
zero_each zero b = refl
zero_each (suc n) zero = refl
zero_each (suc n) (suc b) = zero_each n b

-- nothing is taken, and no link passed
pub none_taken : (lengths : List ℕ) (rows : List (List Before)) (cut passed : List ℕ) → cut ≡ replicate (length lengths) 0 → passed ≡ replicate (length lengths) 0 → IsTaking lengths rows cut passed
none_taken lengths rows cut passed is also = record {
  gone = subst (IsGone lengths rows) (sym is) none_gone;
  many = ap length also ∙ length-replicate (length lengths) 0;
  past = λ b. ap (λ n. are_taken cut (take n (get_or rows b []))) (ap (λ l. get_or l b 0) also ∙ zero_each (length lengths) b);
}

-- ---- the first book whose next event may be taken

pub first_is : (lengths : List ℕ) (rows : List (List Before)) (cut : List ℕ) (b n k : ℕ) → first_to_go lengths rows cut b n ≡ Some k → may_go lengths rows cut k ≡ true
first_is lengths rows cut b zero k h = absurd (cc)
first_is lengths rows cut b (suc n) k h = go (first_is lengths rows cut (suc b) n k) (may_go lengths rows cut b) refl h
  where
    go : (first_to_go lengths rows cut (suc b) n ≡ Some k → may_go lengths rows cut k ≡ true) → (t : Bool) → may_go lengths rows cut b ≡ t → (if t then Some b else first_to_go lengths rows cut (suc b) n) ≡ Some k → may_go lengths rows cut k ≡ true
    go rest true e q = (let same : b ≡ k = cc in subst (λ j. may_go lengths rows cut j ≡ true) same e)
    go rest false e q = rest q

-- one book more is looked at
pub first_more : (lengths : List ℕ) (rows : List (List Before)) (cut : List ℕ) (b n : ℕ) → b < n → may_go lengths rows cut b ≡ false → first_to_go lengths rows cut (b + 1) (n - (b + 1)) ≡ first_to_go lengths rows cut b (n - b)
first_more lengths rows cut b n lt h =
    ap (λ j. first_to_go lengths rows cut j (n - (b + 1))) one
    ∙ sym (ap (first_to_go lengths rows cut b) more ∙ ap (λ t. if t then Some b else first_to_go lengths rows cut (suc b) (n - (b + 1))) h)
  where
    one : b + 1 ≡ suc b
    one = omega arith

    more : n - b ≡ suc (n - (b + 1))
    more = omega (arith, lt)

-- ---- how many events are left

pub fewer : (lengths cut : List ℕ) (b k : ℕ) → b < length cut → k ≡ get_or cut b 0 → k < get_or lengths b 0 → left_in lengths (set cut b (k + 1)) < left_in lengths cut
fewer [] cut b k low is lt = absurd (omega (arith, lt))
fewer (n ∷ ns) [] b k low is lt = absurd (omega (arith, low))
fewer (n ∷ ns) (c ∷ cut) zero k low is lt = omega (arith, is, lt)
fewer (n ∷ ns) (c ∷ cut) (suc b) k low is lt = (let rest = fewer ns cut b k (omega (arith, low)) is lt in omega (arith, rest))

-- where a book's next event may be taken no link stands in its way
pub free_there : (lengths : List ℕ) (rows : List (List Before)) (cut : List ℕ) (b k : ℕ) → may_go lengths rows cut b ≡ true → k ≡ get_or cut b 0 → free_in (get_or rows b []) cut k ≡ true
free_there lengths rows cut b k h is =
    subst (λ n. free_in (get_or rows b []) cut n ≡ true) (sym is) (and_parts (nat_lt (get_or cut b 0) (get_or lengths b 0)) (free_in (get_or rows b []) cut (get_or cut b 0)) h).1
