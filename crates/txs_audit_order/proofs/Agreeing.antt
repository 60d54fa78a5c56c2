-- What rows of links say is what the links say.
use Rattle.std.proofs.Common.{◌≡◌, ◌<◌, ◌≤◌, ◌+◌, ◌==◌, ◌&&◌, ◌||◌, not, nat_le, nat_lt, ℕ, zero, suc, Bool, true, false, List, [], ◌∷◌, length, get_or, replicate, Option, Some, None, refl, sym, ap, ◌∙◌, subst, arith, if◌then◌else◌}
use Rattle.std.proofs.lemmas.Bool.{and_parts, false≢true, leb-false, leb-true, ltb-false, not-true}
use Rattle.std.proofs.lemmas.List.Elements.{All-cons, All-contains, All-head, All-nil, All-tail}
use Rattle.std.proofs.lemmas.List.Sorted.{All-permutation, Contains-permutation, IsPermutation-sym}
use Rattle.std.specs.List.{All, Contains}
use Rattle.std.specs.List.Sorted.{IsPermutation}
use Rattle.txs_value_data.specs.Places.{nth}
use Rattle.txs_world_protocol.specs.declared.event.Event.{Event}
use Rattle.txs_theorem_serial.specs.Order.{Link}
use Rattle.txs_theorem_serial.specs.Taken.{AreWithin, IsReached, none_taken, one_more, first_free, first_left, is_free, is_taken, lesser, may_take, taken_of, waits_for}
use Rattle.txs_audit_order.specs.declared.left.Wait.{Wait}
use Rattle.txs_audit_order.specs.declared.links.Before.{Before}
use Rattle.txs_audit_order.specs.Going.{IsGone, none_gone, one_goes, earlier_of, first_to_go, free_in, may_go, stands_in}
use Rattle.txs_audit_order.specs.Linked.{AreLengths, AreLinks, before_of, row_of}
use Rattle.txs_audit_order.specs.Waiting.{IsWait, left_from}

-- ---- whether an event may be taken

not_or : (a t : Bool) → not (a && not t) ≡ (not a || t)
not_or true true = refl
not_or true false = refl
not_or false t = refl

-- by the links to events of its book
free_row : (ls : List Link) (cut : List ℕ) (b k : ℕ) → free_in (row_of b ls) cut k ≡ is_free ls cut b k
free_row [] cut b k = refl
free_row (l ∷ ls) cut b k = go (free_row ls cut b k) (l.later.book == b)
  where
    go : free_in (row_of b ls) cut k ≡ is_free ls cut b k → (t : Bool)
        → free_in (if t then before_of l ∷ row_of b ls else row_of b ls) cut k ≡ ((not (t && l.later.at == k) || is_taken cut l.earlier) && is_free ls cut b k)
    go rest true = ap (λ r. not (l.later.at == k && not (is_taken cut l.earlier)) && r) rest ∙ ap (λ t. t && is_free ls cut b k) (not_or (l.later.at == k) (is_taken cut l.earlier))
    go rest false = rest

free_all : (row : List Before) (cut : List ℕ) (k : ℕ) → free_in row cut k ≡ true → All (λ (x : Before). stands_in cut k x ≡ false) row
free_all [] cut k h = All-nil (λ (x : Before). stands_in cut k x ≡ false)
free_all (x ∷ row) cut k h =
    let parts = and_parts (not (stands_in cut k x)) (free_in row cut k) h in
    All-cons (λ (y : Before). stands_in cut k y ≡ false) x row (not-true (stands_in cut k x) parts.0) (free_all row cut k parts.1)

pub all_free : (row : List Before) (cut : List ℕ) (k : ℕ) → All (λ (x : Before). stands_in cut k x ≡ false) row → free_in row cut k ≡ true
all_free [] cut k h = refl
all_free (x ∷ row) cut k h =
    ap (λ t. not t && free_in row cut k) (All-head (λ (y : Before). stands_in cut k y ≡ false) x row h)
    ∙ all_free row cut k (All-tail (λ (y : Before). stands_in cut k y ≡ false) x row h)

pub agree : (a b : Bool) → (a ≡ true → b ≡ true) → (b ≡ true → a ≡ true) → a ≡ b
agree true true f g = refl
agree true false f g = sym (f refl)
agree false true f g = g refl
agree false false f g = refl

-- in any order
free_moved : (row other : List Before) (cut : List ℕ) (k : ℕ) → IsPermutation row other → free_in other cut k ≡ free_in row cut k
free_moved row other cut k p =
    agree (free_in other cut k) (free_in row cut k)
    (λ h. all_free row cut k (All-permutation (λ (x : Before). stands_in cut k x ≡ false) other row (IsPermutation-sym row other p) (free_all other cut k h)))
    (λ h. all_free other cut k (All-permutation (λ (x : Before). stands_in cut k x ≡ false) row other p (free_all row cut k h)))

-- by the rows of n books
pub same_free : (ls : List Link) (n : ℕ) (rows : List (List Before)) (cut : List ℕ) (b k : ℕ) → AreLinks ls n rows → b < n → free_in (get_or rows b []) cut k ≡ is_free ls cut b k
same_free ls n rows cut b k h lt = free_moved (row_of b ls) (get_or rows b []) cut k (h.each b lt).same ∙ free_row ls cut b k

pub same_may : (books : ℕ → List Event) (ls : List Link) (n : ℕ) (lengths : List ℕ) (rows : List (List Before)) (cut : List ℕ) (b : ℕ) → AreLengths books n lengths → AreLinks ls n rows → b < n → may_go lengths rows cut b ≡ may_take books ls cut b
same_may books ls n lengths rows cut b size h lt =
    ap (λ m. nat_lt (taken_of cut b) m && free_in (get_or rows b []) cut (taken_of cut b)) (size.each b lt)
    ∙ ap (λ t. nat_lt (taken_of cut b) (length (books b)) && t) (same_free ls n rows cut b (taken_of cut b) h lt)

-- a cut that the code comes to is come to by taking events
pub is_reached : (books : ℕ → List Event) (ls : List Link) (n : ℕ) (lengths : List ℕ) (rows : List (List Before)) {cut : List ℕ} → AreLengths books n lengths → AreLinks ls n rows → IsGone lengths rows cut → IsReached books ls n cut
is_reached books ls n lengths rows size h none_gone = subst (λ m. IsReached books ls n (replicate m 0)) (sym size.many) none_taken
is_reached books ls n lengths rows size h (one_goes cut b g lt may) =
    let many = size.many in
    let low : b < n = omega (arith, lt, many) in
    one_more cut b (is_reached books ls n lengths rows size h g) low (sym (same_may books ls n lengths rows cut b size h low) ∙ may)

-- the first book whose next event may be taken
pub same_first : (books : ℕ → List Event) (ls : List Link) (n : ℕ) (lengths : List ℕ) (rows : List (List Before)) (cut : List ℕ) (b m : ℕ) → AreLengths books n lengths → AreLinks ls n rows → b + m ≤ n → first_to_go lengths rows cut b m ≡ first_free books ls cut b m
same_first books ls n lengths rows cut b zero size h le = refl
same_first books ls n lengths rows cut b (suc m) size h le =
    ap (λ t. if t then Some b else first_to_go lengths rows cut (suc b) m) (same_may books ls n lengths rows cut b size h (omega (arith, le)))
    ∙ ap (λ o. if may_take books ls cut b then Some b else o) (same_first books ls n lengths rows cut (suc b) m size h (omega (arith, le)))

-- the first book of which an event is left
pub same_left : (books : ℕ → List Event) (n : ℕ) (lengths cut : List ℕ) (b m : ℕ) → AreLengths books n lengths → b + m ≤ n → left_from lengths cut b m ≡ first_left books cut b m
same_left books n lengths cut b zero size le = refl
same_left books n lengths cut b (suc m) size le =
    ap (λ l. if nat_lt (taken_of cut b) l then Some b else left_from lengths cut (suc b) m) (size.each b (omega (arith, le)))
    ∙ ap (λ o. if nat_lt (taken_of cut b) (length (books b)) then Some b else o) (same_left books n lengths cut (suc b) m size (omega (arith, le)))

-- ---- what an event waits for

-- the first book that the links of a row wait for
abbrev pub least_in : List Before → List ℕ → ℕ → Option ℕ
least_in [] cut k = None
least_in (x ∷ row) cut k = if stands_in cut k x then Some (lesser x.book (least_in row cut k)) else least_in row cut k

pub least_row : (ls : List Link) (cut : List ℕ) (b k : ℕ) → least_in (row_of b ls) cut k ≡ waits_for ls cut b k
least_row [] cut b k = refl
least_row (l ∷ ls) cut b k = go (least_row ls cut b k) (l.later.book == b)
  where
    go : least_in (row_of b ls) cut k ≡ waits_for ls cut b k → (t : Bool)
        → least_in (if t then before_of l ∷ row_of b ls else row_of b ls) cut k ≡ (if t && l.later.at == k && not (is_taken cut l.earlier) then Some (lesser l.earlier.book (waits_for ls cut b k)) else waits_for ls cut b k)
    go rest true = ap (λ o. if l.later.at == k && not (is_taken cut l.earlier) then Some (lesser l.earlier.book o) else o) rest
    go rest false = rest

-- a book is the first that they wait for, or they wait for none
abbrev IsLeast : List Before → List ℕ → ℕ → Option ℕ → Type 0
IsLeast row cut k None = All (λ (x : Before). stands_in cut k x ≡ false) row
IsLeast row cut k (Some m) = ((x : Before) × Contains row x × (stands_in cut k x ≡ true) × (x.book ≡ m)) × All (λ (x : Before). stands_in cut k x ≡ true → m ≤ x.book) row

there_later : (row : List Before) (y x : Before) → Contains row x → Contains (y ∷ row) x
there_later row y x h = (suc h.0, (let lt = h.1 in omega (arith, lt)), h.2)

least_found : (row : List Before) (cut : List ℕ) (k : ℕ) (x : Before) (o : Option ℕ) → IsLeast row cut k o → (t : Bool) → stands_in cut k x ≡ t → IsLeast (x ∷ row) cut k (if t then Some (lesser x.book o) else o)
least_found row cut k x None h true e = (
  (x, (0, (omega arith), refl), e, refl),
  All-cons (λ (y : Before). stands_in cut k y ≡ true → x.book ≤ y.book) x row (λ s. omega arith) (λ i d lt s. absurd (false≢true (sym (h i d lt) ∙ s))),
)
least_found row cut k x None h false e = All-cons (λ (y : Before). stands_in cut k y ≡ false) x row e h
least_found row cut k x (Some m) h false e = (
  (h.0.0, there_later row x h.0.0 h.0.1, h.0.2, h.0.3),
  All-cons (λ (y : Before). stands_in cut k y ≡ true → m ≤ y.book) x row (λ s. absurd (false≢true (sym e ∙ s))) h.1,
)
least_found row cut k x (Some m) h true e = go (nat_le x.book m) refl
  where
    go : (t : Bool) → nat_le x.book m ≡ t → IsLeast (x ∷ row) cut k (Some (if t then x.book else m))
    go true q = (
      (x, (0, (omega arith), refl), e, refl),
      All-cons (λ (y : Before). stands_in cut k y ≡ true → x.book ≤ y.book) x row (λ s. omega arith) (λ i d lt s. (let near = leb-true x.book m q in let far = h.1 i d lt s in omega (arith, near, far))),
    )
    go false q = (
      (h.0.0, there_later row x h.0.0 h.0.1, h.0.2, h.0.3),
      All-cons (λ (y : Before). stands_in cut k y ≡ true → m ≤ y.book) x row (λ s. (let low = leb-false x.book m q in omega (arith, low))) h.1,
    )

least_is : (row : List Before) (cut : List ℕ) (k : ℕ) → IsLeast row cut k (least_in row cut k)
least_is [] cut k = All-nil (λ (x : Before). stands_in cut k x ≡ false)
least_is (x ∷ row) cut k = least_found row cut k x (least_in row cut k) (least_is row cut k) (stands_in cut k x) refl

-- there is one such book
least_one : (row : List Before) (cut : List ℕ) (k : ℕ) (o p : Option ℕ) → IsLeast row cut k o → IsLeast row cut k p → o ≡ p
least_one row cut k None None h g = refl
least_one row cut k None (Some m) h g = absurd (false≢true (sym (All-contains (λ (x : Before). stands_in cut k x ≡ false) row g.0.0 h g.0.1) ∙ g.0.2))
least_one row cut k (Some m) None h g = absurd (false≢true (sym (All-contains (λ (x : Before). stands_in cut k x ≡ false) row h.0.0 g h.0.1) ∙ h.0.2))
least_one row cut k (Some m) (Some n) h g =
    let low = All-contains (λ (x : Before). stands_in cut k x ≡ true → m ≤ x.book) row g.0.0 h.1 g.0.1 g.0.2 in
    let high = All-contains (λ (x : Before). stands_in cut k x ≡ true → n ≤ x.book) row h.0.0 g.1 h.0.1 h.0.2 in
    let one = g.0.3 in
    let two = h.0.3 in
    let same : m ≡ n = omega (arith, low, high, one, two) in
    ap Some same

-- the first book that is waited for
abbrev pub first_of : Option Wait → Option ℕ
first_of None = None
first_of (Some w) = Some w.first

-- in any order
wait_moved : (row other : List Before) (cut : List ℕ) (k : ℕ) (o : Option Wait) → IsPermutation row other → IsWait other cut k o → IsLeast row cut k (first_of o)
wait_moved row other cut k None p h = All-permutation (λ (x : Before). stands_in cut k x ≡ false) other row (IsPermutation-sym row other p) h
wait_moved row other cut k (Some w) p h = (
  (h.there.0, Contains-permutation other row h.there.0 (IsPermutation-sym row other p) h.there.1, h.there.2, h.there.3),
  All-permutation (λ (x : Before). stands_in cut k x ≡ true → w.first ≤ x.book) other row (IsPermutation-sym row other p) h.least,
)

pub same_wait : (ls : List Link) (n : ℕ) (rows : List (List Before)) (cut : List ℕ) (b k : ℕ) (o : Option Wait) → AreLinks ls n rows → b < n → IsWait (get_or rows b []) cut k o → waits_for ls cut b k ≡ first_of o
same_wait ls n rows cut b k o h lt w =
    sym (least_row ls cut b k) ∙ least_one (row_of b ls) cut k (least_in (row_of b ls) cut k) (first_of o) (least_is (row_of b ls) cut k) (wait_moved (row_of b ls) (get_or rows b []) cut k o (h.each b lt).same w)

-- ---- links of rows

-- a link of a row is one of the links
pub from_row : (ls : List Link) (b : ℕ) (x : Before) → Contains (row_of b ls) x → (i : ℕ) × (l : Link) × (nth ls i ≡ Some l) × (x ≡ before_of l)
from_row [] b x h = (let lt = h.1 in absurd (omega (arith, lt)))
from_row (l ∷ ls) b x h = go (from_row ls b x) (l.later.book == b) h
  where
    later : (i : ℕ) × (m : Link) × (nth ls i ≡ Some m) × (x ≡ before_of m) → (i : ℕ) × (m : Link) × (nth (l ∷ ls) i ≡ Some m) × (x ≡ before_of m)
    later r = (suc r.0, r.1, r.2, r.3)

    first : Contains (before_of l ∷ row_of b ls) x → (Contains (row_of b ls) x → (i : ℕ) × (m : Link) × (nth ls i ≡ Some m) × (x ≡ before_of m)) → (i : ℕ) × (m : Link) × (nth (l ∷ ls) i ≡ Some m) × (x ≡ before_of m)
    first (zero, lt, is) rest = (0, l, refl, sym is)
    first (suc k, lt, is) rest = later (rest (k, omega (arith, lt), is))

    go : (Contains (row_of b ls) x → (i : ℕ) × (m : Link) × (nth ls i ≡ Some m) × (x ≡ before_of m)) → (t : Bool) → Contains (if t then before_of l ∷ row_of b ls else row_of b ls) x
        → (i : ℕ) × (m : Link) × (nth (l ∷ ls) i ≡ Some m) × (x ≡ before_of m)
    go rest true c = first c rest
    go rest false c = later (rest c)

-- an event that is waited for is left
pub is_left : (books : ℕ → List Event) (ls : List Link) (n : ℕ) (rows : List (List Before)) (cut : List ℕ) (b k : ℕ) (x : Before) → AreWithin books n ls → AreLinks ls n rows → b < n → Contains (get_or rows b []) x → stands_in cut k x ≡ true
    → (x.book < n) × (taken_of cut x.book < length (books x.book))
is_left books ls n rows cut b k x within h lt there stands =
    let found = from_row ls b x (Contains-permutation (get_or rows b []) (row_of b ls) x (IsPermutation-sym (row_of b ls) (get_or rows b []) (h.each b lt).same) there) in
    let inside = within found.0 found.1 found.2 in
    let low = inside.0 in
    let there = inside.1 in
    let not_taken = not-true (is_taken cut (earlier_of x)) (and_parts (x.at == k) (not (is_taken cut (earlier_of x))) stands).1 in
    let free = ltb-false x.earlier (taken_of cut x.book) not_taken in
    let same_book : found.1.earlier.book ≡ x.book = ap (λ (y : Before). y.book) (sym found.3) in
    let same_at : found.1.earlier.at ≡ x.earlier = ap (λ (y : Before). y.earlier) (sym found.3) in
    let one : x.book < n = subst (λ m. m < n) same_book low in
    let two : x.earlier < length (books x.book) = subst (λ m. x.earlier < length (books m)) same_book (subst (λ m. m < length (books found.1.earlier.book)) same_at there) in
    (one, (omega (arith, two, free)))
