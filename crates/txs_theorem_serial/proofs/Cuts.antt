-- Cuts: how many events of each book are taken, and which event may be taken next.
use Rattle.std.proofs.Common.{◌≡◌, ◌<◌, ◌≤◌, ◌+◌, ◌==◌, ◌&&◌, ◌||◌, not, nat_lt, ℕ, zero, suc, Bool, true, false, List, [], ◌∷◌, length, replicate, get_or-set_same, get_or-set_other, Option, Some, None, if◌then◌else◌, refl, sym, ap, subst, ◌∙◌, arith}
use Rattle.std.proofs.lemmas.Bool.Decides.{nat_tests}
use Rattle.std.proofs.lemmas.Bool.{false≢true}
use Rattle.std.proofs.lemmas.List.{get_or-replicate, get_or_past, length-replicate}
use Rattle.std.proofs.lemmas.Option.{none-some, same_Some}
use Rattle.txs_tree_meaning.proofs.Callable.{both}
use Rattle.txs_value_data.specs.Places.{nth}
use Rattle.txs_world_protocol.specs.declared.event.Event.{Event}
use Rattle.txs_theorem_runs.specs.Told.{Place}
use Rattle.txs_theorem_serial.specs.Order.{Link}
use Rattle.txs_theorem_serial.specs.Taken.{taken_of, is_taken, is_place, is_free, may_take, with_next, first_free, first_left}

-- ---- counts

none_case : (n b : ℕ) (t : Bool) → nat_lt b n ≡ t → taken_of (replicate n 0) b ≡ 0
none_case n b true is = get_or-replicate n b 0 0 (grind (arith, nat_tests, is))
none_case n b false is =
    let le : n ≤ b = grind (arith, nat_tests, is) in
    get_or_past (replicate n 0) b 0 (rw (length-replicate {A = ℕ} n 0) le)

pub none_taken_of : (n b : ℕ) → taken_of (replicate n 0) b ≡ 0
none_taken_of n b = none_case n b (nat_lt b n) refl

pub next_own : (cut : List ℕ) (b : ℕ) → b < length cut → taken_of (with_next cut b) b ≡ suc (taken_of cut b)
next_own cut b less = get_or-set_same cut b (suc (taken_of cut b)) 0 less

pub next_other : (cut : List ℕ) (b c : ℕ) → (c == b) ≡ false → taken_of (with_next cut b) c ≡ taken_of cut c
next_other cut b c is = get_or-set_other cut b c (suc (taken_of cut b)) 0 (λ same. grind (arith, nat_tests, is, same))

-- what is so of the count of this book, and of those of the others, is so of each
pub each_count : (P : ℕ → ℕ → Type 0) (cut : List ℕ) (b : ℕ) → b < length cut → P b (suc (taken_of cut b)) → ((c : ℕ) → (c == b) ≡ false → P c (taken_of cut c)) → (c : ℕ) → P c (taken_of (with_next cut b) c)
each_count P cut b less own others c = test (c == b) refl
  where
    test : (t : Bool) → (c == b) ≡ t → P c (taken_of (with_next cut b) c)
    test true is =
        let at : b ≡ c = grind (arith, nat_tests, is) in
        subst (λ (d : ℕ). P d (taken_of (with_next cut b) d)) at (subst (P b) (sym (next_own cut b less)) own)
    test false is = subst (P c) (sym (next_other cut b c is)) (others c is)

pub next_grows : (cut : List ℕ) (b : ℕ) → b < length cut → (c : ℕ) → taken_of cut c ≤ taken_of (with_next cut b) c
next_grows cut b less = each_count (λ c k. taken_of cut c ≤ k) cut b less (omega arith) (λ c is. omega arith)

-- ---- what may be taken

pub taken_less : (cut : List ℕ) (p : Place) → is_taken cut p ≡ true → p.at < taken_of cut p.book
taken_less cut p is = grind (arith, nat_tests, is)

pub less_taken : (cut : List ℕ) (p : Place) → p.at < taken_of cut p.book → is_taken cut p ≡ true
less_taken cut p less = grind (arith, nat_tests, less)

pub untaken_least : (cut : List ℕ) (p : Place) → is_taken cut p ≡ false → taken_of cut p.book ≤ p.at
untaken_least cut p is = grind (arith, nat_tests, is)

or_more : (x a b : Bool) → (a ≡ true → b ≡ true) → (x || a) ≡ true → (x || b) ≡ true
or_more true a b f h = refl
or_more false a b f h = f h

and_more : (a b c d : Bool) → (a ≡ true → c ≡ true) → (b ≡ true → d ≡ true) → (a && b) ≡ true → (c && d) ≡ true
and_more a b true d f g h = g (both a b h).1
and_more a b false d f g h = f (both a b h).0

-- an event that may be taken may be taken behind more
pub free_more : (ls : List Link) (cut more : List ℕ) (b k : ℕ) → ((c : ℕ) → taken_of cut c ≤ taken_of more c) → is_free ls cut b k ≡ true → is_free ls more b k ≡ true
free_more [] cut more b k le h = refl
free_more (l ∷ ls) cut more b k le h =
    let here = le l.earlier.book in
    and_more (not (is_place l.later b k) || is_taken cut l.earlier) (is_free ls cut b k) (not (is_place l.later b k) || is_taken more l.earlier) (is_free ls more b k)
    (or_more (not (is_place l.later b k)) (is_taken cut l.earlier) (is_taken more l.earlier) (λ was. let less = taken_less cut l.earlier was in less_taken more l.earlier (omega (arith, less, here))))
    (free_more ls cut more b k le) h

place_own : (p : Place) → is_place p p.book p.at ≡ true
place_own p =
    let one : (p.book == p.book) ≡ true = grind (arith, nat_tests) in
    let two : (p.at == p.at) ≡ true = grind (arith, nat_tests) in
    rw (one, two)

or_second : (x a : Bool) → x ≡ true → (not x || a) ≡ true → a ≡ true
or_second true a e h = h
or_second false a e h = absurd (false≢true e)

-- what came before an event that may be taken is taken
pub free_behind : (ls : List Link) (cut : List ℕ) (i : ℕ) (l : Link) → nth ls i ≡ Some l → is_free ls cut l.later.book l.later.at ≡ true → is_taken cut l.earlier ≡ true
free_behind [] cut i l there h = absurd (none-some l there)
free_behind (m ∷ ls) cut zero l there h =
    let same : m ≡ l = same_Some m l there in
    let here : (not (is_place m.later l.later.book l.later.at) || is_taken cut m.earlier) ≡ true = (both (not (is_place m.later l.later.book l.later.at) || is_taken cut m.earlier) (is_free ls cut l.later.book l.later.at) h).0 in
    let own : is_place m.later l.later.book l.later.at ≡ true = subst (λ (n : Link). is_place n.later l.later.book l.later.at ≡ true) (sym same) (place_own l.later) in
    subst (λ (n : Link). is_taken cut n.earlier ≡ true) same (or_second (is_place m.later l.later.book l.later.at) (is_taken cut m.earlier) own here)
free_behind (m ∷ ls) cut (suc i) l there h = free_behind ls cut i l there (both (not (is_place m.later l.later.book l.later.at) || is_taken cut m.earlier) (is_free ls cut l.later.book l.later.at) h).1

-- ---- the first book of which an event may be taken, or is left

-- the first of so many numbers, from this one on, that passes a test
abbrev pub first_of_all : (ℕ → Bool) → ℕ → ℕ → Option ℕ
first_of_all f b zero = None
first_of_all f b (suc n) = if f b then Some b else first_of_all f (suc b) n

module _ (f : ℕ → Bool) where
  some_case : (b n c : ℕ) → (first_of_all f (suc b) n ≡ Some c → (f c ≡ true) × (c < suc b + n)) → (t : Bool) → f b ≡ t → (if t then Some b else first_of_all f (suc b) n) ≡ Some c → (f c ≡ true) × (c < b + suc n)
  some_case b n c rest true is e =
      let same : b ≡ c = same_Some b c e in
      (subst (λ (d : ℕ). f d ≡ true) same is, omega (arith, same))
  some_case b n c rest false is e =
      let r = rest e in
      let less = r.1 in
      (r.0, omega (arith, less))

  pub first_is : (b n c : ℕ) → first_of_all f b n ≡ Some c → (f c ≡ true) × (c < b + n)
  first_is b zero c e = absurd (none-some c e)
  first_is b (suc n) c e = some_case b n c (first_is (suc b) n c) (f b) refl e

  none_before : (b n c : ℕ) → b ≤ c → c < b + suc n → (first_of_all f (suc b) n ≡ None → suc b ≤ c → f c ≡ false) → (t : Bool) → f b ≡ t → (if t then Some b else first_of_all f (suc b) n) ≡ None
      → (s : Bool) → (c == b) ≡ s → f c ≡ false
  none_before b n c le less rest true is e s was = absurd (none-some b (sym e))
  none_before b n c le less rest false is e true was = let at : b ≡ c = grind (arith, nat_tests, was) in subst (λ (d : ℕ). f d ≡ false) at is
  none_before b n c le less rest false is e false was = rest e (grind (arith, nat_tests, was, le))

  pub none_is : (b n c : ℕ) → first_of_all f b n ≡ None → b ≤ c → c < b + n → f c ≡ false
  none_is b zero c e le less = absurd (omega (arith, le, less))
  none_is b (suc n) c e le less = none_before b n c le less (λ e1 le1. none_is (suc b) n c e1 le1 (omega (arith, less))) (f b) refl e (c == b) refl

  pub is_none : (b n : ℕ) → ((c : ℕ) → b ≤ c → c < b + n → f c ≡ false) → first_of_all f b n ≡ None
  is_none b zero each = refl
  is_none b (suc n) each = ap (λ t. if t then Some b else first_of_all f (suc b) n) (each b (omega arith) (omega arith)) ∙ is_none (suc b) n (λ c le less. each c (omega (arith, le)) (omega (arith, less)))

module _ (books : ℕ → List Event) where
  pub free_first : (ls : List Link) (cut : List ℕ) (b n : ℕ) → first_free books ls cut b n ≡ first_of_all (may_take books ls cut) b n
  free_first ls cut b zero = refl
  free_first ls cut b (suc n) = ap (λ r. if may_take books ls cut b then Some b else r) (free_first ls cut (suc b) n)

  -- whether an event of a book is left
  abbrev pub has_left : List ℕ → ℕ → Bool
  has_left cut b = nat_lt (taken_of cut b) (length (books b))

  pub left_first : (cut : List ℕ) (b n : ℕ) → first_left books cut b n ≡ first_of_all (has_left cut) b n
  left_first cut b zero = refl
  left_first cut b (suc n) = ap (λ r. if has_left cut b then Some b else r) (left_first cut (suc b) n)

  -- no event of the first n books may be taken
  abbrev pub IsStuck : List Link → ℕ → List ℕ → Type 0
  IsStuck ls n cut = (c : ℕ) → c < n → may_take books ls cut c ≡ false

  pub none_stuck : (ls : List Link) (n : ℕ) (cut : List ℕ) → first_free books ls cut 0 n ≡ None → IsStuck ls n cut
  none_stuck ls n cut e c less = none_is (may_take books ls cut) 0 n c (sym (free_first ls cut 0 n) ∙ e) (omega arith) (omega (arith, less))
