-- Numbers that are the same up to eleven pass the same tests up to ten, and the other way round.
use Rattle.std.proofs.Common.{◌≡◌, ◌≤◌, ℕ, zero, suc, Bool, true, false, nat_lt, refl, sym, ap, ◌∙◌, arith, if◌then◌else◌}
use Rattle.std.proofs.lemmas.Bool.{true≢false}
use Rattle.std.proofs.lemmas.Bool.Decides.{nat_tests}
use Rattle.txs_world_book.specs.Book.{most_older}
use Rattle.txs_theorem_alike.specs.Books.{up_to_eleven}

-- two numbers pass the same tests up to a bound
abbrev pub SameTests : ℕ → ℕ → ℕ → Type 0
SameTests top m n = (j : ℕ) → j ≤ top → nat_lt j m ≡ nat_lt j n

pub above_none : (n : ℕ) → nat_lt 0 (suc n) ≡ true
above_none n = by (nat_lt 0 (suc n)) refl
  where
    by : (x : Bool) → nat_lt 0 (suc n) ≡ x → x ≡ true
    by true e = refl
    by false e = absurd (grind (arith, nat_tests, e))

both_less : (j n : ℕ) → nat_lt (suc j) (suc n) ≡ nat_lt j n
both_less j n = by (nat_lt (suc j) (suc n)) (nat_lt j n) refl refl
  where
    by : (x y : Bool) → nat_lt (suc j) (suc n) ≡ x → nat_lt j n ≡ y → x ≡ y
    by true true e f = refl
    by true false e f = absurd (grind (arith, nat_tests, e, f))
    by false true e f = absurd (grind (arith, nat_tests, e, f))
    by false false e f = refl

-- tests up to ten don't see what is above
eleven_test : (n j : ℕ) → j ≤ most_older → nat_lt j (up_to_eleven n) ≡ nat_lt j n
eleven_test n j le = by (nat_lt most_older n) refl
  where
    above : (x : Bool) → nat_lt j n ≡ x → nat_lt most_older n ≡ true → x ≡ true
    above true e l = refl
    above false e l = absurd (grind (arith, nat_tests, e, l, le))

    top : (x : Bool) → nat_lt j (suc most_older) ≡ x → x ≡ true
    top true e = refl
    top false e = absurd (grind (arith, nat_tests, e, le))

    by : (t : Bool) → nat_lt most_older n ≡ t → nat_lt j (if t then suc most_older else n) ≡ nat_lt j n
    by true l = top (nat_lt j (suc most_older)) refl ∙ sym (above (nat_lt j n) refl l)
    by false l = refl

pub tests_of : (m n : ℕ) → up_to_eleven m ≡ up_to_eleven n → SameTests most_older m n
tests_of m n e j le = sym (eleven_test m j le) ∙ ap (nat_lt j) e ∙ eleven_test n j le

-- numbers up to a bound that pass the same tests are the same
equal_of : (m n : ℕ) → nat_lt most_older m ≡ false → nat_lt most_older n ≡ false → SameTests most_older m n → m ≡ n
equal_of m n f g h = by (nat_lt m n) refl (nat_lt n m) refl
  where
    low : m ≤ most_older
    low = grind (arith, nat_tests, f)

    lower : n ≤ most_older
    lower = grind (arith, nat_tests, g)

    not_itself : (k : ℕ) → nat_lt k k ≡ true → ⊥
    not_itself k e = grind (arith, nat_tests, e)

    by : (x : Bool) → nat_lt m n ≡ x → (y : Bool) → nat_lt n m ≡ y → m ≡ n
    by true e y i = absurd (not_itself m (h m low ∙ e))
    by false e true i = absurd (not_itself n (sym (h n lower) ∙ i))
    by false e false i = grind (arith, nat_tests, e, i)

pub eleven_of : (m n : ℕ) → SameTests most_older m n → up_to_eleven m ≡ up_to_eleven n
eleven_of m n h = by (nat_lt most_older m) refl (nat_lt most_older n) refl (h most_older (omega arith))
  where
    by : (x : Bool) → nat_lt most_older m ≡ x → (y : Bool) → nat_lt most_older n ≡ y → nat_lt most_older m ≡ nat_lt most_older n → up_to_eleven m ≡ up_to_eleven n
    by true e true i k = ap (λ t. if t then suc most_older else m) e ∙ sym (ap (λ t. if t then suc most_older else n) i)
    by false e false i k = ap (λ t. if t then suc most_older else m) e ∙ equal_of m n e i h ∙ sym (ap (λ t. if t then suc most_older else n) i)
    by true e false i k = absurd (true≢false (sym e ∙ k ∙ i))
    by false e true i k = absurd (true≢false (sym i ∙ sym k ∙ e))

-- one more of each
tests_more : (m n : ℕ) → SameTests most_older m n → SameTests most_older (suc m) (suc n)
tests_more m n h zero le = above_none m ∙ sym (above_none n)
tests_more m n h (suc j) le = both_less j m ∙ h j (omega (arith, le)) ∙ sym (both_less j n)

pub one_more : (m n : ℕ) → up_to_eleven m ≡ up_to_eleven n → up_to_eleven (suc m) ≡ up_to_eleven (suc n)
one_more m n e = eleven_of (suc m) (suc n) (tests_more m n (tests_of m n e))

-- the tests that are made of them: whether there are more than ten, and whether there is one
pub outdated_of : (m n : ℕ) → up_to_eleven m ≡ up_to_eleven n → nat_lt most_older m ≡ nat_lt most_older n
outdated_of m n e = tests_of m n e most_older (omega arith)

pub any_of : (m n : ℕ) → up_to_eleven m ≡ up_to_eleven n → nat_lt 0 m ≡ nat_lt 0 n
any_of m n e = tests_of m n e 0 (omega arith)
