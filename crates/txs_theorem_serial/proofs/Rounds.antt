-- Whoever goes on among a limited number of numbers comes round.
use Rattle.std.proofs.Common.{◌≡◌, ◌<◌, ◌≤◌, ◌+◌, ◌-◌, ◌==◌, ◌⊎◌, ℕ, zero, suc, Bool, true, false, if◌then◌else◌, inl, inr, refl, sym, ap, subst, ◌∙◌, arith}
use Rattle.std.proofs.lemmas.Bool.Decides.{nat_tests}

-- ---- among more places than numbers two have the same number

pub record Twice (g : ℕ → ℕ) (n : ℕ) : Type 0 where
  pub first : ℕ
  pub second : ℕ
  pub before : first < second
  pub within : second ≤ n
  pub same : g first ≡ g second

-- whether a number is among the first so many
abbrev Among : (ℕ → ℕ) → ℕ → ℕ → Type 0
Among g v n = ((i : ℕ) × (i < n) × (g i ≡ v)) ⊎ ((i : ℕ) → i < n → (g i == v) ≡ false)

absent_case : (g : ℕ → ℕ) (v n i : ℕ) → i < suc n → (g n == v) ≡ false → ((j : ℕ) → j < n → (g j == v) ≡ false) → (b : Bool) → (i == n) ≡ b → (g i == v) ≡ false
absent_case g v n i less last others true is =
    let at : n ≡ i = grind (arith, nat_tests, is) in
    subst (λ (j : ℕ). (g j == v) ≡ false) at last
absent_case g v n i less last others false is = others i (grind (arith, nat_tests, is, less))

among_case : (g : ℕ → ℕ) (v n : ℕ) → Among g v n → (b : Bool) → (g n == v) ≡ b → Among g v (suc n)
among_case g v n (inl (i, less, same)) b is = inl (i, omega (arith, less), same)
among_case g v n (inr others) true is = inl (n, omega arith, grind (arith, nat_tests, is))
among_case g v n (inr others) false is = inr (λ i less. absent_case g v n i less is others (i == n) refl)

among : (g : ℕ → ℕ) (v n : ℕ) → Among g v n
among g v zero = inr (λ i less. absurd (omega (arith, less)))
among g v (suc n) = among_case g v n (among g v n) (g n == v) refl

-- a number that is not v, with v in the place of n
abbrev mended : ℕ → ℕ → ℕ → ℕ
mended n v x = if x == n then v else x

mended_low : (n v x : ℕ) → x < suc n → v < suc n → (x == v) ≡ false → (b : Bool) → (x == n) ≡ b → mended n v x < n
mended_low n v x less low away true is = rw is (grind (arith, nat_tests, is, low, away))
mended_low n v x less low away false is = rw is (grind (arith, nat_tests, is, less))

mended_same : (n v x y : ℕ) → (x == v) ≡ false → (y == v) ≡ false → mended n v x ≡ mended n v y → (b c : Bool) → (x == n) ≡ b → (y == n) ≡ c → x ≡ y
mended_same n v x y away off same true true is was = grind (arith, nat_tests, is, was)
mended_same n v x y away off same true false is was =
    let at : v ≡ y = sym (ap (λ b. if b then v else x) is) ∙ (same ∙ ap (λ b. if b then v else y) was) in
    absurd (grind (arith, nat_tests, off, at))
mended_same n v x y away off same false true is was =
    let at : x ≡ v = sym (ap (λ b. if b then v else x) is) ∙ (same ∙ ap (λ b. if b then v else y) was) in
    absurd (grind (arith, nat_tests, away, at))
mended_same n v x y away off same false false is was = sym (ap (λ b. if b then v else x) is) ∙ (same ∙ ap (λ b. if b then v else y) was)

twice_case : (n : ℕ) (g : ℕ → ℕ) → ((i : ℕ) → i ≤ suc n → g i < suc n) → ((h : ℕ → ℕ) → ((i : ℕ) → i ≤ n → h i < n) → Twice h n) → Among g (g (suc n)) (suc n) → Twice g (suc n)
twice_case n g below rest (inl (i, less, same)) = record { first = i; second = suc n; before = less; within = omega arith; same = same }
twice_case n g below rest (inr others) =
    let v = g (suc n) in
    let t = rest (λ i. mended n v (g i)) (λ i le. mended_low n v (g i) (below i (omega (arith, le))) (below (suc n) (omega arith)) (others i (omega (arith, le))) (g i == n) refl) in
    let before = t.before in
    let within = t.within in
    record {
      first = t.first;
      second = t.second;
      before = before;
      within = omega (arith, within);
      same = mended_same n v (g t.first) (g t.second) (others t.first (omega (arith, before, within))) (others t.second (omega (arith, within))) t.same (g t.first == n) (g t.second == n) refl refl;
    }

pub twice : (n : ℕ) (g : ℕ → ℕ) → ((i : ℕ) → i ≤ n → g i < n) → Twice g n
twice zero g below = absurd (let low = below 0 (omega arith) in omega (arith, low))
twice (suc n) g below = twice_case n g below (twice n) (among g (g (suc n)) (suc n))

-- ---- steps

-- where so many steps lead
abbrev pub goes : (ℕ → ℕ) → ℕ → ℕ → ℕ
goes f zero x = x
goes f (suc m) x = goes f m (f x)

goes_on : (f : ℕ → ℕ) (m k x : ℕ) → goes f (m + k) x ≡ goes f k (goes f m x)
goes_on f zero k x = let same : 0 + k ≡ k = omega arith in ap (λ j. goes f j x) same
goes_on f (suc m) k x = let same : suc m + k ≡ suc (m + k) = omega arith in ap (λ j. goes f j x) same ∙ goes_on f m k (f x)

round_from : (f : ℕ → ℕ) (i d k x : ℕ) → goes f i x ≡ goes f (i + d) x → goes f d (goes f (i + k) x) ≡ goes f (i + k) x
round_from f i d k x same =
    let turned : (i + k) + d ≡ (i + d) + k = omega arith in
    sym (goes_on f (i + k) d x) ∙ (ap (λ j. goes f j x) turned ∙ (goes_on f (i + d) k x ∙ (ap (goes f k) (sym same) ∙ sym (goes_on f i k x))))

-- Behind as many steps as there are numbers, one is at a number to which one comes back.
pub comes_round : (n : ℕ) (f : ℕ → ℕ) (x : ℕ) → ((m : ℕ) → m ≤ n → goes f m x < n) → (m : ℕ) × (goes f (suc m) (goes f n x) ≡ goes f n x)
comes_round n f x below =
    let t = twice n (λ i. goes f i x) below in
    let before = t.before in
    let within = t.within in
    let d = t.second - suc t.first in
    let k = n - t.first in
    let one : t.second ≡ t.first + suc d = omega (arith, before) in
    let all : t.first + k ≡ n = omega (arith, before, within) in
    (d, subst (λ j. goes f (suc d) (goes f j x) ≡ goes f j x) all (round_from f t.first (suc d) k x (t.same ∙ ap (λ j. goes f j x) one)))
