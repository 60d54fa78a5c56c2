-- Counting the asks of a history by their locks.
use Rattle.std.proofs.Common.{◌≡◌, ℕ, zero, suc, ◌+◌, ◌==◌, ◌<◌, ◌≤◌, Bool, true, false, [], ◌∷◌, length, if◌then◌else◌, refl, ap, ◌∙◌, subst, arith}
use Rattle.std.proofs.lemmas.Bool.Decides.{nat_tests}
use Rattle.txs_history.specs.declared.log.Entry.TheVariants as entry
use Rattle.txs_history.specs.History.{events_of, IsWithin}
use Rattle.txs_history.specs.declared.asked.Asked.{Asked}
use Rattle.txs_history.specs.Asked.{History, asks_in, sum_to}

pub sum_next : (n : ℕ) (f : ℕ → ℕ) → sum_to (n + 1) f ≡ sum_to n f + f n
sum_next n f = let one : n + 1 ≡ suc n = omega arith in ap (λ m. sum_to m f) one

below_case : (n m : ℕ) (f : ℕ → ℕ) → (suc n ≤ m → sum_to (suc n) f ≤ sum_to m f) → sum_to n f ≤ sum_to m f → (b : Bool) → (n == m) ≡ b → suc n ≤ suc m → sum_to (suc n) f ≤ sum_to (suc m) f
below_case n m f more rest true is le =
    let same : n ≡ m = grind (arith, nat_tests, is) in
    subst (λ k. sum_to (suc n) f ≤ sum_to (suc k) f) same (omega arith)
below_case n m f more rest false is le =
    let lower : suc n ≤ m = grind (arith, nat_tests, is, le) in
    omega (arith, more lower)

-- more numbers have no lesser sum
pub sum_below : (n m : ℕ) (f : ℕ → ℕ) → n ≤ m → sum_to n f ≤ sum_to m f
sum_below zero m f le = omega arith
sum_below (suc n) zero f le = absurd (omega (arith, le))
sum_below (suc n) (suc m) f le = below_case n m f (sum_below (suc n) m f) (sum_below n m f (omega (arith, le))) (n == m) refl le

pub sum_same : (n : ℕ) (f g : ℕ → ℕ) → ((i : ℕ) → i < n → f i ≡ g i) → sum_to n f ≡ sum_to n g
sum_same zero f g is = refl
sum_same (suc n) f g is = omega (arith, sum_same n f g (λ i less. is i (omega (arith, less))), is n (omega arith))

sum_zero : (n : ℕ) (f : ℕ → ℕ) → ((i : ℕ) → f i ≡ 0) → sum_to n f ≡ 0
sum_zero zero f is = refl
sum_zero (suc n) f is = omega (arith, sum_zero n f is, is n)

more_case : (n j : ℕ) (f g : ℕ → ℕ) → j < suc n → g j ≡ suc (f j) → ((i : ℕ) → (j == i) ≡ false → g i ≡ f i) → (j < n → sum_to n g ≡ suc (sum_to n f)) → (b : Bool) → (j == n) ≡ b
    → sum_to (suc n) g ≡ suc (sum_to (suc n) f)
more_case n j f g less here there rest true is =
    let at : j ≡ n = grind (arith, nat_tests, is) in
    let last : g n ≡ suc (f n) = subst (λ (i : ℕ). g i ≡ suc (f i)) at here in
    omega (arith, last, sum_same n g f (λ i lower. there i (grind (arith, nat_tests, at, lower))))
more_case n j f g less here there rest false is =
    let lower : j < n = grind (arith, nat_tests, is, less) in
    omega (arith, there n is, rest lower)

-- one of the numbers is one more
sum_more : (n j : ℕ) (f g : ℕ → ℕ) → j < n → g j ≡ suc (f j) → ((i : ℕ) → (j == i) ≡ false → g i ≡ f i) → sum_to n g ≡ suc (sum_to n f)
sum_more zero j f g less here there = absurd (omega (arith, less))
sum_more (suc n) j f g less here there = more_case n j f g less here there (λ lower. sum_more n j f g lower here there) (j == n) refl

-- the first number apart from the others
pub sum_first : (n : ℕ) (f : ℕ → ℕ) → sum_to (suc n) f ≡ f 0 + sum_to n (λ k. f (suc k))
sum_first zero f = omega arith
sum_first (suc n) f = omega (arith, sum_first n f)

-- how many asks a history has under a lock
abbrev pub asked_under : History → ℕ → ℕ
asked_under h k = length (events_of k h)

under_own : (j : ℕ) (e : Asked) (h : History) → asked_under (entry.Event j e ∷ h) j ≡ suc (asked_under h j)
under_own j e h = let same : (j == j) ≡ true = grind (arith, nat_tests) in ap (λ b. length (if b then e ∷ events_of j h else events_of j h)) same

under_other : (j k : ℕ) (e : Asked) (h : History) → (j == k) ≡ false → asked_under (entry.Event j e ∷ h) k ≡ asked_under h k
under_other j k e h is = ap (λ b. length (if b then e ∷ events_of k h else events_of k h)) is

-- under all locks together it has all its asks
pub locks_sum : (n : ℕ) (h : History) → IsWithin n h → sum_to n (asked_under h) ≡ asks_in h
locks_sum n [] is = sum_zero n (asked_under []) (λ k. refl)
locks_sum n (entry.Locks m ∷ h) is = sum_same n (asked_under (entry.Locks m ∷ h)) (asked_under h) (λ k less. refl) ∙ locks_sum n h is
locks_sum n (entry.Event j e ∷ h) is =
    sum_more n j (asked_under h) (asked_under (entry.Event j e ∷ h)) is.0 (under_own j e h) (λ k away. under_other j k e h away) ∙ ap suc (locks_sum n h is.1)

-- there is none under a lock that the history hasn't
pub none_beyond : (n k : ℕ) (h : History) → n ≤ k → IsWithin n h → events_of k h ≡ []
none_beyond n k [] le is = refl
none_beyond n k (entry.Locks m ∷ h) le is = none_beyond n k h le is
none_beyond n k (entry.Event j e ∷ h) le is =
    let less = is.0 in
    let away : (j == k) ≡ false = grind (arith, nat_tests, le, less) in
    ap (λ b. if b then e ∷ events_of k h else events_of k h) away ∙ none_beyond n k h le is.1
