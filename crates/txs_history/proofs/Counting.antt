-- Counting the asks of a history by their actors.
use Rattle.std.proofs.Common.{◌≡◌, ℕ, zero, suc, ◌==◌, ◌<◌, ◌≤◌, nat_lt, Bool, true, false, List, [], ◌∷◌, ◌++◌, if◌then◌else◌, inl, inr, refl, ap, subst, arith}
use Rattle.std.proofs.lemmas.Bool.Decides.{nat_tests}
use Rattle.txs_value_cell.specs.declared.cell.CellDefinition.{CellDefinition}
use Rattle.txs_code_meaning.specs.Machine.{ThreadCode}
use Rattle.txs_history.specs.declared.log.Entry.TheVariants as entry
use Rattle.txs_theorem_runs.specs.Run.{Actor}
use Rattle.txs_history.specs.declared.asked.Asked.{Asked}
use Rattle.txs_history.specs.Following.{after_turn, Follows}
use Rattle.txs_history.specs.Asked.{History, shared_by, asks_in, asks_of, sum_to}

-- ---- sums

sum_le : (n : ℕ) (f g : ℕ → ℕ) → ((i : ℕ) → i < n → f i ≤ g i) → sum_to n f ≤ sum_to n g
sum_le zero f g le = omega arith
sum_le (suc n) f g le = omega (arith, sum_le n f g (λ i less. le i (omega arith)), le n (omega arith))

sum_same : (n : ℕ) (f g : ℕ → ℕ) → ((i : ℕ) → i < n → f i ≡ g i) → sum_to n f ≡ sum_to n g
sum_same zero f g is = refl
sum_same (suc n) f g is = omega (arith, sum_same n f g (λ i less. is i (omega arith)), is n (omega arith))

sum_zero : (n : ℕ) (f : ℕ → ℕ) → ((i : ℕ) → f i ≡ 0) → sum_to n f ≡ 0
sum_zero zero f is = refl
sum_zero (suc n) f is = omega (arith, sum_zero n f is, is n)

equal_case : (n : ℕ) (f g : ℕ → ℕ) (i : ℕ) → i < suc n → f n ≡ g n → (i < n → f i ≡ g i) → (b : Bool) → (i == n) ≡ b → f i ≡ g i
equal_case n f g i less last rest true is =
    let at : n ≡ i = grind (arith, nat_tests, is) in
    subst (λ (j : ℕ). f j ≡ g j) at last
equal_case n f g i less last rest false is =
    let lower : i < n = grind (arith, nat_tests, is, less) in
    rest lower

-- where the sums agree, so does all that is added up
sum_equal : (n : ℕ) (f g : ℕ → ℕ) → ((i : ℕ) → i < n → f i ≤ g i) → sum_to n g ≤ sum_to n f → (i : ℕ) → i < n → f i ≡ g i
sum_equal zero f g le all i less = absurd (omega (arith, less))
sum_equal (suc n) f g le all i less =
    let low = sum_le n f g (λ j l. le j (omega arith)) in
    let last : f n ≡ g n = omega (arith, low, le n (omega arith), all) in
    equal_case n f g i less last (λ l. sum_equal n f g (λ j k. le j (omega arith)) (omega (arith, low, le n (omega arith), all)) i l) (i == n) refl

more_case : (n j : ℕ) (f g : ℕ → ℕ) → j < suc n → g j ≡ suc (f j) → ((i : ℕ) → (j == i) ≡ false → g i ≡ f i) → (j < n → sum_to n g ≡ suc (sum_to n f)) → (b : Bool) → (j == n) ≡ b
    → sum_to (suc n) g ≡ suc (sum_to (suc n) f)
more_case n j f g less here there rest true is =
    let at : j ≡ n = grind (arith, nat_tests, is) in
    let last : g n ≡ suc (f n) = subst (λ (i : ℕ). g i ≡ suc (f i)) at here in
    omega (arith, last, sum_same n g f (λ i lower. there i (grind (arith, nat_tests, at, lower))))
more_case n j f g less here there rest false is =
    let lower : j < n = grind (arith, nat_tests, is, less) in
    omega (arith, there n is, rest lower)

-- one of the numbers is one more
sum_more : (n j : ℕ) (f g : ℕ → ℕ) → j < n → g j ≡ suc (f j) → ((i : ℕ) → (j == i) ≡ false → g i ≡ f i) → sum_to n g ≡ suc (sum_to n f)
sum_more zero j f g less here there = absurd (omega (arith, less))
sum_more (suc n) j f g less here there = more_case n j f g less here there (λ lower. sum_more n j f g lower here there) (j == n) refl

-- ---- asks by actors

asks_own : (a k : ℕ) (e : Asked) (h : History) → (e.actor == a) ≡ true → asks_of a (entry.Event k e ∷ h) ≡ suc (asks_of a h)
asks_own a k e h is = ap (λ t. if t then suc (asks_of a h) else asks_of a h) is

pub asks_same : (a k : ℕ) (e : Asked) (h : History) → e.actor ≡ a → asks_of a (entry.Event k e ∷ h) ≡ suc (asks_of a h)
asks_same a k e h same = asks_own a k e h (grind (arith, nat_tests, same))

pub asks_other : (a k : ℕ) (e : Asked) (h : History) → (e.actor == a) ≡ false → asks_of a (entry.Event k e ∷ h) ≡ asks_of a h
asks_other a k e h is = ap (λ t. if t then suc (asks_of a h) else asks_of a h) is

asks_grow : (a k : ℕ) (e : Asked) (h : History) (b : Bool) → (e.actor == a) ≡ b → asks_of a h ≤ asks_of a (entry.Event k e ∷ h)
asks_grow a k e h true is = omega (arith, asks_own a k e h is)
asks_grow a k e h false is = omega (arith, asks_other a k e h is)

-- each ask is of one of the first so many actors
abbrev pub AreOf : ℕ → History → Type 0
AreOf m [] = Unit {0}
AreOf m (entry.Locks n ∷ h) = AreOf m h
AreOf m (entry.Event k e ∷ h) = (e.actor < m) × AreOf m h

abbrev by_actor : History → ℕ → ℕ
by_actor h a = asks_of a h

-- one that is theirs is counted, and another isn't
sum_in : (m k : ℕ) (e : Asked) (h : History) → e.actor < m → sum_to m (by_actor (entry.Event k e ∷ h)) ≡ suc (sum_to m (by_actor h))
sum_in m k e h less = sum_more m e.actor (by_actor h) (by_actor (entry.Event k e ∷ h)) less (asks_same e.actor k e h refl) (λ a away. asks_other a k e h away)

sum_out : (m k : ℕ) (e : Asked) (h : History) → m ≤ e.actor → sum_to m (by_actor (entry.Event k e ∷ h)) ≡ sum_to m (by_actor h)
sum_out m k e h le = sum_same m (by_actor (entry.Event k e ∷ h)) (by_actor h) (λ a less. asks_other a k e h (grind (arith, nat_tests, le, less)))

not_below : (m a : ℕ) → nat_lt a m ≡ false → m ≤ a
not_below m a is = grind (arith, nat_tests, is)

below : (m a : ℕ) → nat_lt a m ≡ true → a < m
below m a is = grind (arith, nat_tests, is)

sum_case : (m k : ℕ) (e : Asked) (h : History) → sum_to m (by_actor h) ≤ asks_in h → (b : Bool) → nat_lt e.actor m ≡ b → sum_to m (by_actor (entry.Event k e ∷ h)) ≤ suc (asks_in h)
sum_case m k e h rest true is = omega (arith, sum_in m k e h (below m e.actor is), rest)
sum_case m k e h rest false is = omega (arith, sum_out m k e h (not_below m e.actor is), rest)

actors_sum : (m : ℕ) (h : History) → sum_to m (by_actor h) ≤ asks_in h
actors_sum m [] = omega (arith, sum_zero m (by_actor []) (λ a. refl))
actors_sum m (entry.Locks n ∷ h) = actors_sum m h
actors_sum m (entry.Event k e ∷ h) = sum_case m k e h (actors_sum m h) (nat_lt e.actor m) refl

theirs_case : (m k : ℕ) (e : Asked) (h : History) → suc (asks_in h) ≤ sum_to m (by_actor (entry.Event k e ∷ h)) → (asks_in h ≤ sum_to m (by_actor h) → AreOf m h) → (b : Bool) → nat_lt e.actor m ≡ b
    → AreOf m (entry.Event k e ∷ h)
theirs_case m k e h le rest true is =
    let less = below m e.actor is in
    (less, rest (omega (arith, le, sum_in m k e h less)))
theirs_case m k e h le rest false is = absurd (omega (arith, le, sum_out m k e h (not_below m e.actor is), actors_sum m h))

-- where they made all asks, each is one of theirs
all_theirs : (m : ℕ) (h : History) → asks_in h ≤ sum_to m (by_actor h) → AreOf m h
all_theirs m [] le = tt
all_theirs m (entry.Locks n ∷ h) le = all_theirs m h le
all_theirs m (entry.Event k e ∷ h) le = theirs_case m k e h le (all_theirs m h) (nat_lt e.actor m) refl

-- an actor makes no more asks than are its own
pub asks_most : (cells : List CellDefinition) (threads : ℕ) (code : ThreadCode) (a : ℕ) (b : History) (x : Actor) (m : ℕ) (h : History) (z : Actor)
    → Follows cells threads code a b x m h z → m ≤ asks_of a h
asks_most cells threads code a b x m [] z f = omega (arith, f.0)
asks_most cells threads code a b x m (entry.Locks n ∷ h) z f = asks_most cells threads code a (b ++ entry.Locks n ∷ []) x m h z f
asks_most cells threads code a b x m (entry.Event k e ∷ h) z (inl f) =
    omega (arith, asks_most cells threads code a (b ++ entry.Event k e ∷ []) x m h z f, asks_grow a k e h (e.actor == a) refl)
asks_most cells threads code a b x m (entry.Event k e ∷ h) z (inr (r, n, w, is, s, next, f)) =
    omega (arith, is, asks_most cells threads code a (b ++ entry.Event k e ∷ []) (after_turn cells threads code a w (shared_by cells b)) r h z f, asks_same a k e h next.actor)

-- ---- all asks of a history

-- where so many asks were made by the first so many actors, at most their own, and these are all, each made its own, and there is no other
pub record AllMade (m : ℕ) (h : History) (made : ℕ → ℕ) : Type 0 where
  pub each : (a : ℕ) → a < m → made a ≡ asks_of a h
  pub theirs : AreOf m h

pub all_made : (m : ℕ) (h : History) (made : ℕ → ℕ) → ((a : ℕ) → a < m → made a ≤ asks_of a h) → sum_to m made ≡ asks_in h → AllMade m h made
all_made m h made most all = record {
  each = sum_equal m made (by_actor h) most (omega (arith, all, actors_sum m h));
  theirs = all_theirs m h (omega (arith, all, sum_le m made (by_actor h) most));
}
