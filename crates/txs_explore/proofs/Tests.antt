-- Tests that go through lists, one item further: how often a cell was written, who may go on, and which asks may be exchanged.
use Rattle.std.proofs.Common.{◌≡◌, inl, inr, ◌<◌, ◌≤◌, ◌+◌, ◌==◌, ◌&&◌, ℕ, zero, suc, Bool, true, false, not, nat_lt, List, [], ◌∷◌, ◌++◌, length, drop, take, get_or, Option, Some, None, if◌then◌else◌, refl, sym, ap, subst, ◌∙◌, arith}
use Rattle.std.specs.Prelude.{is_some}
use Rattle.std.proofs.lemmas.Bool.{false≢true}
use Rattle.std.proofs.lemmas.Bool.Decides.{nat_tests}
use Rattle.std.proofs.lemmas.List.{drop_more, drop_all, take_more, get_or_default}
use Rattle.txs_world_protocol.specs.declared.event.Event.{Event}
use Rattle.txs_value_data.specs.declared.fault.Fault.{Fault}
use Rattle.txs_value_data.proofs.SameLemmas.{number-itself, numbers}
use Rattle.txs_value_cell.specs.declared.action.Action.{Action}
use Rattle.txs_world_book.specs.Book.{is_there, times_written, writes_to}
use Rattle.txs_world.specs.Store.{first_action}
use Rattle.txs_explore.specs.System.{IsIn, has}
use Rattle.txs_explore.specs.Runners.{are_apart, those}
use Rattle.txs_world_shared.specs.SharedState.{shared_of}
use Rattle.txs_explore.specs.declared.ending.Ending.{Ending}
use Rattle.txs_explore.specs.declared.look.Look.{Look}
use Rattle.txs_explore.specs.declared.look.Node.{Node}
use Rattle.txs_explore.specs.Node.{AreBelow, apart_in, asks_in, kept_by}

-- ---- an item that was read

pub dropped : {A : Type 0} (xs : List A) (i : ℕ) (x : A) → i < length xs → x ≡ get_or xs i x → drop i xs ≡ x ∷ drop (i + 1) xs
dropped xs i x l e = drop_more xs i x l ∙ ap (λ z. z ∷ drop (i + 1) xs) (sym e)

pub taken : {A : Type 0} (xs : List A) (i : ℕ) (x : A) → i < length xs → x ≡ get_or xs i x → take (i + 1) xs ≡ take i xs ++ x ∷ []
taken xs i x l e = take_more xs i x l ∙ ap (λ z. take i xs ++ z ∷ []) (sym e)

pub read_in : {A : Type 0} (xs : List A) (i : ℕ) (x : A) → i < length xs → x ≡ get_or xs i x → IsIn x xs
read_in [] i x l e = absurd (omega (arith, l))
read_in (y ∷ xs) zero x l e = inl e
read_in (y ∷ xs) (suc i) x l e = inr (read_in xs i x (omega (arith, l)) e)

-- ---- how often a cell was written

times_dropped : (k p : ℕ) (es : List Event) → times_written k p es ≡ times_written k 0 (drop p es)
times_dropped k zero es = refl
times_dropped k (suc p) [] = refl
times_dropped k (suc p) (e ∷ es) = times_dropped k p es

pub times_begun : (k at : ℕ) (es : List Event) → 0 + times_written k 0 (drop at es) ≡ times_written k at es
times_begun k at es = let e = times_dropped k at es in omega (arith, e)

pub times_more : (k i times : ℕ) (e : Event) (es : List Event) → i < length es → e ≡ get_or es i e → (b : Bool) → b ≡ writes_to e.kind k
    → (if b then times + 1 else times) + times_written k 0 (drop (i + 1) es) ≡ times + times_written k 0 (drop i es)
times_more k i times e es l is b w = by b (sym w) ∙ ap (λ ds. times + times_written k 0 ds) (sym (dropped es i e l is))
  where
    by : (b : Bool) → writes_to e.kind k ≡ b → (if b then times + 1 else times) + times_written k 0 (drop (i + 1) es) ≡ times + times_written k 0 (e ∷ drop (i + 1) es)
    by true q =
        let more : times_written k 0 (e ∷ drop (i + 1) es) ≡ suc (times_written k 0 (drop (i + 1) es)) = ap (λ z. if z then suc (times_written k 0 (drop (i + 1) es)) else times_written k 0 (drop (i + 1) es)) q in
        omega (arith, more)
    by false q =
        let same : times_written k 0 (e ∷ drop (i + 1) es) ≡ times_written k 0 (drop (i + 1) es) = ap (λ z. if z then suc (times_written k 0 (drop (i + 1) es)) else times_written k 0 (drop (i + 1) es)) q in
        omega (arith, same)

pub times_counted : (times i : ℕ) (b : Bool) → times ≤ i → (if b then times + 1 else times) ≤ i + 1
times_counted times i true h = omega (arith, h)
times_counted times i false h = omega (arith, h)

pub times_done : (k i times : ℕ) (es : List Event) → length es ≤ i → times + times_written k 0 (drop i es) ≡ times
times_done k i times es l = let e : times_written k 0 (drop i es) ≡ 0 = ap (times_written k 0) (drop_all i es l) in omega (arith, e)

-- ---- an action that waits

above_none : (n : ℕ) → nat_lt 0 (suc n) ≡ true
above_none n = grind (arith, nat_tests)

pub waits_is : (f : Option Fault) (xs : List Action) → is_there (first_action (is_there f) xs) ≡ (not (is_there f) && nat_lt 0 (length xs))
waits_is None [] = refl
waits_is None (x ∷ xs) = sym (above_none (length xs))
waits_is (Some f) [] = refl
waits_is (Some f) (x ∷ xs) = refl

-- of an agent that hasn't failed, whether one waits
pub waits_none : (f o : Option Fault) (xs : List Action) (n : ℕ) → is_some o ≡ false → o ≡ f → n ≡ length xs → nat_lt 0 n ≡ is_there (first_action (is_there f) xs)
waits_none None o xs n h e l = ap (nat_lt 0) l ∙ sym (waits_is None xs)
waits_none (Some f) o xs n h e l = absurd (false≢true (sym h ∙ ap is_some e))

-- one that has failed takes none
pub waits_some : (f o : Option Fault) (xs : List Action) (b : Bool) → is_some o ≡ true → b ≡ false → o ≡ f → b ≡ is_there (first_action (is_there f) xs)
waits_some None o xs b h n e = absurd (false≢true (sym (ap is_some e) ∙ h))
waits_some (Some f) o xs b h n e = n

-- ---- whether asks may be exchanged

not_same : (k j : ℕ) (b : Bool) → (k == j) ≡ b → (k ≡ j → ⊥) → (k == j) ≡ false
not_same k j true e n = absurd (n (numbers k j e))
not_same k j false e n = e

pub apart_then : (v : Node) (k j : ℕ) (r : Bool) (p q : Look) → (k ≡ j → ⊥) → r ≡ are_apart v.shared.cells (shared_of v.shared) p.ask q.ask → asks_in v.looks.items k ≡ p.ask → asks_in v.looks.items j ≡ q.ask → r ≡ apart_in v k j
apart_then v k j r p q n is of_p of_q =
    is
    ∙ ap (λ a. are_apart v.shared.cells (shared_of v.shared) a q.ask) (sym of_p)
    ∙ ap (λ a. are_apart v.shared.cells (shared_of v.shared) (asks_in v.looks.items k) a) (sym of_q)
    ∙ ap (λ b. not b && are_apart v.shared.cells (shared_of v.shared) (asks_in v.looks.items k) (asks_in v.looks.items j)) (sym (not_same k j (k == j) refl n))

pub apart_never : (v : Node) (k j : ℕ) → k ≡ j → not (k == j) ≡ apart_in v k j
apart_never v k j e =
    let same : (k == j) ≡ true = subst (λ m. (k == m) ≡ true) e (number-itself k) in
    ap not same ∙ sym (ap (λ b. not b && are_apart v.shared.cells (shared_of v.shared) (asks_in v.looks.items k) (asks_in v.looks.items j)) same)

-- ---- ends

-- an end is its parts
pub ending_same : (a b : Ending) → a.actors ≡ b.actors → a.cells ≡ b.cells → a.failed ≡ b.failed → a ≡ b
ending_same a b e f g = λ i. record { actors = e i; cells = f i; failed = g i }

-- ---- numbers among others

pub has_begins : (k j i : ℕ) (xs : List ℕ) → i < length xs → j ≡ get_or xs i j → (k == j) ≡ false → has k (drop i xs) ≡ has k (drop (i + 1) xs)
has_begins k j i xs l e n = ap (has k) (dropped xs i j l e) ∙ ap (λ b. if b then true else has k (drop (i + 1) xs)) n

pub has_there : (k j i : ℕ) (xs : List ℕ) → i < length xs → j ≡ get_or xs i j → (k == j) ≡ true → has k (drop i xs) ≡ true
has_there k j i xs l e n = ap (has k) (dropped xs i j l e) ∙ ap (λ b. if b then true else has k (drop (i + 1) xs)) n

pub has_none : (k i : ℕ) (xs : List ℕ) → length xs ≤ i → has k (drop i xs) ≡ false
has_none k i xs l = ap (has k) (drop_all i xs l)

-- ---- lists of numbers, one more behind

pub those_more : (f : ℕ → Bool) (k n : ℕ) → those f k (suc n) ≡ (if f (k + n) then those f k n ++ (k + n) ∷ [] else those f k n)
those_more f k zero = let e : k ≡ k + 0 = omega arith in subst (λ m. those f k 1 ≡ (if f m then m ∷ [] else [])) e refl
those_more f k (suc n) = ap (λ l. if f k then k ∷ l else l) (those_more f (suc k) n ∙ subst (λ m. (if f (suc k + n) then those f (suc k) n ++ (suc k + n) ∷ [] else those f (suc k) n) ≡ (if f m then those f (suc k) n ++ m ∷ [] else those f (suc k) n)) same refl) ∙ by (f k) (f (k + suc n))
  where
    same : suc k + n ≡ k + suc n
    same = omega arith

    by : (b c : Bool)
        → (if b then k ∷ (if c then those f (suc k) n ++ (k + suc n) ∷ [] else those f (suc k) n) else (if c then those f (suc k) n ++ (k + suc n) ∷ [] else those f (suc k) n))
        ≡ (if c then (if b then k ∷ those f (suc k) n else those f (suc k) n) ++ (k + suc n) ∷ [] else (if b then k ∷ those f (suc k) n else those f (suc k) n))
    by true true = refl
    by true false = refl
    by false true = refl
    by false false = refl

pub kept_more : (f : ℕ → Bool) (xs : List ℕ) (k : ℕ) → kept_by f (xs ++ k ∷ []) ≡ (if f k then kept_by f xs ++ k ∷ [] else kept_by f xs)
kept_more f [] k = refl
kept_more f (x ∷ xs) k = ap (λ l. if f x then x ∷ l else l) (kept_more f xs k) ∙ by (f x) (f k)
  where
    by : (b c : Bool)
        → (if b then x ∷ (if c then kept_by f xs ++ k ∷ [] else kept_by f xs) else (if c then kept_by f xs ++ k ∷ [] else kept_by f xs))
        ≡ (if c then (if b then x ∷ kept_by f xs else kept_by f xs) ++ k ∷ [] else (if b then x ∷ kept_by f xs else kept_by f xs))
    by true true = refl
    by true false = refl
    by false true = refl
    by false false = refl

pub those_next : (f : ℕ → Bool) (k : ℕ) (old new : List ℕ) (b : Bool) → b ≡ f k → old ≡ those f 0 k → new ≡ (if b then old ++ k ∷ [] else old) → new ≡ those f 0 (k + 1)
those_next f k old new b w h p =
    let e : k ≡ 0 + k = omega arith in
    let g : suc k ≡ k + 1 = omega arith in
    p
    ∙ ap (λ z. if z then old ++ k ∷ [] else old) w
    ∙ ap (λ l. if f k then l ++ k ∷ [] else l) h
    ∙ subst (λ m. (if f k then those f 0 k ++ k ∷ [] else those f 0 k) ≡ (if f m then those f 0 k ++ m ∷ [] else those f 0 k)) e refl
    ∙ sym (those_more f 0 k)
    ∙ ap (those f 0) g

pub kept_next : (f : ℕ → Bool) (xs ys : List ℕ) (k : ℕ) (old new : List ℕ) (b : Bool) → ys ≡ xs ++ k ∷ [] → b ≡ f k → old ≡ kept_by f xs → new ≡ (if b then old ++ k ∷ [] else old) → new ≡ kept_by f ys
kept_next f xs ys k old new b e w h p =
    p ∙ ap (λ z. if z then old ++ k ∷ [] else old) w ∙ ap (λ l. if f k then l ++ k ∷ [] else l) h ∙ sym (kept_more f xs k) ∙ ap (kept_by f) (sym e)

-- ---- what an actor asks

pub asks_read : (ls : List Look) (k : ℕ) (l : Look) → k < length ls → l ≡ get_or ls k l → asks_in ls k ≡ l.ask
asks_read [] k l h e = absurd (omega (arith, h))
asks_read (m ∷ ls) zero l h e = ap (λ (z : Look). z.ask) (sym e)
asks_read (m ∷ ls) (suc k) l h e = asks_read ls k l (omega (arith, h)) e

-- ---- numbers below another

pub below_read : (n : ℕ) (xs : List ℕ) (i k : ℕ) → AreBelow n xs → i < length xs → k ≡ get_or xs i k → k < n
below_read n [] i k h l e = absurd (omega (arith, l))
below_read n (x ∷ xs) zero k h l e = subst (λ z. z < n) (sym e) h.0
below_read n (x ∷ xs) (suc i) k h l e = below_read n xs i k h.1 (omega (arith, l)) e

pub below_by : (n : ℕ) (f : ℕ → Bool) (xs : List ℕ) → AreBelow n xs → AreBelow n (kept_by f xs)
below_by n f [] h = tt
below_by n f (x ∷ xs) h = by (f x) (below_by n f xs h.1)
  where
    by : (b : Bool) → AreBelow n (kept_by f xs) → AreBelow n (if b then x ∷ kept_by f xs else kept_by f xs)
    by true r = (h.0, r)
    by false r = r

-- those that may go on are among those that may
pub has_read : (xs : List ℕ) (i k : ℕ) → i < length xs → k ≡ get_or xs i k → has k xs ≡ true
has_read [] i k l e = absurd (omega (arith, l))
has_read (x ∷ xs) zero k l e = ap (λ b. if b then true else has k xs) (subst (λ z. (k == z) ≡ true) e (number-itself k))
has_read (x ∷ xs) (suc i) k l e = by (k == x) (has_read xs i k (omega (arith, l)) e)
  where
    by : (b : Bool) → has k xs ≡ true → (if b then true else has k xs) ≡ true
    by true h = refl
    by false h = h

pub below_at : (n : ℕ) (xs : List ℕ) (i : ℕ) → AreBelow n xs → i < length xs → get_or xs i 0 < n
below_at n [] i h l = absurd (omega (arith, l))
below_at n (x ∷ xs) zero h l = h.0
below_at n (x ∷ xs) (suc i) h l = below_at n xs i h.1 (omega (arith, l))

pub has_at : (xs : List ℕ) (i : ℕ) → i < length xs → has (get_or xs i 0) xs ≡ true
has_at xs i l = has_read xs i (get_or xs i 0) l (get_or_default xs i 0 (get_or xs i 0) l)
