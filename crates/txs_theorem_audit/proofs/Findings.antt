-- What findings say, and tests of lists.
use Rattle.std.proofs.Common.{◌≡◌, ◌≤◌, ◌<◌, ◌+◌, ℕ, zero, suc, ◌==◌, ◌&&◌, Bool, true, false, List, [], ◌∷◌, ◌++◌, length, Option, Some, None, refl, sym, ap, ◌∙◌, subst, arith}
use Rattle.std.specs.Prelude.{not}
use Rattle.std.proofs.lemmas.Bool.{eqb-true, eq-eqb, false≢true}
use Rattle.txs_value_data.specs.Places.{nth}
use Rattle.txs_tree_meaning.proofs.Callable.{both}
use Rattle.txs_world_book.specs.Book.{is_there}
use Rattle.txs_world_protocol.specs.declared.event.Event.{Event}
use Rattle.txs_theorem_audit.specs.Audited.{PlainActorReport, Verdict, Agrees, Differs, Undecided, Finding, Fine, Off, Short, and_then, check, answer}
use Rattle.txs_theorem_audit.specs.Explained.{Begins}
use Rattle.txs_theorem_audit.specs.Verdict.{begins, same_numbers, trace_found, traces_found}

-- ---- findings

abbrev pub IsFine : Finding → Type 0
IsFine Fine = Unit {0}
IsFine (Off a i) = ⊥
IsFine (Short a i) = ⊥

abbrev DoesAgree : Verdict → Type 0
DoesAgree (Agrees s) = Unit {0}
DoesAgree (Differs a i) = ⊥
DoesAgree (Undecided a i) = ⊥

abbrev serial_in : Verdict → Bool
serial_in (Agrees s) = s
serial_in (Differs a i) = false
serial_in (Undecided a i) = false

pub answer_fine : (f : Finding) (s t : Bool) → answer f s ≡ Agrees t → (f ≡ Fine) × (s ≡ t)
answer_fine Fine s t h = (refl, ap serial_in h)
answer_fine (Off a i) s t h = absurd (subst DoesAgree (sym h) tt)
answer_fine (Short a i) s t h = absurd (subst DoesAgree (sym h) tt)

pub and_fine : (f g : Finding) → and_then f g ≡ Fine → (f ≡ Fine) × (g ≡ Fine)
and_fine Fine g h = (refl, h)
and_fine (Off a i) g h = absurd (subst IsFine (sym h) tt)
and_fine (Short a i) g h = absurd (subst IsFine (sym h) tt)

pub check_fine : (b : Bool) (a i : ℕ) → check b a i ≡ Fine → b ≡ true
check_fine true a i h = refl
check_fine false a i h = absurd (subst IsFine (sym h) tt)

pub off_fine : {A : Type 0} (a i : ℕ) → Off a i ≡ Fine → A
off_fine a i h = absurd (subst IsFine (sym h) tt)

pub short_fine : {A : Type 0} (a i : ℕ) → Short a i ≡ Fine → A
short_fine a i h = absurd (subst IsFine (sym h) tt)

-- what isn't off
abbrev pub NotOff : Finding → Type 0
NotOff Fine = Unit {0}
NotOff (Off a i) = ⊥
NotOff (Short a i) = Unit {0}

pub and_not : (f g : Finding) → NotOff f → NotOff g → NotOff (and_then f g)
and_not Fine g h k = k
and_not (Off a i) g h k = absurd h
and_not (Short a i) g h k = tt

pub check_not : (b : Bool) (a i : ℕ) → b ≡ true → NotOff (check b a i)
check_not true a i h = tt
check_not false a i h = absurd (false≢true h)

-- ---- truth values

pub true_false : true ≡ false → ⊥
true_false e = false≢true (sym e)

pub not_true : (b : Bool) → not b ≡ true → b ≡ false
not_true true h = absurd (false≢true h)
not_true false h = refl

pub none_there : {A : Type 0} (o : Option A) → not (is_there o) ≡ true → o ≡ None
none_there None h = refl
none_there (Some a) h = absurd (false≢true h)

pub and_true : (a b : Bool) → a ≡ true → b ≡ true → (a && b) ≡ true
and_true a b h g = ap (λ c. c && b) h ∙ g

pub not_false : (b : Bool) → b ≡ false → not b ≡ true
not_false true h = absurd (false≢true (sym h))
not_false false h = refl

pub equal : (n : ℕ) → (n == n) ≡ true
equal n = eq-eqb n n refl

-- ---- lists

abbrev IsThere : {A : Type 0} → Option A → Type 0
IsThere None = ⊥
IsThere (Some a) = Unit {0}

-- nothing is there and not
pub not_there : {A B : Type 0} {a : A} → None ≡ Some a → B
not_there e = absurd (subst IsThere (sym e) tt)

pub empty : {A : Type 0} (xs : List A) → (length xs == 0) ≡ true → xs ≡ []
empty [] h = refl
empty (x ∷ xs) h = let e = eqb-true (suc (length xs)) 0 h in absurd (omega (arith, e))

pub same_numbers_sound : (xs ys : List ℕ) → same_numbers xs ys ≡ true → xs ≡ ys
same_numbers_sound [] [] h = refl
same_numbers_sound [] (y ∷ ys) h = absurd (false≢true h)
same_numbers_sound (x ∷ xs) [] h = absurd (false≢true h)
same_numbers_sound (x ∷ xs) (y ∷ ys) h =
    let parts = both (x == y) (same_numbers xs ys) h in
    ap (λ z. z ∷ xs) (eqb-true x y parts.0) ∙ ap (λ l. y ∷ l) (same_numbers_sound xs ys parts.1)

pub begins_sound : (xs ys : List ℕ) → begins xs ys ≡ true → Begins ys xs
begins_sound [] ys h = (ys, refl)
begins_sound (x ∷ xs) [] h = absurd (false≢true h)
begins_sound (x ∷ xs) (y ∷ ys) h =
    let parts = both (x == y) (begins xs ys) h in
    let r = begins_sound xs ys parts.1 in
    (r.0, ap (λ l. y ∷ l) r.1 ∙ ap (λ z. z ∷ xs ++ r.0) (sym (eqb-true x y parts.0)))

pub nth_beyond : {A : Type 0} (xs : List A) (n : ℕ) → length xs ≤ n → nth xs n ≡ None
nth_beyond [] n le = refl
nth_beyond (x ∷ xs) zero le = absurd (omega (arith, le))
nth_beyond (x ∷ xs) (suc n) le = nth_beyond xs n (omega (arith, le))

-- ---- where a trace is off

abbrev IsActor : ℕ → Finding → Type 0
IsActor n Fine = Unit {0}
IsActor n (Off a i) = a < n
IsActor n (Short a i) = Unit {0}

checked : (b : Bool) (a i n : ℕ) → a < n → IsActor n (check b a i)
checked true a i n lt = tt
checked false a i n lt = lt

first_actor : (f g : Finding) (n : ℕ) → IsActor n f → IsActor n g → IsActor n (and_then f g)
first_actor Fine g n x y = y
first_actor (Off a i) g n x y = x
first_actor (Short a i) g n x y = x

-- an actor whose trace is off has an entry
traces_within : (books : ℕ → List Event) (count a : ℕ) (rans : List PlainActorReport) (n : ℕ) → a + length rans ≤ n → IsActor n (traces_found books count a rans)
traces_within books count a [] n le = tt
traces_within books count a (x ∷ xs) n le = first_actor (trace_found books count a x.trace) (traces_found books count (suc a) xs) n (checked _ a _ n (omega (arith, le))) (traces_within books count (suc a) xs n (omega (arith, le)))

pub off_within : (books : ℕ → List Event) (count : ℕ) (rans : List PlainActorReport) (a i : ℕ) → Off a i ≡ traces_found books count 0 rans → a < length rans
off_within books count rans a i h = subst (IsActor (length rans)) (sym h) (traces_within books count 0 rans (length rans) (omega arith))
