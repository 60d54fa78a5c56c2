-- The parameters of a function among those of all.
use Rattle.std.proofs.Common.{arith, ap, sym, ◌∙◌, ◌-◌, ◌≡◌, ◌<◌, ◌≤◌, ℕ, zero, suc, List, [], ◌∷◌, length, get_or, Option, Some, None, refl}
use Rattle.txs_value_data.specs.Places.{nth}
use Rattle.txs_code_meaning.specs.PlainCode.{CodeBody, parameters_of}
use Rattle.txs_verify.specs.declared.walk.Mark.{Mark}
use Rattle.txs_verify.specs.Marks.{Marks, mark_at}
use Rattle.txs_code_meaning.specs.declared.instr.Instr.{Instr}
use Rattle.txs_verify.specs.declared.standing.Kind.{Kind}
use Rattle.txs_verify.specs.Paths.{or_none, before, before_that}
use Rattle.txs_verify.specs.Standing.{or_pure, pure_kind}

pub parameters_at : (bs : List CodeBody) (f : ℕ) (d : CodeBody) → f < length bs → or_none (nth (parameters_of bs) f) ≡ (get_or bs f d).parameters
parameters_at [] f d h = absurd (omega (arith, h))
parameters_at (b ∷ bs) zero d h = refl
parameters_at (b ∷ bs) (suc f) d h = parameters_at bs f d (omega (arith, h))

pub parameters_past : (bs : List CodeBody) (f : ℕ) → length bs ≤ f → or_none (nth (parameters_of bs) f) ≡ 0
parameters_past [] f h = refl
parameters_past (b ∷ bs) zero h = absurd (omega (arith, h))
parameters_past (b ∷ bs) (suc f) h = parameters_past bs f (omega (arith, h))

-- the mark that is read at a place
pub mark_is : (ms : Marks) (p : ℕ) (d : Option Mark) → p < length ms → mark_at ms p ≡ get_or ms p d
mark_is [] p d h = absurd (omega (arith, h))
mark_is (m ∷ ms) zero d h = refl
mark_is (m ∷ ms) (suc p) d h = mark_is ms p d (omega (arith, h))

-- what stands at a place
pub nth_is : {A : Type 0} (xs : List A) (p : ℕ) (d : A) → p < length xs → nth xs p ≡ Some (get_or xs p d)
nth_is [] p d h = absurd (omega (arith, h))
nth_is (x ∷ xs) zero d h = refl
nth_is (x ∷ xs) (suc p) d h = nth_is xs p d (omega (arith, h))

-- past the end stands nothing
pub nth_past : {A : Type 0} (xs : List A) (p : ℕ) → length xs ≤ p → nth xs p ≡ None
nth_past [] p h = refl
nth_past (x ∷ xs) zero h = absurd (omega (arith, h))
nth_past (x ∷ xs) (suc p) h = nth_past xs p (omega (arith, h))

pred_is : (p : ℕ) → p ≡ suc p - 1
pred_is p = omega arith

-- the kind of a function
pub kind_there : (ks : List Kind) (f : ℕ) (d : Kind) → f < length ks → or_pure (nth ks f) ≡ get_or ks f d
kind_there [] f d h = absurd (omega (arith, h))
kind_there (k ∷ ks) zero d h = refl
kind_there (k ∷ ks) (suc f) d h = kind_there ks f d (omega (arith, h))

pub kind_not_there : (ks : List Kind) (f : ℕ) → length ks ≤ f → or_pure (nth ks f) ≡ pure_kind
kind_not_there ks f h = ap or_pure (nth_past ks f h)

-- the instructions one and two places before
pub before_is : (is : List Instr) (at : ℕ) → 1 ≤ at → before is at ≡ nth is (at - 1)
before_is is zero h = absurd (omega (arith, h))
before_is is (suc p) h = ap (nth is) (pred_is p)

pub before_none : (is : List Instr) (at : ℕ) → at < 1 → before is at ≡ None
before_none is zero h = refl
before_none is (suc p) h = absurd (omega (arith, h))

pred_two : (p : ℕ) → p ≡ suc (suc p) - 2
pred_two p = omega arith

pub before_that_is : (is : List Instr) (at : ℕ) → 2 ≤ at → before_that is at ≡ nth is (at - 2)
before_that_is is zero h = absurd (omega (arith, h))
before_that_is is (suc zero) h = absurd (omega (arith, h))
before_that_is is (suc (suc p)) h = ap (nth is) (pred_two p)

pub before_that_none : (is : List Instr) (at : ℕ) → at < 2 → before_that is at ≡ None
before_that_none is zero h = refl
before_that_none is (suc zero) h = refl
before_that_none is (suc (suc p)) h = absurd (omega (arith, h))

-- the parameters of a function that is there
pub parameters_nth : (bs : List CodeBody) (f : ℕ) (d : CodeBody) → f < length bs → nth (parameters_of bs) f ≡ Some (get_or bs f d).parameters
parameters_nth [] f d h = absurd (omega (arith, h))
parameters_nth (b ∷ bs) zero d h = refl
parameters_nth (b ∷ bs) (suc f) d h = parameters_nth bs f d (omega (arith, h))

-- and of one that isn't
pub parameters_none : (bs : List CodeBody) (f : ℕ) → length bs ≤ f → nth (parameters_of bs) f ≡ None
parameters_none [] f h = refl
parameters_none (b ∷ bs) zero h = absurd (omega (arith, h))
parameters_none (b ∷ bs) (suc f) h = parameters_none bs f (omega (arith, h))

-- one stands there or none
pub both_stand : {A : Type 0} (o : Option A) (x y : A) → o ≡ Some x → o ≡ Some y → x ≡ y
both_stand o x y a b = let e : Some x ≡ Some y = sym a ∙ b in cc

pub none_stands : {A : Type 0} (o : Option A) (x : A) → o ≡ None → o ≡ Some x → ⊥
none_stands o x a b = let e : None ≡ Some x = sym a ∙ b in absurd cc
