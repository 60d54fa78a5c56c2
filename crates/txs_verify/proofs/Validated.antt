-- What was found of validators, one after the other; and what it says of well-typed code.
use Rattle.std.proofs.Common.{arith, inl, inr, ◌≡◌, ◌∙◌, ◌<◌, ◌≤◌, ◌+◌, ℕ, zero, suc, Bool, true, false, not, List, [], ◌∷◌, length, nat_eq, Option, Some, None, refl, sym, ap, subst}
use Rattle.std.specs.Prelude.{IsTrue, ◌↔◌}
use Rattle.std.proofs.lemmas.Bool.{cases_lt, eqb-true}
use Rattle.txs_value_apply.specs.Core.{takes}
use Rattle.txs_value_data.specs.declared.op.Op.{Op}
use Rattle.txs_value_data.specs.Places.{nth}
use Rattle.txs_value_data.specs.declared.op.Callee.{Callee}
use Rattle.txs_value_data.specs.declared.op.Callee.TheVariants as callee
use Rattle.txs_value_cell.specs.Cells.{Validators, validators_of}
use Rattle.txs_value_cell.specs.declared.cell.CellDefinition.{CellDefinition}
use Rattle.txs_code_meaning.specs.WellTyped.{Functions, CalleeTakes, IsPureFunction, IsPureCallee, WellTypedValidators}
use Rattle.txs_verify.specs.declared.error.VerifyError.{VerifyError}
use Rattle.txs_verify.specs.declared.error.VerifyErrorKind.{VerifyErrorKind}
use Rattle.txs_verify.specs.declared.standing.Kind.{Kind}
use Rattle.txs_verify.specs.Standing.{kind_from, kinds_from, or_pure}
use Rattle.txs_verify.specs.Validators.{TakesOne, IsPure, EachValidator, FirstValidators, IsRefusedValidator, IsWrongValidator}

some_is : {A : Type 0} (x y : A) → Some x ≡ Some y → x ≡ y
some_is x y e = cc

none_is : {A : Type 0} (x : A) → None ≡ Some x → ⊥
none_is x e = absurd cc

pub false_not : (b : Bool) → b ≡ false → b ≡ true → ⊥
false_not b off on = let bad : false ≡ true = sym off ∙ on in absurd cc

-- ---- one callee

pub operation_takes : (b : Bool) (o : Op) → b ≡ takes o 1 → IsTrue b ↔ (takes o 1 ≡ true)
operation_takes b o is = (λ yes. sym is ∙ yes, λ so. is ∙ so)

-- what stands at a place has a place
nth_below : (ps : List ℕ) (f m : ℕ) → nth ps f ≡ Some m → f < length ps
nth_below [] f m e = absurd (none_is m e)
nth_below (p ∷ ps) zero m e = omega arith
nth_below (p ∷ ps) (suc f) m e = omega (arith, nth_below ps f m e)

pub function_takes : (ps : List ℕ) (f : ℕ) (b : Bool) → ((m : ℕ) → nth ps f ≡ Some m → b ≡ nat_eq m 1) → (nth ps f ≡ None → b ≡ false) → IsTrue b ↔ TakesOne ps (callee.Function f)
function_takes ps f b present missing = by (nth ps f) refl
  where
    by : (o : Option ℕ) → nth ps f ≡ o → IsTrue b ↔ TakesOne ps (callee.Function f)
    by None is = (λ yes. absurd (false_not b (missing is) yes), λ so. absurd (none_is 1 (sym is ∙ so.1)))
    by (Some m) is = (
      λ yes. (nth_below ps f m is, is ∙ ap Some (eqb-true m 1 (sym (present m is) ∙ yes))),
      λ so. present m is ∙ ap (λ k. nat_eq k 1) (some_is m 1 (sym is ∙ so.1)),
    )

-- ---- loops over cells

cells_long : (ds : List CellDefinition) → length (validators_of ds) ≡ length ds
cells_long [] = refl
cells_long (d ∷ ds) = ap suc (cells_long ds)

-- the validator of a cell
pub validator_there : (ds : List CellDefinition) (n : ℕ) (d : CellDefinition) → nth ds n ≡ Some d → nth (validators_of ds) n ≡ Some d.validator
validator_there [] n d e = absurd (none_is d e)
validator_there (x ∷ ds) zero d e = ap (λ (y : CellDefinition). Some y.validator) (some_is x d e)
validator_there (x ∷ ds) (suc n) d e = validator_there ds n d e

past_none : {A : Type 0} (xs : List A) (n : ℕ) (x : A) → length xs ≤ n → nth xs n ≡ Some x → ⊥
past_none [] n x le e = none_is x e
past_none (y ∷ xs) zero x le e = absurd (omega (arith, le))
past_none (y ∷ xs) (suc n) x le e = past_none xs n x (omega (arith, le)) e

module _ (IsSo : Callee → Type 0) (vs : Validators) where
  -- a cell without a validator
  pub of_none : (n : ℕ) → nth vs n ≡ Some None → (f : Callee) → nth vs n ≡ Some (Some f) → IsSo f
  of_none n none f there = absurd (none_is f (some_is None (Some f) (sym none ∙ there)))

  -- a cell with one
  pub of_some : (n : ℕ) (g : Callee) → nth vs n ≡ Some (Some g) → IsSo g → (f : Callee) → nth vs n ≡ Some (Some f) → IsSo f
  of_some n g is so f there = subst IsSo (some_is g f (some_is (Some g) (Some f) (sym is ∙ there))) so

  pub none_yet : FirstValidators IsSo vs 0
  none_yet n f below there = absurd (omega (arith, below))

  pub one_more : (k : ℕ) → FirstValidators IsSo vs k → ((f : Callee) → nth vs k ≡ Some (Some f) → IsSo f) → FirstValidators IsSo vs (k + 1)
  one_more k before here n f below there =
      elim (cases_lt n k) [
        | inl lt ↦ before n f lt there
        | inr le ↦ (let same : n ≡ k = omega (arith, le, below) in here f (subst (λ m. nth vs m ≡ Some (Some f)) same there))
      ]

  pub first_wrong : (kind : VerifyErrorKind) (k : ℕ) (e : VerifyError) → FirstValidators IsSo vs k → IsWrongValidator IsSo kind vs k e → IsRefusedValidator IsSo kind vs e
  first_wrong kind k e before w = record { number = k; callee = w.0; stands = w.1; wrong = w.2; before = before; is = w.3 }

-- all were looked at
pub all_so : (IsSo : Callee → Type 0) (ds : List CellDefinition) (k : ℕ) → length ds ≤ k → FirstValidators IsSo (validators_of ds) k → EachValidator IsSo (validators_of ds)
all_so IsSo ds k le first n f there =
    elim (cases_lt n k) [
      | inl lt ↦ first n f lt there
      | inr past ↦ absurd (past_none (validators_of ds) n (Some f) (omega (arith, cells_long ds, le, past)) there)
    ]

-- ---- well-typed validators

-- a function with a kind that is pure is so by the definition of well-typed code
pure_from : (ks : List Kind) (g : ℕ) → g < length ks → not (or_pure (nth ks g)).impure ≡ true → IsPureFunction (kinds_from ks) g
pure_from [] g below pure = absurd (omega (arith, below))
pure_from (k ∷ ks) zero below pure = (kind_from k, refl, pure)
pure_from (k ∷ ks) (suc g) below pure = pure_from ks g (omega (arith, below)) pure

callee_pure : (ps : List ℕ) (ks : List Kind) (f : Callee) → length ks ≡ length ps → TakesOne ps f → IsPure ks f → IsPureCallee (kinds_from ks) f
callee_pure ps ks (callee.Core op) many takes pure = tt
callee_pure ps ks (callee.Function g) many takes pure = pure_from ks g (omega (arith, takes.0, many)) pure

pub validators_typed : (ps : List ℕ) (ks : List Kind) (vs : Validators) → length ks ≡ length ps → EachValidator (TakesOne ps) vs → EachValidator (IsPure ks) vs → WellTypedValidators (record { parameters = ps; kinds = kinds_from ks }) vs
validators_typed ps ks [] many takes pure = tt
validators_typed ps ks (None ∷ vs) many takes pure = validators_typed ps ks vs many (λ n f there. takes (suc n) f there) (λ n f there. pure (suc n) f there)
validators_typed ps ks (Some f ∷ vs) many takes pure =
    (takes 0 f refl, callee_pure ps ks f many (takes 0 f refl) (pure 0 f refl), validators_typed ps ks vs many (λ n g there. takes (suc n) g there) (λ n g there. pure (suc n) g there))

-- each validator of well-typed code takes one value and is pure
pub typed_each : (fs : Functions) (vs : Validators) → WellTypedValidators fs vs → (n : ℕ) (f : Callee) → nth vs n ≡ Some (Some f) → CalleeTakes (length fs.parameters) fs.parameters f 1 × IsPureCallee fs.kinds f
typed_each fs [] typed n f there = absurd (none_is (Some f) there)
typed_each fs (None ∷ vs) typed zero f there = absurd (none_is f (some_is None (Some f) there))
typed_each fs (None ∷ vs) typed (suc n) f there = typed_each fs vs typed n f there
typed_each fs (Some g ∷ vs) typed zero f there =
    let same = some_is g f (some_is (Some g) (Some f) there) in
    subst (λ h. CalleeTakes (length fs.parameters) fs.parameters h 1 × IsPureCallee fs.kinds h) same (typed.0, typed.1)
typed_each fs (Some g ∷ vs) typed (suc n) f there = typed_each fs vs typed.2 n f there
