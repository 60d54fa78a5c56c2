-- What is wanted of the validators of cells, and why one is refused.
use Rattle.std.specs.Prelude.{◌≡◌, ◌<◌, ℕ, true, List, length, Some}
use Rattle.txs_value_data.specs.Places.{nth}
use Rattle.txs_value_data.specs.declared.op.Callee.{Callee}
use Rattle.txs_value_cell.specs.Cells.{Validators}
use Rattle.txs_code_meaning.specs.WellTyped.{CalleeTakes}
use Rattle.txs_verify.specs.Standing.{is_pure}
use Rattle.txs_verify.specs.declared.error.BodyName.TheVariants.{Cell}
use Rattle.txs_verify.specs.declared.error.VerifyError.{VerifyError}
use Rattle.txs_verify.specs.declared.error.VerifyErrorKind.{VerifyErrorKind}
use Rattle.txs_verify.specs.declared.standing.Kind.{Kind}

-- a callee is an operation that takes one value, or a function that is there and has one parameter
abbrev pub TakesOne : List ℕ → Callee → Type 0
TakesOne ps f = CalleeTakes (length ps) ps f 1

-- a callee is pure, by what functions are for; one whose function isn't among these counts as pure
abbrev pub IsPure : List Kind → Callee → Type 0
IsPure ks f = is_pure ks f ≡ true

-- each validator is so
abbrev pub EachValidator : (Callee → Type 0) → Validators → Type 0
EachValidator IsSo vs = (n : ℕ) (f : Callee) → nth vs n ≡ Some (Some f) → IsSo f

-- each of the first so many is
abbrev pub FirstValidators : (Callee → Type 0) → Validators → ℕ → Type 0
FirstValidators IsSo vs k = (n : ℕ) (f : Callee) → n < k → nth vs n ≡ Some (Some f) → IsSo f

-- the refusal of the validator of a cell
abbrev pub refused_cell : VerifyErrorKind → ℕ → VerifyError
refused_cell kind number = record { kind = kind; body = Cell number; at = 0 }

-- The validator of a cell isn't so, those of the cells before it are, and the refusal is of this kind.
pub record IsRefusedValidator (IsSo : Callee → Type 0) (kind : VerifyErrorKind) (vs : Validators) (e : VerifyError) : Type 0 where
  pub number : ℕ
  pub callee : Callee
  pub stands : nth vs number ≡ Some (Some callee)
  pub wrong : IsSo callee → ⊥
  pub before : FirstValidators IsSo vs number
  pub is : e ≡ refused_cell kind number

-- the validator of the cell with this number isn't so
abbrev pub IsWrongValidator : (Callee → Type 0) → VerifyErrorKind → Validators → ℕ → VerifyError → Type 0
IsWrongValidator IsSo kind vs number e = (f : Callee) × (nth vs number ≡ Some (Some f)) × (IsSo f → ⊥) × (e ≡ refused_cell kind number)
