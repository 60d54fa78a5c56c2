-- Code that bytes are the form of, and why bytes aren't taken as code.
use Rattle.std.specs.Prelude.{◌≡◌, ℕ, ◌++◌, Bool, true, false, List, Result, Ok, Err}
use Rattle.txs_code_decode.specs.CodeForm.{HasForm, decoded, form}
use Rattle.txs_code_decode.specs.declared.error.CodeError.{CodeError}
use Rattle.txs_code_decode.specs.declared.error.CodeErrorKind.{CodeErrorKind}
use Rattle.txs_code_decode.specs.declared.error.CodeErrorKind.TheVariants as bytes_kind
use Rattle.txs_code_meaning.specs.PlainCode.{PlainCode}
use Rattle.txs_verify.specs.declared.load_error.LoadError.{LoadError}
use Rattle.txs_verify.specs.declared.load_error.LoadError.TheVariants as load
use Rattle.txs_verify.specs.Verdict.{IsIllTyped, IsRefused}
use Rattle.txs_verify.specs.declared.error.VerifyError.{VerifyError}
use Rattle.txs_verify.specs.declared.error.VerifyErrorKind.{VerifyErrorKind}
use Rattle.txs_verify.specs.declared.error.VerifyErrorKind.TheVariants as code_kind

-- the bytes are the form of this code; no other code has it
pub record IsFormOf (bytes : List ℕ) (code : PlainCode) : Type 0 where
  pub fits : HasForm code
  pub is : bytes ≡ form code

-- ---- refusals

-- what a refusal of bytes is
abbrev pub bytes_error_by : CodeErrorKind → CodeError → LoadError
bytes_error_by bytes_kind.Memory e = load.Memory
bytes_error_by _ e = load.Bytes e

-- the same, by its kind
abbrev pub bytes_error : CodeError → LoadError
bytes_error e = bytes_error_by e.kind e

-- what a refusal of code is
abbrev pub code_error_by : VerifyErrorKind → VerifyError → LoadError
code_error_by code_kind.Memory e = load.Memory
code_error_by _ e = load.Code e

-- the same, by its kind
abbrev pub code_error : VerifyError → LoadError
code_error e = code_error_by e.kind e

-- why code isn't taken: it is refused truly, and is well typed with no rooms
abbrev pub IsWrongCode : PlainCode → LoadError → Type 0
IsWrongCode code (load.Bytes e) = ⊥
IsWrongCode code (load.Code e) = IsRefused code e × IsIllTyped code
IsWrongCode code load.Memory = Unit {0}

-- this is wrong with code that the bytes are the form of
pub record IsFormOfWrong (bytes : List ℕ) (e : LoadError) : Type 0 where
  pub code : PlainCode
  pub of : IsFormOf bytes code
  pub wrong : IsWrongCode code e

-- Why bytes aren't taken as code: the first refusal from left to right is this, since they are the form of no code; or something is wrong
-- with the code that they are the form of.
abbrev pub IsRefusal : List ℕ → LoadError → Type 0
IsRefusal bytes (load.Bytes e) = decoded bytes ≡ Err e
IsRefusal bytes (load.Code e) = IsFormOfWrong bytes (load.Code e)
IsRefusal bytes load.Memory = Unit {0}

-- ---- bytes behind which more may be

-- what is behind bytes changes nothing of such a refusal
abbrev pub stays_refused : CodeErrorKind → Bool
stays_refused bytes_kind.BadMagic = true
stays_refused bytes_kind.Truncated = false
stays_refused bytes_kind.BadOpcode = true
stays_refused bytes_kind.BadOperand = true
stays_refused bytes_kind.Trailing = true
stays_refused bytes_kind.TooLarge = true
stays_refused bytes_kind.Memory = true

-- what bytes are read as is such a refusal
abbrev pub settles : Result PlainCode CodeError → Bool
settles (Ok code) = false
settles (Err e) = stays_refused e.kind

-- no form begins with these bytes: they are refused so, whatever is behind them
abbrev pub is_settled : List ℕ → Bool
is_settled bytes = settles (decoded bytes)

-- Bytes that are settled are refused so with any bytes behind them.
abbrev pub RefusalsStay : Type 0
RefusalsStay = (bytes more : List ℕ) → is_settled bytes ≡ true → decoded (bytes ++ more) ≡ decoded bytes
