-- Refusals of bytes and of their code.
use Rattle.std.proofs.Common.{◌≡◌, sym, subst}
use Rattle.txs_code_meaning.specs.PlainCode.{PlainCode}
use Rattle.txs_verify.specs.declared.load_error.LoadError.{LoadError}
use Rattle.txs_verify.specs.Load.{IsWrongCode, code_error_by, code_error}
use Rattle.txs_verify.specs.Verdict.{IsIllTyped, IsRefused, OrMemory}
use Rattle.txs_verify.specs.declared.error.VerifyError.{VerifyError}
use Rattle.txs_verify.specs.declared.error.VerifyErrorKind.{VerifyErrorKind}
use Rattle.txs_verify.specs.declared.error.VerifyErrorKind.TheVariants as code_kind

-- what is wrong with code that is refused
wrong_code : (code : PlainCode) (e : VerifyError) (k : VerifyErrorKind) → OrMemory k (IsRefused code e) → OrMemory k (IsIllTyped code) → IsWrongCode code (code_error_by k e)
wrong_code code e code_kind.JumpOut r i = (r, i)
wrong_code code e code_kind.StackLow r i = (r, i)
wrong_code code e code_kind.StackDiffers r i = (r, i)
wrong_code code e code_kind.LocalOut r i = (r, i)
wrong_code code e code_kind.ArityWrong r i = (r, i)
wrong_code code e code_kind.CallOrder r i = (r, i)
wrong_code code e code_kind.TxNesting r i = (r, i)
wrong_code code e code_kind.FallsOff r i = (r, i)
wrong_code code e code_kind.Memory r i = tt

pub code_refused : (code : PlainCode) (e : VerifyError) (l : LoadError) → l ≡ code_error e → OrMemory e.kind (IsRefused code e) → OrMemory e.kind (IsIllTyped code) → IsWrongCode code l
code_refused code e l is r i = subst (IsWrongCode code) (sym is) (wrong_code code e e.kind r i)
