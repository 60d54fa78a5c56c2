-- Bytes with which no form begins.
use Rattle.std.proofs.Common.{◌≡◌, ◌≢◌, ℕ, Bool, true, false, List, ◌++◌, Result, Ok, Err, IfOk, refl, sym, ap, ◌∙◌}
use Rattle.std.specs.declared.alloc.AllocError.{AllocError}
use Rattle.txs_code_meaning.specs.PlainCode.{PlainCode}
use Rattle.txs_code_decode.specs.declared.error.CodeError.{CodeError}
use Rattle.txs_code_decode.specs.declared.error.CodeErrorKind.TheVariants.{Memory}
use Rattle.txs_code_decode.specs.CodeForm.{decoded}
use Rattle.txs_code_decode.specs.Errors.{out_of_memory}
use Rattle.txs_code_decode.proofs.Further.{refused_on}
use Rattle.txs_verify.specs.Load.{RefusalsStay, is_settled, settles, stays_refused}

stays_by : (bytes more : List ℕ) (w : Result PlainCode CodeError) → decoded bytes ≡ w → settles w ≡ true → decoded (bytes ++ more) ≡ w
stays_by bytes more (Ok code) is settled = absurd cc
stays_by bytes more (Err e) is settled = refused_on bytes more e is (λ t. absurd (true_not (sym settled ∙ ap stays_refused t)))
  where
    true_not : true ≡ false → ⊥
    true_not x = absurd cc

pub refusals_stay : RefusalsStay
refusals_stay bytes more settled = stays_by bytes more (decoded bytes) refl settled

-- bytes that are code's form aren't settled
pub unsettled : (bytes : List ℕ) (code : PlainCode) → decoded bytes ≡ Ok code → is_settled bytes ≡ true → ⊥
unsettled bytes code is settled = true_not (sym settled ∙ ap settles is)
  where
    true_not : true ≡ false → ⊥
    true_not x = absurd cc

-- what was answered of them
pub settled_so : (r : Result Bool AllocError) (bytes : List ℕ) (e : CodeError) → ((e ≡ out_of_memory → ⊥) → decoded bytes ≡ Err e) → IfOk r (λ stays. stays ≡ stays_refused e.kind) → IfOk r (λ stays. e.kind ≢ Memory) → IfOk r (λ settled. settled ≡ is_settled bytes)
settled_so (Ok stays) bytes e first value told = value ∙ sym (ap settles (first (λ is. told (ap (λ (x : CodeError). x.kind) is))))
settled_so (Err x) bytes e first value told = tt
