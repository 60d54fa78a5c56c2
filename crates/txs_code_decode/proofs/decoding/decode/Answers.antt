use Rattle.std.proofs.Common.{length, Ok, Err, arith}
use Rattle.txs_code_decode.specs.CodeForm.{error_of}
use Rattle.txs_code_decode.proofs.Decoded.{is_code, is_only, first_code, first_error, memory_so}
use Rattle.txs_code_decode.proofs.decoding.decode.Goals as goal

pub returns-in-Ok-clause-code : goal.returns-in-Ok-clause-code
returns-in-Ok-clause-code c = is_code c.args.bytes.now c.in-Ok.code (λ i. omega (arith, c.type_inv.bytes i)) c.in-Ok.ensures.value

pub returns-in-Ok-clause-only : goal.returns-in-Ok-clause-only
returns-in-Ok-clause-only c = λ code fits e. is_only (Ok c.in-Ok.code) c.args.bytes.now code fits e (first_code c.args.bytes.now c.in-Ok.code c.in-Ok.ensures.value)

pub returns-in-Ok-clause-first : goal.returns-in-Ok-clause-first
returns-in-Ok-clause-first c = first_code c.args.bytes.now c.in-Ok.code c.in-Ok.ensures.value

pub returns-in-Err-clause-only : goal.returns-in-Err-clause-only
returns-in-Err-clause-only c =
    λ code fits e. rw c.error_of.ensures (is_only (Err (error_of (length c.args.bytes.now) c.in-Err.stop)) c.args.bytes.now code fits e (first_error c.args.bytes.now c.in-Err.stop c.in-Err.ensures.value))

pub returns-in-Err-clause-first : goal.returns-in-Err-clause-first
returns-in-Err-clause-first c =
    rw c.error_of.ensures (first_error c.args.bytes.now c.in-Err.stop c.in-Err.ensures.value)

pub returns-in-Err-clause-magic : goal.returns-in-Err-clause-magic
returns-in-Err-clause-magic c = λ e. c.in-Err.ensures.magic (memory_so (length c.args.bytes.now) c.in-Err.stop (rw c.error_of.ensures at e))
