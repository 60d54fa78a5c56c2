use Rattle.std.proofs.Common.{◌≡◌, ◌<◌, ℕ, Some}
use Rattle.txs_code_meaning.specs.PlainCode.{parameters_of}
use Rattle.txs_code_meaning.specs.declared.instr.Instr.{Instr}
use Rattle.txs_value_data.specs.Places.{nth}
use Rattle.txs_verify.specs.Alone.{IsRight}
use Rattle.txs_verify.proofs.alone.look_alone.Given as goal

abbrev pub invariant-loop-at : goal.invariant-loop-at
invariant-loop-at l = (p : ℕ) (i : Instr) → p < l.at → nth l.body.instrs p ≡ Some i → IsRight l.callable (parameters_of l.functions) l.body p i
