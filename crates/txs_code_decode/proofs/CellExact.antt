-- The formats of operations, callees and cells are exact.
use Rattle.std.proofs.Common.{◌≡◌, ℕ, Bool, true, false, [], Option, Some, None, refl, sym, ap}
use Rattle.txs_value_data.specs.Operations.{op_number, operations}
use Rattle.txs_value_data.specs.declared.op.Callee.{Callee}
use Rattle.txs_value_data.specs.declared.op.Callee.TheVariants as callee
use Rattle.txs_value_data.specs.Limits.{most_definitions}
use Rattle.txs_value_data.specs.declared.value.CellKind.{CellKind}
use Rattle.txs_value_data.specs.declared.value.CellKind.TheVariants.{Ref, Atom, Agent}
use Rattle.txs_code_decode.specs.declared.error.CodeErrorKind.TheVariants.{BadOperand}
use Rattle.txs_code_decode.specs.declared.tag.CalleeTag.{CalleeTag}
use Rattle.txs_code_decode.specs.declared.tag.CalleeTag.TheVariants as callee_tag
use Rattle.txs_code_decode.specs.declared.tag.ValidatorTag.{ValidatorTag}
use Rattle.txs_code_decode.specs.declared.tag.ValidatorTag.TheVariants as validator_tag
use Rattle.txs_code_decode.specs.CellForm.{kinds, kind_byte, modes, mode_byte, kind_format, mode_format, validator_tags, validator_byte, validator_tag_of, validator_callee, validator_body, validator_format, cell_format}
use Rattle.txs_code_decode.specs.Format.{byte}
use Rattle.txs_code_decode.specs.InstrForm.{op_format, callee_tags, callee_byte, callee_tag_of, callee_op, callee_function, callee_body, callee_format}
use Rattle.txs_code_decode.specs.ValueForm.{below}
use Rattle.txs_code_decode.proofs.Exact.{Exact, InOrder, byte_exact, tested_exact, one_of_exact, only_exact, pair_exact, mapped_exact, tagged_exact}
use Rattle.txs_code_decode.proofs.Lists.{in_order}
use Rattle.txs_code_decode.proofs.ValueExact.{n16, cell_name_exact, constant_exact}

-- ---- operations and callees

pub op_exact : Exact op_format
unfolding op_format
op_exact = one_of_exact byte operations op_number BadOperand byte_exact in_order

callee_body_exact : (functions : ℕ) (t : CalleeTag) → Exact (callee_body functions t)
callee_body_exact functions callee_tag.Core = mapped_exact callee.Core callee_op _ (one_of_exact _ operations op_number BadOperand n16 in_order) (λ op fits. refl)
callee_body_exact functions callee_tag.Function = mapped_exact callee.Function callee_function _ (tested_exact _ (below functions) n16) (λ f fits. refl)

callee_tells : (functions : ℕ) (t : CalleeTag) (c : Callee) → (callee_body functions t).fits c → callee_tag_of c ≡ t
callee_tells functions callee_tag.Core c fits = ap callee_tag_of (sym fits.1)
callee_tells functions callee_tag.Function c fits = ap callee_tag_of (sym fits.1)

pub callee_exact : (functions : ℕ) → Exact (callee_format functions)
unfolding callee_format
callee_exact functions =
    tagged_exact _ callee_tag_of (callee_body functions) (one_of_exact byte callee_tags callee_byte BadOperand byte_exact (refl, (refl, tt))) (callee_body_exact functions) (callee_tells functions)

-- ---- validators

validator_body_exact : (t : ValidatorTag) → Exact (validator_body t)
validator_body_exact validator_tag.Nothing = only_exact None
validator_body_exact validator_tag.Callee = mapped_exact Some validator_callee (callee_format most_definitions) (callee_exact most_definitions) (λ c fits. refl)

validator_tells : (t : ValidatorTag) (v : Option Callee) → (validator_body t).fits v → validator_tag_of v ≡ t
validator_tells validator_tag.Nothing v fits = ap validator_tag_of fits
validator_tells validator_tag.Callee v fits = ap validator_tag_of (sym fits.1)

pub validator_exact : (validated : Bool) → Exact (validator_format validated)
unfolding validator_format
validator_exact false = only_exact None
validator_exact true =
    tagged_exact _ validator_tag_of validator_body (one_of_exact byte validator_tags validator_byte BadOperand byte_exact (refl, (refl, tt))) validator_body_exact validator_tells

-- ---- cells

kind_exact : Exact kind_format
unfolding kind_format
kind_exact = one_of_exact byte kinds kind_byte BadOperand byte_exact (refl, (refl, (refl, tt)))

modes_in_order : (kind : CellKind) → InOrder mode_byte 0 (modes kind)
modes_in_order Ref = (refl, tt)
modes_in_order Atom = (refl, tt)
modes_in_order Agent = (refl, (refl, tt))

mode_exact : (kind : CellKind) → Exact (mode_format kind)
unfolding mode_format
mode_exact kind = one_of_exact byte (modes kind) mode_byte BadOperand byte_exact (modes_in_order kind)

pub cell_exact : (validated : Bool) → Exact (cell_format validated)
unfolding cell_format
cell_exact validated =
    mapped_exact _ _ _
    (pair_exact _ _ kind_exact (λ kind. pair_exact _ _ (mode_exact kind) (λ mode. pair_exact _ _ cell_name_exact (λ name. pair_exact _ _ (constant_exact false []) (λ opening. validator_exact validated)))))
    (λ p fits. refl)
