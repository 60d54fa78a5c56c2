-- The byte form of cells and constants.
use Rattle.std.specs.Prelude.{ℕ, Bool, true, false, List, [], ◌∷◌, ◌++◌, map, Option, Some, None}
use Rattle.txs_value_data.specs.declared.op.Callee.{Callee}
use Rattle.txs_value_data.specs.declared.op.Callee.TheVariants as callee
use Rattle.txs_value_data.specs.Limits.{most_definitions, most_depth}
use Rattle.txs_value_data.specs.View.{plain_of, value_of}
use Rattle.txs_value_cell.specs.declared.cell.CellDefinition.{CellDefinition}
use Rattle.txs_value_cell.specs.declared.cell.ErrorMode.{ErrorMode}
use Rattle.txs_value_cell.specs.declared.cell.ErrorMode.TheVariants.{Fail, Continue}
use Rattle.txs_value_data.specs.declared.value.CellKind.{CellKind}
use Rattle.txs_value_data.specs.declared.value.CellKind.TheVariants.{Ref, Atom, Agent}
use Rattle.txs_value_data.specs.declared.value.Value.{Value}
use Rattle.txs_code_decode.specs.declared.error.CodeErrorKind.TheVariants.{BadOperand}
use Rattle.txs_code_decode.specs.declared.tag.ValidatorTag.{ValidatorTag}
use Rattle.txs_code_decode.specs.declared.tag.ValidatorTag.TheVariants as validator_tag
use Rattle.txs_code_decode.specs.Format.{Format, byte, one_of, only, pair, mapped, tagged}
use Rattle.txs_code_decode.specs.InstrForm.{callee_format, callee_bytes}
use Rattle.txs_code_decode.specs.ValueForm.{cell_name_format, value_format, name_bytes, value_bytes}

-- the kinds of cells, each at the place that is its byte
abbrev pub kinds : List CellKind
kinds = Ref ∷ Atom ∷ Agent ∷ []

-- the byte of a kind
abbrev pub kind_byte : CellKind → ℕ
kind_byte Ref = 0
kind_byte Atom = 1
kind_byte Agent = 2

-- the modes that a cell of a kind may have: only an agent continues after a fault
abbrev pub modes : CellKind → List ErrorMode
modes Ref = Fail ∷ []
modes Atom = Fail ∷ []
modes Agent = Fail ∷ Continue ∷ []

-- the byte of a mode
abbrev pub mode_byte : ErrorMode → ℕ
mode_byte Fail = 0
mode_byte Continue = 1

-- a cell's kind
unfoldable pub kind_format : Format CellKind
kind_format = one_of byte kinds kind_byte BadOperand

-- the mode of a cell of this kind
unfoldable pub mode_format : CellKind → Format ErrorMode
mode_format kind = one_of byte (modes kind) mode_byte BadOperand

-- a value where cells may be or not, and are of these kinds, with vectors in at most 32 levels
unfoldable pub constant_format : Bool → List CellKind → Format Value
constant_format cells kinds = mapped value_of plain_of (value_format cells kinds most_depth)

-- ---- validators

-- the tags of validators, each at the place that is its byte
abbrev pub validator_tags : List ValidatorTag
validator_tags = validator_tag.Nothing ∷ validator_tag.Callee ∷ []

-- the byte of a validator's tag
abbrev pub validator_byte : ValidatorTag → ℕ
validator_byte validator_tag.Nothing = 0
validator_byte validator_tag.Callee = 1

-- the tag of a validator, or of none
abbrev pub validator_tag_of : Option Callee → ValidatorTag
validator_tag_of None = validator_tag.Nothing
validator_tag_of (Some f) = validator_tag.Callee

-- the callee that a validator is
abbrev pub validator_callee : Option Callee → Callee
validator_callee None = callee.Function 0
validator_callee (Some f) = f

-- What stands behind a validator's tag: the callee. A function's number is that of any definition, since functions are read later.
abbrev pub validator_body : ValidatorTag → Format (Option Callee)
validator_body validator_tag.Nothing = only None
validator_body validator_tag.Callee = mapped Some validator_callee (callee_format most_definitions)

-- a cell's validator or none, where cells of the code have validators; where they have none there is nothing to read
unfoldable pub validator_format : Bool → Format (Option Callee)
validator_format false = only None
validator_format true = tagged (one_of byte validator_tags validator_byte BadOperand) validator_tag_of validator_body

-- ---- cells

-- a cell: its kind, its mode, its name, its opening value, which holds no cell, and its validator, where cells have validators
unfoldable pub cell_format : Bool → Format CellDefinition
cell_format validated =
    mapped
    (λ p. record { kind = p.0; error_mode = p.1.0; name = p.1.1.0; opening = p.1.1.1.0; validator = p.1.1.1.1 })
    (λ c. (c.kind, (c.error_mode, (c.name, (c.opening, c.validator)))))
    (pair kind_format (λ kind. pair (mode_format kind) (λ mode. pair cell_name_format (λ name. pair (constant_format false []) (λ opening. validator_format validated)))))

-- the kinds of cells
abbrev pub kinds_of : List CellDefinition → List CellKind
kinds_of cells = map (λ c. c.kind) cells

-- ---- their bytes

-- a validator's bytes: 0 for none, or 1 and the callee; no byte where no cell of the code has one
abbrev pub validator_bytes : Bool → Option Callee → List ℕ
validator_bytes false validator = []
validator_bytes true None = 0 ∷ []
validator_bytes true (Some f) = 1 ∷ callee_bytes f

-- a cell's bytes, where cells of the code have validators or not
abbrev pub cell_bytes : Bool → CellDefinition → List ℕ
cell_bytes validated c = kind_byte c.kind ∷ mode_byte c.error_mode ∷ (name_bytes c.name ++ (value_bytes (plain_of c.opening) ++ validator_bytes validated c.validator))

-- a constant's bytes
abbrev pub constant_bytes : Value → List ℕ
constant_bytes v = value_bytes (plain_of v)
