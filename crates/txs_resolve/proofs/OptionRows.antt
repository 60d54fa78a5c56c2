-- The options of cells, and what their validators call: each row by computing.
use Rattle.std.proofs.Common.{◌≡◌, ℕ, List, [], ◌∷◌, Some, None, Ok, codes, refl}
use Rattle.txs_value_data.specs.declared.fault.Span.{Span}
use Rattle.txs_value_data.specs.declared.op.Callee.TheVariants.{Core as CoreOp, Function as TheFunction}
use Rattle.txs_value_data.specs.declared.op.Op.TheVariants.{Add}
use Rattle.txs_value_cell.specs.declared.cell.ErrorMode.TheVariants.{Fail, Continue}
use Rattle.txs_value_data.specs.declared.value.CellKind.TheVariants.{Ref, Atom, Agent}
use Rattle.txs_reader.specs.Tree.{PlainForm as Form, PlainForms as Forms, leaf, first, keyword, symbol}
use Rattle.txs_reader.specs.Tree.{none as no_forms}
use Rattle.txs_resolve_expand.specs.declared.scope.Definition.TheVariants.{Cell as ACell, Function as AFunction}
use Rattle.txs_resolve_expand.specs.Scope.{Entry, meaning}
use Rattle.txs_resolve_expand.specs.declared.error.ResolveErrorKind.TheVariants.{NotCallable, UnknownName}
use Rattle.txs_resolve_expand.specs.Answers.{refuse}
use Rattle.txs_resolve.specs.Names.{options_behind, validator_named}

abbrev here : Span
here = record { from = 25; to = 27 }

abbrev whole : Span
whole = record { from = 0; to = 40 }

abbrev word : List ℕ → Form
word name = leaf (symbol name) here

abbrev key : List ℕ → Form
key name = leaf (keyword name) here

abbrev four : Form → Form → Form → Form → Forms
four a b c d = first a (first b (first c (first d no_forms)))

abbrev validator : Form
validator = key (codes "validator")

abbrev mode : Form
mode = key (codes "error-mode")

-- in front of the error mode, and behind it
validator_first : options_behind Agent (four validator (word (codes "ok")) mode (key (codes "continue"))) ≡ Some (record { error_mode = Some Continue; validator = Some (word (codes "ok")) })
validator_first = refl

mode_first : options_behind Agent (four mode (key (codes "fail")) validator (word (codes "ok"))) ≡ Some (record { error_mode = Some Fail; validator = Some (word (codes "ok")) })
mode_first = refl

-- of any cell
of_a_ref : options_behind Ref (first validator (first (word (codes "ok")) no_forms)) ≡ Some (record { error_mode = None; validator = Some (word (codes "ok")) })
of_a_ref = refl

of_an_atom : options_behind Atom (first validator (first (word (codes "ok")) no_forms)) ≡ Some (record { error_mode = None; validator = Some (word (codes "ok")) })
of_an_atom = refl

-- twice, without a function, and beside an error mode of a ref
twice : options_behind Agent (four validator (word (codes "ok")) validator (word (codes "ok"))) ≡ None
twice = refl

mode_twice : options_behind Agent (four mode (key (codes "fail")) mode (key (codes "fail"))) ≡ None
mode_twice = refl

no_function : options_behind Ref (first validator no_forms) ≡ None
no_function = refl

mode_of_a_ref : options_behind Ref (four validator (word (codes "ok")) mode (key (codes "fail"))) ≡ None
mode_of_a_ref = refl

-- a function that is defined, a name that isn't, a cell, an operation, and what is no symbol
abbrev defined : List Entry
defined = record { name = codes "ok"; what = AFunction 0 1 } ∷ record { name = codes "r"; what = ACell (record { kind = Ref; number = 0 }) } ∷ []

names_a_function : validator_named defined whole (Some (word (codes "ok"))) ≡ Ok (Some (TheFunction 0))
unfolding meaning
names_a_function = refl

names_nothing : validator_named defined whole (Some (word (codes "other"))) ≡ refuse UnknownName here
unfolding meaning
names_nothing = refl

names_a_cell : validator_named defined whole (Some (word (codes "r"))) ≡ refuse NotCallable here
unfolding meaning
names_a_cell = refl

names_an_operation : validator_named defined whole (Some (word (codes "+"))) ≡ Ok (Some (CoreOp Add))
unfolding meaning
names_an_operation = refl

is_a_keyword : validator_named defined whole (Some (key (codes "ok"))) ≡ refuse NotCallable here
is_a_keyword = refl
