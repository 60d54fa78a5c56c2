-- Where the validator of a cell stands in its definition.
use Rattle.std.proofs.Common.{◌≡◌, ℕ, ◌<◌, ◌≤◌, Bool, true, false, if◌then◌else◌, Option, Some, None, subst, arith}
use Rattle.txs_value_data.specs.declared.fault.Span.{Span}
use Rattle.txs_value_data.specs.declared.value.CellKind.{CellKind}
use Rattle.txs_value_data.specs.declared.value.CellKind.TheVariants.{Ref, Atom, Agent}
use Rattle.txs_value_cell.specs.declared.cell.ErrorMode.{ErrorMode}
use Rattle.txs_reader.specs.declared.form.Bracket.TheVariants.{Round, Square}
use Rattle.txs_reader.specs.Tree.{PlainForm as Form, PlainForms as Forms, leaf, group, first, place}
use Rattle.txs_reader.specs.Tree.{none as no_forms}
use Rattle.txs_resolve.specs.declared.definition.CellSort.{CellSort}
use Rattle.txs_resolve_expand.specs.Expansions.{form_at}
use Rattle.txs_resolve.specs.Literals.{is_literal}
use Rattle.txs_resolve.specs.Names.{Defining, Options, no_options, only_literal, mode_of, is_error_mode, is_validator, first_mode, with_mode, first_validator, with_option, with_options, options_from, options_behind, mode_or_fail, opened, cell_of, kind_at, defining_of}
use Rattle.txs_theorem_language.specs.TextOrder.{Nests, NestIn}
use Rattle.txs_theorem_language.proofs.Windows.{nests_on, nest_ends}

-- a form that begins in this stretch, if there is one
abbrev pub Within : Span → Option Form → Type 0
Within at None = Unit {0}
Within at (Some f) = (at.from ≤ (place f).from) × ((place f).from < at.to)

abbrev OfOptions : Span → Option Options → Type 0
OfOptions at (Some o) = Within at o.validator
OfOptions at None = Unit {0}

abbrev OfDefining : Span → Option Defining → Type 0
OfDefining at (Some d) = Within at d.validator
OfDefining at None = Unit {0}

module _ (at : Span) where
  mode_within : (m n : Option ErrorMode) (o : Option Form) → Within at o → OfOptions at (first_mode m n o)
  mode_within None (Some mode) o w = w
  mode_within None None o w = tt
  mode_within (Some m) n o w = tt

  first_within : (o : Option Form) (form : Form) (m : Option ErrorMode) → Within at (Some form) → OfOptions at (first_validator o form m)
  first_within None form m w = w
  first_within (Some f) form m w = tt

  agent_within : (k : CellKind) (form : Form) (o : Options) → Within at o.validator → OfOptions at (with_mode k form o)
  agent_within Agent form o w = mode_within o.error_mode (mode_of form) o.validator w
  agent_within Ref form o w = tt
  agent_within Atom form o w = tt

  option_within : (k : CellKind) (key form : Form) (o : Options) → Within at o.validator → Within at (Some form) → OfOptions at (with_option k key form o)
  option_within k key form o w f = by (is_validator key) (is_error_mode key)
    where
      by : (x y : Bool) → OfOptions at (if x then first_validator o.validator form o.error_mode else (if y then with_mode k form o else None))
      by true y = first_within o.validator form o.error_mode f
      by false true = agent_within k form o w
      by false false = tt

  options_within : (k : CellKind) (o : Options) (fs : Forms) (from : ℕ) → at.from ≤ from → NestIn from at.to fs → Within at o.validator → OfOptions at (options_from k o fs)
  options_within k o no_forms from le h w = w
  options_within k o (first key no_forms) from le h w = tt
  options_within k o (first key (first form rest)) from le h w =
      let starts = nests_on key h.1 in
      let begins = nests_on form h.2.1 in
      let ends = nest_ends (place form).to at.to rest h.2.2 in
      further (λ p v. options_within k p rest (place form).to (omega (arith, le, h.0, starts, h.2.0, begins)) h.2.2 v) (with_option k key form o)
      (option_within k key form o w (omega (arith, le, h.0, starts, h.2.0), omega (arith, begins, ends)))
    where
      further : ((p : Options) → Within at p.validator → OfOptions at (options_from k p rest)) → (a : Option Options) → OfOptions at a → OfOptions at (with_options a (λ p. options_from k p rest))
      further go (Some p) v = go p v
      further go None v = tt

  only_within : (sort : Option CellSort) (o : Option Form) (f : Form) → Within at o → OfDefining at (only_literal sort o f)
  only_within sort o f w = by (is_literal f)
    where
      by : (y : Bool) → OfDefining at (if y then Some (record { sort = sort; value = f; validator = o }) else None)
      by true = w
      by false = tt

  opened_within : (k : CellKind) (o : Option Options) (f : Form) → OfOptions at o → OfDefining at (opened k o f)
  opened_within k (Some o) f w = only_within (Some (record { kind = k; error_mode = mode_or_fail o.error_mode })) o.validator f w
  opened_within k None f w = tt

  cell_within : (k : Option CellKind) (fs : Forms) (from : ℕ) → at.from ≤ from → NestIn from at.to fs → OfDefining at (cell_of k fs)
  cell_within (Some k) (first f rest) from le h =
      opened_within k (options_behind k rest) f (options_within k no_options rest (place f).to (omega (arith, le, h.0, nests_on f h.1)) h.2 tt)
  cell_within (Some k) no_forms from le h = tt
  cell_within None fs from le h = tt

-- the validator begins in the form that the definition gives
pub validator_within : (f : Form) → Nests f → (d : Defining) → defining_of f ≡ Some d → Within (place f) d.validator
validator_within f h d is = subst (OfDefining (place f)) is (by f h)
  where
    by : (g : Form) → Nests g → OfDefining (place g) (defining_of g)
    by (leaf x at) k = only_within at None None (leaf x at) tt
    by (group Square fs at) k = only_within at None None (group Square fs at) tt
    by (group Round no_forms at) k = only_within at None None (group Round no_forms at) tt
    by (group Round (first head args) at) k = cell_within at (kind_at (form_at head)) args (place head).to (omega (arith, k.1.0, nests_on head k.1.1)) k.1.2
