-- The values of literals.
use Rattle.std.specs.Prelude.{ℕ, ◌-◌, Bool, true, false, ◌&&◌, ◌||◌, ◌==◌, nat_lt, List, [], ◌∷◌, Ok, if◌then◌else◌}
use Rattle.txs_value_data.specs.Limits.{most_items}
use Rattle.txs_value_data.specs.declared.value.Value.{Value}
use Rattle.txs_value_data.specs.declared.value.Value.TheVariants.{Vector}
use Rattle.txs_value_data.specs.View.{plains_of}
use Rattle.txs_reader.specs.declared.form.Bracket.TheVariants.{Round, Square}
use Rattle.txs_reader.specs.Tree.{PlainForm as Form, PlainForms as Forms, leaf, group, first, symbol, parts}
use Rattle.txs_reader.specs.Tree.{none as no_forms}
use Rattle.txs_resolve_expand.specs.declared.error.ResolveErrorKind.TheVariants.{BadForm, TooMany}
use Rattle.txs_resolve_expand.specs.Expressions.{Answer, leaf_value}
use Rattle.txs_resolve_expand.specs.Answers.{◌>>=◌, refuse}

-- a literal has no symbol and no list in it
abbrev mutual
  pub is_literal : Form → Bool
  is_literal (leaf (symbol name) at) = false
  is_literal (leaf x at) = true
  is_literal (group Round forms at) = false
  is_literal (group Square forms at) = are_literals forms

  -- each of these is a literal
  pub are_literals : Forms → Bool
  are_literals no_forms = true
  are_literals (first e rest) = is_literal e && are_literals rest

-- the value of a literal whose vectors may have so many levels
abbrev mutual
  pub literal : ℕ → Form → Answer Value
  literal room (leaf (symbol name) at) = refuse BadForm at
  literal room (leaf x at) = Ok (leaf_value x)
  literal room (group Round forms at) = refuse BadForm at
  literal room (group Square forms at) =
      if room == 0 || nat_lt most_items (parts forms) then refuse TooMany at else (literals (room - 1) forms >>= λ vs. Ok (Vector (plains_of vs)))

  -- the values of these, in order
  pub literals : ℕ → Forms → Answer (List Value)
  literals room no_forms = Ok []
  literals room (first e rest) = literal room e >>= λ v. literals room rest >>= λ vs. Ok (v ∷ vs)
