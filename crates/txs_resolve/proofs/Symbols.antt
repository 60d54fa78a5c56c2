-- What a symbol in an expression is, by the nearest local of its name and by what is defined.
use Rattle.std.proofs.Common.{◌≡◌, ℕ, suc, Bool, true, false, not, ◌&&◌, List, Option, Some, None, Ok, if◌then◌else◌, refl, sym, ap, ◌∙◌, subst}
use Rattle.std.specs.List.{list_any}
use Rattle.txs_value_data.specs.Operations.{op_name, operations}
use Rattle.txs_value_data.specs.declared.fault.Span.{Span}
use Rattle.txs_value_data.specs.declared.op.Op.{Op}
use Rattle.txs_value_data.specs.declared.value.CellId.{CellId}
use Rattle.txs_value_data.specs.declared.value.Value.{Value}
use Rattle.txs_value_data.specs.declared.value.Value.TheVariants.{Cell}
use Rattle.txs_reader.specs.Tree.{leaf, symbol}
use Rattle.txs_tree_meaning.specs.Tree.{Const, Local}
use Rattle.txs_tree_meaning.specs.View.{mark_of}
use Rattle.txs_resolve_expand.specs.declared.names.FormName.{FormName}
use Rattle.txs_resolve_expand.specs.declared.scope.Definition.{Definition}
use Rattle.txs_resolve_expand.specs.declared.scope.Definition.TheVariants.{Constant, Cell as ACell}
use Rattle.txs_resolve_expand.specs.Nearest.{IsNearest, NoneNamed}
use Rattle.txs_value_data.specs.Places.{with_name}
use Rattle.txs_resolve_expand.specs.Scope.{Scope, Meaning, dotted, the_current, definition_of, form_name, form_names, is_current, is_dot, is_none, local_number, may_bind, meaning, or_defined, or_form, or_local, or_unknown}
use Rattle.txs_resolve_expand.proofs.Nearest.{alone, nowhere}
use Rattle.txs_resolve_expand.specs.declared.error.ResolveErrorKind.TheVariants.{UnknownName}
use Rattle.txs_resolve_expand.specs.Answers.{refuse}
use Rattle.txs_resolve_expand.specs.Expressions.{named, spot_at, symbol_node}

abbrev IsTrue : Bool → Type 0
IsTrue true = Unit {0}
IsTrue false = ⊥

and_first : (a b : Bool) → (a && b) ≡ true → a ≡ true
and_first true b h = refl
and_first false b h = absurd (subst IsTrue (sym h) tt)

and_second : (a b : Bool) → (a && b) ≡ true → b ≡ true
and_second true b h = h
and_second false b h = absurd (subst IsTrue (sym h) tt)

no_form : (o : Option FormName) (m : Meaning) → is_none o ≡ true → or_form o m ≡ m
no_form None m h = refl
no_form (Some f) m h = absurd (subst IsTrue (sym h) tt)

not_dotted : (b : Bool) (m : Meaning) → not b ≡ true → (if b then dotted else m) ≡ m
not_dotted false m h = refl
not_dotted true m h = absurd (subst IsTrue (sym h) tt)

module _ (name : List ℕ) (scope : Scope) (lawful : may_bind name ≡ true) where
  abbrev else_defined : Bool → Option Definition → Option Op → Meaning
  else_defined b o op = if b then the_current else or_defined o (or_unknown op)

  abbrev meant : Option ℕ → Bool → Option Definition → Option Op → Meaning
  meant i b o op = or_local i (else_defined b o op)

  plain_meaning : meaning name scope ≡ meant (local_number name scope) (is_current name scope.current) (definition_of name scope.defined) (with_name op_name name operations)
  unfolding meaning may_bind
  plain_meaning =
      let m = meant (local_number name scope) (is_current name scope.current) (definition_of name scope.defined) (with_name op_name name operations) in
      let form = is_none (with_name form_name name form_names) in
      let plain = not (list_any is_dot name) in
      no_form (with_name form_name name form_names) (if list_any is_dot name then dotted else m) (and_first form plain lawful)
      ∙ not_dotted (list_any is_dot name) m (and_second form plain lawful)

  module _ (room : ℕ) (wanted : Bool) (at : Span) where
    symbol_is : named (suc room) scope wanted (leaf (symbol name) at) ≡ symbol_node (meaning name scope) (spot_at (suc room) at wanted)
    unfolding named
    symbol_is = refl

    symbol_by : (i : Option ℕ) (b : Bool) (o : Option Definition) → local_number name scope ≡ i → is_current name scope.current ≡ b → definition_of name scope.defined ≡ o
        → named (suc room) scope wanted (leaf (symbol name) at) ≡ symbol_node (meant i b o (with_name op_name name operations)) (spot_at (suc room) at wanted)
    symbol_by i b o is_i is_b is_o =
        symbol_is
        ∙ ap (λ m. symbol_node m (spot_at (suc room) at wanted))
        (plain_meaning
        ∙ ap (λ x. meant x (is_current name scope.current) (definition_of name scope.defined) (with_name op_name name operations)) is_i
        ∙ ap (λ x. meant i x (definition_of name scope.defined) (with_name op_name name operations)) is_b
        ∙ ap (λ x. meant i b x (with_name op_name name operations)) is_o)

    pub local : (i : ℕ) → IsNearest name i scope → named (suc room) scope wanted (leaf (symbol name) at) ≡ Ok (Local i (mark_of at wanted))
    local i h = symbol_by (Some i) (is_current name scope.current) (definition_of name scope.defined) (alone name scope i h) refl refl

    pub constant : (v : Value) → NoneNamed name scope.locals → is_current name scope.current ≡ false → definition_of name scope.defined ≡ Some (Constant v)
        → named (suc room) scope wanted (leaf (symbol name) at) ≡ Ok (Const v (mark_of at wanted))
    constant v h other is = symbol_by None false (Some (Constant v)) (nowhere name scope h) other is

    pub cell : (c : CellId) → NoneNamed name scope.locals → is_current name scope.current ≡ false → definition_of name scope.defined ≡ Some (ACell c)
        → named (suc room) scope wanted (leaf (symbol name) at) ≡ Ok (Const (Cell c) (mark_of at wanted))
    cell c h other is = symbol_by None false (Some (ACell c)) (nowhere name scope h) other is

    pub nothing : NoneNamed name scope.locals → is_current name scope.current ≡ false → definition_of name scope.defined ≡ None → with_name op_name name operations ≡ None
        → named (suc room) scope wanted (leaf (symbol name) at) ≡ refuse UnknownName at
    nothing h other is no_op = symbol_by None false None (nowhere name scope h) other is ∙ ap (λ op. symbol_node (or_unknown op) (spot_at (suc room) at wanted)) no_op
