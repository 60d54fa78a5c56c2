-- What holds of all that a name may stand for holds of what it stands for.
use Rattle.std.proofs.Common.{◌≡◌, ℕ, Bool, true, false, bytes_eq, if◌then◌else◌, List, [], ◌∷◌, Option, Some, None, refl, subst}
use Rattle.std.specs.List.{list_any}
use Rattle.txs_value_data.specs.Operations.{op_name, operations}
use Rattle.txs_value_data.specs.Places.{with_name}
use Rattle.txs_value_data.specs.declared.op.Op.{Op}
use Rattle.txs_resolve_expand.specs.declared.names.FormName.{FormName}
use Rattle.txs_resolve_expand.specs.declared.scope.Definition.{Definition}
use Rattle.txs_resolve_expand.specs.Scope.{Scope, Entry, Meaning, a_form, dotted, a_local, the_current, defined_as, operation, unknown, or_form, or_local, or_defined, or_unknown, definition_of, form_name, form_names, is_current, is_dot, local_number, meaning}

module _ (Q : Definition → Type 0) where
  -- of all that is defined
  abbrev pub AllDefined : List Entry → Type 0
  AllDefined [] = Unit {0}
  AllDefined (e ∷ es) = Q e.what × AllDefined es

  -- of a definition, if there is one
  abbrev IfDefined : Option Definition → Type 0
  IfDefined None = Unit {0}
  IfDefined (Some d) = Q d

  found_so : (name : List ℕ) (es : List Entry) → AllDefined es → IfDefined (definition_of name es)
  found_so name [] h = tt
  found_so name (e ∷ es) h = here (bytes_eq e.name name) (found_so name es h.1)
    where
      here : (b : Bool) → IfDefined (definition_of name es) → IfDefined (if b then Some e.what else definition_of name es)
      here true k = h.0
      here false k = k

  pub definition_so : (name : List ℕ) (es : List Entry) → AllDefined es → (d : Definition) → definition_of name es ≡ Some d → Q d
  definition_so name es h d is = subst IfDefined is (found_so name es h)

module _ (P : Meaning → Type 0) (forms : (f : FormName) → P (a_form f)) (dots : P dotted) (operate : (op : Op) → P (operation op)) (nothing : P unknown) where
  pub meaning_so : (name : List ℕ) (scope : Scope) → ((i : ℕ) → local_number name scope ≡ Some i → P (a_local i)) → (is_current name scope.current ≡ true → P the_current)
      → ((d : Definition) → definition_of name scope.defined ≡ Some d → P (defined_as d)) → P (meaning name scope)
  unfolding meaning
  meaning_so name scope local current defined = form (with_name form_name name form_names)
    where
      last : (o : Option Op) → P (or_unknown o)
      last None = nothing
      last (Some op) = operate op

      definition : (d : Option Definition) → definition_of name scope.defined ≡ d → P (or_defined d (or_unknown (with_name op_name name operations)))
      definition None e = last (with_name op_name name operations)
      definition (Some d) e = defined d e

      now : (y : Bool) → is_current name scope.current ≡ y → P (if y then the_current else or_defined (definition_of name scope.defined) (or_unknown (with_name op_name name operations)))
      now true e = current e
      now false e = definition (definition_of name scope.defined) refl

      near : (i : Option ℕ) → local_number name scope ≡ i
          → P (or_local i (if is_current name scope.current then the_current else or_defined (definition_of name scope.defined) (or_unknown (with_name op_name name operations))))
      near None e = now (is_current name scope.current) refl
      near (Some i) e = local i e

      dot : (y : Bool)
          → P (if y then dotted else or_local (local_number name scope) (if is_current name scope.current then the_current else or_defined (definition_of name scope.defined) (or_unknown (with_name op_name name operations))))
      dot true = dots
      dot false = near (local_number name scope) refl

      form : (o : Option FormName)
          → P (or_form o (if list_any is_dot name then dotted else or_local (local_number name scope) (if is_current name scope.current then the_current else or_defined (definition_of name scope.defined) (or_unknown (with_name op_name name operations)))))
      form None = dot (list_any is_dot name)
      form (Some f) = forms f
