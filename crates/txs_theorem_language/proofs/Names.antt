-- What names stand for behind a binding, and where no local has them.
use Rattle.std.proofs.Common.{◌≡◌, ◌≢◌, ℕ, Bool, true, false, not, ◌&&◌, bytes_eq, List, length, Option, Some, None, if◌then◌else◌, refl, sym, ap, ◌∙◌, subst}
use Rattle.std.proofs.lemmas.Slice.Eq.{bytes_eq-Decides}
use Rattle.std.specs.List.{list_any}
use Rattle.txs_value_data.specs.Operations.{op_name, operations}
use Rattle.txs_value_data.specs.declared.op.Op.{Op}
use Rattle.txs_resolve_expand.specs.declared.names.FormName.{FormName}
use Rattle.txs_resolve_expand.specs.declared.scope.Definition.{Definition}
use Rattle.txs_resolve_expand.specs.Nearest.{NoneNamed}
use Rattle.txs_value_data.specs.Places.{with_name}
use Rattle.txs_resolve_expand.specs.Scope.{Scope, Meaning, a_local, defined_as, dotted, operation, unknown, the_current, definition_of, form_name, form_names, is_current, is_dot, is_none, local_number, may_bind, meaning, or_defined, or_form, or_local, or_unknown, with_local}
use Rattle.txs_resolve_expand.proofs.Nearest.{nowhere}

abbrev pub IsTrue : Bool → Type 0
IsTrue true = Unit {0}
IsTrue false = ⊥

pub and_first : (a b : Bool) → (a && b) ≡ true → a ≡ true
and_first true b h = refl
and_first false b h = absurd (subst IsTrue (sym h) tt)

pub and_second : (a b : Bool) → (a && b) ≡ true → b ≡ true
and_second true b h = h
and_second false b h = absurd (subst IsTrue (sym h) tt)

no_form : (o : Option FormName) (m : Meaning) → is_none o ≡ true → or_form o m ≡ m
no_form None m h = refl
no_form (Some f) m h = absurd (subst IsTrue (sym h) tt)

not_dotted : (b : Bool) (m : Meaning) → not b ≡ true → (if b then dotted else m) ≡ m
not_dotted false m h = refl
not_dotted true m h = absurd (subst IsTrue (sym h) tt)

pub equal : (name : List ℕ) → bytes_eq name name ≡ true
equal name = (bytes_eq-Decides name name).1 refl

pub differs : (xs ys : List ℕ) → xs ≢ ys → bytes_eq xs ys ≡ false
differs xs ys h = by (bytes_eq xs ys) refl where
  by : (b : Bool) → bytes_eq xs ys ≡ b → bytes_eq xs ys ≡ false
  by true e = absurd (h ((bytes_eq-Decides xs ys).0 e))
  by false e = e

-- what a name stands for, by the nearest local of it
abbrev pub with_number : List ℕ → Scope → Option ℕ → Meaning
with_number name scope i =
    or_form (with_name form_name name form_names)
    (if list_any is_dot name then dotted else
    or_local i
    (if is_current name scope.current then the_current else
    or_defined (definition_of name scope.defined) (or_unknown (with_name op_name name operations))))

pub by_number : (name : List ℕ) (scope : Scope) → meaning name scope ≡ with_number name scope (local_number name scope)
unfolding meaning
by_number name scope = refl

pub bound_name_is : (name : List ℕ) (scope : Scope) → may_bind name ≡ true → meaning name (with_local name scope) ≡ a_local (length scope.locals)
unfolding may_bind
bound_name_is name scope lawful =
    let form = is_none (with_name form_name name form_names) in
    let plain = not (list_any is_dot name) in
    by_number name (with_local name scope)
    ∙ ap (λ (y : Bool). with_number name scope (if y then Some (length scope.locals) else local_number name scope)) (equal name)
    ∙ no_form (with_name form_name name form_names) (if list_any is_dot name then dotted else a_local (length scope.locals)) (and_first form plain lawful)
    ∙ not_dotted (list_any is_dot name) (a_local (length scope.locals)) (and_second form plain lawful)

pub others_stay : (name other : List ℕ) (scope : Scope) → other ≢ name → meaning other (with_local name scope) ≡ meaning other scope
others_stay name other scope h =
    by_number other (with_local name scope)
    ∙ ap (λ (y : Bool). with_number other scope (if y then Some (length scope.locals) else local_number other scope)) (differs other name h)
    ∙ sym (by_number other scope)

-- where no local has it
module _ (name : List ℕ) (scope : Scope) (lawful : may_bind name ≡ true) (none : NoneNamed name scope.locals) (other : is_current name scope.current ≡ false) where
  without : meaning name scope ≡ or_defined (definition_of name scope.defined) (or_unknown (with_name op_name name operations))
  unfolding may_bind
  without =
      let form = is_none (with_name form_name name form_names) in
      let plain = not (list_any is_dot name) in
      let last = or_defined (definition_of name scope.defined) (or_unknown (with_name op_name name operations)) in
      by_number name scope
      ∙ ap (with_number name scope) (nowhere name scope none)
      ∙ no_form (with_name form_name name form_names) (if list_any is_dot name then dotted else (if is_current name scope.current then the_current else last)) (and_first form plain lawful)
      ∙ not_dotted (list_any is_dot name) (if is_current name scope.current then the_current else last) (and_second form plain lawful)
      ∙ ap (λ (y : Bool). if y then the_current else last) other

  pub defined_is : (d : Definition) → definition_of name scope.defined ≡ Some d → meaning name scope ≡ defined_as d
  defined_is d is = without ∙ ap (λ o. or_defined o (or_unknown (with_name op_name name operations))) is

  pub operation_is : (op : Op) → definition_of name scope.defined ≡ None → with_name op_name name operations ≡ Some op → meaning name scope ≡ operation op
  operation_is op missing is = without ∙ ap (λ o. or_defined o (or_unknown (with_name op_name name operations))) missing ∙ ap or_unknown is

  pub unknown_is : definition_of name scope.defined ≡ None → with_name op_name name operations ≡ None → meaning name scope ≡ unknown
  unknown_is missing is = without ∙ ap (λ o. or_defined o (or_unknown (with_name op_name name operations))) missing ∙ ap or_unknown is
