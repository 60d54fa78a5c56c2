-- What is found by its name.
use Rattle.std.proofs.Common.{◌≡◌, ◌≢◌, ◌<◌, ◌+◌, ℕ, suc, Bool, false, if◌then◌else◌, List, [], ◌∷◌, length, drop, get_or, Option, Some, None, bytes_eq, cond, refl, sym, ap, ◌∙◌, subst, drop-cons, add-one}
use Rattle.std.specs.List.{list_any}
use Rattle.std.specs.Prelude.{MatchOption}
use Rattle.std.proofs.lemmas.Bool.{false_from_ne_true}
use Rattle.std.proofs.lemmas.Slice.Eq.{bytes_eq-Decides}
use Rattle.txs_value_data.specs.Operations.{op_name, operations}
use Rattle.txs_value_data.specs.declared.op.Op.{Op}
use Rattle.txs_value_data.proofs.OperationsLemmas.{op_named}
use Rattle.txs_resolve_expand.specs.declared.names.FormName.{FormName}
use Rattle.txs_resolve_expand.specs.declared.scope.Definition.{Definition}
use Rattle.txs_value_data.specs.Places.{with_name}
use Rattle.txs_resolve_expand.specs.Scope.{Scope, Meaning, dotted, the_current, or_form, or_local, or_defined, or_unknown, definition_of, form_name, form_names, is_current, is_dot, local_number, meaning}

-- the operation of this name
operation_found : (op : Op) (name : List ℕ) → op_name op ≡ name → with_name op_name name operations ≡ Some op
operation_found op name e = subst (λ n. with_name op_name n operations ≡ Some op) e (op_named op)

-- nothing has this name
none_found : {A : Type 0} (name_of : A → List ℕ) (name : List ℕ) (xs : List A) → ((x : A) → name_of x ≢ name) → with_name name_of name xs ≡ None
none_found name_of name [] h = refl
none_found name_of name (x ∷ xs) h =
    ap (λ b. cond b (Some x) (with_name name_of name xs)) (false_from_ne_true (bytes_eq (name_of x) name) (λ e. h x ((bytes_eq-Decides (name_of x) name).0 e)))
    ∙ none_found name_of name xs h

-- what a search by the name found
pub found_as : (o : Option Op) (name : List ℕ) → MatchOption o ((op : Op) → op_name op ≢ name) (λ op. op_name op ≡ name) → o ≡ with_name op_name name operations
found_as None name h = sym (none_found op_name name operations h)
found_as (Some op) name h = sym (operation_found op name h)

-- an item of another name is passed
pub passed : {A : Type 0} (name_of : A → List ℕ) (name : List ℕ) (xs : List A) (i : ℕ) (d : A) → i < length xs → bytes_eq (name_of (get_or xs i d)) name ≡ false → with_name name_of name (drop i xs) ≡ with_name name_of name (drop (i + 1) xs)
passed name_of name xs i d lt e =
    ap (with_name name_of name) (drop-cons xs i d lt)
    ∙ ap (λ b. cond b (Some (get_or xs i d)) (with_name name_of name (drop (suc i) xs))) e
    ∙ ap (λ (k : ℕ). with_name name_of name (drop k xs)) (sym (add-one i))

-- what a name stands for, by what each search for it found
abbrev pub stands : Option FormName → Bool → Option ℕ → Bool → Option Definition → Option Op → Meaning
stands form dot local current defined op =
    or_form form (if dot then dotted else or_local local (if current then the_current else or_defined defined (or_unknown op)))

pub stands_so : (name : List ℕ) (scope : Scope) (form : Option FormName) (dot : Bool) (local : Option ℕ) (current : Bool) (defined : Option Definition) (op : Option Op)
    → form ≡ with_name form_name name form_names → dot ≡ list_any is_dot name → local ≡ local_number name scope → current ≡ is_current name scope.current
    → defined ≡ definition_of name scope.defined → op ≡ with_name op_name name operations → stands form dot local current defined op ≡ meaning name scope
unfolding meaning
stands_so name scope form dot local current defined op f d l c e o = λ k. stands (f k) (d k) (l k) (c k) (e k) (o k)
