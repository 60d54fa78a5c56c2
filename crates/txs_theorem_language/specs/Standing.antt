-- In which scope, and with how many levels, a form is in another one.
use Rattle.std.specs.Prelude.{◌≡◌, ℕ, suc, Bool, List, Ok}
use Rattle.txs_value_cell.specs.declared.form.PutForm.{PutForm}
use Rattle.txs_reader.specs.Tree.{PlainForm as Form, PlainForms as Forms, first, place}
use Rattle.txs_reader.specs.Tree.{none as no_forms}
use Rattle.txs_tree_meaning.specs.Tree.{Tree}
use Rattle.txs_resolve_expand.specs.Scope.{Scope, with_local}
use Rattle.txs_resolve_expand.specs.declared.shapes.Change.{Change}
use Rattle.txs_resolve_expand.specs.declared.shapes.Sequence.{Sequence}
use Rattle.txs_resolve_expand.specs.declared.shapes.Single.{Single}
use Rattle.txs_resolve_expand.specs.Expansions.{alone, expand_once}
use Rattle.txs_resolve_expand.specs.Expressions.{Special, row, one_part, putting, choice, binding, changing, parted, bound_name, core_of, named, spot_at}

-- it is one of these
pub data IsOne (form : Form) : Forms → Type 0 where
  one_now : (rest : Forms) → IsOne form (first form rest)
  one_later : (f : Form) (rest : Forms) → IsOne form rest → IsOne form (first f rest)

-- it is the value of a name, in this scope: it sees the names before it
pub data IsValue (form : Form) (inner : Scope) : Scope → Forms → Type 0 where
  value_now : (binder : Form) (rest : Forms) → IsValue form inner inner (first binder (first form rest))
  value_later : (scope : Scope) (binder value : Form) (rest : Forms) (name : List ℕ) → bound_name scope binder ≡ Ok name → IsValue form inner (with_local name scope) rest
      → IsValue form inner scope (first binder (first value rest))

-- the scope behind these names and values
pub data IsBehind (inner : Scope) : Scope → Forms → Type 0 where
  behind_none : IsBehind inner inner no_forms
  behind_one : (scope : Scope) (binder value : Form) (rest : Forms) (name : List ℕ) → bound_name scope binder ≡ Ok name → IsBehind inner (with_local name scope) rest
      → IsBehind inner scope (first binder (first value rest))

-- a form is a part of a special form that is in that scope, and itself is in this one
pub data IsPart (form : Form) (inner : Scope) : Scope → Special → Type 0 where
  in_row : (k : Sequence) (forms : Forms) → IsOne form forms → IsPart form inner inner (row k forms)
  in_one : (k : Single) → IsPart form inner inner (one_part k form)
  in_filled : (k : PutForm) (e : Form) → IsPart form inner inner (putting k form e)
  in_value : (k : PutForm) (r : Form) → IsPart form inner inner (putting k r form)
  in_test : (turned : Bool) (a b : Form) → IsPart form inner inner (choice turned form a b)
  in_first : (turned : Bool) (c b : Form) → IsPart form inner inner (choice turned c form b)
  in_second : (turned : Bool) (c a : Form) → IsPart form inner inner (choice turned c a form)
  in_bound : (scope : Scope) (is_loop : Bool) (pairs : Forms) (body : Form) → IsValue form inner scope pairs → IsPart form inner scope (binding is_loop pairs body)
  in_body : (scope : Scope) (is_loop : Bool) (pairs : Forms) → IsBehind inner scope pairs → IsPart form inner scope (binding is_loop pairs form)
  in_cell : (k : Change) (f : Form) (args : Forms) → IsPart form inner inner (changing k form f args)
  in_argument : (k : Change) (r f : Form) (args : Forms) → IsOne form args → IsPart form inner inner (changing k r f args)

-- A form is in this one, or is it: with so many levels, in this scope. What stands for another form has the parts of that one.
pub data StandsIn (room : ℕ) (scope : Scope) (form : Form) : ℕ → Scope → Form → Type 0 where
  is_whole : StandsIn room scope form room scope form
  in_part : (k : ℕ) (outer inner : Scope) (whole part : Form) (special : Special)
      → ((wanted : Bool) → core_of outer (spot_at (suc k) (place (alone whole)) wanted) (expand_once (alone whole)) ≡ Ok (parted special))
      → IsPart part inner outer special → StandsIn room scope form k inner part → StandsIn room scope form (suc k) outer whole

-- a form has a tree here, whether its result is wanted or not
abbrev pub HasTree : ℕ → Scope → Form → Type 0
HasTree room scope form = (wanted : Bool) × (t : Tree) × (named room scope wanted form ≡ Ok t)
