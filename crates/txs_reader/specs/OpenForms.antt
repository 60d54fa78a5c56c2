-- The state of a reading as trees.
use Rattle.std.specs.Prelude.{◌≡◌, ◌++◌, ◌∷◌, ℕ, [], List, None, Some, drop}
use Rattle.txs_reader.specs.declared.form.Bracket.{Bracket}
use Rattle.txs_reader.specs.declared.open_forms.OpenForms.{OpenForms}
use Rattle.txs_reader.specs.Rows.{divided}
use Rattle.txs_reader.specs.Tree.{PlainForm, trees, trees_of, group}
use Rattle.txs_reader.specs.Script.{Open, between, sugar}

-- the openings, each with the forms before it in what it is in
abbrev pub opens : OpenForms → List Open
opens n = divided n.open.items (trees n.forms.items)

-- the forms behind the innermost opening
abbrev pub inner : OpenForms → List PlainForm
inner n = drop n.start (trees n.forms.items)

-- an opening of this bracket is taken off, and the form is made of what was behind it
pub record Closes (old new : OpenForms) (b : Bracket) (t : PlainForm) (to : ℕ) : Type 0 where
  pub opening : Open
  pub last : opens old ≡ opens new ++ opening ∷ []
  pub before : inner new ≡ opening.before
  pub bracket : opening.bracket ≡ Some b
  pub made : t ≡ group b (trees_of (inner old)) (between opening.from to)

-- a `@` is taken off, and the list is made of it and the form; no form may have been between
pub record Folds (old new : OpenForms) (t list : PlainForm) : Type 0 where
  pub opening : Open
  pub last : opens old ≡ opens new ++ opening ∷ []
  pub before : inner old ≡ [] → inner new ≡ opening.before
  pub bracket : opening.bracket ≡ None
  pub made : list ≡ sugar opening.from t
