-- What a form is, without where it lies in memory.
use Rattle.std.specs.Prelude.{ℕ, suc, ◌≤◌, max, codes, List, [], ◌∷◌, map, ℤ, Bool}
use Rattle.txs_value_data.specs.Limits.{most_items}
use Rattle.txs_value_data.specs.declared.fault.Span.{Span}
use Rattle.txs_reader.specs.declared.form.Bracket.{Bracket}
use Rattle.txs_reader.specs.declared.form.Form.{Form, fold-Form}
use Rattle.txs_reader.specs.declared.form.Form.TheOpen.{Form-F}

-- a form without parts
pub data Leaf : Type 0 where
  nil : Leaf
  truth : Bool → Leaf
  number : ℤ → Leaf
  text : List ℕ → Leaf
  keyword : List ℕ → Leaf
  symbol : List ℕ → Leaf

mutual
  -- A form as plain data: one without parts, or a list or vector, each with its span.
  pub data PlainForm : Type 0 where
    leaf : Leaf → Span → PlainForm
    group : Bracket → PlainForms → Span → PlainForm

  -- forms in a row
  pub data PlainForms : Type 0 where
    none : PlainForms
    first : PlainForm → PlainForms → PlainForms

-- the forms of a list in a row
abbrev pub trees_of : List PlainForm → PlainForms
trees_of [] = none
trees_of (t ∷ ts) = first t (trees_of ts)

-- one level, with each form inside already seen as its tree
abbrev pub tree_step : Form-F PlainForm → PlainForm
tree_step (Form-F.Nil span) = leaf nil span
tree_step (Form-F.Truth b span) = leaf (truth b) span
tree_step (Form-F.Number z span) = leaf (number z) span
tree_step (Form-F.Text t span) = leaf (text t) span
tree_step (Form-F.Keyword s span) = leaf (keyword s) span
tree_step (Form-F.Symbol s span) = leaf (symbol s) span
tree_step (Form-F.Group b v span) = group b (trees_of v.items) span

-- the tree of a form
abbrev pub tree : Form → PlainForm
tree = fold-Form PlainForm tree_step

-- the trees of forms
abbrev pub trees : List Form → List PlainForm
trees = map tree

-- where a form is
abbrev pub place : PlainForm → Span
place (leaf x span) = span
place (group b ts span) = span

-- how many brackets are in one another, a `@` being one too
abbrev mutual
  pub height : PlainForm → ℕ
  height (leaf x span) = 0
  height (group b ts span) = suc (height_within ts)

  -- the most brackets in one another, in these forms
  pub height_within : PlainForms → ℕ
  height_within none = 0
  height_within (first t ts) = max (height t) (height_within ts)

-- the same of a list of forms
abbrev pub height_of_all : List PlainForm → ℕ
height_of_all [] = 0
height_of_all (t ∷ ts) = max (height t) (height_of_all ts)

-- how many parts a list or vector has
abbrev pub parts : PlainForms → ℕ
parts none = 0
parts (first t ts) = suc (parts ts)

-- each list and vector in it has at most 65,535 parts
abbrev mutual
  pub IsNarrow : PlainForm → Type 0
  IsNarrow (leaf x span) = Unit {0}
  IsNarrow (group b ts span) = (parts ts ≤ most_items) × AreNarrow ts

  -- each of these is narrow
  pub AreNarrow : PlainForms → Type 0
  AreNarrow none = Unit {0}
  AreNarrow (first t ts) = IsNarrow t × AreNarrow ts

-- the symbol that the sign `@` stands for
abbrev pub deref : List ℕ
deref = codes "deref"
