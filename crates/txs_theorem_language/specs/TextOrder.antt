-- How forms are in a text, and the forms of a program in it.
use Rattle.std.specs.Prelude.{ℕ, ◌<◌, ◌≤◌}
use Rattle.txs_reader.specs.Tree.{PlainForm as Form, PlainForms as Forms, leaf, group, first, place}
use Rattle.txs_reader.specs.Tree.{none as no_forms}

-- a form has bytes of its own, and its parts are inside it, one behind the other
abbrev mutual
  pub Nests : Form → Type 0
  Nests (leaf x at) = at.from < at.to
  Nests (group b forms at) = (at.from < at.to) × NestIn at.from at.to forms

  -- these stand one behind the other, from this offset up to that one
  pub NestIn : ℕ → ℕ → Forms → Type 0
  NestIn from to no_forms = from ≤ to
  NestIn from to (first form forms) = (from ≤ (place form).from) × Nests form × NestIn (place form).to to forms
