-- Forms in a row, which openings divide.
use Rattle.std.specs.Prelude.{ℕ, ◌+◌, List, [], ◌∷◌, take, drop}
use Rattle.txs_reader.specs.declared.open_form.OpenForm.{OpenForm}
use Rattle.txs_reader.specs.Tree.{PlainForm}
use Rattle.txs_reader.specs.Script.{Open, opened}

-- how many forms are before these openings
abbrev pub before_all : List OpenForm → ℕ
before_all [] = 0
before_all (o ∷ os) = o.before + before_all os

-- the openings, each with as many forms of the row before it as it counts
abbrev pub divided : List OpenForm → List PlainForm → List Open
divided [] ts = []
divided (o ∷ os) ts = opened o.bracket o.from (take o.before ts) ∷ divided os (drop o.before ts)
