-- What the answer out of memory says of a script.
use Rattle.std.specs.Prelude.{List, [], ◌∷◌, IsOk}
use Rattle.txs_reader.specs.Tree.{PlainForm as Form}
use Rattle.txs_resolve.specs.Names.{State, step}

-- There is a first top-level form, and it resolves. No more is said: running out of memory has no place, and may have come at any form behind
-- it that resolves, as do all before that one.
abbrev pub FirstResolves : State → List Form → Type 0
FirstResolves s [] = ⊥
FirstResolves s (form ∷ forms) = IsOk (step s form)
