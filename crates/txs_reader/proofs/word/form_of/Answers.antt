use Rattle.std.proofs.Common.{ℤ, ap, ◌∙◌, arith, true, false}
use Rattle.std.specs.Int.{w64}
use Rattle.std.proofs.lemmas.Int.{to_z-of_z}
use Rattle.txs_reader.specs.Tree.{truth, number, leaf}
use Rattle.txs_reader.proofs.Numbers.{fits_from_i64}
use Rattle.txs_reader.proofs.Meanings.{meaning_number, meaning_true, meaning_false}
use Rattle.txs_reader.proofs.Trees.{tree-Number, tree-Truth}
use Rattle.txs_reader.proofs.word.form_of.Goals as goal

pub returns-in-Some-clause-ok : goal.returns-in-Some-clause-ok
returns-in-Some-clause-ok c =
    let z = c.in-Some.z in
    let facts = c.in-Some.ensures.value in
    (number z, meaning_number c.args.word.now z (grind arith) facts.0 facts.1, tree-Number _ c.args.span ∙ ap (λ (v : ℤ). leaf (number v) c.args.span) (to_z-of_z w64 z (fits_from_i64 z facts.1)))

pub returns-then-is_just-2-clause-ok : goal.returns-then-is_just-2-clause-ok
returns-then-is_just-2-clause-ok c = (truth true, meaning_true c.args.word.now (grind arith) (grind arith) (grind arith), tree-Truth true c.args.span)

pub returns-then-is_just-3-clause-ok : goal.returns-then-is_just-3-clause-ok
returns-then-is_just-3-clause-ok c = (truth false, meaning_false c.args.word.now (grind arith) (grind arith) (grind arith) (grind arith), tree-Truth false c.args.span)
