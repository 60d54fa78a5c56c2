use Rattle.std.proofs.Common.{sym, ap, ◌∙◌}
use Rattle.txs_tree_meaning.specs.View.{mark_of, trees_of}
use Rattle.txs_tree_meaning.specs.declared.node.NodeKind.TheVariants.{Do, Recur, Core, Call, Vector, Println}
use Rattle.txs_tree_meaning.proofs.Trees.{do_tree, recur_tree, core_tree, call_tree, vector_tree, println_tree}
use Rattle.txs_tree_meaning.specs.Shapes.{row_tree}
use Rattle.txs_tree_meaning.proofs.At.{at_tree}
use Rattle.txs_tree_meaning.proofs.build.row_node.Goals as goal

pub returns-in-Do : goal.returns-in-Do
returns-in-Do c =
    let m = mark_of c.args.spot.span c.args.spot.wanted in
    at_tree c.at.result (Do c.args.parts) c.args.spot.span c.args.spot.wanted c.at.ensures.0 c.at.ensures.1 c.at.ensures.2
    ∙ do_tree c.args.parts m ∙ ap (λ r. row_tree r (trees_of c.args.parts.items) m) (sym c.in-Do.is)

pub returns-in-Recur : goal.returns-in-Recur
returns-in-Recur c =
    let m = mark_of c.args.spot.span c.args.spot.wanted in
    at_tree c.at-in-Recur.result (Recur c.args.parts) c.args.spot.span c.args.spot.wanted c.at-in-Recur.ensures.0 c.at-in-Recur.ensures.1 c.at-in-Recur.ensures.2
    ∙ recur_tree c.args.parts m ∙ ap (λ r. row_tree r (trees_of c.args.parts.items) m) (sym c.in-Recur.is)

pub returns-in-Core : goal.returns-in-Core
returns-in-Core c =
    let m = mark_of c.args.spot.span c.args.spot.wanted in
    at_tree c.at-in-Core.result (Core c.in-Core.op c.args.parts) c.args.spot.span c.args.spot.wanted c.at-in-Core.ensures.0 c.at-in-Core.ensures.1 c.at-in-Core.ensures.2
    ∙ core_tree c.in-Core.op c.args.parts m ∙ ap (λ r. row_tree r (trees_of c.args.parts.items) m) (sym c.in-Core.is)

pub returns-in-Call : goal.returns-in-Call
returns-in-Call c =
    let m = mark_of c.args.spot.span c.args.spot.wanted in
    at_tree c.at-in-Call.result (Call c.in-Call.number c.args.parts) c.args.spot.span c.args.spot.wanted c.at-in-Call.ensures.0 c.at-in-Call.ensures.1 c.at-in-Call.ensures.2
    ∙ call_tree c.in-Call.number c.args.parts m ∙ ap (λ r. row_tree r (trees_of c.args.parts.items) m) (sym c.in-Call.is)

pub returns-in-Vector : goal.returns-in-Vector
returns-in-Vector c =
    let m = mark_of c.args.spot.span c.args.spot.wanted in
    at_tree c.at-in-Vector.result (Vector c.args.parts) c.args.spot.span c.args.spot.wanted c.at-in-Vector.ensures.0 c.at-in-Vector.ensures.1 c.at-in-Vector.ensures.2
    ∙ vector_tree c.args.parts m ∙ ap (λ r. row_tree r (trees_of c.args.parts.items) m) (sym c.in-Vector.is)

pub returns-in-Println : goal.returns-in-Println
returns-in-Println c =
    let m = mark_of c.args.spot.span c.args.spot.wanted in
    at_tree c.at-in-Println.result (Println c.args.parts) c.args.spot.span c.args.spot.wanted c.at-in-Println.ensures.0 c.at-in-Println.ensures.1 c.at-in-Println.ensures.2
    ∙ println_tree c.args.parts m ∙ ap (λ r. row_tree r (trees_of c.args.parts.items) m) (sym c.in-Println.is)
