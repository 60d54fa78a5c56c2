use Rattle.std.proofs.Common.{sym, ap, ◌∙◌}
use Rattle.txs_tree_meaning.specs.View.{trees_of}
use Rattle.txs_resolve_expand.specs.Expressions.{sequence_node}
use Rattle.txs_tree_meaning.proofs.Trees.{do_tree, recur_tree, println_tree, vector_tree, core_tree, call_tree}
use Rattle.txs_resolve.proofs.nodes.row_kind.Goals as goal

pub returns-in-Do : goal.returns-in-Do
returns-in-Do c m = do_tree c.args.nodes m ∙ ap (λ k. sequence_node k (trees_of c.args.nodes.items) m) (sym c.in-Do.is)

pub returns-in-Recur : goal.returns-in-Recur
returns-in-Recur c m = recur_tree c.args.nodes m ∙ ap (λ k. sequence_node k (trees_of c.args.nodes.items) m) (sym c.in-Recur.is)

pub returns-in-Println : goal.returns-in-Println
returns-in-Println c m = println_tree c.args.nodes m ∙ ap (λ k. sequence_node k (trees_of c.args.nodes.items) m) (sym c.in-Println.is)

pub returns-in-Vector : goal.returns-in-Vector
returns-in-Vector c m = vector_tree c.args.nodes m ∙ ap (λ k. sequence_node k (trees_of c.args.nodes.items) m) (sym c.in-Vector.is)

pub returns-in-Core : goal.returns-in-Core
returns-in-Core c m = core_tree c.in-Core.op c.args.nodes m ∙ ap (λ k. sequence_node k (trees_of c.args.nodes.items) m) (sym c.in-Core.is)

pub returns-in-Call : goal.returns-in-Call
returns-in-Call c m = call_tree c.in-Call.number c.args.nodes m ∙ ap (λ k. sequence_node k (trees_of c.args.nodes.items) m) (sym c.in-Call.is)
