use Rattle.std.proofs.Common.{sym, ap, ◌∙◌}
use Rattle.txs_tree_meaning.specs.View.{tree_of, trees_of}
use Rattle.txs_resolve_expand.specs.Expressions.{binding_node}
use Rattle.txs_tree_meaning.proofs.Trees.{let_tree, loop_tree}
use Rattle.txs_resolve.proofs.NodeTrees.{binding_same}
use Rattle.txs_resolve.proofs.nodes.binding_kind.Goals as goal

pub returns-then-is_loop : goal.returns-then-is_loop
returns-then-is_loop c vs n m is =
    loop_tree c.boxed_last.new.nodes c.in_ok-body.body m
    ∙ ap (λ b. binding_node b (trees_of c.boxed_last.new.nodes.items) (tree_of c.in_ok-body.body.value) m) (sym c.if-is_loop.true)
    ∙ binding_same c.args.is_loop c.args.parts.items vs c.boxed_last.new.nodes.items n c.in_ok-body.body.value m c.in_ok-body.ensures is

pub returns : goal.returns
returns c vs n m is =
    let_tree c.boxed_last.new.nodes c.in_ok-body.body m
    ∙ ap (λ b. binding_node b (trees_of c.boxed_last.new.nodes.items) (tree_of c.in_ok-body.body.value) m) (sym c.if-is_loop.false)
    ∙ binding_same c.args.is_loop c.args.parts.items vs c.boxed_last.new.nodes.items n c.in_ok-body.body.value m c.in_ok-body.ensures is
