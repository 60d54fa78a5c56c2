use Rattle.std.proofs.Common.{◌≡◌, ◌∷◌, List, sym, ap, ◌∙◌}
use Rattle.txs_tree_meaning.specs.Tree.{Mark, Tree}
use Rattle.txs_tree_meaning.specs.View.{kind_tree, tree_of, trees_of}
use Rattle.txs_tree_meaning.specs.declared.node.Node.{Node}
use Rattle.txs_resolve_expand.specs.Expressions.{change_node, spot_mark}
use Rattle.txs_resolve.specs.BodyGiven.{row}
use Rattle.txs_resolve.proofs.TreeRows.{first_node, row_trees, some_of}
use Rattle.txs_resolve.proofs.nodes.build_change.Goals as goal

pub returns : goal.returns
returns c t ts shows =
    let m = spot_mark c.args.spot in
    let change = c.args.change in
    let callee = c.args.callee in
    let ns = c.args.parts.items.items in
    let a = first_node ns t ts (shows c.if-parts.false) in
    let made = change_node change t callee (row ts) m in
    c.push.ensures made (some_of c.change_kind.result c.ok.result (λ k. (n : Node) (vs : List Node) (m : Mark) → ns ≡ n ∷ vs → kind_tree k m ≡ change_node change (tree_of n) callee (trees_of vs) m) (λ k. kind_tree k m ≡ made) c.ok.ensures.value
    (λ k h.
    h a.0 a.1 m a.2
    ∙ ap (λ (x : Tree). change_node change x callee (trees_of a.1) m) a.3
    ∙ ap (λ l. change_node change t callee l m) (sym (row_trees a.1) ∙ ap row a.4))
    c.change_kind.ensures)
