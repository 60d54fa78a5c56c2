use Rattle.std.proofs.Common.{◌≡◌, List, slice_index_or, remove, sym, ap, ◌∙◌}
use Rattle.txs_value_data.specs.declared.op.Callee.{Callee}
use Rattle.txs_tree_meaning.specs.Tree.{Mark}
use Rattle.txs_tree_meaning.specs.View.{tree_of, trees_of}
use Rattle.txs_tree_meaning.specs.declared.node.Node.{Node}
use Rattle.txs_tree_meaning.proofs.Trees.{send_tree, update_tree}
use Rattle.txs_resolve_expand.specs.declared.shapes.Change.{Change}
use Rattle.txs_resolve_expand.specs.Expressions.{change_node}
use Rattle.txs_resolve.proofs.nodes.change_kind.Goals as goal

called : (change : Change) (callee : Callee) (m : Mark) (b n : Node) (rest vs : List Node) → b ≡ n → rest ≡ vs
    → change_node change (tree_of b) callee (trees_of rest) m ≡ change_node change (tree_of n) callee (trees_of vs) m
called change callee m b n rest vs one all =
    ap (λ (x : Node). change_node change (tree_of x) callee (trees_of rest) m) one ∙ ap (λ l. change_node change (tree_of n) callee (trees_of l) m) all

pub returns-in-Update : goal.returns-in-Update
returns-in-Update c n vs m is =
    let cell = c.in_ok-cell.cell in
    let args = c.remove-cell.new.self in
    update_tree c.in-Update.form cell c.args.callee args m
    ∙ ap (λ k. change_node k (tree_of cell.value) c.args.callee (trees_of args.items) m) (sym c.in-Update.is)
    ∙ called c.args.change c.args.callee m cell.value n args.items vs
    (c.in_ok-cell.ensures.ok ∙ c.remove-cell.ensures.value ∙ ap (λ (l : List Node). slice_index_or l 0 c.remove-cell.result) is) (c.remove-cell.ensures.items ∙ ap (λ (l : List Node). remove l 0) is)

pub returns-in-Send : goal.returns-in-Send
returns-in-Send c n vs m is =
    let cell = c.in_ok-cell.cell in
    let args = c.remove-cell.new.self in
    send_tree cell c.args.callee args m
    ∙ ap (λ k. change_node k (tree_of cell.value) c.args.callee (trees_of args.items) m) (sym c.in-Send.is)
    ∙ called c.args.change c.args.callee m cell.value n args.items vs
    (c.in_ok-cell.ensures.ok ∙ c.remove-cell.ensures.value ∙ ap (λ (l : List Node). slice_index_or l 0 c.remove-cell.result) is) (c.remove-cell.ensures.items ∙ ap (λ (l : List Node). remove l 0) is)
