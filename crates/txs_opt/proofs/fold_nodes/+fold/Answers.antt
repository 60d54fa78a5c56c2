use Rattle.std.proofs.Common.{refl, arith}
use Rattle.std.proofs.lemmas.List.{drop_all}
use Rattle.txs_tree_meaning.specs.View.{tree_of, trees_of}
use Rattle.txs_opt.specs.Fold.{folded_all, seen_items}
use Rattle.txs_opt.proofs.Items.{pushed_folded, items_more, items_end}
use Rattle.txs_tree_meaning.proofs.Rows.{nodes_at}
use Rattle.txs_opt.proofs.fold_nodes.+fold.Goals as goal

pub fold_all-fold_node-requires : goal.fold_all-fold_node-requires
fold_all-fold_node-requires t c =
    (omega (arith, c.decreases, nodes_at c.args.nodes.now c.loop-node.node-index c.node-item.result c.loop-node-test.true c.node-item.is), tt)

pub fold_all-loop-node-preserved : goal.fold_all-loop-node-preserved
fold_all-loop-node-preserved t c = record {
  so_far = pushed_folded c.args.nodes.now c.loop-node.anew.items c.push.new.self.items c.loop-node.node-index c.node-item.result c.in_ok-fold_node.field-0 c.loop-node-test.true c.node-item.is c.loop-node.invariant.so_far c.in_ok-push.ensures.items c.in_ok-fold_node.ensures;
}

pub fold_items-fold_node-requires : goal.fold_items-fold_node-requires
fold_items-fold_node-requires t c =
    (omega (arith, c.decreases, nodes_at c.args.nodes.now c.loop-at.at c.index-nodes-at.result c.loop-at-test.true c.index-nodes-at.is), tt)

pub fold_items-loop-at-preserved : goal.fold_items-loop-at-preserved
fold_items-loop-at-preserved t c = record {
  so_far = items_more c.args.nodes.now c.loop-at.at c.index-nodes-at.result (trees_of c.loop-at.items.items) (trees_of c.push_item.new.items.items) (seen_items (folded_all (trees_of c.args.nodes.now))) (tree_of c.in_ok-item.item) _ c.loop-at-test.true c.index-nodes-at.is c.loop-at.invariant.so_far refl c.in_ok-item.ensures c.in_ok-push_item.ensures;
}

pub fold_items-returns : goal.fold_items-returns
fold_items-returns t c =
    items_end c.args.nodes.now c.loop-at.at (trees_of c.loop-at.items.items) (seen_items (folded_all (trees_of c.args.nodes.now))) (drop_all c.loop-at.at c.args.nodes.now c.loop-at-test.false) c.loop-at.invariant.so_far
