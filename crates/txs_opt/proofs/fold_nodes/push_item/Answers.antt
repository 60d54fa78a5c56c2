use Rattle.txs_tree_meaning.specs.View.{tree_of, trees_of}
use Rattle.txs_opt.specs.Items.{kept_item}
use Rattle.txs_opt.proofs.Items.{item_goes, item_stays}
use Rattle.txs_opt.proofs.fold_nodes.push_item.Goals as goal

pub returns-then-goes : goal.returns-then-goes
returns-then-goes c =
    item_goes (trees_of c.args.items.now.items) (kept_item c.args.is_last (tree_of c.args.item)) (tree_of c.args.item) c.goes.result c.goes.ensures c.if-goes.true

pub returns : goal.returns
returns c =
    item_stays c.args.items.now.items c.push.new.self.items c.args.item (kept_item c.args.is_last (tree_of c.args.item)) c.goes.result c.goes.ensures c.if-goes.false c.in_ok-push.ensures.items
