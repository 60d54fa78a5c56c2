use Rattle.std.proofs.Common.{sym, ◌∙◌, arith}
use Rattle.txs_tree_meaning.specs.View.{mark_of}
use Rattle.txs_opt.proofs.Items.{whole_of}
use Rattle.txs_opt.proofs.fold_nodes.whole_node.Goals as goal

pub returns : goal.returns
returns c =
    c.row_node.ensures ∙ sym (whole_of c.args.items.items (mark_of c.args.spot.span c.args.spot.wanted) (λ one. omega (arith, c.if-len-eq1.false, c.len.ensures, one)))
