use Rattle.std.proofs.Common.{refl, ◌∙◌}
use Rattle.txs_tree_eval.proofs.Leaf.{told_each}
use Rattle.txs_tree_eval.proofs.meaning.account.Goals as goal

pub returns : goal.returns
returns c =
    let t = c.args.thread in
    record {
      printed = c.from_vec.ensures;
      eaten = refl;
      txs = c.in_ok-txs.ensures ∙ told_each t.txs.items;
      needs = refl;
      asks = c.asked.ensures;
      outcome = refl;
    }
