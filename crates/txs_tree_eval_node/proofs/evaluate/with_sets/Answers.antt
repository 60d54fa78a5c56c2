use Rattle.std.proofs.Common.{ap, ◌∙◌}
use Rattle.txs_tree_meaning.specs.Transaction.{merged}
use Rattle.txs_tree_eval_node.proofs.evaluate.with_sets.Goals as goal

pub returns : goal.returns
returns c = c.in_ok-merge.ensures ∙ ap (λ l. merged l c.args.writes.now) c.in_ok-last.ensures
