use Rattle.std.proofs.Common.{◌≡◌, ◌++◌, [], ap, ◌∙◌, rules}
use Rattle.txs_tree_eval_node.proofs.evaluate.copy_locals.Goals as goal

pub returns : goal.returns
returns c =
    let empty : c.new-copies.result.items ≡ [] = search rules in
    c.in_ok-push_copies.ensures ∙ ap (λ l. l ++ c.args.values.now) empty
