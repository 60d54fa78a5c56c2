use Rattle.std.proofs.Common.{◌≡◌, ◌++◌, ◌∷◌, [], ap, ◌∙◌, rules}
use Rattle.txs_tree_eval_node.proofs.evaluate.with_first.Goals as goal

pub returns : goal.returns
returns c =
    let empty : c.new-values.result.items ≡ [] = search rules in
    c.in_ok-push_copies.ensures ∙ ap (λ l. l ++ c.args.others.now) (c.in_ok-push.ensures.items ∙ ap (λ l. l ++ c.args.first ∷ []) empty)
