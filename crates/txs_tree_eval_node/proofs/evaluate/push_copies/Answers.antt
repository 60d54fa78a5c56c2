use Rattle.std.proofs.Common.{◌≡◌, ◌++◌, ◌+◌, ◌∷◌, [], List, take, get_or, append_assoc, sym, ap, ◌∙◌}
use Rattle.std.proofs.lemmas.List.{take_more}
use Rattle.txs_value_data.specs.declared.value.Value.{Value}
use Rattle.txs_tree_eval_node.proofs.evaluate.push_copies.Goals as goal

pub loop-other-preserved : goal.loop-other-preserved
loop-other-preserved c =
    let old = c.args.values.now.items in
    let others = c.args.others.now in
    let i = c.loop-other.other-index in
    let d = c.other-item.result in
    let v = c.in_ok-copy_value.field-0 in
    let same : v ≡ get_or others i d = c.in_ok-copy_value.ensures ∙ c.other-item.is in
    let longer : take i others ++ v ∷ [] ≡ take (i + 1) others = ap (λ (w : Value). take i others ++ w ∷ []) same ∙ sym (take_more others i d c.loop-other-test.true) in
    c.in_ok-push.ensures.items ∙ ap (λ (l : List Value). l ++ v ∷ []) c.loop-other.invariant ∙ append_assoc old (take i others) (v ∷ []) ∙ ap (λ (l : List Value). old ++ l) longer
