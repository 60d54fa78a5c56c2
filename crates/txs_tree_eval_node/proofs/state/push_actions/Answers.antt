use Rattle.std.proofs.Common.{◌≡◌, ◌++◌, ◌+◌, ◌∷◌, [], List, take, get_or, append_assoc, sym, ap, ◌∙◌}
use Rattle.std.proofs.lemmas.List.{take_more}
use Rattle.txs_value_cell.specs.declared.action.Action.{Action}
use Rattle.txs_tree_eval_node.proofs.state.push_actions.Goals as goal

pub loop-action-preserved : goal.loop-action-preserved
loop-action-preserved c =
    let old = c.args.held.now.items in
    let sends = c.args.sends.now in
    let i = c.loop-action.action-index in
    let d = c.action-item.result in
    let v = c.in_ok-copy_action.field-0 in
    let same : v ≡ get_or sends i d = c.in_ok-copy_action.ensures ∙ c.action-item.is in
    let longer : take i sends ++ v ∷ [] ≡ take (i + 1) sends = ap (λ (w : Action). take i sends ++ w ∷ []) same ∙ sym (take_more sends i d c.loop-action-test.true) in
    c.in_ok-push.ensures.items ∙ ap (λ (l : List Action). l ++ v ∷ []) c.loop-action.invariant ∙ append_assoc old (take i sends) (v ∷ []) ∙ ap (λ (l : List Action). old ++ l) longer
