use Rattle.std.proofs.Common.{rules, ◌≡◌, ◌-◌, length, refl, ap, ◌∙◌, subst}
use Rattle.txs_tree_eval.specs.ActionTold.{ActionConcluded}
use Rattle.txs_tree_eval_node.specs.Evaluated.{thread_state}
use Rattle.txs_tree_eval.proofs.Leaf.{left_of, told_each}
use Rattle.txs_tree_eval.proofs.action.tell_action.Goals as goal

pub returns : goal.returns
returns c =
    let t = c.args.thread in
    let s = thread_state t in
    let few : c.saturating_sub-left.result ≡ length t.events.now - t.eaten = search rules in
    let left = left_of t.events.now t.eaten c.saturating_sub-left.result few in
    let eaten : c.saturating_sub-eaten.result ≡ c.args.events - c.saturating_sub-left.result = search rules in
    let it = c.in_ok-needs in (
      it.field-0.needs,
      it.field-0.result,
      it.field-0.sends,
      subst (λ l. ActionConcluded c.args.end l s.held it.field-0.needs it.field-0.result it.field-0.sends) left it.ensures,
      record {
        printed = c.from_vec.ensures;
        eaten = eaten ∙ ap (λ l. c.args.events - l) left;
        txs = c.in_ok-txs.ensures ∙ told_each t.txs.items;
        needs = refl;
        asks = c.asked.ensures;
        result = refl;
        sends = refl;
      },
    )
