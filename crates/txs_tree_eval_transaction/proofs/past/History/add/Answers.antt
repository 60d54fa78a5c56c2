use Rattle.std.proofs.Common.{◌≤◌, subst, sym}
use Rattle.txs_tree_eval_transaction.proofs.Halves.{ascend_add}
use Rattle.txs_tree_eval_transaction.specs.Pasts.{Ascend, latest}
use Rattle.txs_tree_eval_transaction.proofs.past.History.add.Goals as goal

pub invariant_of-self-2 : goal.invariant_of-self-2
invariant_of-self-2 c =
    let ws = c.self.inside.items.items in
    subst (Ascend 0) (sym c.in_ok-push.ensures.items)
    (ascend_add 0 ws c.args.place c.args.value (subst (λ l. latest 0 l ≤ c.args.place) (sym c.self.view_is) c.requires) c.self.invariant)
