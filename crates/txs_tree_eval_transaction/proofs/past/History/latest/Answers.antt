use Rattle.std.proofs.Common.{◌∙◌, ap, sym}
use Rattle.txs_tree_eval_transaction.proofs.Halves.{latest_is}
use Rattle.txs_tree_eval_transaction.specs.Pasts.{latest}
use Rattle.txs_tree_eval_transaction.proofs.past.History.latest.Goals as goal

pub returns-in-Some : goal.returns-in-Some
returns-in-Some c =
    let ws = c.deref.result.now in
    latest_is 0 ws c.in-Some.item.now (sym c.in-Some.ensures.value) ∙ ap (latest 0) (c.deref.ensures.value ∙ c.self.view_is)
