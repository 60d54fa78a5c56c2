use Rattle.std.proofs.Common.{◌∙◌, ap, sym}
use Rattle.txs_machine_actor.specs.PlainActor.{PlainActor}
use Rattle.txs_machine_transaction.specs.declared.state.Transaction.{Transaction}
use Rattle.txs_machine_transaction.specs.declared.state.Transaction.TheVariants.{Applying}
use Rattle.txs_machine_actor.specs.Turns.{done_by}
use Rattle.txs_machine_actor.proofs.Looking.{heeds_taken, unheeding}
use Rattle.txs_machine_turn.proofs.judge.heed.Goals as goal

pub returns-in-Applying : goal.returns-in-Applying
returns-in-Applying c =
    let a = c.args.actor.now in
    let e = c.in-Applying in
    c.heed_task.ensures ∙ ap (λ (y : PlainActor). done_by (record y { tx = Applying e.left e.from e.phase }) e.left e.from y.accepted e.phase.work e.phase.values) c.take_tx.ensures.rest
    ∙ heeds_taken a e.left e.from e.phase (sym c.take_tx.ensures.taken ∙ e.is)

pub returns-in_default : goal.returns-in_default
returns-in_default c =
    let a = c.args.actor.now in
    let before = c.take_tx.ensures.taken in
    c.put_tx.ensures ∙ ap (λ (y : PlainActor). record y { tx = c.take_tx.result }) c.take_tx.ensures.rest ∙ ap (λ (t : Transaction). record a { tx = t }) before
    ∙ sym (unheeding a a.tx (λ l f p e. c.in_default.not-Applying l f p (before ∙ e)))
