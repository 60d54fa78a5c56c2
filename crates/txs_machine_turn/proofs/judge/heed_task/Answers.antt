use Rattle.std.proofs.Common.{◌∙◌, sym}
use Rattle.txs_machine_transaction.specs.declared.state.Transaction.TheVariants.{Applying}
use Rattle.txs_machine_actor.proofs.Looking.{done_accepted, undone}
use Rattle.txs_machine_turn.proofs.judge.heed_task.Goals as goal

pub returns-then-has_accepted : goal.returns-then-has_accepted
returns-then-has_accepted c =
    let a = c.args.actor.now in
    let p = c.args.phase in
    c.heed_accepted.ensures ∙ done_accepted (record a { tx = Applying c.args.left c.args.from p }) c.args.left c.args.from a.accepted p.work p.values (c.has_accepted.ensures.yes c.if-has_accepted.true)

pub returns : goal.returns
returns c =
    let a = c.args.actor.now in
    let p = c.args.phase in
    c.put_tx.ensures ∙ sym (undone (record a { tx = Applying c.args.left c.args.from p }) c.args.left c.args.from a.accepted p.work p.values (c.has_accepted.ensures.no c.if-has_accepted.false))
