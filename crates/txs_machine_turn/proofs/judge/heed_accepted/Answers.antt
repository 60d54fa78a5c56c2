use Rattle.std.proofs.Common.{◌∙◌, ap, sym}
use Rattle.txs_machine_actor.specs.PlainActor.{PlainActor}
use Rattle.txs_machine_transaction.specs.declared.state.Transaction.TheVariants.{Applying}
use Rattle.txs_machine_actor.proofs.Looking.{a_validation, task_done, task_stays}
use Rattle.txs_machine_turn.proofs.judge.heed_accepted.Goals as goal

pub accept-requires : goal.accept-requires
accept-requires c = a_validation c.args.phase.work (sym c.validates.ensures ∙ c.if-validates.true)

pub returns-then-validates : goal.returns-then-validates
returns-then-validates c =
    let p = c.args.phase in
    c.put_tx.ensures ∙ ap (λ (y : PlainActor). record y { tx = Applying c.args.left c.args.from c.accept.new.self }) c.set_accepted.ensures
    ∙ task_done c.args.actor.now c.args.left c.args.from p c.accept.new.self (sym c.validates.ensures ∙ c.if-validates.true) c.accept.ensures

pub returns : goal.returns
returns c =
    let p = c.args.phase in
    let a : PlainActor = record c.args.actor.now { tx = Applying c.args.left c.args.from p } in
    c.put_tx-2.ensures ∙ sym (task_stays a c.args.left c.args.from p.work p.values (sym c.validates.ensures ∙ c.if-validates.false))
