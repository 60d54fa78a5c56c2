use Rattle.std.proofs.Common.{subst, refl}
use Rattle.txs_machine_transaction.specs.declared.state.Transaction.{Transaction}
use Rattle.txs_machine_actor.specs.Turns.{IsNextLook}
use Rattle.txs_machine_actor.proofs.Looking.{runs_no_end}
use Rattle.txs_machine_turn.proofs.judge.end_look.Goals as goal

pub returns-in-Some : goal.returns-in-Some
returns-in-Some c =
    let w = c.args.actor.now.done in
    subst (λ (t : Transaction). IsNextLook c.end_check.result t w) c.in-Some.ensures.whole (c.end_check.ensures w)

pub returns-in-None : goal.returns-in-None
returns-in-None c =
    runs_no_end c.args.actor.now.tx c.args.actor.now.done (c.in-None.ensures.running refl)
