use Rattle.std.proofs.Common.{subst, refl}
use Rattle.txs_machine_transaction.specs.declared.state.Transaction.{Transaction}
use Rattle.txs_value_cell.specs.Cells.{validators_of}
use Rattle.txs_machine_actor.specs.Turns.{IsLook, swap_check}
use Rattle.txs_machine_actor.proofs.Looking.{runs_no_swap}
use Rattle.txs_machine_turn.proofs.judge.swap_look.Goals as goal

pub returns-in-Some : goal.returns-in-Some
returns-in-Some c = λ v.
    subst (λ (t : Transaction). IsLook c.swap_check.result v (swap_check (validators_of c.args.cells.now) t v)) c.in-Some.ensures.whole (c.swap_check.ensures v)

pub returns-in-None : goal.returns-in-None
returns-in-None c = λ v.
    runs_no_swap (validators_of c.args.cells.now) v c.args.actor.now.tx (c.in-None.ensures.running refl)
