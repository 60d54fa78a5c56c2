use Rattle.std.proofs.Common.{ℕ, Option, Some, None, sym, subst}
use Rattle.txs_frame.specs.Frame.{PlainTxFrame}
use Rattle.txs_frame.specs.Phase.{PlainPhase}
use Rattle.txs_value_data.specs.declared.fault.Span.{Span}
use Rattle.txs_value_data.specs.declared.op.Callee.{Callee}
use Rattle.txs_machine_transaction.specs.declared.state.Savepoint.{Savepoint}
use Rattle.txs_machine_transaction.specs.declared.state.Transaction.{Transaction}
use Rattle.txs_machine_transaction.specs.declared.state.Transaction.TheVariants.{Applying}
use Rattle.txs_machine_actor.specs.Turns.{IsNextLook, IsTaskLook}
use Rattle.txs_machine_actor.proofs.Looking.{no_end}
use Rattle.txs_machine_turn.proofs.judge.end_check.Goals as goal

-- the next of the tasks that are done is that of the transaction's end
next_look : (r : Option (Callee × Span)) (left : ℕ) (from : Savepoint) (p : PlainPhase) (w : PlainTxFrame) → IsTaskLook r p.work p.values w from.span → IsNextLook r (Applying left from p) w
next_look None left from p w h = h
next_look (Some x) left from p w h = h

pub returns-in-Applying : goal.returns-in-Applying
returns-in-Applying c = λ w.
    let e = c.in-Applying in
    subst (λ (t : Transaction). IsNextLook c.task_check.result t w) (sym e.is) (next_look c.task_check.result e.left e.from e.phase w (c.task_check.ensures w))

pub returns-in_default : goal.returns-in_default
returns-in_default c = λ w. no_end c.args.tx.now w c.in_default.not-Applying
