use Rattle.std.proofs.Common.{◌≡◌, ◌<◌, [], length, Option, IfSome, ◌∙◌, sym, subst}
use Rattle.txs_frame.specs.Frame.{PlainTxFrame, commuted}
use Rattle.txs_frame.specs.Phase.{PlainPhase, tasks_of}
use Rattle.txs_value_cell.specs.Cells.{validators_of}
use Rattle.txs_machine_transaction.specs.declared.state.Transaction.TheVariants.{Running}
use Rattle.txs_machine_actor.proofs.Looking.{tasks_begin, none_begin}
use Rattle.txs_machine_turn.proofs.judge.begin_tasks_of.Goals as goal

pub returns-in-Some-clause-begun : goal.returns-in-Some-clause-begun
returns-in-Some-clause-begun c = λ told.
    let a = c.args.actor.now in
    let fs = validators_of c.args.cells.now in
    let some = subst (λ (w : PlainTxFrame). IfSome c.in-Ok.tasks (λ p. (commuted w ≡ []) × (0 < length p.work) × (p ≡ record { work = tasks_of fs w; values = [] }))) c.frame.ensures c.in-Ok.ensures.some in
    let h = subst (λ (o : Option PlainPhase). IfSome o (λ p. (commuted a.done ≡ []) × (0 < length p.work) × (p ≡ record { work = tasks_of fs a.done; values = [] }))) c.in-Some.is some in
    c.put_tx.ensures ∙ tasks_begin a c.args.left c.args.from (commuted a.done) (tasks_of fs a.done) c.in-Some.phase h.0 h.1 h.2

pub returns-in-None-clause-begun : goal.returns-in-None-clause-begun
returns-in-None-clause-begun c = λ told.
    let a = c.args.actor.now in
    let fs = validators_of c.args.cells.now in
    let none = subst (λ (w : PlainTxFrame). commuted w ≡ [] → tasks_of fs w ≡ []) c.frame.ensures (c.in-Ok.ensures.none c.in-None.is) in
    c.run_on-in-None.ensures ∙ sym (none_begin (record a { tx = Running c.args.left 0 c.args.from }) c.args.left c.args.from (commuted a.done) (tasks_of fs a.done) none)
