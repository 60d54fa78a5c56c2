use Rattle.std.proofs.Common.{◌≡◌, ℕ, ◌∙◌, ap, sym, arith}
use Rattle.txs_machine_actor.specs.PlainActor.{PlainActor}
use Rattle.txs_frame.specs.Frame.{commuted}
use Rattle.txs_frame.specs.Phase.{tasks_of}
use Rattle.txs_machine_transaction.specs.declared.state.Transaction.{Transaction}
use Rattle.txs_machine_transaction.specs.declared.state.Transaction.TheVariants.{Running}
use Rattle.txs_value_cell.specs.Cells.{validators_of}
use Rattle.txs_machine_actor.specs.Turns.{begun_with}
use Rattle.txs_machine_actor.proofs.Looking.{begins_taken, inner_stays, others_stay}
use Rattle.txs_machine_turn.proofs.judge.begin_tasks.Goals as goal

-- what was taken out is put back
put_back : (a b c : PlainActor) (t u : Transaction) → c ≡ record b { tx = t } → b ≡ record a { tx = u } → t ≡ a.tx → c ≡ a
put_back a b c t u new out is = new ∙ ap (λ (y : PlainActor). record y { tx = t }) out ∙ ap (λ (x : Transaction). record a { tx = x }) is

pub returns-then-inner-eq0-clause-begun : goal.returns-then-inner-eq0-clause-begun
returns-then-inner-eq0-clause-begun c = λ told.
    let a = c.args.actor.now in
    let e = c.in-Running in
    let fs = validators_of c.args.cells.now in
    let z = c.if-inner-eq0.true in
    c.begin_tasks_of.ensures.begun told
    ∙ ap (λ (y : PlainActor). begun_with (record y { tx = Running e.left 0 e.from }) e.left e.from (commuted y.done) (tasks_of fs y.done)) c.take_tx.ensures.rest
    ∙ begins_taken fs a e.left e.inner e.from (sym c.take_tx.ensures.taken ∙ e.is) (omega (arith, z))

pub returns-then-inner-eq0-clause-kept : goal.returns-then-inner-eq0-clause-kept
returns-then-inner-eq0-clause-kept c = λ untold.
    let a = c.args.actor.now in
    let e = c.in-Running in
    let z = c.if-inner-eq0.true in
    let zero_inner : e.inner ≡ 0 = omega (arith, z) in
    let is = ap (λ (n : ℕ). Running e.left n e.from) (sym zero_inner) ∙ sym e.is ∙ c.take_tx.ensures.taken in
    put_back a c.take_tx.new.self c.begin_tasks_of.new.actor (Running e.left 0 e.from) _ (c.begin_tasks_of.ensures.kept untold) c.take_tx.ensures.rest is

pub returns-else-inner-eq0-clause-begun : goal.returns-else-inner-eq0-clause-begun
returns-else-inner-eq0-clause-begun c = λ told.
    let a = c.args.actor.now in
    let e = c.in-Running in
    let some_inner = c.if-inner-eq0.false in
    let is = sym e.is ∙ c.take_tx.ensures.taken in
    put_back a c.take_tx.new.self c.put_tx.new.self (Running e.left e.inner e.from) _ c.put_tx.ensures c.take_tx.ensures.rest is
    ∙ sym (inner_stays (validators_of c.args.cells.now) a a.tx e.left e.inner e.from (sym is) (λ z. omega (arith, z, some_inner)))

pub returns-in_default-clause-begun : goal.returns-in_default-clause-begun
returns-in_default-clause-begun c = λ told.
    let a = c.args.actor.now in
    let before = c.take_tx.ensures.taken in
    put_back a c.take_tx.new.self c.put_tx-in_default.new.self c.take_tx.result _ c.put_tx-in_default.ensures c.take_tx.ensures.rest before
    ∙ sym (others_stay (validators_of c.args.cells.now) a a.tx (λ l i f e. c.in_default.not-Running l i f (before ∙ e)))
