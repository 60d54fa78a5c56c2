use Rattle.std.proofs.Common.{◌∙◌, Option, List, ap, sym, subst}
use Rattle.std.specs.Option.{IfSome}
use Rattle.txs_code_meaning.specs.declared.instr.Instr.{Instr}
use Rattle.txs_code_meaning.specs.declared.instr.Instr.TheVariants as instr
use Rattle.txs_frame.specs.Frame.{PlainTxFrame}
use Rattle.txs_frame.specs.declared.frame.Commute.{Commute}
use Rattle.txs_value_cell.specs.Cells.{Validators}
use Rattle.txs_machine_stack.specs.PlainFrame.{PlainStack}
use Rattle.txs_value_data.specs.declared.fault.Span.{Span}
use Rattle.txs_machine_transaction.specs.Effect.{ComesQuickly, effect}
use Rattle.txs_machine_transaction.specs.declared.moved.Quick.{Quick}
use Rattle.txs_machine_transaction.specs.declared.state.Transaction.{Transaction}
use Rattle.txs_value_data.specs.declared.value.Value.{Value}
use Rattle.txs_machine_transaction.proofs.instructions.transact.Goals as goal

-- what such an instruction comes to, here
abbrev told : Validators → Quick → List Value → Transaction → PlainTxFrame → Option Commute → Span → PlainStack → Transaction → PlainTxFrame → Option Commute → Instr → Type 0
told fs q vs tx w k span stack old was had i =
    ComesQuickly q (record { span = span; stack = stack }) vs tx w k was had (effect fs (record { span = span; stack = stack }) stack.values old was had i)

pub returns-in-Look-Deref-clause-comes : goal.returns-in-Look-Deref-clause-comes
returns-in-Look-Deref-clause-comes c = λ fs span.
    let a = c.args in
    let x = c.in-Look-Deref in
    subst (λ i. told fs c.deref.result c.deref.new.stack.values a.tx.now a.frame.now a.commuting.now span a.stack.now a.tx.now a.frame.now a.commuting.now i)
    (sym (x.is ∙ ap instr.Look (rw x.is at x.field-0-is))) (c.deref.ensures.comes (record { span = span; stack = a.stack.now }) a.commuting.now)

pub returns-in-Look-Deref-clause-rest : goal.returns-in-Look-Deref-clause-rest
returns-in-Look-Deref-clause-rest c = c.deref.ensures.rest

pub returns-in-Put-RefSet-clause-comes : goal.returns-in-Put-RefSet-clause-comes
returns-in-Put-RefSet-clause-comes c = λ fs span.
    let a = c.args in
    let x = c.in-Put-RefSet in
    subst (λ i. told fs c.set.result c.set.new.stack.values a.tx.now c.set.new.frame a.commuting.now span a.stack.now a.tx.now a.frame.now a.commuting.now i)
    (sym (x.is ∙ ap instr.Put (rw x.is at x.field-0-is))) (c.set.ensures.comes (record { span = span; stack = a.stack.now }) a.tx.now a.commuting.now)

pub returns-in-Put-RefSet-clause-rest : goal.returns-in-Put-RefSet-clause-rest
returns-in-Put-RefSet-clause-rest c = c.set.ensures.rest

pub returns-in-TxBegin-clause-comes : goal.returns-in-TxBegin-clause-comes
returns-in-TxBegin-clause-comes c = λ fs span.
    let a = c.args in
    subst (λ i. told fs c.begin.result a.stack.now.values c.begin.new.tx a.frame.now a.commuting.now span a.stack.now a.tx.now a.frame.now a.commuting.now i)
    (sym c.in-TxBegin.is) (c.begin.ensures (record { span = span; stack = a.stack.now }) a.frame.now a.commuting.now)

pub returns-in-TxEnd-clause-comes : goal.returns-in-TxEnd-clause-comes
returns-in-TxEnd-clause-comes c = λ fs span.
    let a = c.args in
    subst (λ i. IfSome c.end_plainly.result (λ q. told fs q a.stack.now.values c.end_plainly.new.tx a.frame.now a.commuting.now span a.stack.now a.tx.now a.frame.now a.commuting.now i))
    (sym c.in-TxEnd.is) (c.end_plainly.ensures.comes fs (record { span = span; stack = a.stack.now }) a.stack.now.values a.commuting.now)

pub returns-in-Open-Alter-default-clause-comes : goal.returns-in-Open-Alter-default-clause-comes
returns-in-Open-Alter-default-clause-comes c = λ fs span.
    let a = c.args in
    let x = c.in-Open-Alter-default in
    subst (λ i. told fs c.open_to_alter.result c.open_to_alter.new.stack.values a.tx.now a.frame.now c.open_to_alter.new.commuting span a.stack.now a.tx.now a.frame.now a.commuting.now i)
    (sym (x.is ∙ ap (λ f. instr.Open f x.n) (rw x.is at x.field-0-is))) (c.open_to_alter.ensures.comes (record { span = span; stack = a.stack.now }) a.tx.now)

pub returns-in-Open-Alter-default-clause-rest : goal.returns-in-Open-Alter-default-clause-rest
returns-in-Open-Alter-default-clause-rest c = c.open_to_alter.ensures.rest
