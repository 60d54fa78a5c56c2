use Rattle.std.proofs.Common.{◌∙◌, Option, List, ap, sym, subst}
use Rattle.txs_code_meaning.specs.declared.instr.Instr.{Instr}
use Rattle.txs_code_meaning.specs.declared.instr.Instr.TheVariants as instr
use Rattle.txs_frame.specs.Frame.{PlainTxFrame}
use Rattle.txs_frame.specs.declared.frame.Commute.{Commute}
use Rattle.txs_value_cell.specs.Cells.{Validators, validators_of}
use Rattle.txs_machine_stack.specs.PlainFrame.{PlainStack}
use Rattle.txs_value_data.specs.declared.fault.Span.{Span}
use Rattle.txs_machine_transaction.specs.Effect.{Comes, effect}
use Rattle.txs_machine_transaction.specs.declared.moved.Moved.{Moved}
use Rattle.txs_machine_transaction.specs.declared.state.Transaction.{Transaction}
use Rattle.txs_value_data.specs.declared.value.Value.{Value}
use Rattle.txs_machine_transaction.proofs.instructions.transact_rarely.Goals as goal

-- what such an instruction comes to, here
abbrev told : Validators → Moved → List Value → Transaction → PlainTxFrame → Option Commute → Span → PlainStack → Transaction → PlainTxFrame → Option Commute → Instr → Type 0
told fs m vs tx w k span stack old was had i = Comes m vs tx w k was had (effect fs (record { span = span; stack = stack }) stack.values old was had i)

pub returns-in-Look-Ensure-clause-comes : goal.returns-in-Look-Ensure-clause-comes
returns-in-Look-Ensure-clause-comes c =
    let a = c.args in
    let x = c.in-Look-Ensure in
    subst (λ i. told (validators_of a.cells.now) c.ensure.result c.ensure.new.stack.values a.tx.now c.ensure.new.frame a.commuting.now a.span a.stack.now a.tx.now a.frame.now a.commuting.now i)
    (sym (x.is ∙ ap instr.Look (rw x.is at x.field-0-is))) (c.ensure.ensures.comes a.commuting.now)

pub returns-in-Put-Reset-clause-comes : goal.returns-in-Put-Reset-clause-comes
returns-in-Put-Reset-clause-comes c =
    let a = c.args in
    let x = c.in-Put-Reset in
    subst (λ i. told (validators_of a.cells.now) c.reset.result a.stack.now.values a.tx.now a.frame.now a.commuting.now a.span a.stack.now a.tx.now a.frame.now a.commuting.now i)
    (sym (x.is ∙ ap instr.Put (rw x.is at x.field-0-is))) (c.reset.ensures.comes a.tx.now a.frame.now a.commuting.now)

pub returns-in-Send-clause-comes : goal.returns-in-Send-clause-comes
returns-in-Send-clause-comes c =
    let a = c.args in
    subst (λ i. told (validators_of a.cells.now) c.send.result c.send.new.stack.values a.tx.now c.send.new.frame a.commuting.now a.span a.stack.now a.tx.now a.frame.now a.commuting.now i)
    (sym c.in-Send.is) (c.send.ensures.comes a.commuting.now)

pub returns-in-TxEnd-clause-comes : goal.returns-in-TxEnd-clause-comes
returns-in-TxEnd-clause-comes c =
    let a = c.args in
    subst (λ i. told (validators_of a.cells.now) c.end.result a.stack.now.values c.end.new.tx a.frame.now a.commuting.now a.span a.stack.now a.tx.now a.frame.now a.commuting.now i)
    (sym c.in-TxEnd.is) (c.end.ensures a.stack.now.values a.commuting.now)

pub returns-in-Open-Commute-default-clause-comes : goal.returns-in-Open-Commute-default-clause-comes
returns-in-Open-Commute-default-clause-comes c =
    let a = c.args in
    let x = c.in-Open-Commute-default in
    subst (λ i. told (validators_of a.cells.now) c.open.result c.open.new.stack.values a.tx.now a.frame.now c.open.new.commuting a.span a.stack.now a.tx.now a.frame.now a.commuting.now i)
    (sym (x.is ∙ ap (λ f. instr.Open f x.n) (rw x.is at x.field-0-is))) c.open.ensures.comes

pub returns-in-Open-Swap-default-clause-comes : goal.returns-in-Open-Swap-default-clause-comes
returns-in-Open-Swap-default-clause-comes c =
    let a = c.args in
    let x = c.in-Open-Swap-default in
    subst (λ i. told (validators_of a.cells.now) c.open_swap.result a.stack.now.values a.tx.now a.frame.now a.commuting.now a.span a.stack.now a.tx.now a.frame.now a.commuting.now i)
    (sym (x.is ∙ ap (λ f. instr.Open f x.n) (rw x.is at x.field-0-is))) (c.open_swap.ensures.comes a.tx.now a.frame.now a.commuting.now)

pub returns-in-Close-Swap-clause-comes : goal.returns-in-Close-Swap-clause-comes
returns-in-Close-Swap-clause-comes c =
    let a = c.args in
    let x = c.in-Close-Swap in
    subst (λ i. told (validators_of a.cells.now) c.close_swap.result a.stack.now.values a.tx.now a.frame.now a.commuting.now a.span a.stack.now a.tx.now a.frame.now a.commuting.now i)
    (sym (x.is ∙ ap instr.Close (rw x.is at x.field-0-is))) (c.close_swap.ensures.comes a.frame.now a.commuting.now)
