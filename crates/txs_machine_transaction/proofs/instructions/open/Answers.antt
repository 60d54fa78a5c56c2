use Rattle.std.proofs.Common.{◌≡◌, ◌∙◌, None, Some, Ok, sym, ap, true}
use Rattle.txs_world_protocol.specs.Ask.{buffered}
use Rattle.txs_machine_loop.specs.Values.{put_under, topmost, under}
use Rattle.txs_value_cell.specs.Forms.{rule, cell_of}
use Rattle.txs_value_cell.specs.declared.form.CellForm.TheVariants as form
use Rattle.txs_value_cell.specs.declared.form.UpdateForm.TheVariants as update
use Rattle.txs_code_meaning.specs.ActorState.{kept_open}
use Rattle.txs_machine_stack.specs.PlainFrame.{PlainStack}
use Rattle.txs_machine_transaction.specs.Effect.{Effect, moves, waits, own_or, opens_cell, update_of}
use Rattle.txs_machine_transaction.specs.declared.state.Pending.TheVariants as pending
use Rattle.txs_value_data.specs.declared.value.Value.{Value}
use Rattle.txs_machine_transaction.proofs.instructions.open.Goals as goal

pub returns-in-Err-clause-comes : goal.returns-in-Err-clause-comes
returns-in-Err-clause-comes c =
    let a = c.args in
    ap (λ r. opens_cell (update_of (Some a.callee)) a.n a.stack.now.values a.tx.now a.frame.now a.commuting.now r)
    (sym (c.in-Err.ensures ∙ ap (λ v. cell_of (rule (form.Update update.Alter)) true v) c.under.ensures))

pub returns-in-Ok-None-clause-comes : goal.returns-in-Ok-None-clause-comes
returns-in-Ok-None-clause-comes c =
    let a = c.args in
    let vs = a.stack.now.values in
    let tx = a.tx.now in
    let w = a.frame.now in
    let k = a.commuting.now in
    let u = update_of (Some a.callee) in
    let x = c.in-Ok.cell in
    let e : cell_of (rule (form.Update update.Alter)) true (under a.n vs) ≡ Ok x = sym (c.in-Ok.ensures ∙ ap (λ v. cell_of (rule (form.Update update.Alter)) true v) c.under.ensures) in
    let own : buffered w.values x.number ≡ None = sym (rw c.in-Ok-None.field-0-is at c.in-Ok-None.ensures) in
    let go : Value → Effect = λ v. moves (put_under a.n v vs) tx w (kept_open u x (topmost a.n vs)) in
    ap (λ r. opens_cell u a.n vs tx w k r) e ∙ ap (λ o. own_or o go (waits (pending.Open x a.n (kept_open u x (topmost a.n vs))) vs tx w k)) own
    ∙ ap (λ ts. waits (pending.Open x a.n (kept_open u x ts)) vs tx w k) (sym c.in-Ok-copy_topmost.ensures)

pub returns-in-Ok-Some-clause-comes : goal.returns-in-Ok-Some-clause-comes
returns-in-Ok-Some-clause-comes c =
    let a = c.args in
    let vs = a.stack.now.values in
    let tx = a.tx.now in
    let w = a.frame.now in
    let k = a.commuting.now in
    let u = update_of (Some a.callee) in
    let x = c.in-Ok.cell in
    let v = c.in-Ok-Some.value in
    let e : cell_of (rule (form.Update update.Alter)) true (under a.n vs) ≡ Ok x = sym (c.in-Ok.ensures ∙ ap (λ v. cell_of (rule (form.Update update.Alter)) true v) c.under.ensures) in
    let own : buffered w.values x.number ≡ Some v = sym (rw c.in-Ok-Some.field-0-is at c.in-Ok-Some.ensures) in
    let go : Value → Effect = λ y. moves (put_under a.n y vs) tx w (kept_open u x (topmost a.n vs)) in
    ap (λ r. opens_cell u a.n vs tx w k r) e ∙ ap (λ o. own_or o go (waits (pending.Open x a.n (kept_open u x (topmost a.n vs))) vs tx w k)) own
    ∙ ap (λ ts. moves (put_under a.n v vs) tx w (kept_open u x ts)) (sym c.in-Ok-copy_topmost.ensures)
    ∙ ap (λ q. moves (put_under a.n v vs) tx w q) (sym c.replace.ensures.after)
    ∙ ap (λ (s : PlainStack). moves s.values tx w c.replace.new.dest) (sym c.insert_under.ensures)
