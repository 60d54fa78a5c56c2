use Rattle.std.proofs.Common.{◌≡◌, ◌∙◌, ◌∷◌, ◌++◌, [], None, Some, Ok, sym, ap, true, false}
use Rattle.txs_world_protocol.specs.Ask.{buffered}
use Rattle.txs_machine_loop.specs.Values.{but_last, last_of}
use Rattle.txs_value_cell.specs.Forms.{rule, cell_of}
use Rattle.txs_value_cell.specs.declared.form.CellForm.TheVariants as form
use Rattle.txs_value_cell.specs.declared.form.LookForm.TheVariants.{Deref}
use Rattle.txs_machine_stack.specs.PlainFrame.{PlainStack}
use Rattle.txs_machine_transaction.specs.Effect.{Effect, moves, waits, own_or, reads_cell}
use Rattle.txs_machine_transaction.specs.Transaction.{is_running}
use Rattle.txs_machine_transaction.specs.declared.state.Pending.TheVariants as pending
use Rattle.txs_value_data.specs.declared.value.Value.{Value}
use Rattle.txs_machine_transaction.proofs.instructions.deref.Goals as goal

pub returns-in-Ok-clause-comes : goal.returns-in-Ok-clause-comes
returns-in-Ok-clause-comes c = λ from k.
    let vs = c.args.stack.now.values in
    let tx = c.args.tx.now in
    let w = c.args.frame.now in
    let x = c.in-Ok.cell in
    let inside : is_running tx ≡ false = sym c.runs-inside.ensures ∙ c.if-not-inside.true in
    let e : cell_of (rule (form.Look Deref)) (is_running tx) (last_of vs) ≡ Ok x =
    sym (c.in-Ok.ensures ∙ ap (λ v. cell_of (rule (form.Look Deref)) c.runs-inside.result v) c.last.ensures ∙ ap (λ b. cell_of (rule (form.Look Deref)) b (last_of vs)) c.runs-inside.ensures) in
    ap (λ r. reads_cell (is_running tx) vs tx w k r) e ∙ ap (λ b. reads_cell b vs tx w k (Ok x)) inside

pub returns-in-Ok-None-clause-comes : goal.returns-in-Ok-None-clause-comes
returns-in-Ok-None-clause-comes c = λ from k.
    let vs = c.args.stack.now.values in
    let tx = c.args.tx.now in
    let w = c.args.frame.now in
    let x = c.in-Ok.cell in
    let inside : is_running tx ≡ true = sym c.runs-inside.ensures ∙ c.if-not-inside.false in
    let e : cell_of (rule (form.Look Deref)) (is_running tx) (last_of vs) ≡ Ok x =
    sym (c.in-Ok.ensures ∙ ap (λ v. cell_of (rule (form.Look Deref)) c.runs-inside.result v) c.last.ensures ∙ ap (λ b. cell_of (rule (form.Look Deref)) b (last_of vs)) c.runs-inside.ensures) in
    let own : buffered w.values x.number ≡ None = sym (rw c.in-Ok-None.field-0-is at c.in-Ok-None.ensures) in
    let go : Value → Effect = λ v. moves (but_last vs ++ v ∷ []) tx w k in
    ap (λ r. reads_cell (is_running tx) vs tx w k r) e ∙ ap (λ b. reads_cell b vs tx w k (Ok x)) inside
    ∙ ap (λ o. own_or o go (waits (pending.Read x) vs tx w k)) own

pub returns-in-Ok-Some-clause-comes : goal.returns-in-Ok-Some-clause-comes
returns-in-Ok-Some-clause-comes c = λ from k.
    let vs = c.args.stack.now.values in
    let tx = c.args.tx.now in
    let w = c.args.frame.now in
    let x = c.in-Ok.cell in
    let v = c.in-Ok-Some.value in
    let inside : is_running tx ≡ true = sym c.runs-inside.ensures ∙ c.if-not-inside.false in
    let e : cell_of (rule (form.Look Deref)) (is_running tx) (last_of vs) ≡ Ok x =
    sym (c.in-Ok.ensures ∙ ap (λ v. cell_of (rule (form.Look Deref)) c.runs-inside.result v) c.last.ensures ∙ ap (λ b. cell_of (rule (form.Look Deref)) b (last_of vs)) c.runs-inside.ensures) in
    let own : buffered w.values x.number ≡ Some v = sym (rw c.in-Ok-Some.field-0-is at c.in-Ok-Some.ensures) in
    let go : Value → Effect = λ y. moves (but_last vs ++ y ∷ []) tx w k in
    ap (λ r. reads_cell (is_running tx) vs tx w k r) e ∙ ap (λ b. reads_cell b vs tx w k (Ok x)) inside
    ∙ ap (λ o. own_or o go (waits (pending.Read x) vs tx w k)) own
    ∙ ap (λ (s : PlainStack). moves s.values tx w k) (sym c.replace_last.ensures)
