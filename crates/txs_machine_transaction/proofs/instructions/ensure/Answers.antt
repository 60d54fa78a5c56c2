use Rattle.std.proofs.Common.{◌≡◌, ◌∙◌, ◌∷◌, ◌++◌, [], None, Some, Ok, sym, ap, true}
use Rattle.txs_world_protocol.specs.Ask.{buffered}
use Rattle.txs_machine_loop.specs.Values.{but_last, last_of}
use Rattle.txs_value_cell.specs.Forms.{rule, cell_of}
use Rattle.txs_value_cell.specs.declared.form.CellForm.TheVariants as form
use Rattle.txs_value_cell.specs.declared.form.LookForm.TheVariants.{Ensure}
use Rattle.txs_frame.specs.Frame.{PlainTxFrame, ensure_ref, with_cell}
use Rattle.txs_machine_stack.specs.PlainFrame.{PlainStack}
use Rattle.txs_machine_transaction.specs.Effect.{Effect, moves, waits, own_or, ensures_cell}
use Rattle.txs_machine_transaction.specs.declared.state.Pending.TheVariants as pending
use Rattle.txs_value_data.specs.declared.value.Value.{Value}
use Rattle.txs_machine_transaction.proofs.instructions.ensure.Goals as goal

pub returns-in-Err-clause-comes : goal.returns-in-Err-clause-comes
returns-in-Err-clause-comes c = λ k.
    ap (λ r. ensures_cell c.args.stack.now.values c.args.tx.now c.args.frame.now k r)
    (sym (c.in-Err.ensures ∙ ap (λ v. cell_of (rule (form.Look Ensure)) true v) c.last.ensures))

pub returns-in-Ok-with_ensured-clause-comes : goal.returns-in-Ok-with_ensured-clause-comes
returns-in-Ok-with_ensured-clause-comes c = λ k.
    let vs = c.args.stack.now.values in
    let tx = c.args.tx.now in
    let w = c.args.frame.now in
    let x = c.in-Ok.cell in
    let e : cell_of (rule (form.Look Ensure)) true (last_of vs) ≡ Ok x = sym (c.in-Ok.ensures ∙ ap (λ v. cell_of (rule (form.Look Ensure)) true v) c.last.ensures) in
    let own : buffered w.values x.number ≡ None = sym (rw c.in-Ok-None.field-0-is at c.in-Ok-None.ensures) in
    let go : Value → Effect = λ v. moves (but_last vs ++ v ∷ []) tx (ensure_ref x w) k in
    ap (λ r. ensures_cell vs tx w k r) e ∙ ap (λ o. own_or o go (waits (pending.Ensure x (with_cell w.ensures x)) vs tx w k)) own
    ∙ ap (λ es. waits (pending.Ensure x es) vs tx w k) (sym c.in-Ok-with_ensured.ensures)

pub returns-in-Ok-ensure-clause-comes : goal.returns-in-Ok-ensure-clause-comes
returns-in-Ok-ensure-clause-comes c = λ k.
    let vs = c.args.stack.now.values in
    let tx = c.args.tx.now in
    let w = c.args.frame.now in
    let x = c.in-Ok.cell in
    let v = c.in-Ok-Some.value in
    let e : cell_of (rule (form.Look Ensure)) true (last_of vs) ≡ Ok x = sym (c.in-Ok.ensures ∙ ap (λ v. cell_of (rule (form.Look Ensure)) true v) c.last.ensures) in
    let own : buffered w.values x.number ≡ Some v = sym (rw c.in-Ok-Some.field-0-is at c.in-Ok-Some.ensures) in
    let go : Value → Effect = λ y. moves (but_last vs ++ y ∷ []) tx (ensure_ref x w) k in
    ap (λ r. ensures_cell vs tx w k r) e ∙ ap (λ o. own_or o go (waits (pending.Ensure x (with_cell w.ensures x)) vs tx w k)) own
    ∙ ap (λ (u : PlainTxFrame). moves (but_last vs ++ v ∷ []) tx u k) (sym c.in-Ok-ensure.ensures.kept)
    ∙ ap (λ (s : PlainStack). moves s.values tx c.ensure.new.self k) (sym c.replace_last.ensures)
