use Rattle.std.proofs.Common.{◌≡◌, ◌+◌, ◌∙◌, ◌∷◌, ◌++◌, [], List, Ok, sym, ap, true, false}
use Rattle.txs_machine_loop.specs.Values.{below, under}
use Rattle.txs_value_cell.specs.Forms.{rule, cell_of}
use Rattle.txs_value_cell.specs.declared.form.CellForm.TheVariants as form
use Rattle.txs_frame.specs.Frame.{PlainTxFrame, hold_send}
use Rattle.txs_machine_stack.specs.PlainFrame.{PlainStack}
use Rattle.txs_machine_transaction.specs.Effect.{moves, dispatches, sends_cell}
use Rattle.txs_machine_transaction.specs.Transaction.{is_running}
use Rattle.txs_value_data.specs.declared.value.Value.TheVariants.{Cell}
use Rattle.txs_value_data.specs.declared.value.Value.{Value}
use Rattle.txs_machine_transaction.proofs.instructions.send.Goals as goal

pub returns-then-not-inside-clause-comes : goal.returns-then-not-inside-clause-comes
returns-then-not-inside-clause-comes c = λ k.
    let a = c.args in
    let vs = a.stack.now.values in
    let tx = a.tx.now in
    let w = a.frame.now in
    let g = c.in-Ok.agent in
    let inside : is_running tx ≡ false = sym c.is_running-inside.ensures ∙ c.if-not-inside.true in
    let e : cell_of (rule form.Send) (is_running tx) (under a.n vs) ≡ Ok g =
    sym (c.in-Ok.ensures ∙ ap (λ v. cell_of (rule form.Send) c.is_running-inside.result v) c.under.ensures ∙ ap (λ b. cell_of (rule form.Send) b (under a.n vs)) c.is_running-inside.ensures) in
    ap (λ r. sends_cell (is_running tx) a.callee a.n a.span vs tx w k r) e ∙ ap (λ b. sends_cell b a.callee a.n a.span vs tx w k (Ok g)) inside
    ∙ ap (λ (ts : List Value). dispatches (record { agent = g; callee = a.callee; args = ts; span = a.span }) a.n vs tx w k) (sym c.in-Ok-copy_arguments.ensures)

pub returns-in-Ok-hold_send-clause-comes : goal.returns-in-Ok-hold_send-clause-comes
returns-in-Ok-hold_send-clause-comes c = λ k.
    let a = c.args in
    let vs = a.stack.now.values in
    let tx = a.tx.now in
    let w = a.frame.now in
    let g = c.in-Ok.agent in
    let inside : is_running tx ≡ true = sym c.is_running-inside.ensures ∙ c.if-not-inside.false in
    let e : cell_of (rule form.Send) (is_running tx) (under a.n vs) ≡ Ok g =
    sym (c.in-Ok.ensures ∙ ap (λ v. cell_of (rule form.Send) c.is_running-inside.result v) c.under.ensures ∙ ap (λ b. cell_of (rule form.Send) b (under a.n vs)) c.is_running-inside.ensures) in
    let sent = below (a.n + 1) vs ++ Cell g ∷ [] in
    ap (λ r. sends_cell (is_running tx) a.callee a.n a.span vs tx w k r) e ∙ ap (λ b. sends_cell b a.callee a.n a.span vs tx w k (Ok g)) inside
    ∙ ap (λ (ts : List Value). moves sent tx (hold_send (record { agent = g; callee = a.callee; args = ts; span = a.span }) w) k) (sym c.in-Ok-copy_arguments.ensures)
    ∙ ap (λ (u : PlainTxFrame). moves sent tx u k) (sym c.in-Ok-hold_send.ensures.kept)
    ∙ ap (λ (s : PlainStack). moves s.values tx c.hold_send.new.self k) (sym c.replace_over.ensures)
