use Rattle.std.proofs.Common.{◌≡◌, ◌∙◌, ◌∷◌, ◌++◌, [], List, Option, None, Some, Ok, refl, sym, subst, ap, true}
use Rattle.txs_machine_loop.specs.Values.{below, last_of, under}
use Rattle.txs_value_cell.specs.Forms.{rule, cell_of}
use Rattle.txs_value_cell.specs.declared.form.CellForm.TheVariants as form
use Rattle.txs_value_cell.specs.declared.form.UpdateForm.TheVariants as update
use Rattle.txs_frame.specs.Frame.{PlainTxFrame, commute_ref}
use Rattle.txs_frame.specs.declared.frame.Commute.{Commute}
use Rattle.txs_machine_stack.specs.PlainFrame.{PlainStack}
use Rattle.txs_machine_transaction.specs.Effect.{MayRunOut, moves, breaks, closes, keeps_cell}
use Rattle.txs_value_data.specs.declared.value.CellId.{CellId}
use Rattle.txs_value_data.specs.declared.value.Value.{Value}
use Rattle.txs_machine_transaction.specs.declared.state.Transaction.{Transaction}
use Rattle.txs_machine_transaction.proofs.instructions.keep.Goals as goal

-- where the ref was found, memory may run out
may : (vs : List Value) (tx : Transaction) (w : PlainTxFrame) (q : Option Commute) (o : Commute) (x : CellId) → q ≡ Some o → cell_of (rule (form.Update update.Alter)) true (under 1 vs) ≡ Ok x → MayRunOut (closes vs tx w q)
may vs tx w q o x is e = subst (λ q. MayRunOut (closes vs tx w q)) (sym is) (subst (λ r. MayRunOut (keeps_cell o vs tx w r)) (sym e) tt)

pub returns-in-Err-clause-comes : goal.returns-in-Err-clause-comes
returns-in-Err-clause-comes c =
    let vs = c.args.stack.now.values in
    let tx = c.args.tx.now in
    let w = c.args.frame.now in
    let is = c.requires.open.1 in
    ap (λ q. closes vs tx w q) is
    ∙ ap (λ r. keeps_cell c.requires.open.0 vs tx w r) (sym (c.in-Err.ensures ∙ ap (λ v. cell_of (rule (form.Update update.Alter)) true v) c.under.ensures))
    ∙ ap (λ q. breaks c.in-Err.kind tx w q) (sym is)

pub returns-in_default-copy_values-clause-comes : goal.returns-in_default-copy_values-clause-comes
returns-in_default-copy_values-clause-comes c =
    let vs = c.args.stack.now.values in
    let e : cell_of (rule (form.Update update.Alter)) true (under 1 vs) ≡ Ok c.in-Ok.cell = sym (c.in-Ok.ensures ∙ ap (λ v. cell_of (rule (form.Update update.Alter)) true v) c.under.ensures) in
    (refl, sym c.in-Some.is, may vs c.args.tx.now c.args.frame.now c.args.commuting.now c.in-Some.open c.in-Ok.cell c.in-Some.is e)

pub returns-in_default-copy_value-clause-comes : goal.returns-in_default-copy_value-clause-comes
returns-in_default-copy_value-clause-comes c =
    let vs = c.args.stack.now.values in
    let e : cell_of (rule (form.Update update.Alter)) true (under 1 vs) ≡ Ok c.in-Ok.cell = sym (c.in-Ok.ensures ∙ ap (λ v. cell_of (rule (form.Update update.Alter)) true v) c.under.ensures) in
    (refl, sym c.in-Some.is, may vs c.args.tx.now c.args.frame.now c.args.commuting.now c.in-Some.open c.in-Ok.cell c.in-Some.is e)

pub returns-in-Err-commute-clause-comes : goal.returns-in-Err-commute-clause-comes
returns-in-Err-commute-clause-comes c =
    let vs = c.args.stack.now.values in
    let e : cell_of (rule (form.Update update.Alter)) true (under 1 vs) ≡ Ok c.in-Ok.cell = sym (c.in-Ok.ensures ∙ ap (λ v. cell_of (rule (form.Update update.Alter)) true v) c.under.ensures) in
    (c.in-Err-commute.ensures.same, sym c.in-Some.is, may vs c.args.tx.now c.args.frame.now c.args.commuting.now c.in-Some.open c.in-Ok.cell c.in-Some.is e)

pub returns-in-Ok-commute-clause-comes : goal.returns-in-Ok-commute-clause-comes
returns-in-Ok-commute-clause-comes c =
    let vs = c.args.stack.now.values in
    let tx = c.args.tx.now in
    let w = c.args.frame.now in
    let o = c.in-Some.open in
    let x = c.in-Ok.cell in
    let e : cell_of (rule (form.Update update.Alter)) true (under 1 vs) ≡ Ok x = sym (c.in-Ok.ensures ∙ ap (λ v. cell_of (rule (form.Update update.Alter)) true v) c.under.ensures) in
    let left = below 2 vs ++ last_of vs ∷ [] in
    ap (λ q. closes vs tx w q) c.in-Some.is ∙ ap (λ r. keeps_cell o vs tx w r) e
    ∙ ap (λ (ts : List Value). moves left tx (commute_ref x o.callee ts (last_of vs) w) None) (sym c.in-Ok-copy_values.ensures)
    ∙ ap (λ (v : Value). moves left tx (commute_ref x o.callee c.in-Ok-copy_values.args v w) None) (sym (c.in-Ok-copy_value.ensures ∙ c.last.ensures))
    ∙ ap (λ (u : PlainTxFrame). moves left tx u None) (sym c.in-Ok-commute.ensures.kept)
    ∙ ap (λ (s : PlainStack). moves s.values tx c.commute.new.self None) (sym c.drop_under.ensures)
    ∙ ap (λ (q : Option Commute). moves c.drop_under.new.self.values tx c.commute.new.self q) (sym c.shut.ensures)
