use Rattle.std.proofs.Common.{◌≡◌, ◌∙◌, ◌∷◌, ◌++◌, [], List, Option, Result, Ok, Err, sym, ap, rules, true}
use Rattle.txs_machine_loop.specs.Values.{below, last_of, under}
use Rattle.txs_value_cell.specs.Forms.{rule, cell_of}
use Rattle.txs_frame.specs.Frame.{PlainTxFrame, SetAnswers, set_ref}
use Rattle.txs_frame.specs.declared.frame.Commute.{Commute}
use Rattle.txs_machine_stack.specs.PlainFrame.{PlainStack}
use Rattle.txs_value_data.specs.declared.fault.FaultKind.{FaultKind}
use Rattle.txs_machine_transaction.specs.Effect.{moves, sets_as, sets_cell}
use Rattle.txs_machine_transaction.specs.declared.state.Transaction.{Transaction}
use Rattle.txs_value_data.specs.declared.value.Value.{Value}
use Rattle.txs_machine_transaction.proofs.instructions.set.Goals as goal

-- a ref that was set
was_set : (vs : List Value) (tx : Transaction) (w now : PlainTxFrame) (k : Option Commute) (r : Result PlainTxFrame FaultKind) → SetAnswers r w (Ok tt) now → sets_as vs tx w k r ≡ moves (below 2 vs ++ last_of vs ∷ []) tx now k
was_set vs tx w now k (Ok u) h = ap (λ (x : PlainTxFrame). moves (below 2 vs ++ last_of vs ∷ []) tx x k) (sym h)
was_set vs tx w now k (Err e) h = absurd h

pub returns-in-Err-clause-comes : goal.returns-in-Err-clause-comes
returns-in-Err-clause-comes c = λ from tx k.
    ap (λ r. sets_cell c.args.stack.now.values tx c.args.frame.now k r)
    (sym (c.in-Err.ensures ∙ ap (λ v. cell_of (rule c.args.form) true v) c.under.ensures))

pub returns-in-Err-SetAfterCommute-clause-comes : goal.returns-in-Err-SetAfterCommute-clause-comes
returns-in-Err-SetAfterCommute-clause-comes c = search rules

pub returns-in-Ok-set-clause-comes : goal.returns-in-Ok-set-clause-comes
returns-in-Ok-set-clause-comes c = λ from tx k.
    let vs = c.args.stack.now.values in
    let w = c.args.frame.now in
    let x = c.in-Ok.cell in
    let e : cell_of (rule c.args.form) true (under 1 vs) ≡ Ok x = sym (c.in-Ok.ensures ∙ ap (λ v. cell_of (rule c.args.form) true v) c.under.ensures) in
    ap (λ r. sets_cell vs tx w k r) e ∙ ap (λ v. sets_as vs tx w k (set_ref x v w)) (sym (c.in-Ok-copy_value.ensures ∙ c.last.ensures))
    ∙ was_set vs tx w c.set.new.self k (set_ref x c.in-Ok-copy_value.value w) c.in-Ok-set.ensures
    ∙ ap (λ (s : PlainStack). moves s.values tx c.set.new.self k) (sym c.drop_under.ensures)
