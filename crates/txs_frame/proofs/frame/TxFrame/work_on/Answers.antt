use Rattle.std.proofs.Common.{◌≡◌, ap, sym, ◌∙◌, List, ◌++◌, take, get_or}
use Rattle.std.proofs.lemmas.List.{take_all, take_more}
use Rattle.txs_value_data.specs.declared.value.CellId.{CellId}
use Rattle.txs_value_data.specs.declared.value.CellKind.TheVariants.{Ref}
use Rattle.txs_frame.specs.Frame.{PlainTxFrame, commutes_of, by_ref}
use Rattle.txs_frame.specs.declared.frame.Commute.{Commute}
use Rattle.txs_frame.proofs.Phases.{by_ref_more}
use Rattle.txs_frame.proofs.frame.TxFrame.work_on.Goals as goal

pub loop-cell-preserved : goal.loop-cell-preserved
loop-cell-preserved c =
    let ds : List CellId = c.args.cells.now in
    let cs : List Commute = c.args.self.now.commutes in
    let i = c.loop-cell.cell-index in
    let none : CellId = record { kind = Ref; number = 0 } in
    let d : CellId = get_or ds i none in
    let lent : c.as_slice.result.now ≡ cs = c.as_slice.ensures.value ∙ ap (λ (w : PlainTxFrame). w.commutes) c.self.view_is in
    c.in_ok-push_commutes_of.ensures
    ∙ ap (λ (xs : List Commute). c.loop-cell.work.items ++ commutes_of d.number xs) lent
    ∙ ap (λ (xs : List Commute). xs ++ commutes_of d.number cs) c.loop-cell.invariant
    ∙ sym (by_ref_more (take i ds) d cs)
    ∙ ap (λ (xs : List CellId). by_ref xs cs) (sym (take_more ds i none c.loop-cell-test.true))

pub returns : goal.returns
returns c = c.loop-cell.invariant ∙ ap (λ (ds : List CellId). by_ref ds c.args.self.now.commutes) (take_all c.loop-cell.cell-index c.args.cells.now c.loop-cell-test.false)
