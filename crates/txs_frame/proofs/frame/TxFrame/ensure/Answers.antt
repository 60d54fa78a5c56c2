use Rattle.std.proofs.Common.{ap, subst, sym, ◌∙◌, List}
use Rattle.txs_value_data.specs.declared.value.CellId.{CellId}
use Rattle.txs_frame.specs.Frame.{ensure_ref}
use Rattle.txs_frame.specs.Kept.{IsPlaceOf, IsKept, work_of, cell_number}
use Rattle.txs_frame.proofs.Frames.{ensure_done, ensure_kept, ensure_stays}
use Rattle.txs_frame.proofs.frame.TxFrame.ensure.Goals as goal

pub invariant_of-self-in-Err : goal.invariant_of-self-in-Err
invariant_of-self-in-Err c =
    let s = c.self.inside in
    let k = c.args.cell.number in
    let p = subst (λ (x : List CellId). IsPlaceOf cell_number x k c.find_ref.result) c.as_slice.ensures.value c.find_ref.ensures in
    let q = subst (IsPlaceOf cell_number s.ensured.items k) c.in-Err.is p in
    subst (λ (x : List CellId). IsKept s.own.items x s.commutes.items) (sym c.in_ok-insert-in-Err.ensures.items) (ensure_kept s.own.items s.ensured.items s.commutes.items c.args.cell c.in-Err.i c.self.invariant q)

pub returns-in_ok-insert-in-Err-clause-kept : goal.returns-in_ok-insert-in-Err-clause-kept
returns-in_ok-insert-in-Err-clause-kept c =
    let s = c.self.inside in
    let k = c.args.cell.number in
    let p = subst (λ (x : List CellId). IsPlaceOf cell_number x k c.find_ref.result) c.as_slice.ensures.value c.find_ref.ensures in
    let q = subst (IsPlaceOf cell_number s.ensured.items k) c.in-Err.is p in
    ap (λ (x : List CellId). work_of s.own.items x s.commutes.items s.sends.items) c.in_ok-insert-in-Err.ensures.items
    ∙ sym (ensure_done s.own.items s.ensured.items s.commutes.items s.sends.items c.args.cell c.in-Err.i q)
    ∙ ap (ensure_ref c.args.cell) c.self.view_is

pub returns-in-Ok-clause-kept : goal.returns-in-Ok-clause-kept
returns-in-Ok-clause-kept c =
    let s = c.self.inside in
    let k = c.args.cell.number in
    let p = subst (λ (x : List CellId). IsPlaceOf cell_number x k c.find_ref.result) c.as_slice.ensures.value c.find_ref.ensures in
    let q = subst (IsPlaceOf cell_number s.ensured.items k) c.in-Ok.is p in
    sym (ap (ensure_ref c.args.cell) (sym c.self.view_is) ∙ ensure_stays s.own.items s.ensured.items s.commutes.items s.sends.items c.args.cell c.in-Ok.field-0 c.self.invariant q ∙ c.self.view_is)
