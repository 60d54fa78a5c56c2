use Rattle.std.proofs.Common.{◌≡◌, ◌∙◌, List, Vec, Global, ap, subst}
use Rattle.std.specs.Prelude.{insert}
use Rattle.txs_value_data.specs.declared.value.CellId.{CellId}
use Rattle.txs_frame.specs.Frame.{PlainTxFrame, with_cell}
use Rattle.txs_frame.specs.Kept.{IsPlaceOf, cell_number}
use Rattle.txs_frame.proofs.Frames.{joined, stayed}
use Rattle.txs_frame.proofs.frame.TxFrame.with_ensured.Goals.{in-Ok, in-Err+in_ok-insert-in-Err}
use Rattle.txs_frame.proofs.frame.TxFrame.with_ensured.Goals as goal

pub returns : goal.returns
returns c =
    let es = c.self.inside.ensured.items in
    let k = c.args.cell.number in
    let p = subst (λ (x : List CellId). IsPlaceOf cell_number x k c.find_ref.result) c.as_slice-refs.ensures.value c.find_ref.ensures in
    let same : c.in_ok-cells.cells.items ≡ es = c.in_ok-cells.ensures.items ∙ c.as_slice-refs.ensures.value in
    let made : c.match-find_ref.cells.items ≡ with_cell es c.args.cell = elim c.match-find_ref.branch [
      | in-Ok w ↦ ap (λ (v : Vec CellId Global). v.items) w.cells-is ∙ same ∙ stayed es c.args.cell w.in-Ok.field-0 c.self.invariant.ensured (subst (IsPlaceOf cell_number es k) w.in-Ok.is p)
      | in-Err+in_ok-insert-in-Err w ↦
          ap (λ (v : Vec CellId Global). v.items) w.cells-is ∙ w.in_ok-insert-in-Err.ensures.items ∙ ap (λ (x : List CellId). insert x w.in-Err.i c.args.cell) same
          ∙ joined es c.args.cell w.in-Err.i (subst (IsPlaceOf cell_number es k) w.in-Err.is p)
    ] in
    c.from_vec.ensures ∙ made ∙ ap (λ (w : PlainTxFrame). with_cell w.ensures c.args.cell) c.self.view_is
