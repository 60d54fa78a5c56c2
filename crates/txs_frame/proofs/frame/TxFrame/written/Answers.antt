use Rattle.std.proofs.Common.{ap, sym, ◌∙◌, ◌+◌, List, [], ◌∷◌, ◌++◌, length, length-append}
use Rattle.std.proofs.lemmas.List.{take_all}
use Rattle.txs_value_data.specs.declared.value.CellId.{CellId}
use Rattle.txs_frame.specs.Frame.{written}
use Rattle.txs_frame.specs.Kept.{ref_cell}
use Rattle.txs_frame.proofs.Frames.{written_is}
use Rattle.txs_frame.proofs.Owns.{all_cells}
use Rattle.txs_frame.proofs.Turns.{all_cells_more}
use Rattle.txs_frame.proofs.frame.TxFrame.written.Goals as goal

pub loop-own-preserved : goal.loop-own-preserved
loop-own-preserved c =
    let h = c.loop-own in
    let os = c.deref-own-items.result.now in
    let o = c.own-item.result in
    let put = c.push_reserved.ensures in
    let items = put.items ∙ ap (λ (x : CellId). h.refs.items ++ x ∷ []) c.ref_cell.ensures in
    record {
      many = ap length items ∙ length-append h.refs.items (ref_cell o.number ∷ []) ∙ ap (λ n. n + 1) h.invariant.many;
      room = put.capacity ∙ h.invariant.room;
      built = items ∙ ap (λ (x : List CellId). x ++ ref_cell o.number ∷ []) h.invariant.built ∙ sym (all_cells_more os h.own-index o c.loop-own-test.true c.own-item.is);
    }

pub returns : goal.returns
returns c =
    let s = c.self.inside in
    c.loop-own.invariant.built
    ∙ ap all_cells (take_all c.loop-own.own-index c.deref-own-items.result.now c.loop-own-test.false)
    ∙ ap all_cells c.deref-own-items.ensures.value
    ∙ written_is s.own.items s.ensured.items s.commutes.items s.sends.items c.self.invariant
    ∙ ap written c.self.view_is
