use Rattle.std.proofs.Common.{ap, sym, ◌∙◌, List, Vec, Global, [], ◌∷◌, ◌++◌}
use Rattle.std.proofs.lemmas.List.{take_all}
use Rattle.txs_value_data.specs.declared.value.CellId.{CellId}
use Rattle.txs_frame.specs.Frame.{commuted}
use Rattle.txs_frame.specs.Kept.{cells_by, only_commuted, ref_cell}
use Rattle.txs_frame.proofs.Frames.{commuted_is}
use Rattle.txs_frame.proofs.Turns.{cells_join, cells_stay, not_only_commuted}
use Rattle.txs_frame.proofs.frame.TxFrame.commuted.Goals.{in-Commuted+in_ok-push-in-Commuted, in-Set}
use Rattle.txs_frame.proofs.frame.TxFrame.commuted.Goals as goal

pub returns : goal.returns
returns c =
    let s = c.self.inside in
    c.loop-own.invariant
    ∙ ap (cells_by only_commuted) (take_all c.loop-own.own-index c.deref-own-items.result.now c.loop-own-test.false)
    ∙ ap (cells_by only_commuted) c.deref-own-items.ensures.value
    ∙ commuted_is s.own.items s.ensured.items s.commutes.items s.sends.items c.self.invariant
    ∙ ap commuted c.self.view_is

pub loop-own-preserved : goal.loop-own-preserved
loop-own-preserved c =
    let os = c.deref-own-items.result.now in
    let i = c.loop-own.own-index in
    let o = c.own-item.result in
    elim c.match-own.branch [
      | in-Commuted+in_ok-push-in-Commuted w ↦
          ap (λ (v : Vec CellId Global). v.items) w.cells-is ∙ w.in_ok-push-in-Commuted.ensures.items ∙ ap (λ (x : List CellId). x ++ ref_cell o.number ∷ []) c.loop-own.invariant
          ∙ sym (cells_join only_commuted os i o c.loop-own-test.true c.own-item.is (ap only_commuted w.in-Commuted.is))
      | in-Set w ↦
          ap (λ (v : Vec CellId Global). v.items) w.cells-is ∙ c.loop-own.invariant ∙ sym (cells_stay only_commuted os i o c.loop-own-test.true c.own-item.is (not_only_commuted o.how w.in-Set.is))
    ]
