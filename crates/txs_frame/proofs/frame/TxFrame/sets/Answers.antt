use Rattle.std.proofs.Common.{ap, sym, ◌∙◌, List, Vec, Global, [], ◌∷◌, ◌++◌}
use Rattle.std.proofs.lemmas.List.{take_all}
use Rattle.txs_value_data.specs.declared.value.CellId.{CellId}
use Rattle.txs_frame.specs.Frame.{PlainTxFrame}
use Rattle.txs_frame.specs.Kept.{cells_by, was_set, ref_cell}
use Rattle.txs_frame.proofs.Turns.{cells_join, cells_stay, was_set_so}
use Rattle.txs_frame.proofs.frame.TxFrame.sets.Goals.{in-Set+in_ok-push-in-Set, in-Commuted}
use Rattle.txs_frame.proofs.frame.TxFrame.sets.Goals as goal

pub returns : goal.returns
returns c =
    c.loop-own.invariant
    ∙ ap (cells_by was_set) (take_all c.loop-own.own-index c.deref-own-items.result.now c.loop-own-test.false)
    ∙ ap (cells_by was_set) c.deref-own-items.ensures.value
    ∙ ap (λ (w : PlainTxFrame). w.sets) c.self.view_is

pub loop-own-preserved : goal.loop-own-preserved
loop-own-preserved c =
    let os = c.deref-own-items.result.now in
    let i = c.loop-own.own-index in
    let o = c.own-item.result in
    elim c.match-own.branch [
      | in-Set+in_ok-push-in-Set w ↦
          ap (λ (v : Vec CellId Global). v.items) w.refs-is ∙ w.in_ok-push-in-Set.ensures.items ∙ ap (λ (y : CellId). c.loop-own.refs.items ++ y ∷ []) w.ref_cell.ensures ∙ ap (λ (x : List CellId). x ++ ref_cell o.number ∷ []) c.loop-own.invariant
          ∙ sym (cells_join was_set os i o c.loop-own-test.true c.own-item.is (was_set_so o.how w.in-Set.is))
      | in-Commuted w ↦
          ap (λ (v : Vec CellId Global). v.items) w.refs-is ∙ c.loop-own.invariant ∙ sym (cells_stay was_set os i o c.loop-own-test.true c.own-item.is (ap was_set w.in-Commuted.is))
    ]
