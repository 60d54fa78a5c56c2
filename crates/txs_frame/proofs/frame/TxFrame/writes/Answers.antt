use Rattle.std.proofs.Common.{◌≡◌, ◌≤◌, ◌+◌, ap, sym, ◌∙◌, Vec, Global, [], ◌∷◌, ◌++◌, length, take, length-append, vec_capacity, arith}
use Rattle.std.proofs.lemmas.List.{take_all}
use Rattle.txs_world_protocol.specs.Ask.{Writes}
use Rattle.txs_value_data.specs.declared.value.CellId.{CellId}
use Rattle.txs_value_data.specs.declared.value.Value.{Value}
use Rattle.txs_frame.specs.Frame.{set_writes}
use Rattle.txs_frame.specs.Kept.{writes_by, was_set, ref_cell}
use Rattle.txs_frame.proofs.Frames.{writes_is}
use Rattle.txs_frame.proofs.Turns.{writes_join, writes_stay, was_set_so}
use Rattle.txs_frame.proofs.frame.TxFrame.writes.Goals.{in-Set+in_ok-copy_value-in-Set, in-Commuted}
use Rattle.txs_frame.proofs.frame.TxFrame.writes.Goals as goal

pub returns : goal.returns
returns c =
    let s = c.self.inside in
    c.loop-own.invariant.built
    ∙ ap (writes_by was_set) (take_all c.loop-own.own-index c.deref-own-items.result.now c.loop-own-test.false)
    ∙ ap (writes_by was_set) c.deref-own-items.ensures.value
    ∙ writes_is s.own.items s.ensured.items s.commutes.items s.sends.items c.self.invariant
    ∙ ap set_writes c.self.view_is

pub loop-own-preserved : goal.loop-own-preserved
loop-own-preserved c =
    let h = c.loop-own in
    let os = c.deref-own-items.result.now in
    let o = c.own-item.result in
    let before : Writes = writes_by was_set (take h.own-index os) in
    let few : length h.writes.items ≤ h.own-index = h.invariant.few in
    elim c.match-own.branch [
      | in-Set+in_ok-copy_value-in-Set w ↦
          let put = w.push_reserved.ensures in
          let x : CellId × Value = (ref_cell o.number, w.in_ok-copy_value-in-Set.field-0) in
          let items : c.match-own.writes.items ≡ h.writes.items ++ x ∷ [] = ap (λ (v : Vec (CellId × Value) Global). v.items) w.writes-is ∙ put.items in
          let many : length c.match-own.writes.items ≡ length h.writes.items + 1 = ap length items ∙ length-append h.writes.items (x ∷ []) in
          record {
            few = omega (arith, few, many);
            room = ap (λ (v : Vec (CellId × Value) Global). vec_capacity v) w.writes-is ∙ put.capacity ∙ h.invariant.room;
            built = items ∙ ap (λ (ws : Writes). ws ++ x ∷ []) h.invariant.built
                ∙ ap (λ (v : Value). before ++ (ref_cell o.number, v) ∷ []) w.in_ok-copy_value-in-Set.ensures
                ∙ sym (writes_join was_set os h.own-index o c.loop-own-test.true c.own-item.is (was_set_so o.how w.in-Set.is));
          }
      | in-Commuted w ↦
          let same : c.match-own.writes.items ≡ h.writes.items = ap (λ (v : Vec (CellId × Value) Global). v.items) w.writes-is in
          record {
            few = omega (arith, few, ap length same);
            room = ap (λ (v : Vec (CellId × Value) Global). vec_capacity v) w.writes-is ∙ h.invariant.room;
            built = same ∙ h.invariant.built ∙ sym (writes_stay was_set os h.own-index o c.loop-own-test.true c.own-item.is (ap was_set w.in-Commuted.is));
          }
    ]
