use Rattle.std.proofs.Common.{◌∙◌, ◌+◌, ◌++◌, ◌∷◌, [], ap, sym, length, length-append, take}
use Rattle.std.proofs.lemmas.List.{take_all}
use Rattle.txs_world_protocol.specs.Ask.{Writes}
use Rattle.txs_value_data.specs.declared.value.CellId.{CellId}
use Rattle.txs_value_data.specs.declared.value.Value.{Value}
use Rattle.txs_frame.proofs.Turns.{one_more}
use Rattle.txs_frame.proofs.phase.copied.Goals as goal

pub loop-write-init : goal.loop-write-init
loop-write-init c = let h = c.in_ok-writes.ensures in record { many = ap length h.items; room = h.exact; same = h.items }

pub loop-write-preserved : goal.loop-write-preserved
loop-write-preserved c =
    let h = c.loop-write in
    let ws : Writes = c.args.all.now in
    let i = h.write-index in
    let w : CellId × Value = c.write-item.result in
    let x : CellId × Value = (w.0, c.in_ok-copy_value.field-0) in
    let put = c.push_reserved.ensures in
    record {
      many = ap length put.items ∙ length-append h.writes.items (x ∷ []) ∙ ap (λ n. n + 1) h.invariant.many;
      room = put.capacity ∙ h.invariant.room;
      same = put.items ∙ ap (λ (zs : Writes). zs ++ x ∷ []) h.invariant.same ∙ ap (λ (v : Value). take i ws ++ (w.0, v) ∷ []) c.in_ok-copy_value.ensures ∙ sym (one_more ws i w c.loop-write-test.true c.write-item.is);
    }

pub returns : goal.returns
returns c =
    let l = c.loop-write in
    l.invariant.same ∙ take_all l.write-index c.args.all.now c.loop-write-test.false
