use Rattle.std.proofs.lemmas.List.{take_all}
use Rattle.std.proofs.Common.{◌∙◌, ◌∷◌, [], ap, length, map, arith}
use Rattle.txs_world_book.specs.declared.cell.StoreCell.{StoreCell}
use Rattle.txs_world_book.proofs.Lists.{map_next, one_more}
use Rattle.txs_audit_book.proofs.values.open_histories.Goals as goal

pub loop-cell-init : goal.loop-cell-init
loop-cell-init c = let h = c.in_ok-histories.ensures in record { many = ap length h.items; room = h.exact; built = h.items }

pub loop-cell-preserved : goal.loop-cell-preserved
loop-cell-preserved c =
    let h = c.loop-cell in
    let v = c.in_ok-history in
    let put = c.push_reserved in
    record {
      many = one_more h.histories.items put.new.self.items v.history h.cell-index h.invariant.many put.ensures.items;
      room = put.ensures.capacity ∙ h.invariant.room;
      built = map_next (λ (s : StoreCell). (0, s.opening) ∷ []) c.args.cells.now h.cell-index c.cell-item.result h.histories.items put.new.self.items v.history c.loop-cell-test.true c.cell-item.is h.invariant.built put.ensures.items v.ensures;
    }

pub push_reserved-requires : goal.push_reserved-requires
push_reserved-requires c = omega (arith, c.loop-cell.histories.ok.0)

pub returns : goal.returns
returns c =
    let out = c.loop-cell-test.false in
    c.loop-cell.invariant.built ∙ ap (map (λ (s : StoreCell). (0, s.opening) ∷ [])) (take_all c.loop-cell.cell-index c.args.cells.now (omega (arith, out)))
