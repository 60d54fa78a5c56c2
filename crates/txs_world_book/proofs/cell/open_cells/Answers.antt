use Rattle.std.proofs.Common.{◌∙◌, Bool, ap, length}
use Rattle.std.proofs.lemmas.List.{take_all}
use Rattle.txs_value_data.specs.declared.value.CellKind.{CellKind}
use Rattle.txs_value_data.specs.declared.value.Value.{Value}
use Rattle.txs_world_book.specs.Served.{cell_of, cells_of}
use Rattle.txs_world_book.specs.declared.cell.StoreCell.{StoreCell}
use Rattle.txs_world_book.proofs.Lists.{map_next, one_more}
use Rattle.txs_world_book.proofs.cell.open_cells.Goals as goal

abbrev cell : CellKind → Value → Bool → StoreCell
cell k v g = record { kind = k; opening = v; goes_on = g }

pub loop-definition-init : goal.loop-definition-init
loop-definition-init c = let h = c.in_ok-cells.ensures in record { many = ap length h.items; room = h.exact; built = h.items }

pub loop-definition-preserved : goal.loop-definition-preserved
loop-definition-preserved c =
    let h = c.loop-definition in
    let d = c.definition-item.result in
    let v = c.in_ok-opening in
    let put = c.push_reserved in
    let s = cell d.kind v.opening c.continues.result in
    record {
      many = one_more h.cells.items put.new.self.items s h.definition-index h.invariant.many put.ensures.items;
      room = put.ensures.capacity ∙ h.invariant.room;
      built = map_next cell_of c.args.definitions.now h.definition-index d h.cells.items put.new.self.items s c.loop-definition-test.true c.definition-item.is h.invariant.built put.ensures.items (ap (λ o. cell d.kind o c.continues.result) v.ensures ∙ ap (cell d.kind d.opening) c.continues.ensures);
    }

pub returns : goal.returns
returns c =
    let h = c.loop-definition in
    h.invariant.built ∙ ap cells_of (take_all h.definition-index c.args.definitions.now c.loop-definition-test.false)
