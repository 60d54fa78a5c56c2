use Rattle.txs_world.proofs.Merging.{next_there}
use Rattle.std.proofs.lemmas.List.{take_all}
use Rattle.std.proofs.Common.{◌≤◌, length, subst, sym, arith, ◌∙◌, ap, map}
use Rattle.txs_value_data.specs.declared.value.CellId.{CellId}
use Rattle.txs_world_book.specs.Book.{newest, opening}
use Rattle.txs_world_book.proofs.Lists.{map_more, one_more, refs_later}
use Rattle.txs_world.proofs.store.Store.share_all.Goals as goal

pub loop-cell-preserved : goal.loop-cell-preserved
loop-cell-preserved c =
    let s = c.args.self.now in
    let h = c.loop-cell in
    let v = c.in_ok-value in
    let put = c.push_reserved in
    record {
      refs = refs_later s.cells c.args.cells.now h.cell-index h.invariant.refs;
      many = one_more h.values.items put.new.self.items v.value h.cell-index h.invariant.many put.ensures.items;
      room = subst (λ n. length c.args.cells.now ≤ n) (sym put.ensures.capacity) h.invariant.room;
      values = map_more (λ (d : CellId). newest (opening s.cells) s.book d.number) c.args.cells.now h.cell-index _ h.values.items put.new.self.items v.value c.loop-cell-test.true h.invariant.values put.ensures.items v.ensures;
    }

pub loop-cell-init : goal.loop-cell-init
loop-cell-init c =
    let empty = c.reserve.ensures.items ∙ c.requires.empty in
    record { refs = c.requires.refs; many = ap length empty; room = omega (arith, c.in_ok-reserve.ensures.ok); values = empty }

pub share_newest-requires : goal.share_newest-requires
share_newest-requires c = next_there c.args.self.now.cells c.args.cells.now c.loop-cell.cell-index _ c.loop-cell-test.true c.loop-cell.invariant.refs

pub push_reserved-requires : goal.push_reserved-requires
push_reserved-requires c = omega (arith, c.loop-cell.values.ok.0)

pub returns : goal.returns
returns c =
    let s = c.args.self.now in
    let out = c.loop-cell-test.false in
    c.loop-cell.invariant.values ∙ ap (map (λ (d : CellId). newest (opening s.cells) s.book d.number)) (take_all c.loop-cell.cell-index c.args.cells.now (omega (arith, out)))
