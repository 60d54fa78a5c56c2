use Rattle.std.proofs.Common.{ap, ◌∙◌, sym, List}
use Rattle.txs_world.specs.Store.{PlainStore}
use Rattle.txs_world_book.specs.Book.{are_refs, cells_in}
use Rattle.txs_world_book.specs.declared.cell.StoreCell.{StoreCell}
use Rattle.txs_world.proofs.Zipping.{ascend_refs}
use Rattle.txs_world.proofs.store.Store.has_commit.Goals as goal

pub are_apart-requires-clause-commuted : goal.are_apart-requires-clause-commuted
are_apart-requires-clause-commuted c =
    let ws = c.as_slice-commuted.result.now in
    let same = c.as_slice-cells.ensures ∙ ap (λ (s : PlainStore). s.cells) c.self.view_is in
    ascend_refs c.args.self.now.cells 0 ws (ap (λ (cs : List StoreCell). are_refs cs 0 (cells_in ws)) (sym same) ∙ sym c.are_written-2.ensures ∙ c.if-not-are_written-2.false)

pub are_apart-requires-clause-sets : goal.are_apart-requires-clause-sets
are_apart-requires-clause-sets c =
    let ws = c.as_slice-sets.result.now in
    let same = c.as_slice-cells.ensures ∙ ap (λ (s : PlainStore). s.cells) c.self.view_is in
    ascend_refs c.args.self.now.cells 0 ws (ap (λ (cs : List StoreCell). are_refs cs 0 (cells_in ws)) (sym same) ∙ sym c.are_written.ensures ∙ c.if-not-are_written.false)
