use Rattle.std.proofs.Common.{◌≤◌, ◌∙◌, ap, arith, length, List}
use Rattle.txs_world_book.specs.Book.{agents_below}
use Rattle.txs_world_book.specs.declared.cell.StoreCell.{StoreCell}
use Rattle.txs_world_book.proofs.Counting.{agents_past}
use Rattle.txs_world_book.proofs.cell.Cells.agents_below.Goals as goal

pub returns-else-number-len : goal.returns-else-number-len
returns-else-number-len c =
    let x = c.self.inside in
    let many = c.self.invariant.many in
    let past : length x.all.items ≤ c.args.number = omega (arith, c.if-number-len.false, c.len.ensures, c.from-number.ensures, many) in
    c.self.invariant.all ∙ agents_past x.all.items c.args.number past ∙ ap (λ (l : List StoreCell). agents_below l c.args.number) c.self.view_is
