use Rattle.std.proofs.Common.{◌++◌, drop}
use Rattle.txs_disasm.specs.Listing.{cell_line, numbered}
use Rattle.txs_disasm.specs.Sent.{Sent}
use Rattle.txs_disasm.proofs.disasm.list_cells.Given as goal

abbrev pub invariant-loop-i : goal.invariant-loop-i
invariant-loop-i g l =
    Sent (g.W.Write.contents l.fn.writer) (g.W.Write.contents l.writer) (l.fn.page.bytes.items ++ numbered cell_line 0 l.cells) (l.page.bytes.items ++ numbered cell_line l.i (drop l.i l.cells))
