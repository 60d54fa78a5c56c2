use Rattle.std.proofs.Common.{◌++◌, ◌<◌, ◌≤◌, ◌+◌, length, drop, rules, arith}
use Rattle.txs_disasm.specs.Listing.{cell_line, numbered}
use Rattle.txs_disasm.proofs.LineLemmas.{numbered-at, IsCut-line, Sent-line, Sent-end}
use Rattle.txs_disasm.proofs.SentLemmas.{on_err, Sent-none}
use Rattle.txs_disasm.proofs.disasm.list_cells.Goals as goal

pub returns-in_err-send_line-clause-cut : goal.returns-in_err-send_line-clause-cut
returns-in_err-send_line-clause-cut g c =
    let xs = c.args.cells.now in
    let i = c.loop-i.i in
    let lt : i < length xs = search rules in
    let split = numbered-at cell_line xs i c.index-cells-i.result lt c.index-cells-i.is in
    let some : 0 < length (cell_line i c.index-cells-i.result) = omega arith in
    on_err _ (IsCut-line (g.W.Write.contents c.args.writer.now) (g.W.Write.contents c.loop-i.writer) (c.args.page.now.bytes.items ++ numbered cell_line 0 xs) c.loop-i.page.bytes.items (numbered cell_line i (drop i xs)) (cell_line i c.index-cells-i.result) (numbered cell_line (i + 1) (drop (i + 1) xs)) split c.loop-i.invariant (g.W.Write.contents c.send_line.new.writer) c.put_cell-put.new.out.items c.put_cell-put.result some c.put_cell-put.ensures c.in_err-send_line.ensures.cut c.send_line.ensures.kept)

pub loop-i-preserved : goal.loop-i-preserved
loop-i-preserved g c =
    let xs = c.args.cells.now in
    let i = c.loop-i.i in
    let lt : i < length xs = search rules in
    let split = numbered-at cell_line xs i c.index-cells-i.result lt c.index-cells-i.is in
    Sent-line (g.W.Write.contents c.args.writer.now) (g.W.Write.contents c.loop-i.writer) (c.args.page.now.bytes.items ++ numbered cell_line 0 xs) c.loop-i.page.bytes.items (numbered cell_line i (drop i xs)) (cell_line i c.index-cells-i.result) (numbered cell_line (i + 1) (drop (i + 1) xs)) split c.loop-i.invariant (g.W.Write.contents c.send_line.new.writer) c.put_cell-put.new.out.items c.put_cell-put.result c.send_line.new.self.bytes.items c.in_ok-send_line.ensures.put c.put_cell-put.ensures c.in_ok-send_line.ensures.sent

pub loop-i-init : goal.loop-i-init
loop-i-init g c = Sent-none _ _

pub returns-clause-sent : goal.returns-clause-sent
returns-clause-sent g c =
    let xs = c.args.cells.now in
    let i = c.loop-i.i in
    let past : length xs ≤ i = search rules in
    Sent-end cell_line xs i (g.W.Write.contents c.args.writer.now) (g.W.Write.contents c.loop-i.writer) (c.args.page.now.bytes.items ++ numbered cell_line 0 xs) c.loop-i.page.bytes.items past c.loop-i.invariant
