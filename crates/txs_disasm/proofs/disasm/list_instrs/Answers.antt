use Rattle.std.proofs.Common.{◌++◌, ◌<◌, ◌≤◌, ◌+◌, length, drop, rules, arith}
use Rattle.std.specs.Prelude.{slice_index_or}
use Rattle.txs_value_data.specs.declared.fault.Span.{Span}
use Rattle.txs_code_meaning.specs.declared.instr.Instr.TheVariants.{Const}
use Rattle.txs_disasm.specs.Listing.{instr_line, instr_lines}
use Rattle.txs_disasm.proofs.LineLemmas.{instr_lines-at, IsCut-line, Sent-line, Sent-instrs_end}
use Rattle.txs_disasm.proofs.SentLemmas.{on_err, Sent-none}
use Rattle.txs_disasm.proofs.disasm.list_instrs.Goals as goal

pub returns-in_err-send_line-clause-cut : goal.returns-in_err-send_line-clause-cut
returns-in_err-send_line-clause-cut g c =
    let is = c.args.instrs.now in
    let ss = c.args.spans.now in
    let i = c.loop-i.i in
    let no_span : Span = record { from = 0; to = 0 } in
    let x = slice_index_or is i (Const 0) in
    let y = slice_index_or ss i no_span in
    let lt : i < length is = search rules in
    let split = instr_lines-at is ss i (Const 0) no_span lt c.requires in
    let some : 0 < length (instr_line i x y) = omega arith in
    on_err _ (IsCut-line (g.W.Write.contents c.args.writer.now) (g.W.Write.contents c.loop-i.writer) (c.args.page.now.bytes.items ++ instr_lines 0 is ss) c.loop-i.page.bytes.items (instr_lines i (drop i is) (drop i ss)) (instr_line i x y) (instr_lines (i + 1) (drop (i + 1) is) (drop (i + 1) ss)) split c.loop-i.invariant (g.W.Write.contents c.send_line.new.writer) c.put_instr-put.new.out.items c.put_instr-put.result some c.put_instr-put.ensures c.in_err-send_line.ensures.cut c.send_line.ensures.kept)

pub loop-i-preserved : goal.loop-i-preserved
loop-i-preserved g c =
    let is = c.args.instrs.now in
    let ss = c.args.spans.now in
    let i = c.loop-i.i in
    let no_span : Span = record { from = 0; to = 0 } in
    let x = slice_index_or is i (Const 0) in
    let y = slice_index_or ss i no_span in
    let lt : i < length is = search rules in
    let split = instr_lines-at is ss i (Const 0) no_span lt c.requires in
    Sent-line (g.W.Write.contents c.args.writer.now) (g.W.Write.contents c.loop-i.writer) (c.args.page.now.bytes.items ++ instr_lines 0 is ss) c.loop-i.page.bytes.items (instr_lines i (drop i is) (drop i ss)) (instr_line i x y) (instr_lines (i + 1) (drop (i + 1) is) (drop (i + 1) ss)) split c.loop-i.invariant (g.W.Write.contents c.send_line.new.writer) c.put_instr-put.new.out.items c.put_instr-put.result c.send_line.new.self.bytes.items c.in_ok-send_line.ensures.put c.put_instr-put.ensures c.in_ok-send_line.ensures.sent

pub loop-i-init : goal.loop-i-init
loop-i-init g c = Sent-none _ _

pub returns-clause-sent : goal.returns-clause-sent
returns-clause-sent g c =
    let is = c.args.instrs.now in
    let ss = c.args.spans.now in
    let i = c.loop-i.i in
    let past : length is ≤ i = omega arith in
    Sent-instrs_end is ss i (g.W.Write.contents c.args.writer.now) (g.W.Write.contents c.loop-i.writer) (c.args.page.now.bytes.items ++ instr_lines 0 is ss) c.loop-i.page.bytes.items past c.loop-i.invariant
