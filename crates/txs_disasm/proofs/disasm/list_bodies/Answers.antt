use Rattle.std.proofs.Common.{◌++◌, ◌<◌, ◌≤◌, ◌+◌, ◌∙◌, length, drop, append_assoc, rules}
use Rattle.txs_disasm.specs.Listing.{body_line, body_lines, instr_lines, numbered}
use Rattle.txs_disasm.proofs.LineLemmas.{body_line-some, numbered-at, IsCut-body, IsCut-here, Sent-body, Sent-end}
use Rattle.txs_disasm.proofs.SentLemmas.{on_err, Sent-none}
use Rattle.txs_disasm.proofs.disasm.list_bodies.Goals as goal

pub returns-in_err-put_body-clause-cut : goal.returns-in_err-put_body-clause-cut
returns-in_err-put_body-clause-cut g c =
    let xs = c.args.bodies.now in
    let kind = c.args.kind in
    let lines = body_lines kind in
    let i = c.loop-i.i in
    let body = c.index-bodies-i.result in
    let line = body_line kind i body in
    let instrs = instr_lines 0 body.instrs body.spans in
    let more = numbered lines (i + 1) (drop (i + 1) xs) in
    let lt : i < length xs = search rules in
    let split = numbered-at lines xs i body lt c.index-bodies-i.is ∙ append_assoc line instrs more in
    on_err _ (IsCut-here (g.W.Write.contents c.args.writer.now) (g.W.Write.contents c.loop-i.writer) (c.args.page.now.bytes.items ++ numbered lines 0 xs) c.loop-i.page.bytes.items (numbered lines i (drop i xs)) line (instrs ++ more) split c.loop-i.invariant (body_line-some kind i body))

pub returns-in_err-list_instrs-clause-cut : goal.returns-in_err-list_instrs-clause-cut
returns-in_err-list_instrs-clause-cut g c =
    let xs = c.args.bodies.now in
    let kind = c.args.kind in
    let lines = body_lines kind in
    let i = c.loop-i.i in
    let body = c.index-bodies-i.result in
    let lt : i < length xs = search rules in
    let split = numbered-at lines xs i body lt c.index-bodies-i.is in
    let cut = rw (c.instrs.ensures, c.spans.ensures.value) at c.in_err-list_instrs.ensures.cut in
    on_err _ (IsCut-body (g.W.Write.contents c.args.writer.now) (g.W.Write.contents c.loop-i.writer) (c.args.page.now.bytes.items ++ numbered lines 0 xs) c.loop-i.page.bytes.items (numbered lines i (drop i xs)) (body_line kind i body) (instr_lines 0 body.instrs body.spans) (numbered lines (i + 1) (drop (i + 1) xs)) split c.loop-i.invariant (g.W.Write.contents c.list_instrs.new.writer) c.put_body.new.out.items c.in_ok-put_body.ensures cut)

pub loop-i-preserved : goal.loop-i-preserved
loop-i-preserved g c =
    let xs = c.args.bodies.now in
    let kind = c.args.kind in
    let lines = body_lines kind in
    let i = c.loop-i.i in
    let body = c.index-bodies-i.result in
    let lt : i < length xs = search rules in
    let split = numbered-at lines xs i body lt c.index-bodies-i.is in
    let sent = rw (c.instrs.ensures, c.spans.ensures.value) at c.in_ok-list_instrs.ensures.sent in
    Sent-body (g.W.Write.contents c.args.writer.now) (g.W.Write.contents c.loop-i.writer) (c.args.page.now.bytes.items ++ numbered lines 0 xs) c.loop-i.page.bytes.items (numbered lines i (drop i xs)) (body_line kind i body) (instr_lines 0 body.instrs body.spans) (numbered lines (i + 1) (drop (i + 1) xs)) split c.loop-i.invariant (g.W.Write.contents c.list_instrs.new.writer) c.put_body.new.out.items c.in_ok-put_body.ensures c.list_instrs.new.page.bytes.items sent

pub loop-i-init : goal.loop-i-init
loop-i-init g c = Sent-none _ _

pub returns-clause-sent : goal.returns-clause-sent
returns-clause-sent g c =
    let xs = c.args.bodies.now in
    let lines = body_lines c.args.kind in
    let i = c.loop-i.i in
    let past : length xs ≤ i = search rules in
    Sent-end lines xs i (g.W.Write.contents c.args.writer.now) (g.W.Write.contents c.loop-i.writer) (c.args.page.now.bytes.items ++ numbered lines 0 xs) c.loop-i.page.bytes.items past c.loop-i.invariant
