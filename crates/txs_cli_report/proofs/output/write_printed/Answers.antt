use Rattle.std.proofs.Common.{◌≡◌, ◌<◌, ◌≤◌, length, get_or, rules}
use Rattle.txs_disasm.proofs.SentLemmas.{Sent-none, on_err}
use Rattle.txs_cli_report.proofs.Printing.{printed_all, printed_begun, printed_next}
use Rattle.txs_cli_report.proofs.output.write_printed.Goals as goal

pub loop-actor-init : goal.loop-actor-init
loop-actor-init g c = Sent-none _ _

pub loop-actor-preserved : goal.loop-actor-preserved
loop-actor-preserved g c =
    let rs = c.args.actors.now in
    let k = c.loop-actor.actor-index in
    let r = c.actor-item.result in
    let within : k < length rs = search rules in
    let read : r ≡ get_or rs k r = search rules in
    printed_next (g.W.Write.contents c.args.writer.now) (g.W.Write.contents c.loop-actor.writer) (g.W.Write.contents c.write_piece.new.writer) rs k r c.as_slice.result.now within read c.as_slice.ensures.value c.loop-actor.invariant c.in_ok-write_piece.ensures.whole

pub returns-in_err-write_piece-clause-begun : goal.returns-in_err-write_piece-clause-begun
returns-in_err-write_piece-clause-begun g c =
    let rs = c.args.actors.now in
    let k = c.loop-actor.actor-index in
    let r = c.actor-item.result in
    let within : k < length rs = search rules in
    let read : r ≡ get_or rs k r = search rules in
    on_err _ (printed_begun (g.W.Write.contents c.args.writer.now) (g.W.Write.contents c.loop-actor.writer) (g.W.Write.contents c.write_piece.new.writer) rs k r c.as_slice.result.now within read c.as_slice.ensures.value c.loop-actor.invariant c.in_err-write_piece.ensures.begun)

pub returns-clause-whole : goal.returns-clause-whole
returns-clause-whole g c =
    let rs = c.args.actors.now in
    let k = c.loop-actor.actor-index in
    let past : length rs ≤ k = search rules in
    printed_all (g.W.Write.contents c.args.writer.now) (g.W.Write.contents c.loop-actor.writer) rs k past c.loop-actor.invariant
