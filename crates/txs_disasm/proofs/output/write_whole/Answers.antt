use Rattle.txs_disasm.proofs.SentLemmas.{Sent-took, took_less}
use Rattle.txs_disasm.proofs.output.write_whole.Goals as goal

pub loop-rest-preserved : goal.loop-rest-preserved
loop-rest-preserved g c =
    Sent-took (g.W.Write.contents c.args.writer.now) (g.W.Write.contents c.loop-rest.writer) (g.W.Write.contents c.write_some.new.writer) c.args.bytes.now c.loop-rest.rest.now c.rest_at-rest.result.now c.in_ok-taken.taken
    c.rest_at-rest.ensures c.loop-rest.invariant c.in_ok-taken.ensures.taken

pub loop-rest-smaller : goal.loop-rest-smaller
loop-rest-smaller g c =
    took_less c.loop-rest.rest.now c.rest_at-rest.result.now c.in_ok-taken.taken c.loop-rest.patience c.write_some.new.patience c.rest_at-rest.ensures c.in_ok-taken.ensures.within c.in_ok-taken.ensures.further
