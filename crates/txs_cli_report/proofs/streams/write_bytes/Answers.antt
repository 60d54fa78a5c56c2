use Rattle.txs_cli_report.proofs.Begun.{begun_kept}
use Rattle.std.proofs.KnownBytes.{Appends-kept}
use Rattle.txs_cli_report.proofs.streams.write_bytes.Goals as goal

pub returns-in-Err-clause-begun : goal.returns-in-Err-clause-begun
returns-in-Err-clause-begun g c =
    let old = g.W.Write.contents c.args.writer.now in
    let written = g.W.Write.contents c.write_piece.new.writer in
    let new = g.W.Write.contents c.flush.new.self in
    begun_kept old written new c.args.bytes.now c.in_ok-write_piece.ensures.whole c.flush.ensures.bytes

pub returns-in-Ok-clause-whole : goal.returns-in-Ok-clause-whole
returns-in-Ok-clause-whole g c =
    let old = g.W.Write.contents c.args.writer.now in
    let written = g.W.Write.contents c.write_piece.new.writer in
    let new = g.W.Write.contents c.flush.new.self in
    Appends-kept old written new c.args.bytes.now c.in_ok-write_piece.ensures.whole c.flush.ensures.bytes
