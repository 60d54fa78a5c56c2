use Rattle.std.proofs.Common.{rules}
use Rattle.txs_disasm.specs.Sent.{IsCut}
use Rattle.txs_cli_report.proofs.streams.write_piece.Goals as goal

pub returns-in-Err-clause-begun : goal.returns-in-Err-clause-begun
returns-in-Err-clause-begun g c =
    let old = g.W.Write.contents c.args.writer.now in
    let new = g.W.Write.contents c.write_all.new.writer in
    let cut : IsCut old new c.args.bytes.now = search rules in
    record { left = cut.left; sent = cut.sent }
