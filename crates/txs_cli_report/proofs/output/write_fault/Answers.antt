use Rattle.std.proofs.Common.{codes}
use Rattle.std.proofs.KnownBytes.{Appends-trans}
use Rattle.txs_cli_report.proofs.Begun.{begun_longer, begun_more}
use Rattle.txs_disasm.proofs.SentLemmas.{err_maps, ok_maps, on_err}
use Rattle.txs_cli_report.proofs.output.write_fault.Goals as goal

pub returns-in_err-write_bytes-clause-begun : goal.returns-in_err-write_bytes-clause-begun
returns-in_err-write_bytes-clause-begun g c =
    on_err _ (begun_longer (g.F.Write.contents c.args.faults.now) (g.F.Write.contents c.write_bytes.new.writer) c.args.errors.now (codes "write failed\n") c.in_err-write_bytes.ensures.begun)

pub returns-clause-whole : goal.returns-clause-whole
returns-clause-whole g c =
    let old = g.F.Write.contents c.args.faults.now in
    let written = g.F.Write.contents c.write_bytes.new.writer in
    let new = g.F.Write.contents c.write_bytes-2.new.writer in
    ok_maps c.write_bytes-2.result (Appends-trans old written new c.args.errors.now (codes "write failed\n") c.in_ok-write_bytes.ensures.whole) c.write_bytes-2.ensures.whole

pub returns-clause-begun : goal.returns-clause-begun
returns-clause-begun g c =
    let old = g.F.Write.contents c.args.faults.now in
    let written = g.F.Write.contents c.write_bytes.new.writer in
    let new = g.F.Write.contents c.write_bytes-2.new.writer in
    err_maps c.write_bytes-2.result (begun_more old written new c.args.errors.now (codes "write failed\n") c.in_ok-write_bytes.ensures.whole) c.write_bytes-2.ensures.begun
