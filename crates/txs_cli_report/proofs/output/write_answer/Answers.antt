use Rattle.std.proofs.Common.{◌++◌, List, sym, subst, subst₂}
use Rattle.txs_cli_report.specs.Lent.{answer_of}
use Rattle.txs_cli_report.specs.Lines.{all_printed}
use Rattle.txs_cli_report.specs.Told.{Told, Written}
use Rattle.txs_world_protocol.specs.declared.report.ActorReport.{ActorReport}
use Rattle.txs_cli_report.proofs.output.write_answer.Goals as goal

pub returns-in-Ok : goal.returns-in-Ok
returns-in-Ok g c =
    let writes : Told → Type 0 = λ t. Written (g.W.Write.contents c.args.writer.now) (g.W.Write.contents c.write_whole.new.writer) (g.F.Write.contents c.args.faults.now) (g.F.Write.contents c.write_whole.new.faults) t c.write_whole.result in
    let told = c.in-Ok.told in
    let actors = subst₂ (λ (rs ss : List ActorReport). writes (record { output = all_printed (rs ++ ss) ++ c.as_slice-in-Ok-2.result.now; errors = c.as_slice-in-Ok-3.result.now; status = told.status })) c.as_slice.ensures.value c.as_slice-in-Ok.ensures.value c.write_whole.ensures in
    let written = subst₂ (λ o e. writes (record { output = all_printed (told.threads.items ++ told.agents.items) ++ o; errors = e; status = told.status })) c.as_slice-in-Ok-2.ensures.value c.as_slice-in-Ok-3.ensures.value actors in
    subst (λ r. writes (answer_of r)) (sym c.in-Ok.is) written

pub returns-in-Err : goal.returns-in-Err
returns-in-Err g c =
    let writes : Told → Type 0 = λ t. Written (g.W.Write.contents c.args.writer.now) (g.W.Write.contents c.write_told.new.writer) (g.F.Write.contents c.args.faults.now) (g.F.Write.contents c.write_told.new.faults) t c.write_told.result in
    subst (λ r. writes (answer_of r)) (sym c.in-Err.is) c.write_told.ensures
