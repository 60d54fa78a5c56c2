use Rattle.std.proofs.Common.{refl}
use Rattle.txs_cli_report.specs.Told.{whole, output_cut, errors_cut, both_cut}
use Rattle.txs_cli_report.proofs.Fronts.{err_then, ok_then}
use Rattle.txs_disasm.proofs.SentLemmas.{err_maps, ok_maps}
use Rattle.txs_cli_report.proofs.output.write_streams.Goals as goal

pub returns-then-is_err-clause-whole : goal.returns-then-is_err-clause-whole
returns-then-is_err-clause-whole g c =
    ok_maps c.write_fault-told.result (λ e. output_cut (err_then c.write_output.result _ c.if-is_err.ensures.value c.write_output.ensures.begun) e c.max.ensures) c.write_fault-told.ensures.whole

pub returns-then-is_err-clause-cut : goal.returns-then-is_err-clause-cut
returns-then-is_err-clause-cut g c =
    err_maps c.write_fault-told.result (λ e. both_cut (err_then c.write_output.result _ c.if-is_err.ensures.value c.write_output.ensures.begun) e c.max.ensures) c.write_fault-told.ensures.begun

pub returns-in-Ok-clause-whole : goal.returns-in-Ok-clause-whole
returns-in-Ok-clause-whole g c = whole (ok_then c.write_output.result _ c.if-is_err.ensures.value c.write_output.ensures.whole) c.in-Ok.ensures.whole refl

pub returns-in-Err-clause-cut : goal.returns-in-Err-clause-cut
returns-in-Err-clause-cut g c = errors_cut (ok_then c.write_output.result _ c.if-is_err.ensures.value c.write_output.ensures.whole) c.in-Err.ensures.begun c.max-in-Err.ensures
