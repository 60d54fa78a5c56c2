use Rattle.txs_cli_report.proofs.Fronts.{no_err, no_ok}
use Rattle.txs_cli_report.proofs.explain.write_explained.Goals as goal

pub returns-then-is_err-clause-ok : goal.returns-then-is_err-clause-ok
returns-then-is_err-clause-ok c = no_ok c.append_explained-done.result _ c.if-is_err.ensures.value

pub returns-else-is_err-clause-err : goal.returns-else-is_err-clause-err
returns-else-is_err-clause-err c = no_err c.append_explained-done.result _ c.if-is_err.ensures.value
