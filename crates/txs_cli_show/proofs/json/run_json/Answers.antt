use Rattle.std.proofs.Common.{◌++◌, length}
use Rattle.txs_cli_json.specs.Json.{run_kinds}
use Rattle.txs_cli_show.proofs.Ending.{both, ended_so}
use Rattle.txs_cli_show.proofs.json.run_json.Goals as goal
use Rattle.txs_cli_show.specs.Json.{audit_kinds}

pub returns : goal.returns
returns g c =
    let a = c.args in
    let run = run_kinds a.run.report.now (length a.run.notes.now) in
    let audit = audit_kinds a.working.options.audit in
    let lines = c.may_audit.new.lines.items in
    ended_so c.ended.result (run ++ audit) a.least c.in_ok-status.status lines
    (both run audit c.new-lines.result.items c.add_run.new.out.items lines c.new-lines.ensures.items c.in_ok-add_run.ensures.ok c.in_ok-status.ensures.line) c.in_ok-status.ensures.status
    c.ended.ensures.output c.ended.ensures.errors c.ended.ensures.status
