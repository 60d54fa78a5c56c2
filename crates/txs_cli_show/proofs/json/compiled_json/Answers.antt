use Rattle.std.proofs.Common.{◌++◌, List, length, subst}
use Rattle.std.specs.Option.{IfSome}
use Rattle.std.specs.Prelude.{IfOk}
use Rattle.txs_cli_events.specs.declared.seen.Noted.{Noted}
use Rattle.txs_cli_json.specs.Json.{run_kinds}
use Rattle.txs_cli_report.proofs.Fronts.{ok_maps}
use Rattle.txs_cli_report.specs.Lent.{told_of}
use Rattle.txs_tree_meaning.specs.View.{program_of}
use Rattle.txs_world_protocol.specs.declared.report.Report.{Report}
use Rattle.txs_cli_show.proofs.json.compiled_json.Goals as goal
use Rattle.txs_cli_show.specs.Json.{EndsInStatus, JsonTells, audit_kinds, of_run}
use Rattle.txs_cli_show.specs.Shown.{IsListed}

pub returns : goal.returns
returns g c =
    let a = c.args in
    let code = a.compiled.now.1 in
    let o = a.working.options in
    let run = c.in-Some.run' in
    let listed : IsListed code a.list.now o.steps run.report run.notes.items = subst (λ s. IfSome s (λ r. IsListed code a.list.now o.steps r.report r.notes.items)) c.in-Some.is c.in_ok-run.ensures in
    let tells : Report → List Noted → Type 0 = λ r ns. IfOk c.run_json.result (λ t. EndsInStatus (run_kinds r (length ns) ++ audit_kinds o.audit) a.least (told_of t)) in
    let at_report : tells run.report c.of.result.notes.now = subst (λ r. tells r c.of.result.notes.now) c.of.ensures.report c.run_json.ensures in
    ok_maps c.run_json.result (λ t. EndsInStatus (run_kinds run.report (length run.notes.items) ++ audit_kinds o.audit) a.least (told_of t)) (λ t. JsonTells a.script.text.now a.list.now o a.least (told_of t))
    (λ t told. of_run (program_of a.compiled.now.0) code run.report run.notes.items c.requires.compiled listed told) (subst (tells run.report) c.of.ensures.notes at_report)
