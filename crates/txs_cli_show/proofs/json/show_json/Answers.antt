use Rattle.txs_cli_json.specs.Json.{refusal_kinds}
use Rattle.txs_cli_report.proofs.Fronts.{ok_maps}
use Rattle.txs_cli_report.specs.Lent.{told_of}
use Rattle.txs_cli_show.proofs.json.show_json.Goals as goal
use Rattle.txs_cli_show.specs.Json.{EndsInStatus, JsonTells, of_refused}

-- the script is refused
pub returns-in-Err : goal.returns-in-Err
returns-in-Err g c =
    let a = c.args in
    let e = c.in-Err.error in
    ok_maps c.refused_json.result (λ t. EndsInStatus (refusal_kinds e) a.least (told_of t)) (λ t. JsonTells a.script.text.now a.list.now a.working.options a.least (told_of t))
    (λ t told. of_refused e c.in-Err.ensures.refused told) c.refused_json.ensures
