use Rattle.std.proofs.Common.{◌≡◌, []}
use Rattle.txs_cli_json.specs.Json.{AreJsonLines, ok_line, refusal_kinds}
use Rattle.txs_cli_report.proofs.Fronts.{ok_three}
use Rattle.txs_cli_report.specs.Lent.{told_of}
use Rattle.txs_cli_report.specs.Told.{IsCompiled}
use Rattle.txs_cli_show.proofs.json.check_json.Goals as goal
use Rattle.txs_cli_show.specs.Json.{CheckShows, of_code, of_refused}
use Rattle.txs_tree_meaning.specs.View.{program_of}

pub returns-in-Ok : goal.returns-in-Ok
returns-in-Ok c =
    let text = c.args.script.text.now in
    let p = program_of c.in-Ok.compiled.0 in
    let code = c.in-Ok.compiled.1 in
    let of = c.in-Ok.ensures in
    let compiled : IsCompiled text p code = record { program = of.program; generated = of.generated; follows = of.code; agents = of.agents; agents_send = of.sends.1; sends = of.sends.0; same = of.cells } in
    ok_three c.ok_json.result (λ t. (told_of t).output ≡ ok_line) (λ t. t.errors.items ≡ []) (λ t. t.status ≡ 0) (λ t. CheckShows text (told_of t))
    (λ t output errors status. of_code p code compiled output errors status) c.ok_json.ensures.output c.ok_json.ensures.errors c.ok_json.ensures.status

-- the script is refused
pub returns-in-Err : goal.returns-in-Err
returns-in-Err c =
    let text = c.args.script.text.now in
    let e = c.in-Err.error in
    let told = c.refusal_json in
    ok_three told.result (λ t. AreJsonLines (refusal_kinds e) (told_of t).output) (λ t. t.errors.items ≡ []) (λ t. t.status ≡ 1) (λ t. CheckShows text (told_of t))
    (λ t output errors status. of_refused e c.in-Err.ensures.refused output errors status) told.ensures.output told.ensures.errors told.ensures.status
