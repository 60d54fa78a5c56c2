use Rattle.std.proofs.Common.{ap}
use Rattle.txs_audit_book.specs.Answered.{finishing}
use Rattle.txs_cli_audit.specs.Audit.{HasNoAnswer}
use Rattle.txs_cli_report.proofs.Fronts.{ok_maps}
use Rattle.txs_cli_report.specs.Lent.{script_of, told_of}
use Rattle.txs_cli_report.specs.Told.{IsCompiled, Told}
use Rattle.txs_code_meaning.specs.PlainCode.{PlainCode}
use Rattle.txs_machine.specs.declared.schedule.Entries.{Entries}
use Rattle.txs_tree_meaning.specs.View.{Parts, program_of}
use Rattle.txs_world_shared.specs.SharedState.{PlainShared}
use Rattle.txs_cli_explore.proofs.explore.explore_script.Goals as goal
use Rattle.txs_cli_explore.specs.Explored.{ExploredTells, IsExplored, OutcomeTells, of_outcomes, of_refused, texts_in}

pub returns-in-Ok : goal.returns-in-Ok
returns-in-Ok g c =
    let parts = c.in-Ok.compiled.0 in
    let code = c.in-Ok.compiled.1 in
    let of = c.in-Ok.ensures in
    let x = c.args.exploring in
    let script = script_of c.args.script in
    let tells : Parts → PlainCode → PlainShared → Entries → Told → Type 0 = OutcomeTells x.audit (λ p r e. HasNoAnswer (goal.A-post g c.args.auditor.now) p r (finishing x.steps) 4 e) script x.steps in
    let compiled : IsCompiled script.text (program_of parts) code = record { program = of.program; generated = of.generated; follows = of.code; agents = of.agents; agents_send = of.sends.1; sends = of.sends.0; same = of.cells } in
    ok_maps c.explore_compiled.result (λ r. IsExplored code x.steps (tells parts code) x.same (texts_in r.1.items) (told_of r.0)) (λ r. ExploredTells script x.steps tells x.same (texts_in r.1.items) (told_of r.0)) (λ r told. of_outcomes parts code compiled told)
    c.explore_compiled.ensures

-- the script is refused
pub returns-in_ok-told-in-Err : goal.returns-in_ok-told-in-Err
returns-in_ok-told-in-Err g c = of_refused c.in_ok-told-in-Err.ensures (ap texts_in c.new.ensures.items)
