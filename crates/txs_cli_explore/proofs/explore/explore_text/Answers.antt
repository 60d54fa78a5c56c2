use Rattle.std.proofs.Common.{ℕ, [], ap, codes, refl}
use Rattle.txs_audit_book.specs.Answered.{finishing}
use Rattle.txs_audit_book.specs.declared.verdict.AuditError.{AuditError}
use Rattle.txs_cli_audit.specs.Audit.{HasNoAnswer}
use Rattle.txs_cli_report.specs.Lent.{script_of, told_of}
use Rattle.txs_tree_meaning.specs.View.{Parts}
use Rattle.txs_world_protocol.specs.declared.report.Report.{Report}
use Rattle.txs_cli_explore.proofs.Ran.{limited_so}
use Rattle.txs_cli_explore.proofs.explore.explore_text.Goals as goal
use Rattle.txs_cli_explore.specs.Explored.{limit_of, of_memory, of_script, texts_in}

pub returns-in-Ok : goal.returns-in-Ok
returns-in-Ok g c =
    let x = c.args.exploring in
    let y = c.limited.result in
    let failed : ℕ → Parts → Report → AuditError → Type 0 = λ n p r e. HasNoAnswer (goal.A-post g c.args.auditor.now) p r (finishing n) 4 e in
    let told = told_of c.in-Ok.told in (
      told,
      of_script (limited_so failed (script_of c.args.script) y.steps (limit_of x.steps) y.audit x.audit y.same x.same (texts_in c.in-Ok.lists.items) told c.limited.ensures.steps c.limited.ensures.audit c.limited.ensures.same c.in-Ok.ensures),
      c.write_answer.ensures,
    )

pub returns-in-Err : goal.returns-in-Err
returns-in-Err g c = (record { output = []; errors = codes "out of memory\n"; status = 4 }, of_memory (record { output = refl; errors = refl; status = refl }) (ap texts_in c.new.ensures.items), c.write_answer-in-Err.ensures)
