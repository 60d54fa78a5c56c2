use Rattle.std.proofs.Common.{◌≡◌, Bool, false, true, refl, subst, sym}
use Rattle.std.specs.Prelude.{OnOk}
use Rattle.txs_audit_book.specs.Answered.{audit_turns, finishing, terms_as}
use Rattle.txs_audit_book.specs.declared.verdict.Terms.{Terms}
use Rattle.txs_cli_audit.specs.Audit.{HasNoAnswer}
use Rattle.txs_cli_report.specs.Lent.{lines_of, script_of}
use Rattle.txs_theorem_audit.specs.Audited.{report_as}
use Rattle.txs_theorem_audit.specs.Verdict.{verdict}
use Rattle.txs_tree_meaning.specs.View.{program_of}
use Rattle.txs_cli_show.proofs.lines.may_audit.Goals as goal
use Rattle.txs_cli_show.specs.Shown.{MayAudit}

pub returns-then-working : goal.returns-then-working
returns-then-working g c =
    let a = c.args in
    let done = finishing a.working.options.steps in
    let program = a.audited.program.now in
    let report = a.audited.report.now in
    let tells : Bool → Terms → Type 0 = λ b t. OnOk c.add_audit.result
    (MayAudit b (HasNoAnswer (goal.A-post g a.auditor.now) program report t a.working.workers) (script_of a.script) (verdict (program_of program) (terms_as t) (report_as report) (audit_turns t.steps))
    (lines_of a.told.now) (lines_of c.add_audit.new.told)) in
    let at_terms : tells true done = subst (tells true) c.terms_of-terms.ensures c.add_audit.ensures.told in
    subst (λ (b : Bool). tells b done) (sym c.if-working.true) at_terms

pub returns : goal.returns
returns g c =
    let a = c.args in
    let program = a.audited.program.now in
    let report = a.audited.report.now in
    let before = lines_of a.told.now in
    let tells : Bool → Type 0 = λ b. MayAudit b (HasNoAnswer (goal.A-post g a.auditor.now) program report (finishing a.working.options.steps) a.working.workers) (script_of a.script)
    (verdict (program_of program) (terms_as (finishing a.working.options.steps)) (report_as report) (audit_turns a.working.options.steps)) before before in
    subst tells (sym c.if-working.false) refl
