use Rattle.std.proofs.Common.{◌≡◌, ◌∙◌, Result, Ok, Err, IfErr, ap, false, subst, sym}
use Rattle.txs_tree_meaning.specs.View.{program_of}
use Rattle.txs_theorem_audit.specs.Audited.{Fine, and_then, answer, report_as}
use Rattle.txs_theorem_audit.specs.Pieces.{pieces_finding, pieces_of, pieces_serial}
use Rattle.txs_theorem_audit.specs.Verdict.{ends_found, order_found, verdict}
use Rattle.txs_theorem_audit.proofs.Findings.{and_fine}
use Rattle.txs_audit_book.specs.Judged.{as_found}
use Rattle.txs_audit_evidence.specs.Evidence.{Opened, PlainBooks}
use Rattle.txs_audit_book.specs.Answered.{as_verdict, terms_as}
use Rattle.txs_audit_book.specs.declared.verdict.AuditError.TheVariants.{NoThread}
use Rattle.txs_audit.proofs.Answering.{by_actors, by_books}
use Rattle.txs_audit.proofs.Parting.{if_done}
use Rattle.txs_audit.proofs.auditing.audit_books.Goals as goal
use Rattle.txs_audit.specs.Started.{NeedsWorkers, actors_found}

pub returns-in-Ok-Ok-clause-verdict : goal.returns-in-Ok-Ok-clause-verdict
returns-in-Ok-Ok-clause-verdict g c =
    let p = program_of c.args.program.now in
    let w = terms_as c.args.terms in
    let r = report_as c.args.report.now in
    let n = c.args.turns in
    let b = c.in-Ok-Ok.books in
    let opened = subst (Opened c.args.program.now c.args.report.now) c.in-Ok-Ok.field-0-is c.in-Ok-Ok.ensures in
    if_done c.audit_opened.result
    (λ v. as_verdict v ≡ answer (and_then (actors_found (program_of b.program) w b.report) (pieces_finding (program_of b.program) b.report n (pieces_of b.report))) (pieces_serial (program_of b.program) b.report n (pieces_of b.report)))
    (λ v. as_verdict v ≡ verdict p w r n)
    (λ v h. h
    ∙ ap (λ (x : PlainBooks). answer (and_then (actors_found (program_of x.program) w x.report) (pieces_finding (program_of x.program) x.report n (pieces_of x.report))) (pieces_serial (program_of x.program) x.report n (pieces_of x.report))) opened.0
    ∙ by_actors p w r n c.requires.sizes c.requires.traces opened.1 opened.2 c.pieces_are_all.ensures) c.audit_opened.ensures.verdict

pub returns-in-Ok-Err-clause-verdict : goal.returns-in-Ok-Err-clause-verdict
returns-in-Ok-Err-clause-verdict g c =
    let opened = subst (Opened c.args.program.now c.args.report.now) c.in-Ok-Err.field-0-is c.in-Ok-Err.ensures in
    c.verdict_of.ensures ∙ by_books (program_of c.args.program.now) (terms_as c.args.terms) (report_as c.args.report.now) c.args.turns c.requires.sizes c.requires.traces (as_found c.in-Ok-Err.finding) opened.0 opened.1 false

-- what an error says of one thing it says of another
if_failed : {A E : Type 0} (r : Result A E) (P Q : E → Type 0) → ((e : E) → P e → Q e) → IfErr r P → IfErr r Q
if_failed (Ok x) P Q h t = tt
if_failed (Err e) P Q h t = h e t

pub returns-in-Ok-Ok-clause-started : goal.returns-in-Ok-Ok-clause-started
returns-in-Ok-Ok-clause-started g c =
    let p = program_of c.args.program.now in
    let w = terms_as c.args.terms in
    let r = report_as c.args.report.now in
    let b = c.in-Ok-Ok.books in
    let opened = subst (Opened c.args.program.now c.args.report.now) c.in-Ok-Ok.field-0-is c.in-Ok-Ok.ensures in
    if_failed c.audit_opened.result (λ e. e ≡ NoThread → actors_found (program_of b.program) w b.report ≡ Fine) (λ e. e ≡ NoThread → NeedsWorkers p w r)
    (λ e h none. (let x = and_fine (ends_found p w r) (order_found p r) (subst (λ (y : PlainBooks). actors_found (program_of y.program) w y.report ≡ Fine) opened.0 (h none)) in
    record { sizes = c.requires.sizes; traces = sym c.requires.traces; store = opened.1; atoms = opened.2; ends = x.0; order = x.1 }))
    c.audit_opened.ensures.started
