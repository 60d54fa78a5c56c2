use Rattle.std.proofs.Common.{◌≡◌, ◌∙◌, Result, Ok, Err, IfErr, ap, sym}
use Rattle.txs_tree_meaning.specs.View.{program_of}
use Rattle.txs_theorem_audit.specs.Audited.{Fine, and_then, answer}
use Rattle.txs_theorem_audit.specs.Pieces.{pieces_finding, pieces_of, pieces_serial}
use Rattle.txs_audit_order.specs.Named.{off_in}
use Rattle.txs_audit_book.specs.Answered.{as_verdict, terms_as}
use Rattle.txs_audit_book.specs.declared.verdict.AuditError.TheVariants.{NoThread}
use Rattle.txs_audit.proofs.Parting.{if_done}
use Rattle.txs_audit.proofs.auditing.audit_opened.Goals as goal
use Rattle.txs_audit.specs.Started.{actors_found}

pub returns-in-Ok-Some-clause-verdict : goal.returns-in-Ok-Some-clause-verdict
returns-in-Ok-Some-clause-verdict g c =
    let p = program_of c.args.books.now.program in
    let r = c.args.books.now.report in
    let n = c.args.turns in
    ap (λ f. answer (and_then f (pieces_finding p r n (pieces_of r))) (pieces_serial p r n (pieces_of r))) (sym (ap off_in c.in-Ok-Some.field-0-is) ∙ c.in-Ok-Some.ensures)

pub returns-in-Ok-None-clause-verdict : goal.returns-in-Ok-None-clause-verdict
returns-in-Ok-None-clause-verdict g c =
    let p = program_of c.args.books.now.program in
    let r = c.args.books.now.report in
    let n = c.args.turns in
    let w = terms_as c.args.terms in
    let fine : Fine ≡ actors_found p w r = sym (ap off_in c.in-Ok-None.field-0-is) ∙ c.in-Ok-None.ensures in
    if_done c.audit_pieces.result
    (λ v. as_verdict v ≡ answer (pieces_finding p r n (pieces_of r)) (pieces_serial p r n (pieces_of r)))
    (λ v. as_verdict v ≡ answer (and_then (actors_found p w r) (pieces_finding p r n (pieces_of r))) (pieces_serial p r n (pieces_of r)))
    (λ v h. h ∙ ap (λ f. answer (and_then f (pieces_finding p r n (pieces_of r))) (pieces_serial p r n (pieces_of r))) fine) c.audit_pieces.ensures

-- what holds of any error holds of one that there is
of_any : {A E : Type 0} (r : Result A E) (P : E → Type 0) → ((e : E) → P e) → IfErr r P
of_any (Ok x) P h = tt
of_any (Err e) P h = h e

pub returns-in-Ok-None-clause-started : goal.returns-in-Ok-None-clause-started
returns-in-Ok-None-clause-started g c =
    let p = program_of c.args.books.now.program in
    let r = c.args.books.now.report in
    let w = terms_as c.args.terms in
    let fine : Fine ≡ actors_found p w r = sym (ap off_in c.in-Ok-None.field-0-is) ∙ c.in-Ok-None.ensures in
    of_any c.audit_pieces.result (λ e. e ≡ NoThread → actors_found p w r ≡ Fine) (λ e none. sym fine)
