use Rattle.std.proofs.Common.{◌∙◌, ap, subst, sym}
use Rattle.txs_tree_meaning.specs.View.{program_of}
use Rattle.txs_theorem_audit.specs.Audited.{report_as}
use Rattle.txs_audit_book.specs.Answered.{terms_as}
use Rattle.txs_audit_evidence.specs.Evidence.{Opened, PlainBooks}
use Rattle.txs_audit_book.specs.Judged.{as_found}
use Rattle.txs_audit_difference.specs.Difference.{actors_told, difference_in}
use Rattle.txs_audit_difference.proofs.Tells.{books_fine, books_off}
use Rattle.txs_audit_difference.proofs.telling.behind_traces.Goals as goal

pub returns-in_ok-told-in-Ok : goal.returns-in_ok-told-in-Ok
returns-in_ok-told-in-Ok c =
    let p = c.args.program.now in
    let r = c.args.report.now in
    let w = terms_as c.args.terms in
    let n = c.args.turns in
    let opened = subst (Opened p r) c.in-Ok.is c.in_ok-books.ensures in
    let told = c.in_ok-told-in-Ok.ensures ∙ ap (λ (b : PlainBooks). actors_told (program_of b.program) w b.report n) opened.0 in
    c.difference_in.ensures ∙ ap difference_in (told ∙ sym (books_fine (program_of p) w (report_as r) n opened.1 opened.2))

pub returns-in_ok-told-in-Err : goal.returns-in_ok-told-in-Err
returns-in_ok-told-in-Err c =
    let p = c.args.program.now in
    let r = c.args.report.now in
    let w = terms_as c.args.terms in
    let n = c.args.turns in
    let opened = subst (Opened p r) c.in-Err.is c.in_ok-books.ensures in
    c.difference_in-in-Err.ensures ∙ ap difference_in (c.in_ok-told-in-Err.ensures ∙ sym (books_off (program_of p) w (report_as r) n (as_found c.in-Err.field-0) opened.0 opened.1))
