use Rattle.std.proofs.Common.{◌≡◌, ◌∙◌, IfOk, ap, subst, sym}
use Rattle.txs_tree_meaning.specs.View.{program_of}
use Rattle.txs_theorem_audit.specs.Audited.{report_as}
use Rattle.txs_theorem_audit.specs.Verdict.{atoms_from}
use Rattle.txs_audit_difference.specs.Difference.{atoms_told}
use Rattle.txs_audit_difference.proofs.Leaving.{store_clear, store_open, store_so}
use Rattle.txs_audit_difference.proofs.books.books_told.Goals as goal

pub atoms_told-requires-clause-all : goal.atoms_told-requires-clause-all
atoms_told-requires-clause-all c = c.as_slice.ensures.value ∙ c.in_ok-atoms-in-Clear.ensures ∙ ap (atoms_from 0) c.cells.ensures

pub returns-in_ok-atoms-in-Clear : goal.returns-in_ok-atoms-in-Clear
returns-in_ok-atoms-in-Clear c =
    let p = c.args.program.now in
    let r = c.args.report.now in
    let all = ap (atoms_told (program_of p) (report_as r)) (c.as_slice.ensures.value ∙ c.in_ok-atoms-in-Clear.ensures ∙ ap (atoms_from 0) c.cells.ensures) in
    subst (λ u. IfOk c.atoms_told.result (λ t. t ≡ u)) (all ∙ store_clear (program_of p) (report_as r) (sym c.in-Clear.is ∙ c.in_ok-store_told.ensures)) c.atoms_told.ensures

pub returns-in-Open : goal.returns-in-Open
returns-in-Open c = store_open (program_of c.args.program.now) (report_as c.args.report.now) (sym c.in-Open.is ∙ c.in_ok-store_told.ensures)

pub returns-in-So : goal.returns-in-So
returns-in-So c = store_so (program_of c.args.program.now) (report_as c.args.report.now) c.in-So.differs (sym c.in-So.is ∙ c.in_ok-store_told.ensures)
