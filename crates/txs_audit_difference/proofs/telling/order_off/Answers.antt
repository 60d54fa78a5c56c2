use Rattle.std.proofs.Common.{◌∙◌, ap, sym}
use Rattle.txs_tree_meaning.specs.View.{Parts, program_of}
use Rattle.txs_theorem_audit.specs.Verdict.{place_off}
use Rattle.txs_audit_order.specs.Ordered.{named_in, place_in}
use Rattle.txs_audit_difference.proofs.Named.{order_is}
use Rattle.txs_audit_difference.proofs.telling.order_off.Goals as goal

pub returns-in-Some : goal.returns-in-Some
returns-in-Some c =
    let b = c.args.books.now in
    let r = c.report.result.now in
    c.spot_of.ensures
    ∙ ap (place_off b.report) (sym (ap place_in c.in-Some.is) ∙ c.in_ok-place.ensures ∙ ap (λ (p : Parts). named_in (program_of p).cells r) c.program.ensures)
    ∙ order_is (program_of b.program) r b.report c.report.ensures

pub returns-in-None : goal.returns-in-None
returns-in-None c =
    let b = c.args.books.now in
    let r = c.report.result.now in
    ap (place_off b.report) (sym (ap place_in c.in-None.is) ∙ c.in_ok-place.ensures ∙ ap (λ (p : Parts). named_in (program_of p).cells r) c.program.ensures)
    ∙ order_is (program_of b.program) r b.report c.report.ensures
