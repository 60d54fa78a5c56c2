use Rattle.std.proofs.Common.{◌∙◌, ap, sym}
use Rattle.txs_tree_meaning.specs.View.{program_of}
use Rattle.txs_theorem_audit.specs.Audited.{report_as}
use Rattle.txs_audit_book.specs.Answered.{terms_as}
use Rattle.txs_audit_order.specs.Named.{off_in}
use Rattle.txs_audit.proofs.Answering.{by_sizes, by_traces}
use Rattle.txs_audit.proofs.auditing.audit_gated.Goals as goal

pub returns-then-not-has_sizes-clause-verdict : goal.returns-then-not-has_sizes-clause-verdict
returns-then-not-has_sizes-clause-verdict g c = by_sizes (program_of c.args.program.now) (terms_as c.args.terms) (report_as c.args.report.now) c.args.turns (sym c.has_sizes.ensures ∙ c.if-not-has_sizes.true)

pub returns-in-Ok-Some-clause-verdict : goal.returns-in-Ok-Some-clause-verdict
returns-in-Ok-Some-clause-verdict g c =
    by_traces (program_of c.args.program.now) (terms_as c.args.terms) (report_as c.args.report.now) c.args.turns (sym c.has_sizes.ensures ∙ c.if-not-has_sizes.false) c.in-Ok-Some.actor c.in-Ok-Some.event (sym (ap off_in c.in-Ok-Some.field-0-is) ∙ c.in-Ok-Some.ensures)
