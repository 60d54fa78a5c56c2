use Rattle.std.proofs.Common.{◌∙◌, Some, ap, sym}
use Rattle.txs_tree_meaning.specs.View.{program_of}
use Rattle.txs_theorem_audit.specs.Audited.{report_as}
use Rattle.txs_audit_book.specs.Answered.{terms_as}
use Rattle.txs_audit_difference.proofs.Tells.{sizes_off}
use Rattle.txs_audit_difference.proofs.telling.difference.Goals as goal

pub returns-then-not-has_sizes : goal.returns-then-not-has_sizes
returns-then-not-has_sizes c = ap Some c.at_event.ensures ∙ sym (sizes_off (program_of c.args.program.now) (terms_as c.args.terms) (report_as c.args.report.now) c.args.turns (sym c.has_sizes.ensures ∙ c.if-not-has_sizes.true))
