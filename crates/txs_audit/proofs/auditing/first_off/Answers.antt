use Rattle.std.proofs.Common.{◌∙◌, ap, sym}
use Rattle.txs_tree_meaning.specs.View.{program_of}
use Rattle.txs_theorem_audit.specs.Audited.{report_as}
use Rattle.txs_audit_order.specs.Named.{off_in}
use Rattle.txs_audit_book.proofs.Numbering.{few_off}
use Rattle.txs_audit.proofs.auditing.first_off.Goals as goal

pub as_actor-requires : goal.as_actor-requires
as_actor-requires c =
    few_off (program_of c.args.program.now) (report_as c.args.report.now) c.is_sound.ensures c.requires c.in-Some.actor c.in-Some.event (sym (ap off_in c.in-Some.is) ∙ c.in_ok-actor.ensures)
