use Rattle.std.proofs.Common.{◌≡◌, ◌∙◌, IfOk, Some, ap, arith, subst, sym}
use Rattle.txs_tree_meaning.specs.View.{program_of}
use Rattle.txs_theorem_audit.specs.Audited.{report_as}
use Rattle.txs_audit_book.specs.Answered.{terms_as}
use Rattle.txs_audit_order.specs.Named.{off_in}
use Rattle.txs_audit_book.proofs.Numbering.{few_off}
use Rattle.txs_audit_difference.proofs.Tells.{traces_fine, traces_off}
use Rattle.txs_audit_difference.proofs.telling.behind_sizes.Goals as goal

pub returns-in-Some : goal.returns-in-Some
returns-in-Some c =
    let p = c.args.program.now in
    let r = c.args.report.now in
    ap Some c.at_event.ensures ∙ sym (traces_off (program_of p) (terms_as c.args.terms) (report_as r) c.args.turns c.in-Some.actor c.in-Some.event c.requires (sym c.in_ok-actor.ensures ∙ ap off_in c.in-Some.is))

pub returns-in-None : goal.returns-in-None
returns-in-None c =
    let p = c.args.program.now in
    let r = c.args.report.now in
    subst (λ u. IfOk c.behind_traces.result (λ d. d ≡ u)) (sym (traces_fine (program_of p) (terms_as c.args.terms) (report_as r) c.args.turns c.requires (sym c.in_ok-actor.ensures ∙ ap off_in c.in-None.is))) c.behind_traces.ensures

pub overflow_cast-actor : goal.overflow_cast-actor
overflow_cast-actor c =
    let few = few_off (program_of c.args.program.now) (report_as c.args.report.now) c.is_sound.ensures c.requires c.in-Some.actor c.in-Some.event (sym (ap off_in c.in-Some.is) ∙ c.in_ok-actor.ensures) in
    omega (arith, few)
