use Rattle.std.proofs.Common.{◌≡◌, ◌∙◌, IfOk, ap, subst, sym}
use Rattle.txs_tree_meaning.specs.View.{program_of}
use Rattle.txs_theorem_audit.specs.Audited.{entry_of}
use Rattle.txs_audit_book.specs.Answered.{terms_as}
use Rattle.txs_audit_order.specs.Named.{off_in}
use Rattle.txs_audit_difference.specs.Difference.{stopped_what_in}
use Rattle.txs_audit_difference.specs.Pieces.{at_event}
use Rattle.txs_audit_difference.specs.declared.told.Told.TheVariants as told
use Rattle.txs_audit_difference.proofs.Tells.{ends_fine, ends_off}
use Rattle.txs_audit_difference.proofs.telling.actors_told.Goals as goal

pub returns-in-Some : goal.returns-in-Some
returns-in-Some c =
    let b = c.args.books.now in
    let w = terms_as c.args.terms in
    let a = c.in-Some.actor in
    let i = c.in-Some.event in
    let what = c.end_what-what.ensures ∙ ap (λ r. stopped_what_in w (entry_of r a)) c.report.ensures in
    ap told.So (c.at_event.ensures ∙ ap (λ x. at_event x a i) what) ∙ sym (ends_off (program_of b.program) w b.report c.args.turns a i (sym c.in_ok-actor.ensures ∙ ap off_in c.in-Some.is))

pub returns-in-None : goal.returns-in-None
returns-in-None c =
    let b = c.args.books.now in
    let w = terms_as c.args.terms in
    subst (λ u. IfOk c.order_told.result (λ t. t ≡ u)) (sym (ends_fine (program_of b.program) w b.report c.args.turns (sym c.in_ok-actor.ensures ∙ ap off_in c.in-None.is))) c.order_told.ensures
