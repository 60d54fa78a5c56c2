use Rattle.std.proofs.Common.{◌≡◌, ◌⊎◌, ◌∙◌, Bool, false, ap, refl, subst, sym, take}
use Rattle.txs_world_book.specs.Served.{cells_of}
use Rattle.txs_tree_eval_node.specs.Events.{seen_events}
use Rattle.txs_tree_meaning.specs.Sound.{Sound}
use Rattle.txs_tree_meaning.specs.View.{Parts, program_of}
use Rattle.txs_audit_event.specs.Transactions.{gave_what}
use Rattle.txs_audit_event.proofs.Given.{same_meant}
use Rattle.txs_audit_event.proofs.actions.came_within.Goals as goal

pub returns-then-not-is_wanting : goal.returns-then-not-is_wanting
returns-then-not-is_wanting c =
    let b = c.args.books.now in
    let p = program_of b.program in
    let x = c.args.action.now in
    let act = c.args.act in
    let n = c.loop-came.bound in
    let most = c.args.turns in
    let sound = subst (λ (q : Parts). Sound (program_of q)) c.program.ensures c.is_sound.ensures in
    let enough = subst (λ (s : Bool). (n ≡ most) ⊎ (s ≡ false)) c.in_ok-came.ensures.short (c.if-not-is_wanting.ensures.enough refl) in
    c.in_ok-came.ensures.what
    ∙ sym (ap (gave_what (cells_of b.program.cells) (take act.at b.report.book) x.span act.new.now act.sends.now)
    (same_meant p x c.args.state.now (seen_events c.args.seen.now) sound c.requires n most c.loop-came.invariant enough))
