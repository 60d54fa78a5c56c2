use Rattle.std.proofs.Common.{◌∙◌, ap, subst, take}
use Rattle.txs_world_book.specs.Served.{cells_of}
use Rattle.txs_tree_eval_node.specs.Events.{seen_events}
use Rattle.txs_tree_meaning.specs.Sound.{Sound}
use Rattle.txs_tree_meaning.specs.View.{Parts, program_of}
use Rattle.txs_audit_book.specs.Judged.{EndsBy, as_end}
use Rattle.txs_audit_event.specs.Given.{gave_by}
use Rattle.txs_audit_event.proofs.Given.{gave_told, open_told}
use Rattle.txs_audit_event.proofs.actions.came_with.Goals as goal

pub returns-clause-what : goal.returns-clause-what
returns-clause-what c =
    let b = c.args.books.now in
    let p = program_of b.program in
    let x = c.args.action.now in
    let m = c.in_ok-meaning.meaning in
    let end = as_end c.in_ok-end.end in
    let act = c.args.act in
    let cells = cells_of b.program.cells in
    let done = take act.at b.report.book in
    let sound = subst (λ (q : Parts). Sound (program_of q)) c.program.ensures c.is_sound.ensures in
    let ends = subst (λ (q : Parts). EndsBy (program_of q) c.args.bound x m end) c.program-2.ensures c.in_ok-end.ensures in
    c.in_ok-what.ensures ∙ ap (λ l. gave_by cells done x.span act.new.now act.sends.now l end) c.as_slice-held.ensures
    ∙ gave_told p c.args.bound x c.args.state.now (seen_events c.args.seen.now) m end sound c.requires c.in_ok-meaning.ensures ends cells done x.span act.new.now act.sends.now

pub returns-clause-short : goal.returns-clause-short
returns-clause-short c =
    let b = c.args.books.now in
    let p = program_of b.program in
    let x = c.args.action.now in
    let m = c.in_ok-meaning.meaning in
    let end = as_end c.in_ok-end.end in
    let sound = subst (λ (q : Parts). Sound (program_of q)) c.program.ensures c.is_sound.ensures in
    let ends = subst (λ (q : Parts). EndsBy (program_of q) c.args.bound x m end) c.program-2.ensures c.in_ok-end.ensures in
    c.is_short_end-short.ensures ∙ open_told p c.args.bound x c.args.state.now (seen_events c.args.seen.now) m end sound c.requires c.in_ok-meaning.ensures ends
