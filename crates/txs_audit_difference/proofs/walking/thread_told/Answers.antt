use Rattle.std.proofs.Common.{◌∙◌, ap}
use Rattle.txs_audit_book.specs.Judged.{as_found}
use Rattle.txs_tree_meaning.specs.View.{program_of}
use Rattle.txs_theorem_audit.specs.Pieces.{OfThread}
use Rattle.txs_audit_difference.specs.Pieces.{at_event}
use Rattle.txs_audit_difference.specs.declared.told.Told.TheVariants as told
use Rattle.txs_audit_difference.proofs.Walks.{fine_told, off_told, short_told}
use Rattle.txs_audit_difference.proofs.walking.thread_told.Goals as goal

pub returns-in-Fine : goal.returns-in-Fine
returns-in-Fine c =
    let b = c.args.books.now in
    let f = c.in_ok-found.found.finding in
    fine_told (program_of b.program) b.report c.args.turns (OfThread c.args.thread) (as_found f) c.in_ok-found.ensures.finding (ap as_found c.in-Fine.is)

pub returns-in-Short : goal.returns-in-Short
returns-in-Short c =
    let b = c.args.books.now in
    let f = c.in_ok-found.found.finding in
    short_told (program_of b.program) b.report c.args.turns (OfThread c.args.thread) (as_found f) c.in-Short.field-0 c.in-Short.field-1 c.in_ok-found.ensures.finding (ap as_found c.in-Short.is)

pub returns-in_ok-what-in-Off : goal.returns-in_ok-what-in-Off
returns-in_ok-what-in-Off c =
    let b = c.args.books.now in
    let f = c.in_ok-found.found.finding in
    let a = c.in-Off.actor in
    let i = c.in-Off.event in
    ap told.So (c.at_event.ensures ∙ ap (λ w. at_event w a i) c.in_ok-what-in-Off.ensures)
    ∙ off_told (program_of b.program) b.report c.args.turns (OfThread c.args.thread) (as_found f) a i c.in_ok-found.ensures.finding (ap as_found c.in-Off.is)
