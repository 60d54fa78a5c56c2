use Rattle.std.proofs.Common.{◌∙◌, ap}
use Rattle.txs_audit_book.specs.Judged.{as_found}
use Rattle.txs_tree_meaning.specs.View.{program_of}
use Rattle.txs_theorem_audit.specs.Pieces.{OfAct}
use Rattle.txs_audit_difference.specs.declared.told.Told.TheVariants as told
use Rattle.txs_audit_difference.proofs.Walks.{fine_told, off_told, short_told}
use Rattle.txs_audit_difference.proofs.walking.act_told.Goals as goal

pub returns-in-Fine : goal.returns-in-Fine
returns-in-Fine c =
    let b = c.args.books.now in
    let f = c.in_ok-found.found.finding in
    fine_told (program_of b.program) b.report c.args.turns (OfAct c.args.agent c.args.from c.args.at) (as_found f) c.in_ok-found.ensures.finding (ap as_found c.in-Fine.is)

pub returns-in-Short : goal.returns-in-Short
returns-in-Short c =
    let b = c.args.books.now in
    let f = c.in_ok-found.found.finding in
    short_told (program_of b.program) b.report c.args.turns (OfAct c.args.agent c.args.from c.args.at) (as_found f) c.in-Short.field-0 c.in-Short.field-1 c.in_ok-found.ensures.finding (ap as_found c.in-Short.is)

pub returns-in_ok-differs-in-Off : goal.returns-in_ok-differs-in-Off
returns-in_ok-differs-in-Off c =
    let b = c.args.books.now in
    let f = c.in_ok-found.found.finding in
    ap told.So c.in_ok-differs-in-Off.ensures
    ∙ off_told (program_of b.program) b.report c.args.turns (OfAct c.args.agent c.args.from c.args.at) (as_found f) c.in-Off.actor c.in-Off.event c.in_ok-found.ensures.finding (ap as_found c.in-Off.is)
