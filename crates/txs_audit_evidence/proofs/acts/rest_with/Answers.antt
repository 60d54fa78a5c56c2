use Rattle.std.proofs.Common.{◌∙◌, [], ap, refl, sym}
use Rattle.txs_world.specs.Store.{next_action}
use Rattle.txs_world_book.specs.Served.{cells_of}
use Rattle.txs_tree_meaning.specs.View.{program_of}
use Rattle.txs_theorem_audit.specs.Verdict.{action_covered}
use Rattle.txs_audit_order.specs.Named.{plain_trace}
use Rattle.txs_audit_evidence.proofs.ActionFound.{nothing_covered}
use Rattle.txs_audit_evidence.proofs.Printing.{nothing_is, rest_nothing, rest_still}
use Rattle.txs_audit_evidence.proofs.ThreadFound.{so}
use Rattle.txs_audit_evidence.proofs.acts.rest_with.Goals as goal

pub returns-then-is_nothing : goal.returns-then-is_nothing
returns-then-is_nothing c =
    let b = c.args.books.now in
    let p = program_of b.program in
    let r = b.report in
    let n = c.args.turns in
    let g = c.args.agent in
    let since = plain_trace c.args.since.now in
    let next = next_action (cells_of b.program.cells) r.book g in
    let empty = nothing_is c.args.since.now since refl c.args.full c.args.out.now c.is_nothing.result c.is_nothing.ensures ∙ c.if-is_nothing.true in
    let none = rest_nothing p r n c.args.full c.args.stretch.actor c.args.stretch.first c.args.stretch.index g since c.args.out.now empty in
    record {
      finding = c.fine.ensures.finding ∙ none.1;
      serial = λ fine. c.fine.ensures.serial ∙ nothing_covered p r n r.book g [] next ∙ ap (λ l. action_covered p r n r.book g l next) (sym none.0);
    }

pub returns-clause-finding : goal.returns-clause-finding
returns-clause-finding c =
    let b = c.args.books.now in
    let since = plain_trace c.args.since.now in
    let some = nothing_is c.args.since.now since refl c.args.full c.args.out.now c.is_nothing.result c.is_nothing.ensures ∙ c.if-is_nothing.false in
    so c.still_found.result c.still_found.ensures.finding
    (λ f is. is ∙ rest_still (program_of b.program) b.report c.args.turns c.args.full c.args.stretch.actor c.args.stretch.first c.args.stretch.index c.args.agent since c.args.out.now some)
