use Rattle.std.proofs.Common.{◌∙◌, ap, length}
use Rattle.txs_world.specs.Store.{next_action}
use Rattle.txs_world_book.specs.Served.{cells_of}
use Rattle.txs_tree_meaning.specs.View.{program_of}
use Rattle.txs_theorem_audit.specs.Verdict.{action_covered, rest_found}
use Rattle.txs_audit_order.specs.Named.{plain_trace}
use Rattle.txs_audit_evidence.proofs.Printing.{map_drop}
use Rattle.txs_audit_evidence.proofs.ThreadFound.{so}
use Rattle.txs_audit_evidence.proofs.acts.rest_found.Goals as goal

pub returns-clause-finding : goal.returns-clause-finding
returns-clause-finding c =
    let b = c.args.books.now in
    let part = ap plain_trace c.split_at.ensures.back ∙ map_drop c.args.from c.args.trace.now in
    so c.rest_within.result c.rest_within.ensures.finding
    (λ f is. is ∙ ap (λ l. rest_found (program_of b.program) b.report c.args.turns c.args.full c.args.actor c.args.from (length c.args.trace.now) c.args.agent l c.args.out.now) part)

pub returns-clause-serial : goal.returns-clause-serial
returns-clause-serial c =
    let b = c.args.books.now in
    let p = program_of b.program in
    let r = b.report in
    let g = c.args.agent in
    let part = ap plain_trace c.split_at.ensures.back ∙ map_drop c.args.from c.args.trace.now in
    so c.rest_within.result c.rest_within.ensures.serial (λ f is fine. is fine ∙ ap (λ l. action_covered p r c.args.turns r.book g l (next_action (cells_of b.program.cells) r.book g)) part)
