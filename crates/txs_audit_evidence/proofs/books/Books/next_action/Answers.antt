use Rattle.std.proofs.Common.{◌≡◌, ◌<◌, ◌∙◌, None, length, subst, sym}
use Rattle.std.specs.Prelude.{option_copied}
use Rattle.txs_world.specs.Store.{next_action}
use Rattle.txs_world_book.specs.Served.{cells_of}
use Rattle.txs_audit_evidence.specs.Evidence.{PlainBooks, plain_books}
use Rattle.txs_audit_evidence.proofs.Looking.{cell_replayed, next_failed, next_is}
use Rattle.txs_audit_evidence.proofs.books.Books.next_action.Goals as goal

pub failure-requires : goal.failure-requires
failure-requires c =
    let x = c.self.inside in
    let lt = subst (λ (b : PlainBooks). c.args.number < length b.program.cells) (sym c.self.view_is) c.requires in
    cell_replayed (plain_books x.program.now x.report.now) x.replay c.self.invariant.replayed c.args.number lt

pub next-requires : goal.next-requires
next-requires c =
    let x = c.self.inside in
    let lt = subst (λ (b : PlainBooks). c.args.number < length b.program.cells) (sym c.self.view_is) c.requires in
    cell_replayed (plain_books x.program.now x.report.now) x.replay c.self.invariant.replayed c.args.number lt

pub returns-in-Some : goal.returns-in-Some
returns-in-Some c = λ g number.
    let x = c.self.inside in
    subst (λ (b : PlainBooks). None ≡ next_action (cells_of b.program.cells) b.report.book g) c.self.view_is
    (next_failed (plain_books x.program.now x.report.now) x.replay c.self.invariant.replayed c.args.number c.in-Some.field-0 (sym c.in-Some.is ∙ c.failure.ensures) g number)

pub returns-in-None : goal.returns-in-None
returns-in-None c = λ g number.
    let x = c.self.inside in
    subst (λ (b : PlainBooks). option_copied c.next.result ≡ next_action (cells_of b.program.cells) b.report.book g) c.self.view_is
    (next_is (plain_books x.program.now x.report.now) x.replay c.self.invariant.replayed c.args.number (sym c.in-None.is ∙ c.failure.ensures) (option_copied c.next.result) c.next.ensures g number)
