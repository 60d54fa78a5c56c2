use Rattle.std.proofs.Common.{◌≡◌, ◌∙◌, IfOk, subst, sym}
use Rattle.txs_tree_meaning.specs.View.{program_of}
use Rattle.txs_audit_difference.proofs.Walks.{threads_clear, threads_open, threads_so}
use Rattle.txs_audit_difference.proofs.walking.pieces_told.Goals as goal

pub returns-in-Clear : goal.returns-in-Clear
returns-in-Clear c =
    let b = c.args.books.now in
    subst (λ u. IfOk c.agents_told.result (λ t. t ≡ u)) (threads_clear (program_of b.program) b.report c.args.turns (sym c.in-Clear.is ∙ c.in_ok-threads_told.ensures)) c.agents_told.ensures

pub returns-in-Open : goal.returns-in-Open
returns-in-Open c = let b = c.args.books.now in threads_open (program_of b.program) b.report c.args.turns (sym c.in-Open.is ∙ c.in_ok-threads_told.ensures)

pub returns-in-So : goal.returns-in-So
returns-in-So c = let b = c.args.books.now in threads_so (program_of b.program) b.report c.args.turns c.in-So.differs (sym c.in-So.is ∙ c.in_ok-threads_told.ensures)
