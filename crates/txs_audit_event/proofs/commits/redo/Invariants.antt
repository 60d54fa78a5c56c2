use Rattle.std.proofs.Common.{◌≡◌, drop}
use Rattle.txs_tree_meaning.specs.Transaction.{redone}
use Rattle.txs_tree_meaning.specs.View.{functions_of}
use Rattle.txs_audit_event.specs.Transactions.{applied, given}
use Rattle.txs_audit_event.proofs.commits.redo.Given as goal

-- what is given is what the other commutes make of the values so far
abbrev pub invariant-loop-commute : goal.invariant-loop-commute
invariant-loop-commute l =
    given (redone (applied l.turns (functions_of l.books.program.functions)) (drop l.commute-index l.work) l.writes.items tt) ≡ given (redone (applied l.turns (functions_of l.books.program.functions)) l.work l.fn.first.items tt)
