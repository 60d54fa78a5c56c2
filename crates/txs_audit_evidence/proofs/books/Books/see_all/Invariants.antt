use Rattle.std.proofs.Common.{◌≡◌, take}
use Rattle.txs_tree_eval_node.specs.Events.{seen_events}
use Rattle.txs_theorem_audit.specs.Audited.{books_of}
use Rattle.txs_theorem_runs.specs.Told.{seen_of}
use Rattle.txs_audit_order.specs.Named.{plain_trace}
use Rattle.txs_audit_evidence.proofs.books.Books.see_all.Given as goal

-- the events of the entries so far
abbrev pub invariant-loop-place : goal.invariant-loop-place
invariant-loop-place l = seen_events l.seen.items ≡ seen_of l.self.program.cells (books_of l.self.report) (plain_trace (take l.place-index l.trace))
