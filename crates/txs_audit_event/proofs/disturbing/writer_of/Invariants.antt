use Rattle.std.proofs.Common.{◌≡◌}
use Rattle.txs_audit_event.specs.Transactions.{writer_of}
use Rattle.txs_audit_event.proofs.disturbing.writer_of.Given as goal

-- none of the events that were passed writes it
abbrev pub invariant-loop-at : goal.invariant-loop-at
invariant-loop-at l = writer_of l.number l.at l.book ≡ writer_of l.number l.from l.book
