use Rattle.std.proofs.Common.{◌≡◌, drop}
use Rattle.txs_audit_event.specs.Transactions.{wrote_what}
use Rattle.txs_audit_event.proofs.commits.wrote_what.Given as goal

abbrev pub invariant-loop-i : goal.invariant-loop-i
invariant-loop-i l = wrote_what l.span (drop l.i l.meant) (drop l.i l.found) ≡ wrote_what l.span l.meant l.found
