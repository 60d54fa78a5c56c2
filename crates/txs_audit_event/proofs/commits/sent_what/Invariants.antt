use Rattle.std.proofs.Common.{◌≡◌, drop}
use Rattle.txs_audit_event.specs.Transactions.{sent_what}
use Rattle.txs_audit_event.proofs.commits.sent_what.Given as goal

abbrev pub invariant-loop-i : goal.invariant-loop-i
invariant-loop-i l = sent_what l.span l.i (drop l.i l.meant) (drop l.i l.found) ≡ sent_what l.span 0 l.meant l.found
