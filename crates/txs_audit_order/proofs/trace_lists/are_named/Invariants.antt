use Rattle.std.proofs.Common.{◌≡◌, drop}
use Rattle.txs_audit_order.specs.Named.{all_named}
use Rattle.txs_audit_order.proofs.trace_lists.are_named.Given as goal

-- what is answered is what the other books give
abbrev pub invariant-loop-i : goal.invariant-loop-i
invariant-loop-i l = all_named l.actor (drop l.i l.all) (drop l.i l.named) ≡ all_named l.actor l.all l.named
