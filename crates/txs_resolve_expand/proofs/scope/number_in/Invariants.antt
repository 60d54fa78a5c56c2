use Rattle.std.proofs.Common.{◌≡◌, ◌≤◌, length, map, reverse, take}
use Rattle.txs_resolve_expand.specs.Scope.{number_in}
use Rattle.txs_resolve_expand.proofs.scope.number_in.Given as goal

abbrev pub invariant-loop-i : goal.invariant-loop-i
invariant-loop-i l = record {
  within : l.i ≤ length l.names;
  same : number_in l.name (reverse (map (λ n. n.now) l.names)) ≡ number_in l.name (reverse (take l.i (map (λ n. n.now) l.names)));
}

abbrev pub decreases-loop-i : goal.decreases-loop-i
decreases-loop-i l = l.i
