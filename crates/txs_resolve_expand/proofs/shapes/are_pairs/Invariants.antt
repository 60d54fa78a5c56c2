use Rattle.std.proofs.Common.{◌≡◌, ◌≤◌, ◌-◌, drop, length}
use Rattle.txs_reader.specs.Tree.{trees, trees_of}
use Rattle.txs_resolve_expand.specs.Expressions.{are_pairs}
use Rattle.txs_resolve_expand.proofs.shapes.are_pairs.Given as goal

abbrev pub invariant-loop-at : goal.invariant-loop-at
invariant-loop-at l = record {
  same : are_pairs (trees_of (trees l.pairs)) ≡ are_pairs (trees_of (trees (drop l.at l.pairs)));
  inside : l.at ≤ length l.pairs;
}

abbrev pub decreases-loop-at : goal.decreases-loop-at
decreases-loop-at l = length l.pairs - l.at
