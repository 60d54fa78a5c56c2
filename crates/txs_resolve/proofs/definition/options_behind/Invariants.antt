use Rattle.std.proofs.Common.{◌≡◌, ◌≤◌, ◌-◌, drop, length}
use Rattle.txs_reader.specs.Tree.{trees, trees_of}
use Rattle.txs_resolve.specs.Names.{options_behind, options_from}
use Rattle.txs_resolve.specs.Scripts.{options_as}
use Rattle.txs_resolve.proofs.definition.options_behind.Given as goal

abbrev pub invariant-loop-at : goal.invariant-loop-at
invariant-loop-at l = record {
  same : options_behind l.kind (trees_of (trees l.behind)) ≡ options_from l.kind (options_as l.options) (trees_of (trees (drop l.at l.behind)));
  inside : l.at ≤ length l.behind;
}

abbrev pub decreases-loop-at : goal.decreases-loop-at
decreases-loop-at l = length l.behind - l.at
