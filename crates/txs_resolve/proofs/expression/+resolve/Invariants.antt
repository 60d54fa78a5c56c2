use Rattle.std.proofs.Common.{◌≡◌, ◌≤◌, ◌-◌, ◌+◌, ◌*◌, List, drop, length}
use Rattle.txs_tree_meaning.specs.Tree.{Tree}
use Rattle.txs_resolve.specs.BodyGiven.{Puts}
use Rattle.txs_resolve_expand.specs.Expressions.{named, named_all, named_bindings}
use Rattle.txs_resolve.specs.Walk.{IsWithin}
use Rattle.txs_resolve_expand.specs.Parts.{plain}
use Rattle.txs_resolve.proofs.Building.{all_after, bound_after}
use Rattle.txs_resolve.proofs.expression.+resolve.Given as goal

abbrev pub invariant-items-loop-i : goal.invariant-items-loop-i
invariant-items-loop-i l = record {
  built : (ns : List Tree) × Puts l.fn.nodes l.nodes ns
      × (named_all (named (l.spot.room - 1)) l.fn.scope l.wanted l.last (plain l.forms)
      ≡ all_after ns (named_all (named (l.spot.room - 1)) l.fn.scope l.wanted l.last (plain (drop l.i l.forms))));
  kept : l.scope ≡ l.fn.scope;
}

abbrev pub invariant-bindings-loop-at : goal.invariant-bindings-loop-at
invariant-bindings-loop-at l = record {
  built : (ns : List Tree) × Puts l.fn.values l.values ns
      × (named_bindings (named (l.spot.room - 1)) l.fn.scope (plain l.pairs) ≡ bound_after ns (named_bindings (named (l.spot.room - 1)) l.scope (plain (drop l.at l.pairs))));
  within : IsWithin l.fn.scope l.scope;
  inside : l.at ≤ length l.pairs;
}

abbrev pub decreases-bindings-loop-at : goal.decreases-bindings-loop-at
decreases-bindings-loop-at l = length l.pairs - l.at

-- each part finds one level less; within a level the functions are ranked among one another
abbrev pub decreases-expression : goal.decreases-expression
decreases-expression l = 4 * l.spot.room + 3

abbrev pub decreases-parted : goal.decreases-parted
decreases-parted l = 4 * l.spot.room + 2

abbrev pub decreases-changed : goal.decreases-changed
decreases-changed l = 4 * l.spot.room + 2

abbrev pub decreases-children : goal.decreases-children
decreases-children l = 4 * l.spot.room + 1

abbrev pub decreases-bindings : goal.decreases-bindings
decreases-bindings l = 4 * l.spot.room

abbrev pub decreases-items : goal.decreases-items
decreases-items l = 4 * l.spot.room
