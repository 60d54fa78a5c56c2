-- The parts of a node have fewer nodes.
use Rattle.std.proofs.Common.{◌≡◌, suc, refl}
use Rattle.txs_tree_meaning.specs.Sound.{nodes, nodes_in}
use Rattle.txs_tree_meaning.specs.Tree.{Mark, Trees}
use Rattle.txs_tree_meaning.specs.declared.parts.Row.{Row}
use Rattle.txs_tree_meaning.specs.declared.parts.Row.TheVariants as row_of
use Rattle.txs_tree_meaning.specs.Shapes.{row_tree}

pub row_nodes : (r : Row) (es : Trees) (m : Mark) → nodes (row_tree r es m) ≡ suc (nodes_in es)
row_nodes row_of.Do es m = refl
row_nodes row_of.Recur es m = refl
row_nodes (row_of.Core op) es m = refl
row_nodes (row_of.Call f) es m = refl
row_nodes row_of.Vector es m = refl
row_nodes row_of.Println es m = refl
