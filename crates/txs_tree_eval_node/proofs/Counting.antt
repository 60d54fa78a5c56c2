-- Counts of nodes.
use Rattle.std.proofs.Common.{◌≡◌, ◌*◌, length, get_or, ap, ℕ, zero, suc, ◌+◌, ◌<◌, ◌≤◌, List, [], ◌∷◌, ◌++◌, ◌∙◌, arith}
use Rattle.txs_tree_meaning.specs.Sound.{nodes, nodes_in}
use Rattle.txs_tree_meaning.specs.View.{tree_of, trees_of}
use Rattle.txs_tree_meaning.specs.declared.node.Node.{Node}

-- a node among others has no more nodes than all of them
pub nodes-at : (ns : List Node) (i : ℕ) (x : Node) → i < length ns → x ≡ get_or ns i x → nodes (tree_of x) ≤ nodes_in (trees_of ns)
nodes-at [] i x lt is = absurd (omega arith)
nodes-at (n ∷ ns) zero x lt is = omega (arith, ap (λ y. nodes (tree_of y)) is)
nodes-at (n ∷ ns) (suc i) x lt is = omega (arith, nodes-at ns i x (omega arith) is)

pub item_smaller : (ns : List Node) (i : ℕ) (x : Node) → i < length ns → x ≡ get_or ns i x → 16 * nodes (tree_of x) + 1 < 16 * nodes_in (trees_of ns) + 2
item_smaller ns i x lt is = omega (arith, nodes-at ns i x lt is)

nodes-behind : (before : List Node) (x : Node) → nodes_in (trees_of (before ++ x ∷ [])) ≡ nodes_in (trees_of before) + nodes (tree_of x)
nodes-behind [] x = omega arith
nodes-behind (n ∷ ns) x = omega (arith, nodes-behind ns x)

-- the last node and those before it
pub nodes-last : (ns before : List Node) (x : Node) → ns ≡ before ++ x ∷ [] → nodes_in (trees_of ns) ≡ nodes_in (trees_of before) + nodes (tree_of x)
nodes-last ns before x is = ap (λ l. nodes_in (trees_of l)) is ∙ nodes-behind before x
