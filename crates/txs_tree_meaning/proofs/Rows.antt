-- Nodes in a row: the trees of a row that grows, and of the nodes that are read.
use Rattle.std.proofs.Common.{◌≡◌, ℕ, zero, suc, ◌+◌, ◌<◌, ◌≤◌, List, [], ◌∷◌, ◌++◌, length, get_or, take, refl, sym, ap, ◌∙◌, arith}
use Rattle.std.proofs.lemmas.List.{take_more}
use Rattle.txs_tree_meaning.specs.Sound.{nodes, nodes_in}
use Rattle.txs_tree_meaning.specs.Tree.{Tree, Trees, none, more}
use Rattle.txs_tree_meaning.specs.View.{tree_of, trees_of}
use Rattle.txs_tree_meaning.specs.declared.node.Node.{Node}
use Rattle.txs_tree_meaning.specs.Shift.{shifted, all_shifted}

-- one more tree behind others
abbrev pub behind : Trees → Tree → Trees
behind none e = more e none
behind (more f es) e = more f (behind es e)

pub trees_behind : (ns : List Node) (n : Node) → trees_of (ns ++ n ∷ []) ≡ behind (trees_of ns) (tree_of n)
trees_behind [] n = refl
trees_behind (m ∷ ns) n = ap (more (tree_of m)) (trees_behind ns n)

shifted_behind : (c k : ℕ) (es : Trees) (e : Tree) → all_shifted c k (behind es e) ≡ behind (all_shifted c k es) (shifted c k e)
shifted_behind c k none e = refl
shifted_behind c k (more f es) e = ap (more (shifted c k f)) (shifted_behind c k es e)

-- one more node shifted
pub pushed_shifted : (c k : ℕ) (ns anew later : List Node) (i : ℕ) (n made : Node) → i < length ns → n ≡ get_or ns i n → trees_of anew ≡ all_shifted c k (trees_of (take i ns)) → later ≡ anew ++ made ∷ [] → tree_of made ≡ shifted c k (tree_of n)
    → trees_of later ≡ all_shifted c k (trees_of (take (i + 1) ns))
pushed_shifted c k ns anew later i n made lt at so_far put same =
    ap trees_of put ∙ trees_behind anew made ∙ ap (λ es. behind es (tree_of made)) so_far ∙ ap (behind (all_shifted c k (trees_of (take i ns)))) same ∙ sym (shifted_behind c k (trees_of (take i ns)) (tree_of n))
    ∙ ap (all_shifted c k) (sym (trees_behind (take i ns) n)) ∙ ap (λ l. all_shifted c k (trees_of l)) (ap (λ (x : Node). take i ns ++ x ∷ []) at ∙ sym (take_more ns i n lt))

-- a node of a row has no more nodes than the row
pub nodes_at : (ns : List Node) (i : ℕ) (n : Node) → i < length ns → n ≡ get_or ns i n → nodes (tree_of n) ≤ nodes_in (trees_of ns)
nodes_at [] i n lt at = absurd (omega (arith, lt))
nodes_at (m ∷ ns) zero n lt at = omega (arith, ap (λ (x : Node). nodes (tree_of x)) at)
nodes_at (m ∷ ns) (suc i) n lt at = omega (arith, nodes_at ns i n (omega (arith, lt)) at)
