-- What nodes are put together to.
use Rattle.std.specs.Prelude.{◌≡◌, true, false, List, [], ◌∷◌, ◌++◌, Ok}
use Rattle.txs_reader.specs.Tree.{PlainForm as Form, leaf, group, symbol, tree}
use Rattle.txs_value_data.specs.declared.value.Value.{Value}
use Rattle.txs_value_data.specs.declared.value.Value.TheVariants.{Nil, Truth, Cell}
use Rattle.txs_tree_meaning.specs.Tree.{Tree, Mark, Const, Local, Core as CoreNode, Put, more, none}
use Rattle.txs_tree_meaning.specs.declared.node.Node.{Node}
use Rattle.txs_tree_meaning.specs.View.{tree_of}
use Rattle.txs_tree_meaning.specs.View as view
use Rattle.txs_resolve.specs.BodyGiven.{row}
use Rattle.txs_resolve_expand.specs.declared.error.ResolveErrorKind.TheVariants.{BadForm}
use Rattle.txs_resolve_expand.specs.declared.shapes.Couple.{Couple}
use Rattle.txs_resolve_expand.specs.declared.shapes.Couple.TheVariants as couple
use Rattle.txs_resolve.specs.declared.nodes.Simple.{Simple}
use Rattle.txs_resolve.specs.declared.nodes.Simple.TheVariants as simple
use Rattle.txs_resolve_expand.specs.declared.shapes.Spot.{Spot}
use Rattle.txs_resolve_expand.specs.declared.parts.Special.{Special}
use Rattle.txs_resolve_expand.specs.declared.parts.Special.TheVariants as special
use Rattle.txs_resolve_expand.specs.Answers.{refuse}
use Rattle.txs_resolve_expand.specs.Expressions.{Answer, binding_node, choice_node, sequence_node, single_node}
use Rattle.txs_resolve_expand.specs.Expressions as spec
use Rattle.txs_resolve_expand.specs.Parts.{IsQuoted, leaf_of}

-- the value of a literal without parts
abbrev pub scalar : Form → Answer Value
scalar (leaf (symbol name) at) = refuse BadForm at
scalar (leaf x at) = Ok (spec.leaf_value x)
scalar (group b forms at) = refuse BadForm at

-- the same spot, with room for one node
abbrev pub with_room : Spot → Spot
with_room s = spec.spot_at 1 s.span s.wanted

-- the tree of what has no parts
abbrev pub simple_tree : Simple → Mark → Tree
simple_tree (simple.Local n) m = Local n m
simple_tree (simple.Constant v) m = Const v.now m
simple_tree (simple.Cell c) m = Const (Cell c) m
simple_tree (simple.Literal f) m = Const (spec.leaf_value (leaf_of (tree f.now))) m
simple_tree simple.Nil m = Const Nil m
simple_tree simple.Truth m = Const (Truth true) m

-- a literal in it has no parts
abbrev pub IsSimple : Simple → Type 0
IsSimple (simple.Literal f) = IsQuoted (tree f.now)
IsSimple _ = Unit {0}

-- the node of a form of two nodes
abbrev pub couple_node : Couple → Tree → Tree → Mark → Tree
couple_node (couple.Core op) x y m = CoreNode op (more x (more y none)) m
couple_node (couple.Put form) x y m = Put form x y m

-- nodes, put together to this tree
abbrev pub IsMade : Special → List Node → Mark → Tree → Type 0
IsMade (special.Row k fs) ns m t = t ≡ sequence_node k (view.trees_of ns) m
IsMade (special.Single k p) ns m t = (n : Node) × (ns ≡ n ∷ []) × (t ≡ single_node k (tree_of n) m)
IsMade (special.Pair k p f) ns m t = (x : Node) × (y : Node) × (ns ≡ x ∷ y ∷ []) × (t ≡ couple_node k (tree_of x) (tree_of y) m)
IsMade (special.Choice turned c a b) ns m t =
    (x : Node) × (y : Node) × (z : Node) × (ns ≡ x ∷ y ∷ z ∷ []) × (t ≡ choice_node turned (tree_of x) (tree_of y) (tree_of z) m)
IsMade (special.Binding is_loop pairs fs) ns m t =
    (vs : List Node) × (n : Node) × (ns ≡ vs ++ n ∷ []) × (t ≡ binding_node is_loop (view.trees_of vs) (tree_of n) m)
IsMade (special.Hidden is_or f rest) ns m t =
    (vs : List Node) × (n : Node) × (ns ≡ vs ++ n ∷ []) × (t ≡ binding_node false (view.trees_of vs) (tree_of n) m)

-- the trees of parts, put together to this tree
abbrev pub Makes : Special → List Tree → Mark → Tree → Type 0
Makes (special.Row k fs) ts m t = t ≡ sequence_node k (row ts) m
Makes (special.Single k p) ts m t = (x : Tree) × (ts ≡ x ∷ []) × (t ≡ single_node k x m)
Makes (special.Pair k p f) ts m t = (x : Tree) × (y : Tree) × (ts ≡ x ∷ y ∷ []) × (t ≡ couple_node k x y m)
Makes (special.Choice turned c a b) ts m t = (x : Tree) × (y : Tree) × (z : Tree) × (ts ≡ x ∷ y ∷ z ∷ []) × (t ≡ choice_node turned x y z m)
Makes (special.Binding is_loop pairs fs) ts m t = (vs : List Tree) × (x : Tree) × (ts ≡ vs ++ x ∷ []) × (t ≡ binding_node is_loop (row vs) x m)
Makes (special.Hidden is_or f rest) ts m t = (vs : List Tree) × (x : Tree) × (ts ≡ vs ++ x ∷ []) × (t ≡ binding_node false (row vs) x m)
