-- What an answer says that may be running out of memory, and what nodes are that may be lost for it.
use Rattle.std.specs.Prelude.{◌≡◌, false, List, [], ◌∷◌, ◌++◌, map, Option, Some, None, Result, Ok, Err}
use Rattle.txs_tree_meaning.specs.Tree.{Tree, Trees, more, none}
use Rattle.txs_tree_meaning.specs.declared.node.Node.{Node}
use Rattle.txs_tree_meaning.specs.View.{tree_of}
use Rattle.txs_resolve_expand.specs.declared.error.ResolveError.{ResolveError}
use Rattle.txs_resolve_expand.specs.Expressions.{Answer}
use Rattle.txs_resolve.specs.declared.nodes.Nodes.{Nodes}
use Rattle.txs_resolve.specs.declared.stop.Stop.{Stop}
use Rattle.txs_resolve.specs.declared.stop.Stop.TheVariants.{Refused, Memory}

-- the answer is the definition's, seen as plain data, unless memory ran out
abbrev pub Gives : {A B : Type 0} → (A → B) → Result A Stop → Answer B → Type 0
Gives view (Ok x) wanted = wanted ≡ Ok (view x)
Gives view (Err (Refused e)) wanted = wanted ≡ Err e
Gives view (Err Memory) wanted = Unit {0}

-- why an answer is a refusal, if it is one
abbrev pub refusal_of : {A : Type 0} → Answer A → Option ResolveError
refusal_of (Ok x) = None
refusal_of (Err e) = Some e

-- these trees in a row
abbrev pub row : List Tree → Trees
row [] = none
row (t ∷ ts) = more t (row ts)

-- the nodes have these trees, unless they are lost
abbrev pub Shows : Nodes → List Tree → Type 0
Shows nodes ts = nodes.lost ≡ false → map tree_of nodes.items.items ≡ ts

-- behind the nodes stand more, of these trees, unless they are lost; what was lost stays so
abbrev pub Puts : Nodes → Nodes → List Tree → Type 0
Puts before now ts = now.lost ≡ false → (before.lost ≡ false) × (map tree_of now.items.items ≡ map tree_of before.items.items ++ ts)

-- one more node is behind these, of this tree
abbrev pub IsBehind : List Node → List Node → Tree → Type 0
IsBehind before now t = (n : Node) × (now ≡ before ++ n ∷ []) × (tree_of n ≡ t)

-- one more node is behind these, of the definition's tree, unless they are lost; or the form is refused, as the definition says
abbrev pub Pushes : Result (Unit {0}) ResolveError → Nodes → Nodes → Answer Tree → Type 0
Pushes (Ok u) before now wanted = (t : Tree) × (wanted ≡ Ok t) × Puts before now (t ∷ [])
Pushes (Err e) before now wanted = wanted ≡ Err e
