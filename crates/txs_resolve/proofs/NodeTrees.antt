-- Nodes in a row, and how many of them a special form is put together of.
use Rattle.std.proofs.Common.{◌≡◌, ◌<◌, true, List, [], ◌∷◌, ◌++◌, Bool, length, length-append, refl, sym, ap, ◌∙◌, arith}
use Rattle.txs_tree_meaning.specs.Tree.{Mark, Tree}
use Rattle.txs_tree_meaning.specs.Tree as tree
use Rattle.txs_resolve_expand.specs.Expressions.{binding_node}
use Rattle.txs_resolve.specs.Made.{IsMade}
use Rattle.txs_resolve_expand.specs.declared.parts.Special.{Special}
use Rattle.txs_resolve_expand.specs.declared.parts.Special.TheVariants as special
use Rattle.txs_tree_meaning.specs.View.{tree_of, trees_of, mark_of}
use Rattle.txs_tree_meaning.specs.declared.node.Node.{Node}

-- ---- nodes in a row, and what they are put together to

front : List Node → List Node
front [] = []
front (x ∷ []) = []
front (x ∷ y ∷ rest) = x ∷ front (y ∷ rest)

last_or : Node → List Node → Node
last_or d [] = d
last_or d (x ∷ rest) = last_or x rest

front_of : (xs : List Node) (x : Node) → front (xs ++ x ∷ []) ≡ xs
unfolding front
front_of [] x = refl
front_of (y ∷ []) x = refl
front_of (y ∷ z ∷ xs) x = ap (λ l. y ∷ l) (front_of (z ∷ xs) x)

last_of : (d : Node) (xs : List Node) (x : Node) → last_or d (xs ++ x ∷ []) ≡ x
unfolding last_or
last_of d [] x = refl
last_of d (y ∷ xs) x = last_of y xs x

-- the values of a `let` and its body, told in two ways
pub binding_same : (is_loop : Bool) (items vs ws : List Node) (x y : Node) (m : Mark) → items ≡ ws ++ y ∷ [] → items ≡ vs ++ x ∷ []
    → binding_node is_loop (trees_of ws) (tree_of y) m ≡ binding_node is_loop (trees_of vs) (tree_of x) m
binding_same is_loop items vs ws x y m one other =
    ap (λ l. binding_node is_loop (trees_of l) (tree_of y) m) (sym (front_of ws y) ∙ ap front (sym one ∙ other) ∙ front_of vs x)
    ∙ ap (λ n. binding_node is_loop (trees_of vs) (tree_of n) m) (sym (last_of x ws y) ∙ ap (last_or x) (sym one ∙ other) ∙ last_of x vs x)

-- how many nodes a special form is put together of
abbrev pub Enough : Special → List Node → Type 0
Enough (special.Row k fs) ns = Unit {0}
Enough (special.Single k p) ns = 0 < length ns
Enough (special.Pair k p f) ns = length ns ≡ 2
Enough (special.Choice turned c a b) ns = length ns ≡ 3
Enough (special.Binding is_loop pairs fs) ns = 0 < length ns
Enough (special.Hidden is_or f rest) ns = 0 < length ns

enough_of : (form : Special) (ns : List Node) (m : Mark) (t : Tree) → IsMade form ns m t → Enough form ns
enough_of (special.Row k fs) ns m t h = tt
enough_of (special.Single k p) ns m t h = omega (arith, ap (λ (l : List Node). length l) h.1)
enough_of (special.Pair k p f) ns m t h = ap (λ (l : List Node). length l) h.2
enough_of (special.Choice turned c a b) ns m t h = ap (λ (l : List Node). length l) h.3
enough_of (special.Binding is_loop pairs fs) ns m t h = omega (arith, ap (λ (l : List Node). length l) h.2, length-append h.0 (h.1 ∷ []))
enough_of (special.Hidden is_or f rest) ns m t h = omega (arith, ap (λ (l : List Node). length l) h.2, length-append h.0 (h.1 ∷ []))

pub enough : (form : Special) (ns : List Node) → ((m : Mark) → (t : tree.Tree) × IsMade form ns m t) → Enough form ns
enough form ns h =
    let m = mark_of (record { from = 0; to = 0 }) true in
    let made = h m in
    enough_of form ns m made.0 made.1
