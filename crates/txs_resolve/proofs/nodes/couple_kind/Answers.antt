use Rattle.std.proofs.Common.{◌≡◌, ◌++◌, ◌∷◌, [], List, length, length-append, sym, ap, ◌∙◌, arith}
use Rattle.txs_tree_meaning.specs.Tree.{Core}
use Rattle.txs_tree_meaning.specs.View.{tree_of, trees_of}
use Rattle.txs_tree_meaning.specs.declared.node.Node.{Node}
use Rattle.txs_tree_meaning.proofs.Trees.{core_tree, put_tree}
use Rattle.txs_resolve.specs.Made.{couple_node}
use Rattle.txs_resolve.proofs.nodes.couple_kind.Goals as goal

pub returns-in-Core : goal.returns-in-Core
returns-in-Core c x y m is =
    core_tree c.in-Core.op c.args.parts m
    ∙ ap (λ (l : List Node). Core c.in-Core.op (trees_of l) m) is
    ∙ ap (λ k. couple_node k (tree_of x) (tree_of y) m) (sym c.in-Core.is)

-- two nodes, told in two ways
two : (ns : List Node) (a b x y : Node) → ns ++ a ∷ b ∷ [] ≡ x ∷ y ∷ [] → (a ≡ x) × (b ≡ y)
two [] a b x y h = (cc, cc)
two (n ∷ ns) a b x y h = absurd (omega (arith, ap (λ (l : List Node). length l) h, length-append ns (a ∷ b ∷ [])))

pub returns-in_ok-one-in-Put : goal.returns-in_ok-one-in-Put
returns-in_ok-one-in-Put c x y m is =
    let one = c.in_ok-one-in-Put.one in
    let other = c.in_ok-one-in-Put.other in
    let e = two c.last_two.new.nodes.items one.value other.value x y (sym c.in_ok-one-in-Put.ensures ∙ is) in
    put_tree c.in-Put.form one other m
    ∙ ap (λ k. couple_node k (tree_of one.value) (tree_of other.value) m) (sym c.in-Put.is)
    ∙ ap (λ (n : Node). couple_node c.args.couple (tree_of n) (tree_of other.value) m) e.0
    ∙ ap (λ (n : Node). couple_node c.args.couple (tree_of x) (tree_of n) m) e.1
