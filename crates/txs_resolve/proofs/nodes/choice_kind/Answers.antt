use Rattle.std.proofs.Common.{◌≡◌, ◌++◌, ◌∷◌, [], Bool, List, length, length-append, sym, ap, ◌∙◌, arith}
use Rattle.txs_tree_meaning.specs.Tree.{Mark}
use Rattle.txs_tree_meaning.specs.View.{tree_of}
use Rattle.txs_tree_meaning.specs.declared.node.Node.{Node}
use Rattle.txs_tree_meaning.proofs.Trees.{if_tree}
use Rattle.txs_resolve_expand.specs.Expressions.{choice_node}
use Rattle.txs_resolve.proofs.nodes.choice_kind.Goals as goal

-- three nodes, told in two ways
three : (ns : List Node) (a b t x y z : Node) → (ns ++ t ∷ []) ++ a ∷ b ∷ [] ≡ x ∷ y ∷ z ∷ [] → (t ≡ x) × (a ≡ y) × (b ≡ z)
three [] a b t x y z h = (cc, cc, cc)
three (n ∷ ns) a b t x y z h =
    absurd (omega (arith, ap (λ (l : List Node). length l) h, length-append (ns ++ t ∷ []) (a ∷ b ∷ []), length-append ns (t ∷ [])))

chosen : (turned : Bool) (m : Mark) (ns : List Node) (a b t x y z : Node) → (ns ++ t ∷ []) ++ a ∷ b ∷ [] ≡ x ∷ y ∷ z ∷ []
    → choice_node turned (tree_of t) (tree_of a) (tree_of b) m ≡ choice_node turned (tree_of x) (tree_of y) (tree_of z) m
chosen turned m ns a b t x y z h =
    let e = three ns a b t x y z h in
    ap (λ (n : Node). choice_node turned (tree_of n) (tree_of a) (tree_of b) m) e.0
    ∙ ap (λ (n : Node). choice_node turned (tree_of x) (tree_of n) (tree_of b) m) e.1
    ∙ ap (λ (n : Node). choice_node turned (tree_of x) (tree_of y) (tree_of n) m) e.2

pub boxed_last-requires : goal.boxed_last-requires
boxed_last-requires c =
    omega (arith, c.requires, ap length c.in_ok-one.ensures, length-append c.last_two.new.nodes.items (c.in_ok-one.one.value ∷ c.in_ok-one.other.value ∷ []))

pub returns-then-turned : goal.returns-then-turned
returns-then-turned c x y z m is =
    let test = c.in_ok-test.test in
    let one = c.in_ok-one.one in
    let other = c.in_ok-one.other in
    if_tree test other one m
    ∙ ap (λ b. choice_node b (tree_of test.value) (tree_of one.value) (tree_of other.value) m) (sym c.if-turned.true)
    ∙ chosen c.args.turned m c.boxed_last.new.nodes.items one.value other.value test.value x y z
    (sym (c.in_ok-one.ensures ∙ ap (λ l. l ++ one.value ∷ other.value ∷ []) c.in_ok-test.ensures) ∙ is)

pub returns : goal.returns
returns c x y z m is =
    let test = c.in_ok-test.test in
    let one = c.in_ok-one.one in
    let other = c.in_ok-one.other in
    if_tree test one other m
    ∙ ap (λ b. choice_node b (tree_of test.value) (tree_of one.value) (tree_of other.value) m) (sym c.if-turned.false)
    ∙ chosen c.args.turned m c.boxed_last.new.nodes.items one.value other.value test.value x y z
    (sym (c.in_ok-one.ensures ∙ ap (λ l. l ++ one.value ∷ other.value ∷ []) c.in_ok-test.ensures) ∙ is)
