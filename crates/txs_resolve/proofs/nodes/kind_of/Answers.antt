use Rattle.std.proofs.Common.{◌≡◌, ◌++◌, ◌∷◌, [], List, sym, ap, ◌∙◌, subst}
use Rattle.txs_tree_meaning.specs.View.{tree_of}
use Rattle.txs_tree_meaning.specs.declared.node.Node.{Node}
use Rattle.txs_resolve_expand.specs.Expressions.{single_node}
use Rattle.txs_resolve.specs.Made.{IsMade}
use Rattle.txs_resolve.proofs.NodeTrees.{Enough, enough}
use Rattle.txs_resolve.proofs.nodes.kind_of.Goals as goal

pub boxed_last-requires : goal.boxed_last-requires
boxed_last-requires c = subst (λ s. Enough s c.args.parts.items) c.in-Single.is (enough c.args.special c.args.parts.items c.requires)

pub couple_kind-requires : goal.couple_kind-requires
couple_kind-requires c = subst (λ s. Enough s c.args.parts.items) c.in-Pair.is (enough c.args.special c.args.parts.items c.requires)

pub choice_kind-requires : goal.choice_kind-requires
choice_kind-requires c = subst (λ s. Enough s c.args.parts.items) c.in-Choice.is (enough c.args.special c.args.parts.items c.requires)

pub binding_kind-requires : goal.binding_kind-requires
binding_kind-requires c = subst (λ s. Enough s c.args.parts.items) c.in-Binding.is (enough c.args.special c.args.parts.items c.requires)

pub binding_kind-requires-in-Hidden : goal.binding_kind-requires-in-Hidden
binding_kind-requires-in-Hidden c = subst (λ s. Enough s c.args.parts.items) c.in-Hidden.is (enough c.args.special c.args.parts.items c.requires)

pub returns-in-Row : goal.returns-in-Row
returns-in-Row c m t made = c.row_kind.ensures m ∙ sym (subst (λ s. IsMade s c.args.parts.items m t) c.in-Row.is made)

-- the only node, told in two ways
only : (ns : List Node) (b n : Node) → ns ++ b ∷ [] ≡ n ∷ [] → b ≡ n
only [] b n h = cc
only (x ∷ []) b n h = absurd cc
only (x ∷ y ∷ ns) b n h = absurd cc

pub returns-in_ok-boxed_last-in-Single : goal.returns-in_ok-boxed_last-in-Single
returns-in_ok-boxed_last-in-Single c m t made =
    let h = subst (λ s. IsMade s c.args.parts.items m t) c.in-Single.is made in
    c.single_kind.ensures m
    ∙ ap (λ (z : Node). single_node c.in-Single.single (tree_of z) m) (only c.boxed_last.new.nodes.items c.in_ok-boxed_last-in-Single.field-0.value h.0 (sym c.in_ok-boxed_last-in-Single.ensures ∙ h.1))
    ∙ sym h.2
