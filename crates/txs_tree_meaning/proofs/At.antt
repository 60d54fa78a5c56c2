-- The tree of a node of a kind.
use Rattle.std.proofs.Common.{◌≡◌, Bool, ap, ◌∙◌}
use Rattle.txs_value_data.specs.declared.fault.Span.{Span}
use Rattle.txs_tree_meaning.specs.View.{kind_tree, mark_of, tree_of}
use Rattle.txs_tree_meaning.specs.declared.node.Node.{Node}
use Rattle.txs_tree_meaning.specs.declared.node.NodeKind.{NodeKind}

pub at_tree : (n : Node) (k : NodeKind) (span : Span) (wanted : Bool) → n.kind ≡ k → n.span ≡ span → n.wanted ≡ wanted → tree_of n ≡ kind_tree k (mark_of span wanted)
at_tree n k span wanted is at so =
    ap (λ (x : NodeKind). kind_tree x (mark_of n.span n.wanted)) is ∙ ap (λ (x : Span). kind_tree k (mark_of x n.wanted)) at ∙ ap (λ (x : Bool). kind_tree k (mark_of span x)) so
