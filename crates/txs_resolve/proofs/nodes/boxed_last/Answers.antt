use Rattle.std.proofs.Common.{◌∷◌, [], ◌++◌, option_to_list, sym, ap, ◌∙◌}
use Rattle.txs_tree_meaning.specs.declared.node.Node.{Node}
use Rattle.txs_resolve.proofs.nodes.boxed_last.Goals as goal

pub returns : goal.returns
returns c =
    let rest = c.pop.new.self.items in
    c.pop.ensures.items ∙ ap (λ o. rest ++ option_to_list o) c.in-Some.is ∙ ap (λ (n : Node). rest ++ n ∷ []) (sym c.in_ok-new-in-Some.ensures.ok)
