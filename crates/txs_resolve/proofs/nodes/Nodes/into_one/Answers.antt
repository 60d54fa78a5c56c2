use Rattle.std.proofs.Common.{◌≡◌, ◌++◌, ◌∷◌, [], false, List, Option, Some, None, IfSome, map, option_to_list, rules, sym, ap, ◌∙◌}
use Rattle.txs_tree_meaning.specs.Tree.{Tree}
use Rattle.txs_tree_meaning.specs.View.{tree_of}
use Rattle.txs_tree_meaning.specs.declared.node.Node.{Node}
use Rattle.txs_resolve.specs.BodyGiven.{Shows}
use Rattle.txs_resolve.specs.declared.nodes.Nodes.{Nodes}
use Rattle.txs_resolve.proofs.nodes.Nodes.into_one.Goals as goal

one_tree : (ns : List Node) (n : Node) (t : Tree) → map tree_of (ns ++ n ∷ []) ≡ t ∷ [] → tree_of n ≡ t
one_tree [] n t h = cc
one_tree (m ∷ []) n t h = absurd cc
one_tree (m ∷ k ∷ ns) n t h = absurd cc

last_shown : (nodes : Nodes) (ns : List Node) (o : Option Node) → nodes.lost ≡ false → nodes.items.items ≡ ns ++ option_to_list o → IfSome o (λ n. (t : Tree) → Shows nodes (t ∷ []) → tree_of n ≡ t)
last_shown nodes ns None kept is = tt
last_shown nodes ns (Some n) kept is = λ t shows. one_tree ns n t (sym (ap (map tree_of) is) ∙ shows kept)

pub returns-clause-node : goal.returns-clause-node
returns-clause-node c = last_shown c.args.self c.pop.new.self.items c.pop.result (search rules) c.pop.ensures.items
