use Rattle.std.proofs.Common.{◌≡◌, ℕ, zero, suc, ◌-◌, List, [], ◌∷◌, length, get_or, ap, ◌∙◌, arith}
use Rattle.txs_tree_meaning.specs.View.{tree_of, trees_of}
use Rattle.txs_tree_meaning.specs.declared.node.Node.{Node}
use Rattle.txs_tree_meaning.proofs.Rows.{nodes_at}
use Rattle.txs_opt.specs.Inline.{recurs, last_recurs}
use Rattle.txs_opt.proofs.tail.+recurs.Goals as goal

-- the last node decides
last_at : (ns : List Node) (i : ℕ) (n : Node) → suc i ≡ length ns → n ≡ get_or ns i n → recurs (tree_of n) ≡ last_recurs (trees_of ns)
last_at [] i n is at = absurd (omega (arith, is))
last_at (m ∷ []) zero n is at = ap (λ (x : Node). recurs (tree_of x)) at
last_at (m ∷ []) (suc i) n is at = absurd (omega (arith, is))
last_at (m ∷ k ∷ ns) zero n is at = absurd (omega (arith, is))
last_at (m ∷ k ∷ ns) (suc i) n is at = last_at (k ∷ ns) i n (omega (arith, is)) at

pub last_has_recur-has_recur-requires : goal.last_has_recur-has_recur-requires
last_has_recur-has_recur-requires t c =
    let ns = c.args.nodes.now in
    (omega (arith, c.decreases, nodes_at ns (length ns - 1) c.index-nodes-count.result (omega (arith, c.if-count-eq0.false)) c.index-nodes-count.is), tt)

pub last_has_recur-returns : goal.last_has_recur-returns
last_has_recur-returns t c =
    let ns = c.args.nodes.now in
    c.has_recur.ensures ∙ last_at ns (length ns - 1) c.index-nodes-count.result (omega (arith, c.if-count-eq0.false)) c.index-nodes-count.is
