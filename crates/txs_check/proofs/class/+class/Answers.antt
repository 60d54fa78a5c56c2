use Rattle.std.proofs.Common.{sym, ap, ◌∙◌}
use Rattle.txs_tree_meaning.specs.View.{tree_of}
use Rattle.txs_check.specs.Signatures.{joined, class_above, class_in_all, known_as}
use Rattle.txs_check.proofs.Rows.{class_rows}
use Rattle.txs_check.proofs.class.+class.Goals as goal

pub class_of-returns : goal.class_of-returns
class_of-returns t c =
    let ks = known_as c.args.signatures.now in
    let e = tree_of c.args.node.now in
    let behind = c.join-behind.ensures ∙ (λ i. joined (c.class_of_all.ensures i) (c.class_of_all-2.ensures i)) in
    let parts = c.join-together.ensures ∙ (λ i. joined (c.class_of_all-3.ensures i) (behind i)) in
    let rows = ap (λ r. joined (class_in_all ks r.one) (joined (class_in_all ks r.two) (class_in_all ks r.three))) (sym c.parts.ensures) in
    c.class_above.ensures ∙ ap (λ x. class_above ks e x) (parts ∙ rows) ∙ class_rows ks e
