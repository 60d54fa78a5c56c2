use Rattle.std.proofs.Common.{◌≡◌, IfSome, subst, sym, ◌∙◌}
use Rattle.std.proofs.lemmas.Bool.{false≢true}
use Rattle.txs_tree_meaning.specs.View.{kind_tree}
use Rattle.txs_tree_meaning.specs.declared.node.Node.{Node}
use Rattle.txs_resolve_expand.specs.Expressions.{spot_mark}
use Rattle.txs_resolve.specs.BodyGiven.{IsBehind}
use Rattle.txs_resolve.proofs.TreeRows.{behind, put_behind, was_some}
use Rattle.txs_resolve.proofs.nodes.push.Goals as goal

pub returns-then-is_some : goal.returns-then-is_some
returns-then-is_some c t made kept =
    let before = c.args.nodes.now.items.items in
    let now = c.push.new.self.items in
    let n : Node = record { kind = c.in-Some.kind; span = c.args.spot.span; wanted = c.args.spot.wanted } in
    let put = behind c.push.result c.ok.result before now n t c.ok.ensures.value c.push.ensures.items (subst (λ o. IfSome o (λ k. kind_tree k (spot_mark c.args.spot) ≡ t)) c.in-Some.is made) in
    (kept, put_behind before now t (was_some c.ok.result (IsBehind before now t) (sym c.is_some.ensures ∙ c.if-is_some.true) put))

pub returns : goal.returns
returns c t made kept = absurd (false≢true (sym kept))
