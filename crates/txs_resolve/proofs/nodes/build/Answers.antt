use Rattle.std.proofs.Common.{◌≡◌}
use Rattle.txs_tree_meaning.specs.Tree.{Mark, Tree}
use Rattle.txs_tree_meaning.specs.View.{kind_tree}
use Rattle.txs_resolve_expand.specs.Expressions.{spot_mark}
use Rattle.txs_resolve.specs.Made.{IsMade}
use Rattle.txs_resolve.proofs.TreeRows.{made_of, some_of}
use Rattle.txs_resolve.proofs.nodes.build.Goals as goal

pub kind_of-requires : goal.kind_of-requires
kind_of-requires c m =
    let u = c.requires c.if-parts.false m in
    (u.0, made_of c.args.special c.args.parts.items.items m u.0 u.1)

pub returns : goal.returns
returns c t made =
    let m = spot_mark c.args.spot in
    let form = c.args.special in
    let ns = c.args.parts.items.items in
    c.push.ensures t (some_of c.kind_of.result c.ok.result (λ k. (m : Mark) (t : Tree) → IsMade form ns m t → kind_tree k m ≡ t) (λ k. kind_tree k m ≡ t) c.ok.ensures.value (λ k h. h m t (made_of form ns m t (made c.if-parts.false))) c.kind_of.ensures)
