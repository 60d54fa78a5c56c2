use Rattle.std.proofs.Common.{rules, ◌≡◌, ℕ, true, length, refl, sym, ap, ◌∙◌}
use Rattle.txs_tree_meaning.specs.Tree.{count}
use Rattle.txs_tree_meaning.specs.View.{trees_of}
use Rattle.txs_tree_meaning.proofs.Trees.{loop_node}
use Rattle.txs_check.specs.declared.place.Target.{Target}
use Rattle.txs_check.specs.declared.place.Target.TheVariants.{Nearest}
use Rattle.txs_check.specs.declared.place.Zone.{Zone}
use Rattle.txs_check.specs.Rows.{place_behind}
use Rattle.txs_check.proofs.Lists.{count_nodes}
use Rattle.txs_check.proofs.walk.place_behind.Goals as goal

pub returns-in-Loop : goal.returns-in-Loop
returns-in-Loop c =
    let ns = c.in-Loop.values.items in
    let e = loop_node c.args.node.now c.in-Loop.values c.in-Loop.field-1 ns c.in-Loop.field-1.value c.in-Loop.is refl refl in
    let many : c.len.result ≡ length ns = search rules in
    let same : c.len.result ≡ count (trees_of ns) = many ∙ sym (count_nodes ns) in
    let made : ℕ → Zone × Target = λ k. (c.args.zone, Nearest k true) in
    ap made same ∙ sym (ap (place_behind c.args.zone c.args.target) e)
