use Rattle.std.proofs.Common.{rules, ◌≡◌, true, false}
use Rattle.txs_tree_eval_node.specs.Evaluated.{is_swap_to}
use Rattle.txs_tree_eval_node.proofs.Forms.{only_one, reset_as}
use Rattle.txs_tree_eval_node.proofs.thread.reset_at.Goals as goal

pub returns-then-not-is_swap_to : goal.returns-then-not-is_swap_to
returns-then-not-is_swap_to c =
    let k = c.args.event.now.kind.now in
    let v = c.in-Some.value in
    let one = only_one c.pop.new.self.items c.args.args.items v c.in-Some.ensures.items c.requires in
    let other : false ≡ is_swap_to v k = search rules in
    λ t. reset_as v false k t c.args.args.items one other

pub returns : goal.returns
returns c =
    let k = c.args.event.now.kind.now in
    let v = c.in-Some.value in
    let one = only_one c.pop.new.self.items c.args.args.items v c.in-Some.ensures.items c.requires in
    let same : true ≡ is_swap_to v k = search rules in
    λ t. reset_as v true k t c.args.args.items one same
