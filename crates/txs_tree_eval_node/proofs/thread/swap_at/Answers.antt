use Rattle.std.proofs.Common.{rules, ◌≡◌, Some, None, true, false}
use Rattle.txs_tree_eval_node.specs.Evaluated.{swap_of, is_broke}
use Rattle.txs_tree_eval_node.specs.Events.{seen_event}
use Rattle.txs_tree_eval_node.proofs.Forms.{swaps_to, swaps_broken, swaps_else}
use Rattle.txs_tree_eval_node.proofs.thread.swap_at.Goals as goal

pub returns-in-Swap : goal.returns-in-Swap
returns-in-Swap c =
    let e = seen_event c.args.event.now in
    let to : swap_of e.kind ≡ Some c.in-Swap.new = search rules in
    λ k g t. swaps_to k g e.R e.C t e.kind c.in-Swap.new to

pub returns-in-Broke : goal.returns-in-Broke
returns-in-Broke c =
    let e = seen_event c.args.event.now in
    let broken : is_broke e.kind ≡ true = search rules in
    λ k g t. swaps_broken k g e.R e.C t e.kind broken

pub returns-in_default : goal.returns-in_default
returns-in_default c =
    let e = seen_event c.args.event.now in
    let other : swap_of e.kind ≡ None = search rules in
    let whole : is_broke e.kind ≡ false = search rules in
    λ k g t. swaps_else k g e.R e.C t e.kind other whole
