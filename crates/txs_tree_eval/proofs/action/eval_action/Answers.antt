use Rattle.std.proofs.Common.{◌≡◌, [], length, sym, ap, subst, subst₂, IfOk}
use Rattle.txs_tree_eval.specs.ActionTold.{ActionAccounts}
use Rattle.txs_tree_eval_node.specs.Evaluated.{thread_state}
use Rattle.txs_tree_eval_node.specs.Events.{seen_events}
use Rattle.txs_tree_meaning.specs.Known.{known}
use Rattle.txs_tree_meaning.specs.Sound.{SoundCells, SoundFunctions}
use Rattle.txs_tree_meaning.specs.View.{functions_of}
use Rattle.txs_tree_eval_node.proofs.Leaf.{length-seen}
use Rattle.txs_tree_eval.proofs.ActionEnds.{sound_callee, told_account}
use Rattle.txs_tree_eval.proofs.Ends.{whole_of}
use Rattle.txs_tree_eval.proofs.action.eval_action.Goals as goal

pub new-context-requires : goal.new-context-requires
new-context-requires c =
    let functions = subst (λ fs. SoundFunctions [] (functions_of fs)) (sym c.functions.ensures) c.is_sound.ensures.functions in
    let cells = subst₂ (λ fs ds. SoundCells (known (functions_of fs)) ds) (sym c.functions.ensures) (sym c.cells.ensures) c.is_sound.ensures.cells in
    record { functions = functions; cells = cells }

pub apply_outside-end-requires : goal.apply_outside-end-requires
apply_outside-end-requires c =
    let p = c.args.program.now in
    let whole = whole_of c.new-context.result c.cells.result.now p.cells c.functions.result.now p.functions c.args.turns _ c.new-context.ensures c.cells.ensures c.functions.ensures in
    record {
      world = ap (λ x. x.world) whole;
      callee = sound_callee p c.args.turns c.new-context.result whole c.args.callee c.args.span c.args.values.now c.in_ok-copies.copies.items c.in_ok-copies.ensures c.requires;
    }

pub returns : goal.returns
returns c =
    let p = c.args.program.now in
    let whole = whole_of c.new-context.result c.cells.result.now p.cells c.functions.result.now p.functions c.args.turns _ c.new-context.ensures c.cells.ensures c.functions.ensures in
    let told = subst (λ t. IfOk c.tell_action.result (λ m. ActionAccounts m (length c.args.events.now) (thread_state t) c.apply_outside-end.result)) c.into_thread.ensures c.tell_action.ensures in
    let many : length c.args.events.now ≡ length (seen_events c.args.events.now) = sym (length-seen c.args.events.now) in
    told_account p c.args.turns c.new-context.result whole c.args.callee c.args.span c.args.values.now c.is_sound.ensures c.requires c.tell_action.result (length c.args.events.now) (seen_events c.args.events.now) c.in_ok-copies.copies.items c.of_action-state.result c.apply_outside-end.new.state c.apply_outside-end.result many
    c.in_ok-copies.ensures c.of_action-state.ensures.thread c.apply_outside-end.ensures told
