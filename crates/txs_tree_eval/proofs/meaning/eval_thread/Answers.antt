use Rattle.std.proofs.Common.{◌≡◌, [], ap, length, sym, subst, subst₂, IfOk}
use Rattle.txs_tree_eval.specs.Told.{Accounts}
use Rattle.txs_tree_eval_node.specs.Evaluated.{thread_state}
use Rattle.txs_tree_eval_node.specs.Events.{seen_events}
use Rattle.txs_tree_meaning.specs.Known.{known}
use Rattle.txs_tree_meaning.specs.Sound.{SoundCells, SoundFunctions}
use Rattle.txs_tree_meaning.specs.View.{functions_of}
use Rattle.txs_tree_eval_node.proofs.Leaf.{length-seen}
use Rattle.txs_tree_eval.proofs.Ends.{whole_of, sound_body, told_account}
use Rattle.txs_tree_eval.proofs.meaning.eval_thread.Goals as goal

pub new-context-requires : goal.new-context-requires
new-context-requires c =
    let functions = subst (λ fs. SoundFunctions [] (functions_of fs)) (sym c.functions.ensures) c.is_sound.ensures.functions in
    let cells = subst₂ (λ fs ds. SoundCells (known (functions_of fs)) ds) (sym c.functions.ensures) (sym c.cells.ensures) c.is_sound.ensures.cells in
    record { functions = functions; cells = cells }

pub evaluate-end-requires : goal.evaluate-end-requires
evaluate-end-requires c =
    let p = c.args.program.now in
    let whole = whole_of c.new-context.result c.cells.result.now p.cells c.functions.result.now p.functions c.args.turns _ c.new-context.ensures c.cells.ensures c.functions.ensures in
    sound_body c.threads.result.now p c.args.thread c.index-threads-thread.result c.threads.ensures.value c.requires c.index-threads-thread.is c.args.turns c.new-context.result whole (length c.new-locals.result.items) (ap length c.new-locals.ensures.items) c.threads.ensures.sound

pub returns : goal.returns
returns c =
    let p = c.args.program.now in
    let whole = whole_of c.new-context.result c.cells.result.now p.cells c.functions.result.now p.functions c.args.turns _ c.new-context.ensures c.cells.ensures c.functions.ensures in
    let told = subst (λ t. IfOk c.tell_thread.result (λ m. Accounts m (length c.args.events.now) (thread_state t) c.evaluate-end.result)) c.into_thread.ensures c.tell_thread.ensures in
    let many : length c.args.events.now ≡ length (seen_events c.args.events.now) = sym (length-seen c.args.events.now) in
    told_account c.threads.result.now p c.args.thread c.index-threads-thread.result c.threads.ensures.value c.requires c.index-threads-thread.is c.args.turns c.new-context.result whole c.threads.ensures.sound c.tell_thread.result (length c.args.events.now) (seen_events c.args.events.now) c.new-locals.result.items c.new-state.result c.evaluate-end.new.state c.evaluate-end.result many
    c.new-locals.ensures.items c.new-state.ensures.thread c.evaluate-end.ensures.value told
