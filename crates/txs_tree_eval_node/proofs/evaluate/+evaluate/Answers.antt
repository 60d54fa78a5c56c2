use Rattle.std.proofs.Common.{rules, suc, ◌≡◌, ◌+◌, ◌-◌, ◌*◌, ◌<◌, ◌≤◌, true, false, [], ◌∷◌, ◌++◌, length, take, drop, Ok, Err, None, Some, OnOk, is_some, option_copied, Vec, Global, zero-add, sym, ap, ◌∙◌, subst, subst₂, refl, arith}
use Rattle.std.proofs.lemmas.List.{append-nil, drop_all, length_push, length-drop, take_all}
use Rattle.txs_world_protocol.specs.Ask.{Writes, buffered}
use Rattle.txs_world_protocol.specs.SeenEvent.{home}
use Rattle.txs_frame.specs.Frame.{phase_work, set_writes, sends_of_commit}
use Rattle.txs_value_apply.specs.Core.{is_false}
use Rattle.txs_value_cell.specs.Cells.{validators_of, validator_at}
use Rattle.txs_value_cell.specs.Forms.{rule, cell_of}
use Rattle.txs_value_data.specs.Limits.{reruns}
use Rattle.txs_value_data.specs.Places.{nth}
use Rattle.txs_value_data.specs.declared.value.CellId.{CellId}
use Rattle.txs_value_data.specs.declared.value.Value.{Value}
use Rattle.txs_tree_eval_node.specs.Evaluated.{after, has_all, Misses, seen_means, BodyStops, Runs, Reruns, EndComes, EndsNone, body_means, AnswersAt, Finishes, ReadyIn, retried, SoundCommutes, part, is_on, forms_in, calls_in, Yields, GivesAll, Steps, means, all_mean, do_means, let_means, locals_mean, if_means, strict_means, loop_means, turns_mean, form_means, inside_means, outside_means, update_means, swap_means, applied, redone_means, final_means, dosync_means, transacting, at_end, eat_means, ended, closing, closes, end_stop, with_todo, thread_state, tx_run, PutAccepted, PutStops, accept_means, accepted_means, made_means}
use Rattle.txs_tree_eval_transaction.specs.Worked.{Gives, Stops, Told, ToldOf, of_one, tx_state}
use Rattle.txs_tree_meaning.specs.Meaning.{Completes, Waits, result_of}
use Rattle.txs_tree_eval_node.specs.Setting.{callable, deepest, zone_in, zone_on, on_view}
use Rattle.txs_tree_meaning.specs.Sound.{SoundCall, SoundCallee, SoundCells, SoundValidator, SoundTree, SoundAll, SoundDo, SoundLet, nodes, nodes_in, in_thread, in_dosync}
use Rattle.txs_tree_meaning.specs.Right.{up_to}
use Rattle.txs_tree_meaning.specs.Thread.{is_retry, eats_tx, uneaten, reads, resets, sends_or_holds}
use Rattle.txs_tree_meaning.specs.Transaction.{merged}
use Rattle.txs_tree_meaning.specs.Tree.{count}
use Rattle.txs_tree_meaning.specs.View.{tree_of, trees_of, mark_of, function_of, functions_of}
use Rattle.txs_tree_eval_transaction.specs.Views.{PlainView, PlainTxView, or_nil, plain_view, plain_world, plain_tx_view, plain_tx_world, is_whole, whole_view, world_of}
use Rattle.txs_tree_eval_node.proofs.Acting.{redone_made, redone_unmade, acted_inside, acted_outside, sound_at, redone_stop, redone_more, phase_sound, finals_stop, finals_full, finals_refused, finals_done, commutes_deepest, accept_stop, accept_answer, accepted_stop, accepted_more, made_stop, made_then}
use Rattle.txs_tree_eval_node.proofs.Called.{in_room, room, room-deeper, room_on, room_deepest, callee_deepest, validator_sound, depth_left, is_function, as_many, called_body, pure_here}
use Rattle.txs_tree_meaning.proofs.Soundness.{nodes-some}
use Rattle.txs_tree_eval_node.proofs.Counting.{item_smaller, nodes-last}
use Rattle.txs_tree_eval_node.proofs.Ending.{unmatched, eats_none, eats_end, eats_more, eats_unrun, retried_end, retried_more, rerun_outdated, rerun_other, rerun_stop, rerun_run, closes_todo, closes_other, zone_running, body_seen, misses, body_stop, body_done, body_keeps, ended_unrun, ended_closed, ends_viewed, ends_unviewed, end_stops, running, nowhere_running, joined, begun}
use Rattle.txs_tree_eval_node.proofs.Evaluation.{halts_answers, StopsAt, collects, collects-start, cell_stop, if_stop, strict_stop, strict_done, rebound, stops_steps, stops_gives, local_done, all_more, all_stop, do_stop, do_done, locals_more, locals_stop, let_stop, let_done, loop_stop, loop_done, turn_value, turn_stop, turn_recur, take_kept, called, if_goes, args_stop, acted, const_done}
use Rattle.txs_tree_eval_node.proofs.Forms.{IsOther, MeetsEvent, untaken_inside, untaken_outside, none_outside, refused_outside, answered, gives_at, reset_eaten, updates_ref, update_takes, update_unbegun, update_stop, update_done, update_inside, called_alone, core_done, vector_done, call_done, print_done, swap_stop, swap_done, put_inside, send_inside, put_outside, update_outside, put_takes, look_inside, look_outside, send_outside}
use Rattle.txs_tree_eval_node.proofs.Leaf.{event_left}
use Rattle.txs_tree_eval_node.proofs.Recurs.{recurs_many, never_recurs}
use Rattle.txs_tree_eval_node.specs.Events.{seen_event}
use Rattle.txs_tree_meaning.proofs.Soundness.{SoundAll-from, SoundLet-from, SoundDo-parts, count-from}
use Rattle.txs_tree_eval_node.proofs.Shaping.{halted, kept_by, kept_then, kept_as, copied, stepped, strict_sound, strict_smaller, strict_finishes, strict_whole, form_sound, form_smaller, form_whole}
use Rattle.txs_tree_eval_node.specs.Shapes.{IsShape, form_of_act}
use Rattle.txs_tree_eval_transaction.specs.declared.stop.ThreadStop.TheVariants.{Memory}
use Rattle.txs_tree_eval_node.proofs.evaluate.+evaluate.Goals as goal

pub evaluate-unreachable-requires : goal.evaluate-unreachable-requires
evaluate-unreachable-requires t c =
    let n = c.args.node.now in
    let out = c.evaluate_tail.new.state in
    let is = subst (λ s. Steps c.args.context.now (Ok s) out (means c.args.context.now (tree_of n) c.args.locals.now.items c.args.state.now)) c.in-Recur.is c.in_ok-value.ensures.value in
    never_recurs c.args.context.now c.is_sound.ensures (tree_of n) (length c.args.locals.now.items) c.args.locals.now.items c.args.state.now out c.in-Recur.field-0.items c.requires is

pub call-function-function-requires : goal.call-function-function-requires
call-function-function-requires t c = search (rules, is_function c.args.context.now c.args.number (length c.args.values.items) c.requires)

pub call-deeper-inner-requires : goal.call-deeper-inner-requires
call-deeper-inner-requires t c = depth_left c.args.context.now c.args.number (length c.args.values.items) c.requires

pub call-run_turns-requires : goal.call-run_turns-requires
call-run_turns-requires t c =
    let s = c.args.context.now in
    let fun = function_of c.function-function.result.now in
    let number : c.from.result ≡ c.args.number = c.from.ensures in
    let there : nth (functions_of s.functions) c.args.number ≡ Some fun = subst (λ f. nth (functions_of s.functions) f ≡ Some fun) number c.function-function.ensures.value in
    let left = depth_left s c.args.number (length c.args.values.items) c.requires in
    let sound = called_body s c.args.number (length c.args.values.items) c.requires fun c.function-function.ensures.sound there in
    let smaller : room c.deeper-inner.result + (16 * nodes fun.body + 1) < room s = subst (λ x. room x + (16 * nodes fun.body + 1) < room s) (sym c.deeper-inner.ensures) (room-deeper s c.args.number fun left there) in
    let many : length c.args.values.items ≡ length c.args.values.items - 0 = omega arith in
    (search (rules, smaller), (omega arith, subst₂ (λ x k. SoundTree (callable x) (zone_in x) (length c.args.values.items) (Some k) fun.body) (sym c.deeper-inner.ensures) many sound))

pub call-returns : goal.call-returns
call-returns t c =
    let s = c.args.context.now in
    let fun = function_of c.function-function.result.now in
    let vs = c.args.values.items in
    let number : c.from.result ≡ c.args.number = c.from.ensures in
    let there : nth (functions_of s.functions) c.args.number ≡ Some fun = subst (λ f. nth (functions_of s.functions) f ≡ Some fun) number c.function-function.ensures.value in
    let left = depth_left s c.args.number (length vs) c.requires in
    let as_given : length vs ≡ length vs - 0 = omega arith in
    let many : fun.parameters ≡ length vs - 0 = as_many s c.args.number (length vs) c.requires fun c.function-function.ensures.sound there ∙ as_given in
    let many_turns : c.from-turns.result + 1 ≡ suc s.turns = omega (arith, c.from-turns.ensures, c.turns.ensures) in
    called s c.args.number fun left there (c.from-turns.result + 1) (length vs - 0) vs (take 0 vs) (drop 0 vs) c.args.state.now c.run_turns.new.state c.run_turns.result c.deeper-inner.result many_turns c.deeper-inner.ensures many (search rules) (search rules) c.run_turns.ensures.value

pub evaluate_all-loop-node-init : goal.evaluate_all-loop-node-init
evaluate_all-loop-node-init t c =
    let n = c.args.context.now in
    let empty : c.new-values.result.items ≡ [] = search rules in (
      refl,
      ap (λ vs. length vs + count (trees_of c.args.nodes.now)) empty ∙ zero-add (count (trees_of c.args.nodes.now)),
      c.requires,
      collects-start (forms_in n) (calls_in n) n.turns (is_on n.world) c.new-values.result.items (trees_of c.args.nodes.now) c.args.locals.now.items (part n.world c.args.state.now) empty,
    )

pub evaluate_all-evaluate-requires : goal.evaluate_all-evaluate-requires
evaluate_all-evaluate-requires t c =
    let ns = c.args.nodes.now in
    let smaller = item_smaller ns c.loop-node.node-index c.node-item.result c.loop-node-test.true c.node-item.is in
    let sound = (SoundAll-from ns c.loop-node.node-index c.node-item.result c.loop-node-test.true c.node-item.is (callable c.args.context.now) (zone_in c.args.context.now) (length c.args.locals.now.items) c.loop-node.invariant.2).0 in
    (search (rules, in_room c.args.context.now _ _ smaller), subst (λ l. SoundTree (callable c.args.context.now) (zone_in c.args.context.now) (length l) None (tree_of c.node-item.result)) (sym c.loop-node.invariant.0) sound)

pub evaluate_all-returns-in_err-value-clause-value : goal.evaluate_all-returns-in_err-value-clause-value
evaluate_all-returns-in_err-value-clause-value t c =
    let n = c.args.context.now in
    let out = c.evaluate.new.state in
    let y = c.in_err-value.field-0.0 in
    let rest = all_stop n c.args.nodes.now c.loop-node.node-index c.node-item.result c.loop-node-test.true c.node-item.is c.args.locals.now.items c.loop-node.locals.items c.loop-node.state out c.loop-node.invariant.0 c.loop-node.values.items y c.in_err-value.ensures.value in
    let whole = subst (λ m. StopsAt n y out m) (sym c.loop-node.invariant.3) rest in
    let err : c.from_residual.result ≡ Err y = halted c.from_residual.result y c.from_residual.ensures.1 in
    subst (λ r. GivesAll n (λ (v : Vec Value Global). v.items) r out (all_mean n (trees_of c.args.nodes.now) c.args.locals.now.items c.args.state.now)) (sym err) whole

pub evaluate_all-loop-node-preserved : goal.evaluate_all-loop-node-preserved
evaluate_all-loop-node-preserved t c =
    let n = c.args.context.now in
    let ns = c.args.nodes.now in
    let i = c.loop-node.node-index in
    let lt = c.loop-node-test.true in
    let is = c.node-item.is in
    let pushed : c.push.new.self.items ≡ c.loop-node.values.items ++ c.in_ok-value.value ∷ [] = c.in_ok-push.ensures.items in
    let longer = ap length pushed ∙ length_push c.loop-node.values.items c.in_ok-value.value in
    let fewer = count-from ns i c.node-item.result lt is in (
      c.in_ok-value.ensures.kept ∙ c.loop-node.invariant.0,
      omega (arith, longer, fewer, c.loop-node.invariant.1),
      (SoundAll-from ns i c.node-item.result lt is (callable c.args.context.now) (zone_in c.args.context.now) (length c.args.locals.now.items) c.loop-node.invariant.2).1,
      c.loop-node.invariant.3 ∙ all_more n ns i c.node-item.result lt is c.args.locals.now.items c.loop-node.locals.items c.loop-node.state c.evaluate.new.state c.loop-node.invariant.0 c.loop-node.values.items c.push.new.self.items c.in_ok-value.value c.in_ok-value.ensures.value pushed,
    )

pub evaluate_all-returns-clause-count : goal.evaluate_all-returns-clause-count
evaluate_all-returns-clause-count t c =
    let end = ap (λ ns. count (trees_of ns)) (drop_all c.loop-node.node-index c.args.nodes.now c.loop-node-test.false) in
    omega (arith, end, c.loop-node.invariant.1)

pub evaluate_do-evaluate_all-requires : goal.evaluate_do-evaluate_all-requires
evaluate_do-evaluate_all-requires t c =
    let ns = c.args.nodes.now in
    let before = c.in-Some.before.now in
    let last = c.in-Some.last.now in
    let whole : ns ≡ before ++ last ∷ [] = c.in-Some.ensures.cases.0 in
    let sound = SoundDo-parts (callable c.args.context.now) (zone_in c.args.context.now) (length c.args.locals.now.items) c.requires.tail before last (subst (λ l. SoundDo (callable c.args.context.now) (zone_in c.args.context.now) (length c.args.locals.now.items) c.requires.tail (trees_of l)) whole c.requires.sound) in
    let smaller : 16 * nodes_in (trees_of before) + 2 < 16 * nodes_in (trees_of ns) + 3 = omega (arith, nodes-last ns before last whole) in
    (search (rules, in_room c.args.context.now _ _ smaller), sound.0)

pub evaluate_do-returns-in_err-evaluate_all-clause-value : goal.evaluate_do-returns-in_err-evaluate_all-clause-value
evaluate_do-returns-in_err-evaluate_all-clause-value t c =
    let n = c.args.context.now in
    let env = c.args.locals.now.items in
    let out = c.evaluate_all.new.state in
    let y = c.in_err-evaluate_all.field-0.0 in
    let whole : c.args.nodes.now ≡ c.in-Some.before.now ++ c.in-Some.last.now ∷ [] = c.in-Some.ensures.cases.0 in
    let stopped : c.from_residual.result ≡ Err y = halted c.from_residual.result y c.from_residual.ensures.1 in
    stops_steps (has_all n.world) c.from_residual.result y (part n.world out) (do_means n (trees_of c.args.nodes.now) env c.args.state.now) stopped
    (do_stop n c.in-Some.before.now c.args.nodes.now c.in-Some.last.now env c.args.state.now whole (λ (vs : Vec Value Global). vs.items) y out c.in_err-evaluate_all.ensures.value)

pub evaluate_do-evaluate_tail-requires : goal.evaluate_do-evaluate_tail-requires
evaluate_do-evaluate_tail-requires t c =
    let ns = c.args.nodes.now in
    let before = c.in-Some.before.now in
    let last = c.in-Some.last.now in
    let whole : ns ≡ before ++ last ∷ [] = c.in-Some.ensures.cases.0 in
    let sound = SoundDo-parts (callable c.args.context.now) (zone_in c.args.context.now) (length c.args.locals.now.items) c.requires.tail before last (subst (λ l. SoundDo (callable c.args.context.now) (zone_in c.args.context.now) (length c.args.locals.now.items) c.requires.tail (trees_of l)) whole c.requires.sound) in
    let smaller : 16 * nodes (tree_of last) < 16 * nodes_in (trees_of ns) + 3 = omega (arith, nodes-last ns before last whole) in
    (search (rules, in_room c.args.context.now _ _ smaller), record { tail = c.requires.tail; sound = subst (λ l. SoundTree (callable c.args.context.now) (zone_in c.args.context.now) (length l) c.requires.tail (tree_of last)) (sym c.in_ok-evaluate_all.ensures.kept) sound.1 })

pub evaluate_do-returns-clause-value : goal.evaluate_do-returns-clause-value
evaluate_do-returns-clause-value t c =
    let n = c.args.context.now in
    let whole : c.args.nodes.now ≡ c.in-Some.before.now ++ c.in-Some.last.now ∷ [] = c.in-Some.ensures.cases.0 in
    do_done n c.in-Some.before.now c.args.nodes.now c.in-Some.last.now c.args.locals.now.items c.args.state.now whole c.in_ok-evaluate_all.field-0.items c.evaluate_all.new.state c.in_ok-evaluate_all.ensures.value c.evaluate_all.new.locals.items c.in_ok-evaluate_all.ensures.kept c.evaluate_tail.result c.evaluate_tail.new.state c.evaluate_tail.ensures.value

pub evaluate_do-returns-clause-kept : goal.evaluate_do-returns-clause-kept
evaluate_do-returns-clause-kept t c =
    subst (λ l. OnOk c.evaluate_tail.result (c.evaluate_tail.new.locals.items ≡ l)) c.in_ok-evaluate_all.ensures.kept c.evaluate_tail.ensures.kept

pub evaluate_let-bind_locals-requires : goal.evaluate_let-bind_locals-requires
evaluate_let-bind_locals-requires t c =
    let some = nodes-some (tree_of c.args.body.now) in
    let smaller : 16 * nodes_in (trees_of c.args.nodes.now) + 2 < 16 * (nodes_in (trees_of c.args.nodes.now) + nodes (tree_of c.args.body.now)) + 2 = omega (arith, some) in
    (search (rules, in_room c.args.context.now _ _ smaller), c.requires.values)

pub evaluate_let-evaluate_tail-given-requires : goal.evaluate_let-evaluate_tail-given-requires
evaluate_let-evaluate_tail-given-requires t c =
    let smaller : 16 * nodes (tree_of c.args.body.now) < 16 * (nodes_in (trees_of c.args.nodes.now) + nodes (tree_of c.args.body.now)) + 2 = omega arith in
    (search (rules, in_room c.args.context.now _ _ smaller), record { tail = c.requires.body.tail; sound = subst (λ d. SoundTree (callable c.args.context.now) (zone_in c.args.context.now) d c.requires.body.tail (tree_of c.args.body.now)) (sym c.in_ok-bind_locals.ensures.count) c.requires.body.sound })

pub evaluate_loop-run_turns-given-requires : goal.evaluate_loop-run_turns-given-requires
evaluate_loop-run_turns-given-requires t c =
    let now = c.bind_locals.new.locals.items in
    let es = trees_of c.args.nodes.now in
    let body = tree_of c.args.body.now in
    let b = c.len-before.result in
    let place : b ≡ length c.args.locals.now.items = search rules in
    let counted = c.in_ok-bind_locals.ensures.count in
    let smaller : 16 * nodes body + 1 < 16 * (nodes_in es + nodes body) + 2 = omega arith in
    let low : b ≤ length now = omega (arith, place, counted) in
    let many : count es ≡ length now - b = omega (arith, place, counted) in
    (search (rules, in_room c.args.context.now _ _ smaller), (low, subst₂ (λ d k. SoundTree (callable c.args.context.now) (zone_in c.args.context.now) d (Some k) body) (sym counted) many c.requires.body))

pub run_turns-evaluate_tail-requires : goal.run_turns-evaluate_tail-requires
run_turns-evaluate_tail-requires t c =
    let smaller : 16 * nodes (tree_of c.args.body.now) < 16 * nodes (tree_of c.args.body.now) + 1 = omega arith in
    let tail = Some (length c.args.locals.now.items - c.args.before) in
    (search (rules, in_room c.args.context.now _ _ smaller), record { tail = tail; sound = subst (λ d. SoundTree (callable c.args.context.now) (zone_in c.args.context.now) d tail (tree_of c.args.body.now)) (sym c.loop-turn.invariant.1) c.requires.body })

pub run_turns-returns-in_err-value-clause-value : goal.run_turns-returns-in_err-value-clause-value
run_turns-returns-in_err-value-clause-value t c =
    let n = c.args.context.now in
    let body = tree_of c.args.body.now in
    let b = c.args.before in
    let old = c.args.locals.now.items in
    let now = c.loop-turn.locals.items in
    let out = c.loop-turn.state in
    let later = c.evaluate_tail.new.state in
    let d = length old - b in
    let k = c.args.turns - c.loop-turn._turn in
    let m = c.args.turns - (c.loop-turn._turn + 1) in
    let left : k ≡ suc m = omega (arith, c.loop-turn-test.true) in
    let many : length (drop b now) ≡ d = length-drop b now ∙ ap (λ l. l - b) c.loop-turn.invariant.1 in
    let y = c.in_err-value.field-0.0 in
    let rest = turn_stop n body b d k m (take b old) now out later left c.loop-turn.invariant.0 many y c.in_err-value.ensures.value in
    stops_gives (λ v. v) (has_all n.world) c.from_residual.result y (part n.world later) (turns_mean n c.args.turns d body (take b old) (drop b old) c.args.state.now) (halted c.from_residual.result y c.from_residual.ensures.1) (subst (λ w. StopsAt n y later w) (sym c.loop-turn.invariant.2) rest)

pub run_turns-returns-in-Value-clause-value : goal.run_turns-returns-in-Value-clause-value
run_turns-returns-in-Value-clause-value t c =
    let n = c.args.context.now in
    let body = tree_of c.args.body.now in
    let b = c.args.before in
    let old = c.args.locals.now.items in
    let now = c.loop-turn.locals.items in
    let out = c.loop-turn.state in
    let later = c.evaluate_tail.new.state in
    let d = length old - b in
    let k = c.args.turns - c.loop-turn._turn in
    let m = c.args.turns - (c.loop-turn._turn + 1) in
    let left : k ≡ suc m = omega (arith, c.loop-turn-test.true) in
    let many : length (drop b now) ≡ d = length-drop b now ∙ ap (λ l. l - b) c.loop-turn.invariant.1 in
    let is = subst (λ s. Steps n (Ok s) later (means n body now out)) c.in-Value.is c.in_ok-value.ensures.value in
    c.loop-turn.invariant.2 ∙ turn_value n body b d k m (take b old) now out later left c.loop-turn.invariant.0 many c.in-Value.value is

pub run_turns-loop-turn-preserved : goal.run_turns-loop-turn-preserved
run_turns-loop-turn-preserved t c =
    let n = c.args.context.now in
    let body = tree_of c.args.body.now in
    let b = c.args.before in
    let old = c.args.locals.now.items in
    let now = c.loop-turn.locals.items in
    let out = c.loop-turn.state in
    let later = c.evaluate_tail.new.state in
    let d = length old - b in
    let k = c.args.turns - c.loop-turn._turn in
    let m = c.args.turns - (c.loop-turn._turn + 1) in
    let left : k ≡ suc m = omega (arith, c.loop-turn-test.true) in
    let many : length (drop b now) ≡ d = length-drop b now ∙ ap (λ l. l - b) c.loop-turn.invariant.1 in
    let ws = c.in-Recur.values.items in
    let next = c.rebind.new.locals.items in
    let is = subst (λ s. Steps n (Ok s) later (means n body now out)) c.in-Recur.is c.in_ok-value.ensures.value in
    let sound = subst (λ l. SoundTree (callable c.args.context.now) (zone_in c.args.context.now) l (Some d) body) (sym c.loop-turn.invariant.1) c.requires.body in
    let counted : length ws ≡ d = recurs_many n c.is_sound.ensures body (length now) now out later ws d sound is in
    let low : b ≤ length now = omega (arith, c.requires.place, c.loop-turn.invariant.1) in
    let put : next ≡ take b now ++ ws = c.in_ok-rebind-in-Recur.ensures ∙ ap (λ l. take b l ++ ws) c.in_ok-value.ensures.kept in
    let bound = rebound b now next ws low put in (
      bound.0 ∙ c.loop-turn.invariant.0,
      omega (arith, bound.1, counted, c.requires.place),
      c.loop-turn.invariant.2 ∙ turn_recur n body b d k m (take b old) now out later left c.loop-turn.invariant.0 many ws next is bound.2,
    )

pub run_turns-returns-clause-value : goal.run_turns-returns-clause-value
run_turns-returns-clause-value t c =
    let n = c.args.context.now in
    let b = c.args.before in
    let old = c.args.locals.now.items in
    let over : c.args.turns - c.loop-turn._turn ≡ 0 = omega (arith, c.loop-turn-test.false) in
    c.loop-turn.invariant.2 ∙ ap (λ k. turns_mean n k (length old - b) (tree_of c.args.body.now) (take b old) (drop b c.loop-turn.locals.items) c.loop-turn.state) over

pub bind_locals-evaluate-requires : goal.bind_locals-evaluate-requires
bind_locals-evaluate-requires t c =
    let ns = c.args.nodes.now in
    let fewer = item_smaller ns c.loop-node.node-index c.node-item.result c.loop-node-test.true c.node-item.is in
    (search (rules, in_room c.args.context.now _ _ fewer), (SoundLet-from ns c.loop-node.node-index c.node-item.result c.loop-node-test.true c.node-item.is (callable c.args.context.now) (zone_in c.args.context.now) (length c.loop-node.locals.items) c.loop-node.invariant.2).0)

pub bind_locals-returns-in_err-value-clause-value : goal.bind_locals-returns-in_err-value-clause-value
bind_locals-returns-in_err-value-clause-value t c =
    let n = c.args.context.now in
    let out = c.evaluate.new.state in
    let y = c.in_err-value.field-0.0 in
    let now = c.loop-node.locals.items in
    let rest = locals_stop n c.args.nodes.now c.loop-node.node-index c.node-item.result c.loop-node-test.true c.node-item.is now now c.loop-node.state out refl y c.in_err-value.ensures.value in
    let whole = subst (λ m. StopsAt n y out m) (sym c.loop-node.invariant.3) rest in
    stops_gives _ (has_all n.world) c.from_residual.result y (part n.world out) (locals_mean n (trees_of c.args.nodes.now) c.args.locals.now.items c.args.state.now) (halted c.from_residual.result y c.from_residual.ensures.1) whole

pub bind_locals-loop-node-preserved : goal.bind_locals-loop-node-preserved
bind_locals-loop-node-preserved t c =
    let n = c.args.context.now in
    let ns = c.args.nodes.now in
    let i = c.loop-node.node-index in
    let x = c.node-item.result in
    let lt = c.loop-node-test.true in
    let is = c.node-item.is in
    let now = c.loop-node.locals.items in
    let v = c.in_ok-value.value in
    let pushed : c.push.new.self.items ≡ now ++ v ∷ [] = c.in_ok-push.ensures.items ∙ ap (λ l. l ++ v ∷ []) c.in_ok-value.ensures.kept in
    let longer = ap length pushed ∙ length_push now v in
    let fewer = count-from ns i x lt is in
    let rest = trees_of (drop (i + 1) ns) in (
      take_kept c.args.locals.now.items now c.push.new.self.items v c.loop-node.invariant.0 pushed,
      omega (arith, longer, fewer, c.loop-node.invariant.1),
      subst (λ d. SoundLet (callable c.args.context.now) (zone_in c.args.context.now) d rest) (sym longer) (SoundLet-from ns i x lt is (callable c.args.context.now) (zone_in c.args.context.now) (length now) c.loop-node.invariant.2).1,
      c.loop-node.invariant.3 ∙ locals_more n ns i x lt is now now c.loop-node.state c.evaluate.new.state refl v c.push.new.self.items c.in_ok-value.ensures.value pushed,
    )

pub evaluate_let-returns-in_err-bind_locals-clause-value : goal.evaluate_let-returns-in_err-bind_locals-clause-value
evaluate_let-returns-in_err-bind_locals-clause-value t c =
    let y = c.in_err-bind_locals.field-0.0 in
    let es = trees_of c.args.nodes.now in
    let body = tree_of c.args.body.now in
    let out = c.bind_locals.new.state in
    stops_steps (has_all c.args.context.now.world) c.from_residual.result y (part c.args.context.now.world out) (let_means c.args.context.now es body c.args.locals.now.items c.args.state.now) (halted c.from_residual.result y c.from_residual.ensures.1)
    (let_stop c.args.context.now es body c.args.locals.now.items c.args.state.now y out c.in_err-bind_locals.ensures.value)

pub evaluate_loop-bind_locals-requires : goal.evaluate_loop-bind_locals-requires
evaluate_loop-bind_locals-requires t c =
    let some = nodes-some (tree_of c.args.body.now) in
    let smaller : 16 * nodes_in (trees_of c.args.nodes.now) + 2 < 16 * (nodes_in (trees_of c.args.nodes.now) + nodes (tree_of c.args.body.now)) + 2 = omega (arith, some) in
    (search (rules, in_room c.args.context.now _ _ smaller), c.requires.values)

pub evaluate_loop-returns-in_err-bind_locals-clause-value : goal.evaluate_loop-returns-in_err-bind_locals-clause-value
evaluate_loop-returns-in_err-bind_locals-clause-value t c =
    let y = c.in_err-bind_locals.field-0.0 in
    let es = trees_of c.args.nodes.now in
    let body = tree_of c.args.body.now in
    let out = c.bind_locals.new.state in
    stops_steps (has_all c.args.context.now.world) c.from_residual.result y (part c.args.context.now.world out) (loop_means c.args.context.now es body c.args.locals.now.items c.args.state.now) (halted c.from_residual.result y c.from_residual.ensures.1)
    (loop_stop c.args.context.now es body c.args.locals.now.items c.args.state.now y out c.in_err-bind_locals.ensures.value)

pub run_turns-returns-in-Value-clause-kept : goal.run_turns-returns-in-Value-clause-kept
run_turns-returns-in-Value-clause-kept t c =
    ap (λ l. take c.args.before l) c.in_ok-value.ensures.kept ∙ c.loop-turn.invariant.0

pub act_inside-returns-in_err-cell : goal.act_inside-returns-in_err-cell
act_inside-returns-in_err-cell t c =
    let x = c.args.context.now in
    let r = plain_tx_view c.args.world in
    let m = mark_of c.args.span c.args.wanted in
    let y = c.in_err-cell.field-0.0 in
    let before = tx_state c.args.tx.now in
    let told = subst (λ f. Told {A = CellId} (Err y) (result_of (cell_of (rule f) true c.args.value.now) c.args.span tt)) c.form.ensures c.in_err-cell.ensures in
    stops_gives (λ v. v) (is_whole r.gone) c.from_residual.result y before (inside_means x r c.args.act m c.args.value.now c.args.args.items before) (halted c.from_residual.result y c.from_residual.ensures.1) (untaken_inside x r m c.args.value.now before c.args.act c.args.args.items y c.requires told)

pub act_outside-returns-in_err-cell : goal.act_outside-returns-in_err-cell
act_outside-returns-in_err-cell t c =
    let x = c.args.context.now in
    let y = c.in_err-cell.field-0.0 in
    let before = thread_state c.args.thread.now in
    let told = subst (λ f. Told {A = CellId} (Err y) (result_of (cell_of (rule f) false c.args.value.now) c.args.span tt)) c.form.ensures c.in_err-cell.ensures in
    λ wanted. stops_gives (λ v. v) false c.from_residual.result y before (outside_means x c.args.act (mark_of c.args.span wanted) c.args.value.now c.args.args.items before) (halted c.from_residual.result y c.from_residual.ensures.1)
    (untaken_outside x (mark_of c.args.span wanted) c.args.value.now before c.args.act c.args.args.items y c.requires.ready told)

pub act_outside-returns-in_err-values : goal.act_outside-returns-in_err-values
act_outside-returns-in_err-values t c =
    let x = c.args.context.now in
    let y = c.in_err-values.field-0.0 in
    let cell = c.in_ok-cell.cell in
    let before = thread_state c.args.thread.now in
    let told = subst (λ f. Told (Ok cell) (result_of (cell_of (rule f) false c.args.value.now) c.args.span tt)) c.form.ensures c.in_ok-cell.ensures in
    let stopped : c.from_residual-in_err-values.result ≡ Err y = halted c.from_residual-in_err-values.result y c.from_residual-in_err-values.ensures.1 in
    let put = subst (λ z. PutStops z c.args.act cell c.args.span c.args.args.items y) c.deepest-inner.ensures.value c.in_err-values.ensures in
    λ wanted. stops_gives (λ v. v) false c.from_residual-in_err-values.result y before (outside_means x c.args.act (mark_of c.args.span wanted) c.args.value.now c.args.args.items before) stopped
    (refused_outside x c.is_sound.ensures c.deepest-inner.ensures.sound (mark_of c.args.span wanted) c.args.value.now before cell y c.args.act c.args.args.items c.requires.ready told put)

pub act_outside-returns-in_err-event-in-Look : goal.act_outside-returns-in_err-event-in-Look
act_outside-returns-in_err-event-in-Look t c =
    let x = c.args.context.now in
    let y = c.in_err-event-in-Look.field-0.0 in
    let cell = c.in_ok-cell.cell in
    let before = thread_state c.args.thread.now in
    let told = subst (λ f. Told (Ok cell) (result_of (cell_of (rule f) false c.args.value.now) c.args.span tt)) c.form.ensures c.in_ok-cell.ensures in
    let stopped : c.from_residual-in_err-event-in-Look.result ≡ Err y = halted c.from_residual-in_err-event-in-Look.result y c.from_residual-in_err-event-in-Look.ensures.1 in
    let put = subst (λ z. PutAccepted z c.args.act cell c.args.span c.args.args.items) c.deepest-inner.ensures.value c.in_ok-values.ensures.1 in
    λ wanted. stops_gives (λ v. v) false c.from_residual-in_err-event-in-Look.result y (thread_state c.next.new.self) (outside_means x c.args.act (mark_of c.args.span wanted) c.args.value.now c.args.args.items before) stopped
    (none_outside x c.is_sound.ensures c.deepest-inner.ensures.sound (mark_of c.args.span wanted) c.args.value.now before (thread_state c.next.new.self) cell c.args.act c.args.args.items y c.home-book.result (subst MeetsEvent (sym c.in-Look.is) tt) c.home-book.ensures c.requires.ready told put c.in_err-event-in-Look.ensures.comes)

pub act_outside-returns-in_err-event-in-Put : goal.act_outside-returns-in_err-event-in-Put
act_outside-returns-in_err-event-in-Put t c =
    let x = c.args.context.now in
    let y = c.in_err-event-in-Put.field-0.0 in
    let cell = c.in_ok-cell.cell in
    let before = thread_state c.args.thread.now in
    let told = subst (λ f. Told (Ok cell) (result_of (cell_of (rule f) false c.args.value.now) c.args.span tt)) c.form.ensures c.in_ok-cell.ensures in
    let stopped : c.from_residual-in_err-event-in-Put.result ≡ Err y = halted c.from_residual-in_err-event-in-Put.result y c.from_residual-in_err-event-in-Put.ensures.1 in
    let put = subst (λ z. PutAccepted z c.args.act cell c.args.span c.args.args.items) c.deepest-inner.ensures.value c.in_ok-values.ensures.1 in
    λ wanted. stops_gives (λ v. v) false c.from_residual-in_err-event-in-Put.result y (thread_state c.next-in-Put.new.self) (outside_means x c.args.act (mark_of c.args.span wanted) c.args.value.now c.args.args.items before) stopped
    (none_outside x c.is_sound.ensures c.deepest-inner.ensures.sound (mark_of c.args.span wanted) c.args.value.now before (thread_state c.next-in-Put.new.self) cell c.args.act c.args.args.items y c.home-book.result (subst MeetsEvent (sym c.in-Put.is) tt) c.home-book.ensures c.requires.ready told put c.in_err-event-in-Put.ensures.comes)

pub act_outside-returns-in_err-event-in-Update : goal.act_outside-returns-in_err-event-in-Update
act_outside-returns-in_err-event-in-Update t c =
    let x = c.args.context.now in
    let y = c.in_err-event-in-Update.field-0.0 in
    let cell = c.in_ok-cell.cell in
    let before = thread_state c.args.thread.now in
    let told = subst (λ f. Told (Ok cell) (result_of (cell_of (rule f) false c.args.value.now) c.args.span tt)) c.form.ensures c.in_ok-cell.ensures in
    let stopped : c.from_residual-in_err-event-in-Update.result ≡ Err y = halted c.from_residual-in_err-event-in-Update.result y c.from_residual-in_err-event-in-Update.ensures.1 in
    let put = subst (λ z. PutAccepted z c.args.act cell c.args.span c.args.args.items) c.deepest-inner.ensures.value c.in_ok-values.ensures.1 in
    λ wanted. stops_gives (λ v. v) false c.from_residual-in_err-event-in-Update.result y (thread_state c.next-in-Update.new.self) (outside_means x c.args.act (mark_of c.args.span wanted) c.args.value.now c.args.args.items before) stopped
    (none_outside x c.is_sound.ensures c.deepest-inner.ensures.sound (mark_of c.args.span wanted) c.args.value.now before (thread_state c.next-in-Update.new.self) cell c.args.act c.args.args.items y c.home-book.result (subst MeetsEvent (sym c.in-Update.is) tt) c.home-book.ensures c.requires.ready told put c.in_err-event-in-Update.ensures.comes)

pub apply_callee-call-given-requires : goal.apply_callee-call-given-requires
apply_callee-call-given-requires t c =
    let x = c.args.context.now in
    let fits = subst (λ f. SoundCallee (callable x) f (length c.args.values.items)) c.in-Function.is c.requires in
    let w : PlainView = record { cells = []; swaps = None; place = 0 } in
    let here = pure_here (on_view x (whole_view w)) c.in-Function.number (length c.args.values.items) fits in
    let smaller : room c.on-inner.result < room x + 1 = omega (arith, room_on x c.on-inner.result (whole_view w) (c.on-inner.ensures ∙ ap (on_view x) c.whole.ensures)) in
    (search (rules, smaller), subst (λ y. SoundCall (callable y) (zone_in y) c.in-Function.number (length c.args.values.items)) (sym (c.on-inner.ensures ∙ ap (on_view x) c.whole.ensures)) here)

pub apply_callee-returns-in-Function : goal.apply_callee-returns-in-Function
apply_callee-returns-in-Function t c =
    let x = c.args.context.now in
    let fits = subst (λ f. SoundCallee (callable x) f (length c.args.values.items)) c.in-Function.is c.requires in
    called_alone x c.on-inner.result (record { cells = []; swaps = None; place = 0 }) (c.on-inner.ensures ∙ ap (on_view x) c.whole.ensures) c.is_sound.ensures c.args.span c.args.callee c.in-Function.number c.args.values.items c.in-Function.is fits c.call-given.result c.new-state.result c.call-given.new.state c.call-given.ensures

pub evaluate_form-returns-in_err-args-clause-value : goal.evaluate_form-returns-in_err-args-clause-value
evaluate_form-returns-in_err-args-clause-value t c =
    let x = c.args.context.now in
    let m = mark_of c.args.span c.args.wanted in
    let cell = tree_of c.args.cell.now in
    let args = trees_of c.args.args.now in
    let env = c.args.locals.now.items in
    let out = c.args.state.now in
    let out1 = c.evaluate.new.state in
    let v = c.in_ok-cell.cell in
    let y = c.in_err-args.field-0.0 in
    let out2 = c.evaluate_all.new.state in
    stops_steps (has_all x.world) c.from_residual-in_err-args.result y (part x.world out2) (form_means x c.args.act m cell args env out) (halted c.from_residual-in_err-args.result y c.from_residual-in_err-args.ensures.1)
    (args_stop x c.args.act m cell args env out v out1 c.in_ok-cell.ensures.value c.evaluate.new.locals.items c.in_ok-cell.ensures.kept (λ (vs : Vec Value Global). vs.items) y out2 c.in_err-args.ensures.value)

pub evaluate_if-returns-clause-value : goal.evaluate_if-returns-clause-value
evaluate_if-returns-clause-value t c =
    let x = c.args.context.now in
    let other : false ≡ is_false c.in_ok-value.value = search rules in
    if_goes x (tree_of c.args.test.now) (tree_of c.args.yes.now) (tree_of c.args.no.now) c.args.locals.now.items c.args.state.now c.in_ok-value.value false c.evaluate.new.locals.items c.evaluate.new.state c.evaluate_tail-2.new.state c.evaluate_tail-2.result c.in_ok-value.ensures.value other c.in_ok-value.ensures.kept c.evaluate_tail-2.ensures.value

pub run_body-evaluate-requires : goal.run_body-evaluate-requires
run_body-evaluate-requires t c =
    let x = c.args.context.now in
    let m = mark_of c.args.dosync.span c.args.dosync.wanted in
    let body = tree_of c.args.dosync.body.now in
    let env = c.args.locals.now.items in
    let inner = c.on-inner.result in
    let w = plain_view c.args.world in
    let smaller : room inner + (16 * nodes body + 1) < room x + (16 * nodes body + 2) = omega (arith, room_on x inner (whole_view w) (c.on-inner.ensures ∙ ap (on_view x) c.whole.ensures)) in
    (search (rules, smaller), subst (λ y. SoundTree (callable y) (zone_in y) (length env) None body) (sym (c.on-inner.ensures ∙ ap (on_view x) c.whole.ensures)) c.requires)

pub evaluate_tail-evaluate_do-requires : goal.evaluate_tail-evaluate_do-requires
evaluate_tail-evaluate_do-requires t c =
    let n = c.args.node.now in
    let is = subst (λ s. IsShape s (mark_of n.span n.wanted) (tree_of n)) c.in-Do.is c.shape_of.ensures in
    let sound = subst (λ e. SoundTree (callable c.args.context.now) (zone_in c.args.context.now) (length c.args.locals.now.items) c.requires.tail e) is c.requires.sound in
    let smaller : 16 * nodes_in (trees_of c.in-Do.items.now) + 3 < 16 * nodes (tree_of n) = omega (arith, ap nodes is) in
    (search (rules, in_room c.args.context.now _ _ smaller), record { tail = c.requires.tail; sound = sound })

pub evaluate_tail-evaluate_let-requires : goal.evaluate_tail-evaluate_let-requires
evaluate_tail-evaluate_let-requires t c =
    let n = c.args.node.now in
    let is = subst (λ s. IsShape s (mark_of n.span n.wanted) (tree_of n)) c.in-Let.is c.shape_of.ensures in
    let sound = subst (λ e. SoundTree (callable c.args.context.now) (zone_in c.args.context.now) (length c.args.locals.now.items) c.requires.tail e) is c.requires.sound in
    let smaller : 16 * (nodes_in (trees_of c.in-Let.values.now) + nodes (tree_of c.in-Let.body.now)) + 2 < 16 * nodes (tree_of n) = omega (arith, ap nodes is) in
    (search (rules, in_room c.args.context.now _ _ smaller), (sound.0, record { tail = c.requires.tail; sound = sound.1 }))

pub evaluate_tail-evaluate_loop-requires : goal.evaluate_tail-evaluate_loop-requires
evaluate_tail-evaluate_loop-requires t c =
    let n = c.args.node.now in
    let is = subst (λ s. IsShape s (mark_of n.span n.wanted) (tree_of n)) c.in-Loop.is c.shape_of.ensures in
    let sound = subst (λ e. SoundTree (callable c.args.context.now) (zone_in c.args.context.now) (length c.args.locals.now.items) c.requires.tail e) is c.requires.sound in
    let smaller : 16 * (nodes_in (trees_of c.in-Loop.values.now) + nodes (tree_of c.in-Loop.body.now)) + 2 < 16 * nodes (tree_of n) = omega (arith, ap nodes is) in
    (search (rules, in_room c.args.context.now _ _ smaller), (sound.0, sound.1))

pub evaluate_tail-evaluate_strict-requires : goal.evaluate_tail-evaluate_strict-requires
evaluate_tail-evaluate_strict-requires t c =
    let x = c.args.context.now in
    let n = c.args.node.now in
    let m = mark_of n.span n.wanted in
    let strict = c.in-Strict.strict in
    let es = trees_of c.in-Strict.args.now in
    let is = subst (λ s. IsShape s (mark_of n.span n.wanted) (tree_of n)) c.in-Strict.is c.shape_of.ensures in
    let sound = subst (λ e. SoundTree (callable c.args.context.now) (zone_in c.args.context.now) (length c.args.locals.now.items) c.requires.tail e) is c.requires.sound in
    let smaller : 16 * nodes_in es + 4 < 16 * nodes (tree_of n) = omega (arith, strict_smaller strict es m, ap nodes is) in
    (search (rules, in_room x _ _ smaller), (strict_sound (callable c.args.context.now) (zone_in c.args.context.now) (length c.args.locals.now.items) c.requires.tail es m strict sound, strict_finishes x es m strict (length c.args.locals.now.items) c.requires.tail sound))

pub evaluate_tail-evaluate_form-requires : goal.evaluate_tail-evaluate_form-requires
evaluate_tail-evaluate_form-requires t c =
    let x = c.args.context.now in
    let n = c.args.node.now in
    let m = mark_of n.span n.wanted in
    let act = c.in-Form.act in
    let cell = tree_of c.in-Form.cell.now in
    let args = trees_of c.in-Form.args.now in
    let is = subst (λ s. IsShape s (mark_of n.span n.wanted) (tree_of n)) c.in-Form.is c.shape_of.ensures in
    let smaller = form_smaller cell args m (tree_of n) act is in
    (search (rules, in_room x _ _ smaller), form_sound (callable c.args.context.now) (zone_in c.args.context.now) (length c.args.locals.now.items) c.requires.tail cell args m (tree_of n) act is c.requires.sound)

pub evaluate_tail-returns-in-If-clause-value : goal.evaluate_tail-returns-in-If-clause-value
evaluate_tail-returns-in-If-clause-value t c =
    let n = c.args.node.now in
    let is = subst (λ s. IsShape s (mark_of n.span n.wanted) (tree_of n)) c.in-If.is c.shape_of.ensures in
    subst (λ e. Steps c.args.context.now c.evaluate_if.result c.evaluate_if.new.state (means c.args.context.now e c.args.locals.now.items c.args.state.now)) (sym is) c.evaluate_if.ensures.value

pub evaluate_tail-returns-in-Do-clause-value : goal.evaluate_tail-returns-in-Do-clause-value
evaluate_tail-returns-in-Do-clause-value t c =
    let n = c.args.node.now in
    let is = subst (λ s. IsShape s (mark_of n.span n.wanted) (tree_of n)) c.in-Do.is c.shape_of.ensures in
    subst (λ e. Steps c.args.context.now c.evaluate_do.result c.evaluate_do.new.state (means c.args.context.now e c.args.locals.now.items c.args.state.now)) (sym is) c.evaluate_do.ensures.value

pub evaluate_tail-returns-in-Let-clause-value : goal.evaluate_tail-returns-in-Let-clause-value
evaluate_tail-returns-in-Let-clause-value t c =
    let n = c.args.node.now in
    let is = subst (λ s. IsShape s (mark_of n.span n.wanted) (tree_of n)) c.in-Let.is c.shape_of.ensures in
    subst (λ e. Steps c.args.context.now c.evaluate_let.result c.evaluate_let.new.state (means c.args.context.now e c.args.locals.now.items c.args.state.now)) (sym is) c.evaluate_let.ensures.value

pub evaluate_tail-returns-in-Loop-clause-value : goal.evaluate_tail-returns-in-Loop-clause-value
evaluate_tail-returns-in-Loop-clause-value t c =
    let n = c.args.node.now in
    let is = subst (λ s. IsShape s (mark_of n.span n.wanted) (tree_of n)) c.in-Loop.is c.shape_of.ensures in
    subst (λ e. Steps c.args.context.now c.evaluate_loop.result c.evaluate_loop.new.state (means c.args.context.now e c.args.locals.now.items c.args.state.now)) (sym is) c.evaluate_loop.ensures.value

pub evaluate_tail-returns-in-Dosync-clause-value : goal.evaluate_tail-returns-in-Dosync-clause-value
evaluate_tail-returns-in-Dosync-clause-value t c =
    let n = c.args.node.now in
    let is = subst (λ s. IsShape s (mark_of n.span n.wanted) (tree_of n)) c.in-Dosync.is c.shape_of.ensures in
    subst (λ e. Steps c.args.context.now c.evaluate_dosync.result c.evaluate_dosync.new.state (means c.args.context.now e c.args.locals.now.items c.args.state.now)) (sym is) c.evaluate_dosync.ensures.value

pub evaluate_tail-returns-in-Strict-clause-value : goal.evaluate_tail-returns-in-Strict-clause-value
evaluate_tail-returns-in-Strict-clause-value t c =
    let x = c.args.context.now in
    let n = c.args.node.now in
    let env = c.args.locals.now.items in
    let is = subst (λ s. IsShape s (mark_of n.span n.wanted) (tree_of n)) c.in-Strict.is c.shape_of.ensures in
    let whole = strict_whole x (trees_of c.in-Strict.args.now) (mark_of n.span n.wanted) c.in-Strict.strict env c.args.state.now ∙ ap (λ e. means x e env c.args.state.now) (sym is) in
    subst (λ q. Steps x c.evaluate_strict.result c.evaluate_strict.new.state q) whole c.evaluate_strict.ensures.value

pub evaluate_tail-returns-in-Form-clause-value : goal.evaluate_tail-returns-in-Form-clause-value
evaluate_tail-returns-in-Form-clause-value t c =
    let x = c.args.context.now in
    let n = c.args.node.now in
    let is = subst (λ s. IsShape s (mark_of n.span n.wanted) (tree_of n)) c.in-Form.is c.shape_of.ensures in
    let whole = form_whole (tree_of c.in-Form.cell.now) (trees_of c.in-Form.args.now) (mark_of n.span n.wanted) (tree_of n) x c.in-Form.act c.args.locals.now.items c.args.state.now is in
    subst (λ q. Steps x c.evaluate_form.result c.evaluate_form.new.state q) whole c.evaluate_form.ensures.value

pub evaluate_tail-returns-in-Const-clause-value : goal.evaluate_tail-returns-in-Const-clause-value
evaluate_tail-returns-in-Const-clause-value t c =
    let x = c.args.context.now in
    let n = c.args.node.now in
    let env = c.args.locals.now.items in
    let v = c.in-Const.value.now in
    let is = subst (λ s. IsShape s (mark_of n.span n.wanted) (tree_of n)) c.in-Const.is c.shape_of.ensures in
    copied x c.copy_step.result v c.args.state.now (means x (tree_of n) env c.args.state.now) (const_done x (tree_of n) (mark_of n.span n.wanted) env c.args.state.now v v is refl) c.copy_step.ensures

pub evaluate_tail-returns-in-Local-clause-value : goal.evaluate_tail-returns-in-Local-clause-value
evaluate_tail-returns-in-Local-clause-value t c =
    let x = c.args.context.now in
    let n = c.args.node.now in
    let env = c.args.locals.now.items in
    let v = c.index.result.now in
    let is = subst (λ s. IsShape s (mark_of n.span n.wanted) (tree_of n)) c.in-Local.is c.shape_of.ensures in
    let bound : c.in-Local.place < length env = subst (λ e. SoundTree (callable c.args.context.now) (zone_in c.args.context.now) (length c.args.locals.now.items) c.requires.tail e) is c.requires.sound in
    let means_it = local_done x (tree_of n) (mark_of n.span n.wanted) env c.args.state.now c.in-Local.place c.from.result v v is (search rules) bound (search rules) refl in
    copied x c.copy_step-in-Local.result v c.args.state.now (means x (tree_of n) env c.args.state.now) means_it c.copy_step-in-Local.ensures

pub evaluate_form-act_inside-requires : goal.evaluate_form-act_inside-requires
evaluate_form-act_inside-requires t c =
    let x = c.args.context.now in
    let k = 16 * (nodes (tree_of c.args.cell.now) + nodes_in (trees_of c.args.args.now)) in
    let is = sym c.world.ensures ∙ ap plain_tx_world c.in-Some.is in
    let smaller : room x + 5 < room x + (k + 10) = omega arith in
    let ready = subst (λ n. ReadyIn (callable x) (zone_in x) c.args.act n) (sym c.in_ok-args.ensures.count) c.requires.ready in
    (search (rules, smaller), subst (λ o. ReadyIn (callable x) (zone_on o) c.args.act (length c.in_ok-args.args.items)) is ready)

pub evaluate_form-act_outside-requires : goal.evaluate_form-act_outside-requires
evaluate_form-act_outside-requires t c =
    let x = c.args.context.now in
    let k = 16 * (nodes (tree_of c.args.cell.now) + nodes_in (trees_of c.args.args.now)) in
    let is = sym c.world.ensures ∙ ap plain_tx_world c.in-None.is in
    let smaller : room x + 5 < room x + (k + 10) = omega arith in
    let ready = subst (λ n. ReadyIn (callable x) (zone_in x) c.args.act n) (sym c.in_ok-args.ensures.count) c.requires.ready in
    (search (rules, smaller), (is, subst (λ o. ReadyIn (callable x) (zone_on o) c.args.act (length c.in_ok-args.args.items)) is ready))

pub evaluate_form-returns-in-Some-clause-value : goal.evaluate_form-returns-in-Some-clause-value
evaluate_form-returns-in-Some-clause-value t c =
    let x = c.args.context.now in
    let m = mark_of c.args.span c.args.wanted in
    let cell = tree_of c.args.cell.now in
    let args = trees_of c.args.args.now in
    let env = c.args.locals.now.items in
    let out = c.args.state.now in
    let v = c.in_ok-cell.cell in
    let vs = c.in_ok-args.args.items in
    let r = c.act_inside.result in
    let before = c.evaluate_all.new.state in
    let after = record before { tx = c.act_inside.new.tx } in
    let is = sym c.world.ensures ∙ ap plain_tx_world c.in-Some.is in
    let whole = acted x c.args.act m cell args env out v c.evaluate.new.state c.in_ok-cell.ensures.value c.evaluate.new.locals.items c.in_ok-cell.ensures.kept vs before c.in_ok-args.ensures.value in
    let given = acted_inside x c.args.act m v vs r before after (plain_tx_view c.in-Some.world) is c.act_inside.ensures in
    stepped x r c.as_step.result after (form_means x c.args.act m cell args env out) c.as_step.ensures (subst (λ q. Yields x r after q) (sym whole) given)

pub evaluate_form-returns-clause-value : goal.evaluate_form-returns-clause-value
evaluate_form-returns-clause-value t c =
    let x = c.args.context.now in
    let m = mark_of c.args.span c.args.wanted in
    let cell = tree_of c.args.cell.now in
    let args = trees_of c.args.args.now in
    let env = c.args.locals.now.items in
    let out = c.args.state.now in
    let v = c.in_ok-cell.cell in
    let vs = c.in_ok-args.args.items in
    let r = c.act_outside.result in
    let before = c.evaluate_all.new.state in
    let after = record before { thread = c.act_outside.new.thread } in
    let is = sym c.world.ensures ∙ ap plain_tx_world c.in-None.is in
    let whole = acted x c.args.act m cell args env out v c.evaluate.new.state c.in_ok-cell.ensures.value c.evaluate.new.locals.items c.in_ok-cell.ensures.kept vs before c.in_ok-args.ensures.value in
    let given = acted_outside x c.args.act m v vs r before after is (c.act_outside.ensures c.args.wanted) in
    stepped x r c.as_step-in-None.result after (form_means x c.args.act m cell args env out) c.as_step-in-None.ensures (subst (λ q. Yields x r after q) (sym whole) given)

pub act_inside-returns-in-Put : goal.act_inside-returns-in-Put
act_inside-returns-in-Put t c =
    let x = c.args.context.now in
    let form = c.in-Put.field-0 in
    let ready = subst (λ a. ReadyIn (callable x) in_dosync a (length c.args.args.items)) c.in-Put.is c.requires in
    let told = subst (λ f. Told (Ok c.in_ok-cell.cell) (result_of (cell_of (rule f) true c.args.value.now) c.args.span tt)) (c.form.ensures ∙ ap form_of_act c.in-Put.is) c.in_ok-cell.ensures in
    let m = mark_of c.args.span c.args.wanted in
    let r = plain_tx_view c.args.world in
    subst (λ a. Gives (is_whole r.gone) c.put.result (tx_state c.put.new.self) (inside_means x r a m c.args.value.now c.args.args.items (tx_state c.args.tx.now))) (sym c.in-Put.is)
    (put_inside x r m c.args.value.now (tx_state c.args.tx.now) c.in_ok-cell.cell c.put.result (tx_state c.put.new.self) form c.args.args.items ready told c.put.ensures)

pub act_inside-returns-in-Send : goal.act_inside-returns-in-Send
act_inside-returns-in-Send t c =
    let x = c.args.context.now in
    let told = subst (λ f. Told (Ok c.in_ok-cell.cell) (result_of (cell_of (rule f) true c.args.value.now) c.args.span tt)) (c.form.ensures ∙ ap form_of_act c.in-Send.is) c.in_ok-cell.ensures in
    let m = mark_of c.args.span c.args.wanted in
    let r = plain_tx_view c.args.world in
    subst (λ a. Gives (is_whole r.gone) c.send.result (tx_state c.send.new.self) (inside_means x r a m c.args.value.now c.args.args.items (tx_state c.args.tx.now))) (sym c.in-Send.is)
    (send_inside x r m c.args.value.now (tx_state c.args.tx.now) c.in_ok-cell.cell c.send.result (tx_state c.send.new.self) c.in-Send.callee c.args.args.items told c.send.ensures)

pub act_outside-returns-in_ok-event-in-Put : goal.act_outside-returns-in_ok-event-in-Put
act_outside-returns-in_ok-event-in-Put t c =
    let x = c.args.context.now in
    let form = c.in-Put.field-0 in
    let cell = c.in_ok-cell.cell in
    let e = c.in_ok-event-in-Put.event.now in
    let h = c.in_ok-event-in-Put.ensures.comes in
    let same = c.in_ok-event-in-Put.ensures.same in
    let before = thread_state c.args.thread.now in
    let later = thread_state c.eat-in-Put.new.self in
    let ready = subst (λ a. ReadyIn (callable x) in_thread a (length c.args.args.items)) c.in-Put.is c.requires.ready in
    let told = subst (λ f. Told (Ok cell) (result_of (cell_of (rule f) false c.args.value.now) c.args.span tt)) (c.form.ensures ∙ ap form_of_act c.in-Put.is) c.in_ok-cell.ensures in
    let r = c.reset_at.result in
    let put = subst (λ z. PutAccepted z c.args.act cell c.args.span c.args.args.items) c.deepest-inner.ensures.value c.in_ok-values.ensures.1 in
    let ok = subst (λ a. PutAccepted (deepest x) a cell c.args.span c.args.args.items) c.in-Put.is put in
    let reset = subst (λ vs. AnswersAt r (with_todo h.0 before) (of_one (λ w. resets w e.kind.now (with_todo h.0 before)) vs)) c.in_ok-values.ensures.0 (c.reset_at.ensures (with_todo h.0 before)) in
    let given = reset_eaten c.home-book.result (home x.cells cell) c.home-book.ensures e before later h r (c.eat-in-Put.ensures.eaten (seen_event e) h.0 (ap (λ s. s.todo) same ∙ h.1) ∙ ap (λ s. after r h.0 s) same) c.args.args.items ready.1 reset in
    λ wanted. subst₂ (λ a q. Gives false q later (outside_means x a (mark_of c.args.span wanted) c.args.value.now c.args.args.items before)) (sym c.in-Put.is) (sym c.eat-in-Put.ensures.same)
    (put_outside x c.is_sound.ensures c.deepest-inner.ensures.sound (mark_of c.args.span wanted) c.args.value.now before cell r later form c.args.args.items ready told ok given)

pub act_outside-eat-requires-in-Put : goal.act_outside-eat-requires-in-Put
act_outside-eat-requires-in-Put t c =
    let h = c.in_ok-event-in-Put.ensures.comes in
    event_left c.next-in-Put.new.self (seen_event c.in_ok-event-in-Put.event.now) h.0 (ap (λ s. s.todo) c.in_ok-event-in-Put.ensures.same ∙ h.1)

pub evaluate_let-returns-clause-value : goal.evaluate_let-returns-clause-value
evaluate_let-returns-clause-value t c =
    let_done c.args.context.now (trees_of c.args.nodes.now) (tree_of c.args.body.now) c.args.locals.now.items c.args.state.now c.bind_locals.new.locals.items c.bind_locals.new.state c.evaluate_tail-given.new.state
    c.evaluate_tail-given.result c.in_ok-bind_locals.ensures.value c.evaluate_tail-given.ensures.value

pub evaluate_loop-returns-clause-value : goal.evaluate_loop-returns-clause-value
evaluate_loop-returns-clause-value t c =
    let x = c.args.context.now in
    let now = c.bind_locals.new.locals.items in
    let es = trees_of c.args.nodes.now in
    let body = tree_of c.args.body.now in
    let b = c.len-before.result in
    let place : b ≡ length c.args.locals.now.items = search rules in
    let counted = c.in_ok-bind_locals.ensures.count in
    let many : length now - b ≡ count es = omega (arith, place, counted) in
    let kept : take b now ≡ c.args.locals.now.items = subst (λ k. take k now ≡ c.args.locals.now.items) (sym place) c.in_ok-bind_locals.ensures.kept in
    let out = c.run_turns-given.new.state in
    let n = c.from-turns.result in
    let as_many : n ≡ x.turns = c.from-turns.ensures ∙ c.turns.ensures in
    let counted_turns = stepped x c.run_turns-given.result c.as_step.result out (turns_mean x n (length now - b) body (take b now) (drop b now) c.bind_locals.new.state) c.as_step.ensures c.run_turns-given.ensures.value in
    let given = subst (λ k. Steps x c.as_step.result out (turns_mean x k (length now - b) body (take b now) (drop b now) c.bind_locals.new.state)) as_many counted_turns in
    loop_done x es body c.args.locals.now.items c.args.state.now now c.bind_locals.new.state out c.as_step.result c.in_ok-bind_locals.ensures.value b (length now - b) place many kept given

pub evaluate_dosync-returns-then-is_some-clause-value : goal.evaluate_dosync-returns-then-is_some-clause-value
evaluate_dosync-returns-then-is_some-clause-value t c =
    let x = c.args.context.now in
    let m = mark_of c.args.dosync.span c.args.dosync.wanted in
    let body = tree_of c.args.dosync.body.now in
    let env = c.args.locals.now.items in
    let before = c.args.state.now in
    let on : is_some c.world.result ≡ true = search rules in
    let inside = running c.world.result x.world c.world.ensures ∙ on in
    stepped x c.evaluate.result c.as_step.result c.evaluate.new.state (dosync_means x m body env before) c.as_step.ensures (joined x m body env before c.evaluate.new.state inside c.evaluate.result c.evaluate.ensures.value)

pub evaluate_dosync-returns-clause-value : goal.evaluate_dosync-returns-clause-value
evaluate_dosync-returns-clause-value t c =
    let x = c.args.context.now in
    let m = mark_of c.args.dosync.span c.args.dosync.wanted in
    let body = tree_of c.args.dosync.body.now in
    let env = c.args.locals.now.items in
    let before = c.args.state.now in
    let off : is_some c.world.result ≡ false = search rules in
    let outside = running c.world.result x.world c.world.ensures ∙ off in
    let after = record before { thread = c.eat_dosync.new.thread } in
    stepped x c.eat_dosync.result c.as_step-2.result after (dosync_means x m body env before) c.as_step-2.ensures (begun x m body env before after outside c.eat_dosync.result c.eat_dosync.ensures.value)

pub finish-returns-in-Core : goal.finish-returns-in-Core
finish-returns-in-Core t c = core_done c.args.context.now c.args.strict c.args.span c.args.values.items c.args.state.now c.operate.result c.as_step.result c.as_step.ensures c.in-Core.op c.in-Core.is c.operate.ensures

pub finish-returns-in-Call : goal.finish-returns-in-Call
finish-returns-in-Call t c = call_done c.args.context.now c.args.strict c.args.span c.args.values.items c.args.state.now c.call.new.state c.call.result c.as_step-in-Call.result c.as_step-in-Call.ensures c.in-Call.function c.in-Call.is c.call.ensures

pub finish-returns-in-Vector : goal.finish-returns-in-Vector
finish-returns-in-Vector t c = vector_done c.args.context.now c.args.strict c.args.span c.args.values.items c.args.state.now c.collect.result c.as_step-in-Vector.result c.as_step-in-Vector.ensures c.in-Vector.is c.collect.ensures

pub finish-returns-in-Println : goal.finish-returns-in-Println
finish-returns-in-Println t c =
    let before = c.args.state.now in
    let after = record before { thread = record before.thread { printed = c.print_line.new.printed } } in
    print_done c.args.context.now c.args.strict c.args.span c.args.values.items before c.print_line.result c.as_step-in-Println.result c.as_step-in-Println.ensures c.print_line.new.printed.items c.in-Println.is c.requires after refl c.print_line.ensures

pub run_body-returns-in-Err-clause-value : goal.run_body-returns-in-Err-clause-value
run_body-returns-in-Err-clause-value t c =
    let x = c.args.context.now in
    let body = tree_of c.args.dosync.body.now in
    let env = c.args.locals.now.items in
    let w = plain_view c.args.world in
    body_stop x c.on-inner.result w (c.on-inner.ensures ∙ ap (on_view x) c.whole.ensures) body env c.new-state.result c.new-state.ensures.tx c.in-Err.stop c.evaluate.new.state c.in-Err.ensures.value

pub run_body-returns-in-Ok-clause-value : goal.run_body-returns-in-Ok-clause-value
run_body-returns-in-Ok-clause-value t c =
    let x = c.args.context.now in
    let m = mark_of c.args.dosync.span c.args.dosync.wanted in
    let body = tree_of c.args.dosync.body.now in
    let env = c.args.locals.now.items in
    let w = plain_view c.args.world in
    let v = c.in-Ok.value in
    let copied : c.from_vec.result ≡ env = search rules in (
      body_done x c.on-inner.result w (c.on-inner.ensures ∙ ap (on_view x) c.whole.ensures) body env c.new-state.result c.new-state.ensures.tx v c.evaluate.new.state c.in-Ok.ensures.value ∙ ap (λ k. Completes v (tx_state k)) (sym c.into_tx.ensures),
      ap (λ l. record { body = body; locals = l; wanted = m.wanted; result = v; state = tx_state c.into_tx.result }) copied,
    )

pub run_body-returns-in-Ok-clause-sound : goal.run_body-returns-in-Ok-clause-sound
run_body-returns-in-Ok-clause-sound t c =
    let x = c.args.context.now in
    let body = tree_of c.args.dosync.body.now in
    let env = c.args.locals.now.items in
    let w = plain_view c.args.world in
    let v = c.in-Ok.value in
    let keeps = body_keeps x c.on-inner.result w (c.on-inner.ensures ∙ ap (on_view x) c.whole.ensures) body env c.new-state.result c.new-state.ensures.tx c.is_sound.ensures (length env) v c.evaluate.new.state c.requires c.in-Ok.ensures.value in
    subst (λ k. SoundCommutes (callable x) k.done.commutes) (sym c.into_tx.ensures) keeps

pub eat_dosync-returns-in-None-clause-value : goal.eat_dosync-returns-in-None-clause-value
eat_dosync-returns-in-None-clause-value t c =
    let x = c.args.context.now in
    let m = mark_of c.args.dosync.span c.args.dosync.wanted in
    let body = tree_of c.args.dosync.body.now in
    let env = c.args.locals.now.items in
    let e = c.in_ok-event.event.now in
    let r = plain_view e.start in
    let h = c.in_ok-event.ensures.value in
    let before = with_todo h.0 (thread_state c.end_of_tx.new.thread) in
    let other = sym c.end_view.ensures ∙ ap plain_world c.in-None.is in
    let w = retried (suc reruns) (transacting x m body env) (thread_state c.args.thread.now) in
    let none = h.3 (at_end x m.span) ∙ ap (λ o. uneaten (seen_event e ∷ h.0) o) (ends_unviewed x m body env before r (plain_view e.view) (plain_view e.here) r e.kind.now other) in
    (refl, ap (λ o. up_to w o) none ∙ ap (λ s. Waits s) h.2)

pub eat_dosync-returns-in-Err-clause-value : goal.eat_dosync-returns-in-Err-clause-value
eat_dosync-returns-in-Err-clause-value t c =
    let x = c.args.context.now in
    let m = mark_of c.args.dosync.span c.args.dosync.wanted in
    let body = tree_of c.args.dosync.body.now in
    let env = c.args.locals.now.items in
    let e = c.in_ok-event.event.now in
    let r = plain_view e.start in
    let h = c.in_ok-event.ensures.value in
    let now = thread_state c.end_of_tx.new.thread in
    let before = with_todo h.0 now in
    let later = thread_state c.eat.new.self in
    let w = plain_view c.in-Some.world in
    let viewed = sym c.end_view.ensures ∙ ap plain_world c.in-Some.is in
    let end = closes e.kind.now m.span (ended x m body env r w before) in
    let whole = h.3 (at_end x m.span) ∙ ap (λ o. uneaten (seen_event e ∷ h.0) o) (ends_viewed x m body env before r (plain_view e.view) (plain_view e.here) w e.kind.now viewed) in
    let stops = end_stops e.kind.now m.span c.in-Err.stop before (ended x m body env r w before) (ended_unrun x m body env r w before c.in-Err.stop (subst (λ l. BodyStops c.in-Err.stop (body_means x body l r)) c.in_ok-event.ensures.kept c.in-Err.ensures.value)) in
    let given = subst (λ z. AnswersAt {A = Value} (Err z) before end) (sym c.end_stop.ensures) stops in
    let start = retried (suc reruns) (transacting x m body env) (thread_state c.args.thread.now) in
    subst₂ (λ q o. Gives false q later (up_to start o)) (sym c.eat.ensures.same) (sym whole) (answered (Err c.end_stop.result) (seen_event e) h.0 start now later end h.1 (λ o. h.2) (c.eat.ensures.eaten (seen_event e) h.0 h.1) given)

pub eat_dosync-returns-in_err-event-clause-value : goal.eat_dosync-returns-in_err-event-clause-value
eat_dosync-returns-in_err-event-clause-value t c =
    let x = c.args.context.now in
    let m = mark_of c.args.dosync.span c.args.dosync.wanted in
    let body = tree_of c.args.dosync.body.now in
    let env = c.args.locals.now.items in
    let y = c.in_err-event.field-0.0 in
    stops_gives (λ v. v) false c.from_residual.result y (thread_state c.end_of_tx.new.thread) (eat_means x (suc reruns) m body env (thread_state c.args.thread.now)) (halted c.from_residual.result y c.from_residual.ensures.1) (c.in_err-event.ensures.value (at_end x m.span))

pub update_inside-returns-in_err-value : goal.update_inside-returns-in_err-value
update_inside-returns-in_err-value t c =
    let x = c.args.context.now in
    let r = plain_tx_view c.args.world in
    let m = mark_of c.args.span c.args.wanted in
    let y = c.in_err-value.field-0.0 in
    let before = tx_state c.args.tx.now in
    let after = tx_state c.begin_update.new.self in
    stops_gives (λ v. v) (is_whole r.gone) c.from_residual.result y after (update_means x r c.args.form c.args.callee c.args.cell c.args.args.items m before) (halted c.from_residual.result y c.from_residual.ensures.1)
    (update_unbegun x c.is_sound.ensures r c.args.form c.args.callee c.args.cell c.args.args.items m y before after c.in_err-value.ensures)

pub update_inside-returns-in_err-new : goal.update_inside-returns-in_err-new
update_inside-returns-in_err-new t c =
    let x = c.args.context.now in
    let r = plain_tx_view c.args.world in
    let m = mark_of c.args.span c.args.wanted in
    let y = c.in_err-new.field-0.0 in
    let v = c.in_ok-value.value in
    let before = tx_state c.args.tx.now in
    let after = tx_state c.begin_update.new.self in
    let told = subst (λ us. Told {A = Value} (Err y) (applied x c.args.callee (v ∷ us) c.args.span)) c.as_slice.ensures.value c.in_err-new.ensures in
    stops_gives (λ v. v) (is_whole r.gone) c.from_residual-in_err-new.result y after (update_means x r c.args.form c.args.callee c.args.cell c.args.args.items m before) (halted c.from_residual-in_err-new.result y c.from_residual-in_err-new.ensures.1)
    (update_stop x c.is_sound.ensures r c.args.form c.args.callee c.args.cell c.args.args.items m before after v c.requires.callee c.in_ok-value.ensures y told)

pub update_inside-returns : goal.update_inside-returns
update_inside-returns t c =
    let x = c.args.context.now in
    let r = plain_tx_view c.args.world in
    let m = mark_of c.args.span c.args.wanted in
    let v = c.in_ok-value.value in
    let before = tx_state c.args.tx.now in
    let after = tx_state c.begin_update.new.self in
    let told = subst (λ us. Told (Ok c.in_ok-new.new) (applied x c.args.callee (v ∷ us) c.args.span)) c.as_slice.ensures.value c.in_ok-new.ensures in
    update_done x c.is_sound.ensures r c.args.form c.args.callee c.args.cell c.args.args.items m before after v c.requires.callee c.in_ok-value.ensures c.in_ok-new.new c.end_update.result (tx_state c.end_update.new.self) told c.end_update.ensures

pub act_inside-update_inside-requires : goal.act_inside-update_inside-requires
act_inside-update_inside-requires t c =
    let x = c.args.context.now in
    let form = c.in-Update.form in
    let ready = subst (λ a. ReadyIn (callable x) in_dosync a (length c.args.args.items)) c.in-Update.is c.requires in
    let told = subst (λ f. Told (Ok c.in_ok-cell.cell) (result_of (cell_of (rule f) true c.args.value.now) c.args.span tt)) (c.form.ensures ∙ ap form_of_act c.in-Update.is) c.in_ok-cell.ensures in
    let smaller : room x + 3 < room x + 5 = omega arith in
    let updates = updates_ref form ready.0 in
    (search (rules, smaller), (updates, (update_takes form c.args.value.now c.args.span c.in_ok-cell.cell updates told, ready.1)))

pub act_inside-returns-in-Update : goal.act_inside-returns-in-Update
act_inside-returns-in-Update t c =
    let x = c.args.context.now in
    let r = plain_tx_view c.args.world in
    let m = mark_of c.args.span c.args.wanted in
    let before = tx_state c.args.tx.now in
    let after = tx_state c.update_inside.new.tx in
    let told = subst (λ f. Told (Ok c.in_ok-cell.cell) (result_of (cell_of (rule f) true c.args.value.now) c.args.span tt)) (c.form.ensures ∙ ap form_of_act c.in-Update.is) c.in_ok-cell.ensures in
    let whole = update_inside x r m c.args.value.now before c.in_ok-cell.cell c.in-Update.form c.in-Update.callee c.args.args.items told in
    subst (λ a. Gives (is_whole r.gone) c.update_inside.result after (inside_means x r a m c.args.value.now c.args.args.items before)) (sym c.in-Update.is)
    (subst (λ q. Gives (is_whole r.gone) c.update_inside.result after q) whole c.update_inside.ensures)

pub swap-returns-in_err-world : goal.swap-returns-in_err-world
swap-returns-in_err-world t c =
    let x = c.args.context.now in
    let y = c.in_err-world.field-0.0 in
    let e = seen_event c.args.event.now in
    let stopped : c.from_residual.result ≡ Err y = halted c.from_residual.result y c.from_residual.ensures.1 in
    λ s. halts_answers c.from_residual.result y s (swap_means x c.args.callee c.args.cell c.args.args.now c.args.span e s) stopped
    (swap_stop x c.args.callee c.args.cell c.args.args.now c.args.span e s y c.in_err-world.ensures)

pub swap-returns-in_err-value : goal.swap-returns-in_err-value
swap-returns-in_err-value t c =
    let stopped : c.from_residual-in_err-value.result ≡ Err Memory = halted c.from_residual-in_err-value.result Memory c.from_residual-in_err-value.ensures.1 in
    λ s. halts_answers c.from_residual-in_err-value.result Memory s (swap_means c.args.context.now c.args.callee c.args.cell c.args.args.now c.args.span (seen_event c.args.event.now) s) stopped tt

pub swap-returns : goal.swap-returns
swap-returns t c =
    let x = c.args.context.now in
    let vs = c.args.args.now in
    let v = c.in_ok-value.value in
    let told = subst (λ z. Told c.make.result (made_means z c.args.callee c.args.cell (v ∷ vs) c.args.span)) c.deepest-inner.ensures.value c.make.ensures in
    let fits = callee_deepest x c.args.callee (suc (length vs)) c.requires.callee in
    λ s. swap_done x c.args.callee c.args.cell vs c.args.span (seen_event c.args.event.now) s c.is_sound.ensures c.deepest-inner.ensures.sound (plain_view c.in_ok-world.world) (option_copied c.in_ok-world.new) v c.make.result c.end_swap.result c.in_ok-world.ensures c.in_ok-value.ensures fits told c.end_swap.ensures

pub act_outside-accept_put-requires : goal.act_outside-accept_put-requires
act_outside-accept_put-requires t c =
    let x = c.args.context.now in
    let inner = c.deepest-inner.result in
    let smaller : room inner + 4 < t = omega (arith, c.decreases, room_deepest x inner c.deepest-inner.ensures.value c.requires.world) in
    (smaller, subst (λ z. SoundCells (callable z) z.cells) (sym c.deepest-inner.ensures.value) c.deepest-inner.ensures.sound)

pub act_outside-swap-requires : goal.act_outside-swap-requires
act_outside-swap-requires t c =
    let x = c.args.context.now in
    let ready = subst (λ a. ReadyIn (callable x) in_thread a (length c.args.args.items)) c.in-Update.is c.requires.ready in
    let smaller : room x + 4 < room x + 5 = omega arith in
    (search (rules, smaller), (c.requires.world, subst (λ l. SoundCallee (callable x) c.in-Update.callee (suc (length l))) (sym (c.as_slice-args.ensures.value ∙ c.in_ok-values.ensures.0)) ready.1))

pub act_outside-returns-in_ok-event-in-Update : goal.act_outside-returns-in_ok-event-in-Update
act_outside-returns-in_ok-event-in-Update t c =
    let x = c.args.context.now in
    let form = c.in-Update.field-0 in
    let callee = c.in-Update.callee in
    let cell = c.in_ok-cell.cell in
    let e = c.in_ok-event-in-Update.event.now in
    let h = c.in_ok-event-in-Update.ensures.comes in
    let same = c.in_ok-event-in-Update.ensures.same in
    let before = thread_state c.args.thread.now in
    let later = thread_state c.eat-in-Update.new.self in
    let vs = c.args.args.items in
    let ready = subst (λ a. ReadyIn (callable x) in_thread a (length vs)) c.in-Update.is c.requires.ready in
    let told = subst (λ f. Told (Ok cell) (result_of (cell_of (rule f) false c.args.value.now) c.args.span tt)) (c.form.ensures ∙ ap form_of_act c.in-Update.is) c.in_ok-cell.ensures in
    let r = c.swap.result in
    let swapped = subst (λ l. AnswersAt r (with_todo h.0 before) (swap_means x callee cell l c.args.span (seen_event e) (with_todo h.0 before))) (c.as_slice-args.ensures.value ∙ c.in_ok-values.ensures.0) (c.swap.ensures (with_todo h.0 before)) in
    let given = gives_at c.home-book.result (home x.cells cell) c.home-book.ensures (λ a s. swap_means x callee cell vs c.args.span a s) e before later h r (c.eat-in-Update.ensures.eaten (seen_event e) h.0 (ap (λ s. s.todo) same ∙ h.1) ∙ ap (λ s. after r h.0 s) same) swapped in
    λ wanted. subst₂ (λ a q. Gives false q later (outside_means x a (mark_of c.args.span wanted) c.args.value.now vs before)) (sym c.in-Update.is) (sym c.eat-in-Update.ensures.same)
    (update_outside x (mark_of c.args.span wanted) c.args.value.now before cell r later form callee vs ready told given)

pub act_outside-eat-requires-in-Update : goal.act_outside-eat-requires-in-Update
act_outside-eat-requires-in-Update t c =
    let h = c.in_ok-event-in-Update.ensures.comes in
    event_left c.next-in-Update.new.self (seen_event c.in_ok-event-in-Update.event.now) h.0 (ap (λ s. s.todo) c.in_ok-event-in-Update.ensures.same ∙ h.1)

pub eat_dosync-returns-clause-value : goal.eat_dosync-returns-clause-value
eat_dosync-returns-clause-value t c =
    let x = c.args.context.now in
    let m = mark_of c.args.dosync.span c.args.dosync.wanted in
    let body = tree_of c.args.dosync.body.now in
    let env = c.args.locals.now.items in
    let e = c.in_ok-event.event.now in
    let r = plain_view e.start in
    let h = c.in_ok-event.ensures.value in
    let now = thread_state c.end_of_tx.new.thread in
    let before = with_todo h.0 now in
    let w = plain_view c.in-Some.world in
    let viewed = sym c.end_view.ensures ∙ ap plain_world c.in-Some.is in
    let end = closes e.kind.now m.span (ended x m body env r w before) in
    let whole = h.3 (at_end x m.span) ∙ ap (λ o. uneaten (seen_event e ∷ h.0) o) (ends_viewed x m body env before r (plain_view e.view) (plain_view e.here) w e.kind.now viewed) in
    let shut = thread_state c.close-given.new.thread in
    let later = thread_state c.eat-2.new.self in
    let res = c.close-given.result in
    let run = c.in-Ok.run' in
    let items : Vec (CellId × Value) Global → Writes = λ ws. ws.items in
    let closed = closes_todo (closing items e.kind.now c.final_writes-last.result (sends_of_commit now.held run.work.done.sends)) m.span (tx_run run) h.0 res now shut c.close-given.ensures.value in
    let calm = commutes_deepest x run.work.done.commutes c.in-Ok.ensures.sound in
    let last = subst (λ z. ToldOf items c.final_writes-last.result (final_means z run.work.done w m.span)) c.deepest-inner.ensures.value c.final_writes-last.ensures in
    let given = ended_closed x m body env r w before c.is_sound.ensures c.deepest-inner.ensures.sound run (subst (λ l. Runs (Ok run) m body l (body_means x body l r)) c.in_ok-event.ensures.kept c.in-Ok.ensures.value) calm items c.final_writes-last.result e.kind.now res (with_todo h.0 shut) last closed in
    let left = c.close-given.ensures.kept ∙ h.1 in
    let start = retried (suc reruns) (transacting x m body env) (thread_state c.args.thread.now) in
    let as_before : IsOther res → start ≡ shut = λ o. h.2 ∙ closes_other (closing items e.kind.now c.final_writes-last.result (sends_of_commit now.held run.work.done.sends)) m.span (tx_run run) res now shut c.close-given.ensures.value o in
    subst₂ (λ q o. Gives false q later (up_to start o)) (sym c.eat-2.ensures.same) (sym whole) (answered res (seen_event e) h.0 start shut later end left as_before (c.eat-2.ensures.eaten (seen_event e) h.0 left) given)

pub eat_dosync-eat-requires : goal.eat_dosync-eat-requires
eat_dosync-eat-requires t c =
    let h = c.in_ok-event.ensures.value in
    event_left c.end_of_tx.new.thread (seen_event c.in_ok-event.event.now) h.0 h.1

pub eat_dosync-eat-requires-2 : goal.eat_dosync-eat-requires-2
eat_dosync-eat-requires-2 t c =
    let h = c.in_ok-event.ensures.value in
    event_left c.close-given.new.thread (seen_event c.in_ok-event.event.now) h.0 (c.close-given.ensures.kept ∙ h.1)

pub final_writes-redo-requires : goal.final_writes-redo-requires
final_writes-redo-requires t c =
    let x = c.args.context.now in
    let smaller : room x + 4 < room x + 5 = omega arith in
    (search (rules, smaller), c.requires.commutes)

pub final_writes-returns-in_err-redo : goal.final_writes-returns-in_err-redo
final_writes-returns-in_err-redo t c =
    let x = c.args.context.now in
    let w = c.args.done.now in
    let r = plain_view c.args.world in
    let y = c.in_err-redo.field-0.0 in
    stops_gives (λ (us : Vec (CellId × Value) Global). us.items) true c.from_residual-in_err-redo.result y tt (final_means x w r c.args.span) (halted c.from_residual-in_err-redo.result y c.from_residual-in_err-redo.ensures.1)
    (finals_stop x c.args.span w r c.in_ok-writes.writes.items c.in_ok-writes.ensures y c.in_err-redo.ensures)

pub final_writes-returns : goal.final_writes-returns
final_writes-returns t c =
    let x = c.args.context.now in
    let w = c.args.done.now in
    let r = plain_view c.args.world in
    let made = c.in_ok-last.ensures ∙ ap (λ us. merged (set_writes w) us) c.as_slice.ensures.value in
    let all = ap (λ l. accepted_means x c.args.span l) (sym c.as_slice-2.ensures.value) ∙ c.in_ok-accept_all.ensures in
    finals_done x c.args.span w r c.in_ok-writes.writes.items c.in_ok-writes.ensures c.redo.new.writes.items c.in_ok-redo.ensures c.in_ok-last.last.items made all

pub redo-redo_one-requires : goal.redo-redo_one-requires
redo-redo_one-requires t c =
    let x = c.args.context.now in
    let work = c.as_slice-commutes.ensures.value ∙ c.in_ok-work.ensures in
    let smaller : room x + 3 < room x + 4 = omega arith in
    (search (rules, smaller), sound_at (callable x) c.as_slice-commutes.result.now c.loop-commute.commute-index c.commute-item.result (phase_sound (callable x) c.args.done.now c.as_slice-commutes.result.now work c.requires) c.loop-commute-test.true c.commute-item.is)

pub redo-loop-commute-init : goal.redo-loop-commute-init
redo-loop-commute-init t c = ap (λ l. redone_means c.args.context.now c.args.span l c.args.writes.now.items) (sym (c.as_slice-commutes.ensures.value ∙ c.in_ok-work.ensures))

pub redo-returns-in_err-redo_one : goal.redo-returns-in_err-redo_one
redo-returns-in_err-redo_one t c =
    let x = c.args.context.now in
    let cs = c.as_slice-commutes.result.now in
    let y = c.in_err-redo_one.field-0.0 in
    let rest = redone_stop x c.args.span cs c.loop-commute.commute-index c.commute-item.result c.loop-commute-test.true c.commute-item.is c.loop-commute.writes.items y c.in_err-redo_one.ensures in
    stops_gives _ true c.from_residual-in_err-redo_one.result y tt (redone_means x c.args.span (phase_work c.args.done.now) c.args.writes.now.items) (halted c.from_residual-in_err-redo_one.result y c.from_residual-in_err-redo_one.ensures.1) (subst (λ q. Told {A = Writes} (Err y) q) (sym c.loop-commute.invariant) rest)

pub redo-loop-commute-preserved : goal.redo-loop-commute-preserved
redo-loop-commute-preserved t c =
    c.loop-commute.invariant ∙ redone_more c.args.context.now c.args.span c.as_slice-commutes.result.now c.loop-commute.commute-index c.commute-item.result c.loop-commute-test.true c.commute-item.is c.loop-commute.writes.items c.redo_one.new.writes.items c.in_ok-redo_one.ensures

pub redo-returns : goal.redo-returns
redo-returns t c =
    let x = c.args.context.now in
    let end = drop_all c.loop-commute.commute-index c.as_slice-commutes.result.now c.loop-commute-test.false in
    c.loop-commute.invariant ∙ ap (λ l. redone_means x c.args.span l c.loop-commute.writes.items) end

pub act_inside-put-requires : goal.act_inside-put-requires
act_inside-put-requires t c =
    let x = c.args.context.now in
    let ready = subst (λ a. ReadyIn (callable x) in_dosync a (length c.args.args.items)) c.in-Put.is c.requires in
    let told = subst (λ f. Told (Ok c.in_ok-cell.cell) (result_of (cell_of (rule f) true c.args.value.now) c.args.span tt)) (c.form.ensures ∙ ap form_of_act c.in-Put.is) c.in_ok-cell.ensures in
    record { cell = put_takes (callable x) c.in-Put.field-0 (length c.args.args.items) c.args.value.now c.args.span c.in_ok-cell.cell ready told; one = ready.1 }

pub act_inside-returns-in-Look : goal.act_inside-returns-in-Look
act_inside-returns-in-Look t c =
    let x = c.args.context.now in
    let told = subst (λ f. Told (Ok c.in_ok-cell.cell) (result_of (cell_of (rule f) true c.args.value.now) c.args.span tt)) (c.form.ensures ∙ ap form_of_act c.in-Look.is) c.in_ok-cell.ensures in
    let m = mark_of c.args.span c.args.wanted in
    let r = plain_tx_view c.args.world in
    subst (λ a. Gives (is_whole r.gone) c.look.result (tx_state c.look.new.self) (inside_means x r a m c.args.value.now c.args.args.items (tx_state c.args.tx.now))) (sym c.in-Look.is)
    (look_inside x r m c.args.value.now (tx_state c.args.tx.now) c.in_ok-cell.cell c.look.result (tx_state c.look.new.self) c.in-Look.form c.args.args.items told c.look.ensures)

pub act_outside-returns-in_ok-event-in-Look : goal.act_outside-returns-in_ok-event-in-Look
act_outside-returns-in_ok-event-in-Look t c =
    let x = c.args.context.now in
    let form = c.in-Look.field-0 in
    let cell = c.in_ok-cell.cell in
    let e = c.in_ok-event-in-Look.event.now in
    let h = c.in_ok-event-in-Look.ensures.comes in
    let same = c.in_ok-event-in-Look.ensures.same in
    let before = thread_state c.args.thread.now in
    let later = thread_state c.eat.new.self in
    let ready = subst (λ a. ReadyIn (callable x) in_thread a (length c.args.args.items)) c.in-Look.is c.requires.ready in
    let told = subst (λ f. Told (Ok cell) (result_of (cell_of (rule f) false c.args.value.now) c.args.span tt)) (c.form.ensures ∙ ap form_of_act c.in-Look.is) c.in_ok-cell.ensures in
    let r = c.read_at.result in
    let given = gives_at c.home-book.result (home x.cells cell) c.home-book.ensures (λ a s. reads cell a.kind a.C s) e before later h r (c.eat.ensures.eaten (seen_event e) h.0 (ap (λ s. s.todo) same ∙ h.1) ∙ ap (λ s. after r h.0 s) same) (c.read_at.ensures (with_todo h.0 before)) in
    λ wanted. subst₂ (λ a q. Gives false q later (outside_means x a (mark_of c.args.span wanted) c.args.value.now c.args.args.items before)) (sym c.in-Look.is) (sym c.eat.ensures.same)
    (look_outside x (mark_of c.args.span wanted) c.args.value.now before cell r later form c.args.args.items ready told given)

pub act_outside-eat-requires : goal.act_outside-eat-requires
act_outside-eat-requires t c =
    let h = c.in_ok-event-in-Look.ensures.comes in
    event_left c.next.new.self (seen_event c.in_ok-event-in-Look.event.now) h.0 (ap (λ s. s.todo) c.in_ok-event-in-Look.ensures.same ∙ h.1)

pub act_outside-returns-in-Send : goal.act_outside-returns-in-Send
act_outside-returns-in-Send t c =
    let x = c.args.context.now in
    let cell = c.in_ok-cell.cell in
    let before = thread_state c.args.thread.now in
    let later = thread_state c.send.new.self in
    let callee = c.in-Send.callee in
    let vs = c.args.args.items in
    let sent = subst (λ us. Gives false c.send.result later (up_to before (sends_or_holds before.held (record { agent = cell; callee = callee; args = us; span = c.args.span }) c.args.span before))) c.in_ok-values.ensures.0 c.send.ensures in
    let told = subst (λ f. Told (Ok cell) (result_of (cell_of (rule f) false c.args.value.now) c.args.span tt)) (c.form.ensures ∙ ap form_of_act c.in-Send.is) c.in_ok-cell.ensures in
    λ wanted. subst (λ a. Gives false c.send.result later (outside_means x a (mark_of c.args.span wanted) c.args.value.now vs before)) (sym c.in-Send.is)
    (send_outside x (mark_of c.args.span wanted) c.args.value.now before cell c.send.result later callee vs told sent)

-- ---- what is kept, and what goes on as it is

pub evaluate-returns-in_err-value-clause-value : goal.evaluate-returns-in_err-value-clause-value
evaluate-returns-in_err-value-clause-value t c =
    let x = c.args.context.now in
    let y = c.in_err-value.field-0.0 in
    let out = c.evaluate_tail.new.state in
    stops_gives (λ v. v) (has_all x.world) c.from_residual.result y (part x.world out) (means x (tree_of c.args.node.now) c.args.locals.now.items c.args.state.now) (halted c.from_residual.result y c.from_residual.ensures.1) c.in_err-value.ensures.value

pub evaluate-returns-clause-value : goal.evaluate-returns-clause-value
evaluate-returns-clause-value t c =
    let x = c.args.context.now in
    subst (λ s. Steps x (Ok s) c.evaluate_tail.new.state (means x (tree_of c.args.node.now) c.args.locals.now.items c.args.state.now)) c.in-Value.is c.in_ok-value.ensures.value

pub evaluate-returns-clause-kept : goal.evaluate-returns-clause-kept
evaluate-returns-clause-kept t c = c.in_ok-value.ensures.kept

pub evaluate_if-returns-in_err-value-clause-value : goal.evaluate_if-returns-in_err-value-clause-value
evaluate_if-returns-in_err-value-clause-value t c =
    let x = c.args.context.now in
    let y = c.in_err-value.field-0.0 in
    let test = tree_of c.args.test.now in
    let yes = tree_of c.args.yes.now in
    let no = tree_of c.args.no.now in
    let env = c.args.locals.now.items in
    let out = c.evaluate.new.state in
    stops_steps (has_all x.world) c.from_residual.result y (part x.world out) (if_means x test yes no env c.args.state.now) (halted c.from_residual.result y c.from_residual.ensures.1) (if_stop x test yes no env c.args.state.now y out c.in_err-value.ensures.value)

pub evaluate_if-returns-then-other-clause-value : goal.evaluate_if-returns-then-other-clause-value
evaluate_if-returns-then-other-clause-value t c =
    let x = c.args.context.now in
    let other : true ≡ is_false c.in_ok-value.value = search rules in
    if_goes x (tree_of c.args.test.now) (tree_of c.args.yes.now) (tree_of c.args.no.now) c.args.locals.now.items c.args.state.now c.in_ok-value.value true c.evaluate.new.locals.items c.evaluate.new.state c.evaluate_tail.new.state c.evaluate_tail.result c.in_ok-value.ensures.value other c.in_ok-value.ensures.kept c.evaluate_tail.ensures.value

pub evaluate_if-returns-then-other-clause-kept : goal.evaluate_if-returns-then-other-clause-kept
evaluate_if-returns-then-other-clause-kept t c =
    subst (λ l. OnOk c.evaluate_tail.result (c.evaluate_tail.new.locals.items ≡ l)) c.in_ok-value.ensures.kept c.evaluate_tail.ensures.kept

pub evaluate_if-returns-clause-kept : goal.evaluate_if-returns-clause-kept
evaluate_if-returns-clause-kept t c =
    subst (λ l. OnOk c.evaluate_tail-2.result (c.evaluate_tail-2.new.locals.items ≡ l)) c.in_ok-value.ensures.kept c.evaluate_tail-2.ensures.kept

pub evaluate_strict-returns-in_err-values-clause-value : goal.evaluate_strict-returns-in_err-values-clause-value
evaluate_strict-returns-in_err-values-clause-value t c =
    let x = c.args.context.now in
    let y = c.in_err-values.field-0.0 in
    let es = trees_of c.args.args.now in
    let env = c.args.locals.now.items in
    let out = c.evaluate_all.new.state in
    stops_steps (has_all x.world) c.from_residual.result y (part x.world out) (strict_means x c.args.strict c.args.span es env c.args.state.now) (halted c.from_residual.result y c.from_residual.ensures.1)
    (strict_stop x c.args.strict c.args.span es env c.args.state.now out (λ (vs : Vec Value Global). vs.items) y c.in_err-values.ensures.value)

pub evaluate_strict-returns-clause-value : goal.evaluate_strict-returns-clause-value
evaluate_strict-returns-clause-value t c =
    strict_done c.args.context.now c.args.strict c.args.span (trees_of c.args.args.now) c.args.locals.now.items c.args.state.now c.evaluate_all.new.state c.in_ok-values.values.items c.finish.new.state c.finish.result c.in_ok-values.ensures.value c.finish.ensures

pub evaluate_strict-returns-clause-kept : goal.evaluate_strict-returns-clause-kept
evaluate_strict-returns-clause-kept t c = kept_by c.finish.result c.in_ok-values.ensures.kept

pub evaluate_form-returns-in_err-cell-clause-value : goal.evaluate_form-returns-in_err-cell-clause-value
evaluate_form-returns-in_err-cell-clause-value t c =
    let x = c.args.context.now in
    let m = mark_of c.args.span c.args.wanted in
    let cell = tree_of c.args.cell.now in
    let args = trees_of c.args.args.now in
    let env = c.args.locals.now.items in
    let y = c.in_err-cell.field-0.0 in
    let out = c.evaluate.new.state in
    stops_steps (has_all x.world) c.from_residual.result y (part x.world out) (form_means x c.args.act m cell args env c.args.state.now) (halted c.from_residual.result y c.from_residual.ensures.1) (cell_stop x c.args.act m cell args env c.args.state.now y out c.in_err-cell.ensures.value)

pub evaluate_form-returns-in-Some-clause-kept : goal.evaluate_form-returns-in-Some-clause-kept
evaluate_form-returns-in-Some-clause-kept t c = kept_by c.as_step.result (c.in_ok-args.ensures.kept ∙ c.in_ok-cell.ensures.kept)

pub evaluate_form-returns-clause-kept : goal.evaluate_form-returns-clause-kept
evaluate_form-returns-clause-kept t c = kept_by c.as_step-in-None.result (c.in_ok-args.ensures.kept ∙ c.in_ok-cell.ensures.kept)

pub evaluate_tail-returns-in-If-clause-kept : goal.evaluate_tail-returns-in-If-clause-kept
evaluate_tail-returns-in-If-clause-kept t c = c.evaluate_if.ensures.kept

pub evaluate_tail-returns-in-Do-clause-kept : goal.evaluate_tail-returns-in-Do-clause-kept
evaluate_tail-returns-in-Do-clause-kept t c = c.evaluate_do.ensures.kept

pub evaluate_tail-returns-in-Let-clause-kept : goal.evaluate_tail-returns-in-Let-clause-kept
evaluate_tail-returns-in-Let-clause-kept t c = c.evaluate_let.ensures.kept

pub evaluate_tail-returns-in-Loop-clause-kept : goal.evaluate_tail-returns-in-Loop-clause-kept
evaluate_tail-returns-in-Loop-clause-kept t c = c.evaluate_loop.ensures.kept

pub evaluate_tail-returns-in-Strict-clause-kept : goal.evaluate_tail-returns-in-Strict-clause-kept
evaluate_tail-returns-in-Strict-clause-kept t c = c.evaluate_strict.ensures.kept

pub evaluate_tail-returns-in-Dosync-clause-kept : goal.evaluate_tail-returns-in-Dosync-clause-kept
evaluate_tail-returns-in-Dosync-clause-kept t c = c.evaluate_dosync.ensures.kept

pub evaluate_tail-returns-in-Form-clause-kept : goal.evaluate_tail-returns-in-Form-clause-kept
evaluate_tail-returns-in-Form-clause-kept t c = c.evaluate_form.ensures.kept

pub evaluate_dosync-returns-then-is_some-clause-kept : goal.evaluate_dosync-returns-then-is_some-clause-kept
evaluate_dosync-returns-then-is_some-clause-kept t c = kept_as (c.evaluate.new.locals.items ≡ c.args.locals.now.items) c.evaluate.result c.as_step.result c.as_step.ensures c.evaluate.ensures.kept

pub evaluate_dosync-returns-clause-kept : goal.evaluate_dosync-returns-clause-kept
evaluate_dosync-returns-clause-kept t c = kept_as (c.eat_dosync.new.locals.items ≡ c.args.locals.now.items) c.eat_dosync.result c.as_step-2.result c.as_step-2.ensures c.eat_dosync.ensures.kept

pub eat_dosync-returns-clause-kept : goal.eat_dosync-returns-clause-kept
eat_dosync-returns-clause-kept t c = kept_by c.eat-2.result (c.in-Ok.ensures.kept ∙ c.in_ok-event.ensures.kept)

pub evaluate_all-returns-clause-kept : goal.evaluate_all-returns-clause-kept
evaluate_all-returns-clause-kept t c = c.loop-node.invariant.0

pub evaluate_all-returns-clause-value : goal.evaluate_all-returns-clause-value
evaluate_all-returns-clause-value t c =
    let n = c.args.context.now in
    let vs = c.loop-node.values.items in
    let now = part n.world c.loop-node.state in
    let end = drop_all c.loop-node.node-index c.args.nodes.now c.loop-node-test.false in
    c.loop-node.invariant.3 ∙ ap (λ ns. collects (forms_in n) (calls_in n) n.turns (is_on n.world) vs (trees_of ns) c.args.locals.now.items now) end ∙ ap (λ ws. Completes ws now) (append-nil vs)

pub bind_locals-returns-clause-kept : goal.bind_locals-returns-clause-kept
bind_locals-returns-clause-kept t c = c.loop-node.invariant.0

pub bind_locals-returns-clause-count : goal.bind_locals-returns-clause-count
bind_locals-returns-clause-count t c =
    let end = ap (λ ns. count (trees_of ns)) (drop_all c.loop-node.node-index c.args.nodes.now c.loop-node-test.false) in
    omega (arith, end, c.loop-node.invariant.1)

pub bind_locals-returns-clause-value : goal.bind_locals-returns-clause-value
bind_locals-returns-clause-value t c =
    let n = c.args.context.now in
    let vs = c.loop-node.locals.items in
    let end = drop_all c.loop-node.node-index c.args.nodes.now c.loop-node-test.false in
    c.loop-node.invariant.3 ∙ ap (λ ns. locals_mean n (trees_of ns) vs c.loop-node.state) end ∙ ap (λ ws. Completes ws (part n.world c.loop-node.state)) (append-nil vs)

pub apply_on-returns : goal.apply_on-returns
apply_on-returns t c =
    subst (λ vs. Told c.apply_callee.result (applied c.args.context.now c.args.callee vs c.args.span)) c.in_ok-values.ensures c.apply_callee.ensures

-- ---- what the calls need, and that they come to an end

pub evaluate-evaluate_tail-requires : goal.evaluate-evaluate_tail-requires
evaluate-evaluate_tail-requires t c =
    let smaller : 16 * nodes (tree_of c.args.node.now) < 16 * nodes (tree_of c.args.node.now) + 1 = omega arith in
    (search (rules, in_room c.args.context.now _ _ smaller), record { tail = None; sound = c.requires })

pub evaluate_if-evaluate-requires : goal.evaluate_if-evaluate-requires
evaluate_if-evaluate-requires t c =
    let a = nodes (tree_of c.args.test.now) in
    let b = nodes (tree_of c.args.yes.now) in
    let d = nodes (tree_of c.args.no.now) in
    let smaller : 16 * a + 1 < 16 * (a + (b + d)) + 2 = omega arith in
    (search (rules, in_room c.args.context.now _ _ smaller), c.requires.test)

pub evaluate_if-evaluate_tail-requires : goal.evaluate_if-evaluate_tail-requires
evaluate_if-evaluate_tail-requires t c =
    let a = nodes (tree_of c.args.test.now) in
    let b = nodes (tree_of c.args.yes.now) in
    let d = nodes (tree_of c.args.no.now) in
    let smaller : 16 * nodes (tree_of c.args.no.now) < 16 * (a + (b + d)) + 2 = omega arith in
    (search (rules, in_room c.args.context.now _ _ smaller), record { tail = c.requires.branches.tail; sound = subst (λ l. SoundTree (callable c.args.context.now) (zone_in c.args.context.now) (length l) c.requires.branches.tail (tree_of c.args.no.now)) (sym c.in_ok-value.ensures.kept) c.requires.branches.sound.1 })

pub evaluate_if-evaluate_tail-requires-2 : goal.evaluate_if-evaluate_tail-requires-2
evaluate_if-evaluate_tail-requires-2 t c =
    let a = nodes (tree_of c.args.test.now) in
    let b = nodes (tree_of c.args.yes.now) in
    let d = nodes (tree_of c.args.no.now) in
    let smaller : 16 * nodes (tree_of c.args.yes.now) < 16 * (a + (b + d)) + 2 = omega arith in
    (search (rules, in_room c.args.context.now _ _ smaller), record { tail = c.requires.branches.tail; sound = subst (λ l. SoundTree (callable c.args.context.now) (zone_in c.args.context.now) (length l) c.requires.branches.tail (tree_of c.args.yes.now)) (sym c.in_ok-value.ensures.kept) c.requires.branches.sound.0 })

pub evaluate_strict-evaluate_all-requires : goal.evaluate_strict-evaluate_all-requires
evaluate_strict-evaluate_all-requires t c =
    let smaller : 16 * nodes_in (trees_of c.args.args.now) + 2 < 16 * nodes_in (trees_of c.args.args.now) + 4 = omega arith in
    (search (rules, in_room c.args.context.now _ _ smaller), c.requires.args)

pub evaluate_strict-finish-requires : goal.evaluate_strict-finish-requires
evaluate_strict-finish-requires t c =
    let x = c.args.context.now in
    let smaller : room x + 3 < room x + (16 * nodes_in (trees_of c.args.args.now) + 4) = omega arith in
    (search (rules, smaller), subst (λ k. Finishes x c.args.strict k) (sym c.in_ok-values.ensures.count) c.requires.finishes)

pub evaluate_form-evaluate-requires : goal.evaluate_form-evaluate-requires
evaluate_form-evaluate-requires t c =
    let a = nodes (tree_of c.args.cell.now) in
    let b = nodes_in (trees_of c.args.args.now) in
    let smaller : 16 * a + 1 < 16 * (a + b) + 10 = omega arith in
    (search (rules, in_room c.args.context.now _ _ smaller), c.requires.cell)

pub evaluate_form-evaluate_all-requires : goal.evaluate_form-evaluate_all-requires
evaluate_form-evaluate_all-requires t c =
    let a = nodes (tree_of c.args.cell.now) in
    let b = nodes_in (trees_of c.args.args.now) in
    let smaller : 16 * b + 2 < 16 * (a + b) + 10 = omega arith in
    (search (rules, in_room c.args.context.now _ _ smaller), subst (λ l. SoundAll (callable c.args.context.now) (zone_in c.args.context.now) (length l) (trees_of c.args.args.now)) (sym c.in_ok-cell.ensures.kept) c.requires.args)

pub evaluate_tail-evaluate_if-requires : goal.evaluate_tail-evaluate_if-requires
evaluate_tail-evaluate_if-requires t c =
    let n = c.args.node.now in
    let is = subst (λ s. IsShape s (mark_of n.span n.wanted) (tree_of n)) c.in-If.is c.shape_of.ensures in
    let sound = subst (λ e. SoundTree (callable c.args.context.now) (zone_in c.args.context.now) (length c.args.locals.now.items) c.requires.tail e) is c.requires.sound in
    let smaller : 16 * (nodes (tree_of c.in-If.test.now) + (nodes (tree_of c.in-If.yes.now) + nodes (tree_of c.in-If.no.now))) + 2 < 16 * nodes (tree_of n) = omega (arith, ap nodes is) in
    (search (rules, in_room c.args.context.now _ _ smaller), (sound.0, record { tail = c.requires.tail; sound = (sound.1, sound.2) }))

pub eat_dosync-run_body-requires : goal.eat_dosync-run_body-requires
eat_dosync-run_body-requires t c =
    let smaller : 16 * nodes (tree_of c.args.dosync.body.now) + 2 < 16 * nodes (tree_of c.args.dosync.body.now) + 9 = omega arith in
    (search (rules, in_room c.args.context.now _ _ smaller), subst (λ l. SoundTree (callable c.args.context.now) in_dosync (length l) None (tree_of c.args.dosync.body.now)) (sym c.in_ok-event.ensures.kept) c.requires.body)

-- ---- the tries of a transaction that had to run again

pub eat_dosync-end_of_tx-requires : goal.eat_dosync-end_of_tx-requires
eat_dosync-end_of_tx-requires t c =
    let smaller : 16 * nodes (tree_of c.args.dosync.body.now) + 8 < 16 * nodes (tree_of c.args.dosync.body.now) + 9 = omega arith in
    (search (rules, in_room c.args.context.now _ _ smaller), c.requires.body)

pub end_of_tx-rerun-requires : goal.end_of_tx-rerun-requires
end_of_tx-rerun-requires t c =
    let smaller : 16 * nodes (tree_of c.args.dosync.body.now) + 7 < 16 * nodes (tree_of c.args.dosync.body.now) + 8 = omega arith in
    (search (rules, in_room c.args.context.now _ _ smaller), subst (λ l. SoundTree (callable c.args.context.now) in_dosync (length l) None (tree_of c.args.dosync.body.now)) (sym c.loop-try.invariant.0) c.requires)

pub rerun-run_body-requires : goal.rerun-run_body-requires
rerun-run_body-requires t c =
    let smaller : 16 * nodes (tree_of c.args.dosync.body.now) + 2 < 16 * nodes (tree_of c.args.dosync.body.now) + 7 = omega arith in
    (search (rules, in_room c.args.context.now _ _ smaller), c.requires)

tries_are : suc reruns ≡ 10000
unfolding reruns
tries_are = refl

pub end_of_tx-loop-try-init : goal.end_of_tx-loop-try-init
end_of_tx-loop-try-init t c =
    let d = transacting c.args.context.now (mark_of c.args.dosync.span c.args.dosync.wanted) (tree_of c.args.dosync.body.now) c.args.locals.now.items in
    let now = thread_state c.args.thread.now in
    (refl, λ f. ap (λ k. eats_tx k d f now.todo now) tries_are, ap (λ k. retried k d now) tries_are)

pub end_of_tx-returns-in_err-event-clause-value : goal.end_of_tx-returns-in_err-event-clause-value
end_of_tx-returns-in_err-event-clause-value t c =
    let d = transacting c.args.context.now (mark_of c.args.dosync.span c.args.dosync.wanted) (tree_of c.args.dosync.body.now) c.args.locals.now.items in
    let now = thread_state c.loop-try.thread in
    let later = thread_state c.next.new.self in
    let k = 10000 - (c.loop-try._try + 1) in
    let left : 10000 - c.loop-try._try ≡ suc k = omega (arith, c.loop-try-test.true) in
    let y = c.in_err-event.field-0.0 in
    let first = thread_state c.args.thread.now in
    let start = retried (suc reruns) d first in
    let eaten : start ≡ retried (suc k) d now = c.loop-try.invariant.2 ∙ ap (λ j. retried j d now) left in
    unmatched _ (λ z. EndsNone d z first later) c.from_residual.result y (halted c.from_residual.result y c.from_residual.ensures.1)
    (λ f. subst (λ m. Stops false y later (up_to start m)) (sym (c.loop-try.invariant.1 f ∙ ap (λ j. eats_tx j d f now.todo now) left)) (eats_none d f k y start now later eaten c.in_err-event.ensures.comes))

pub end_of_tx-returns-then-not-is_retry-clause-value : goal.end_of_tx-returns-then-not-is_retry-clause-value
end_of_tx-returns-then-not-is_retry-clause-value t c =
    let d = transacting c.args.context.now (mark_of c.args.dosync.span c.args.dosync.wanted) (tree_of c.args.dosync.body.now) c.args.locals.now.items in
    let now = thread_state c.loop-try.thread in
    let later = thread_state c.next.new.self in
    let same : later ≡ now = c.in_ok-event.ensures.same in
    let k = 10000 - (c.loop-try._try + 1) in
    let left : 10000 - c.loop-try._try ≡ suc k = omega (arith, c.loop-try-test.true) in
    let first = thread_state c.args.thread.now in
    let e = c.in_ok-event.event.now in
    let h = c.in_ok-event.ensures.comes in
    let ends : is_retry e.kind.now ≡ false = search rules in
    subst (λ s. EndComes d e first s) (sym same)
    (h.0, h.1, c.loop-try.invariant.2 ∙ ap (λ j. retried j d now) left ∙ retried_end d k e now h ends, λ f. c.loop-try.invariant.1 f ∙ ap (λ j. eats_tx j d f now.todo now) left ∙ eats_end d f k e now h ends)

pub end_of_tx-returns-then-not-is_retry-clause-kept : goal.end_of_tx-returns-then-not-is_retry-clause-kept
end_of_tx-returns-then-not-is_retry-clause-kept t c = c.loop-try.invariant.0

pub end_of_tx-returns-in_err-rerun-clause-value : goal.end_of_tx-returns-in_err-rerun-clause-value
end_of_tx-returns-in_err-rerun-clause-value t c =
    let d = transacting c.args.context.now (mark_of c.args.dosync.span c.args.dosync.wanted) (tree_of c.args.dosync.body.now) c.args.locals.now.items in
    let now = thread_state c.loop-try.thread in
    let later = thread_state c.next.new.self in
    let same : later ≡ now = c.in_ok-event.ensures.same in
    let k = 10000 - (c.loop-try._try + 1) in
    let left : 10000 - c.loop-try._try ≡ suc k = omega (arith, c.loop-try-test.true) in
    let y = c.in_err-rerun.field-0.0 in
    let first = thread_state c.args.thread.now in
    let start = retried (suc reruns) d first in
    let eaten : start ≡ retried (suc k) d now = c.loop-try.invariant.2 ∙ ap (λ j. retried j d now) left in
    let e = c.in_ok-event.event.now in
    let h = c.in_ok-event.ensures.comes in
    let retry : is_retry e.kind.now ≡ true = search rules in
    let unrun = subst (λ l. Reruns {U = Unit {0}} (transacting c.args.context.now (mark_of c.args.dosync.span c.args.dosync.wanted) (tree_of c.args.dosync.body.now) l) e.kind.now (world_of (plain_view e.start)) (Err y)) c.loop-try.invariant.0 c.in_err-rerun.ensures.value in
    unmatched _ (λ z. EndsNone d z first later) c.from_residual-in_err-rerun.result y (halted c.from_residual-in_err-rerun.result y c.from_residual-in_err-rerun.ensures.1)
    (λ f. subst₂ (λ s m. Stops false y s (up_to start m)) (sym same) (sym (c.loop-try.invariant.1 f ∙ ap (λ j. eats_tx j d f now.todo now) left)) (eats_unrun d f (Unit {0}) k y e start now h eaten retry unrun))

pub end_of_tx-loop-try-preserved : goal.end_of_tx-loop-try-preserved
end_of_tx-loop-try-preserved t c =
    let d = transacting c.args.context.now (mark_of c.args.dosync.span c.args.dosync.wanted) (tree_of c.args.dosync.body.now) c.args.locals.now.items in
    let now = thread_state c.loop-try.thread in
    let same : thread_state c.next.new.self ≡ now = c.in_ok-event.ensures.same in
    let behind = thread_state c.skip.new.self in
    let k = 10000 - (c.loop-try._try + 1) in
    let left : 10000 - c.loop-try._try ≡ suc k = omega (arith, c.loop-try-test.true) in
    let e = c.in_ok-event.event.now in
    let h = c.in_ok-event.ensures.comes in
    let retry : is_retry e.kind.now ≡ true = search rules in
    let cause = subst (λ l. Reruns {U = Unit {0}} (transacting c.args.context.now (mark_of c.args.dosync.span c.args.dosync.wanted) (tree_of c.args.dosync.body.now) l) e.kind.now (world_of (plain_view e.start)) (Ok tt)) c.loop-try.invariant.0 c.in_ok-rerun.ensures.value in
    let rest = c.skip.ensures (seen_event e) h.0 (ap (λ s. s.todo) same ∙ h.1) ∙ ap (λ s. with_todo h.0 s) same in (
      c.in_ok-rerun.ensures.kept ∙ c.loop-try.invariant.0,
      λ f. c.loop-try.invariant.1 f ∙ ap (λ j. eats_tx j d f now.todo now) left ∙ eats_more d f k e now behind h rest retry cause.1,
      c.loop-try.invariant.2 ∙ ap (λ j. retried j d now) left ∙ retried_more d k e now h behind rest retry cause.0,
    )

pub end_of_tx-skip-requires : goal.end_of_tx-skip-requires
end_of_tx-skip-requires t c =
    let h = c.in_ok-event.ensures.comes in
    event_left c.next.new.self (seen_event c.in_ok-event.event.now) h.0 (ap (λ s. s.todo) c.in_ok-event.ensures.same ∙ h.1)

pub end_of_tx-returns-clause-value : goal.end_of_tx-returns-clause-value
end_of_tx-returns-clause-value t c =
    let m = mark_of c.args.dosync.span c.args.dosync.wanted in
    let d = transacting c.args.context.now m (tree_of c.args.dosync.body.now) c.args.locals.now.items in
    let now = thread_state c.loop-try.thread in
    let none : 10000 - c.loop-try._try ≡ 0 = omega (arith, c.loop-try-test.false) in
    let start = retried (suc reruns) d (thread_state c.args.thread.now) in
    λ f. ap (λ s. up_to start s) (c.loop-try.invariant.1 f ∙ ap (λ j. eats_tx j d f now.todo now) none)

pub rerun-returns-in-Outdated-clause-value : goal.rerun-returns-in-Outdated-clause-value
rerun-returns-in-Outdated-clause-value t c =
    let d = transacting c.args.context.now (mark_of c.args.dosync.span c.args.dosync.wanted) (tree_of c.args.dosync.body.now) c.args.locals.now.items in
    let e = c.args.event.now in
    rerun_outdated d (world_of (plain_view e.start)) e.kind.now c.rerun_as.result c.rerun_as.ensures c.in-Outdated.number c.in-Outdated.is c.miss.result (subst (λ l. Misses c.miss.result (seen_means c.args.context.now (tree_of c.args.dosync.body.now) l (record { refs = plain_view e.start; gone = Some c.in-Outdated.number }))) c.as_slice.ensures.value c.miss.ensures)

pub rerun-miss-requires : goal.rerun-miss-requires
rerun-miss-requires t c =
    let x = c.args.context.now in
    (search rules, subst (λ l. SoundTree (callable x) in_dosync (length l) None (tree_of c.args.dosync.body.now)) (sym c.as_slice.ensures.value) c.requires)

pub miss-evaluate-given-requires : goal.miss-evaluate-given-requires
miss-evaluate-given-requires t c =
    let x = c.args.context.now in
    let body = tree_of c.args.dosync.body.now in
    let env = c.args.locals.now in
    let inner = c.on-inner.result in
    let w : PlainTxView = record { refs = plain_view c.args.world; gone = Some c.args.number } in
    let smaller : room inner + (16 * nodes body + 1) < room x + (16 * nodes body + 2) = omega (arith, room_on x inner w c.on-inner.ensures) in
    let sound = subst (λ y. SoundTree (callable y) (zone_in y) (length env) None body) (sym c.on-inner.ensures) c.requires in
    (search (rules, smaller), subst (λ l. SoundTree (callable inner) (zone_in inner) (length l) None body) (sym c.in_ok-copies.ensures) sound)

pub miss-returns : goal.miss-returns
miss-returns t c =
    let x = c.args.context.now in
    let body = tree_of c.args.dosync.body.now in
    let env = c.args.locals.now in
    let w : PlainTxView = record { refs = plain_view c.args.world; gone = Some c.args.number } in
    let given = subst (λ l. Yields c.on-inner.result c.evaluate-given.result c.evaluate-given.new.state (means c.on-inner.result body l c.new-state.result)) c.in_ok-copies.ensures c.evaluate-given.ensures.value in
    subst (λ q. Misses q (seen_means x body env w)) (sym c.has_missed.ensures)
    (misses c.evaluate-given.result (tx_state c.evaluate-given.new.state.tx) (seen_means x body env w) (body_seen x c.on-inner.result w c.on-inner.ensures body env c.new-state.result c.new-state.ensures.tx c.evaluate-given.result c.evaluate-given.new.state given))

pub rerun-returns-in-Other-clause-value : goal.rerun-returns-in-Other-clause-value
rerun-returns-in-Other-clause-value t c =
    let d = transacting c.args.context.now (mark_of c.args.dosync.span c.args.dosync.wanted) (tree_of c.args.dosync.body.now) c.args.locals.now.items in
    let e = c.args.event.now in
    rerun_other d (world_of (plain_view e.start)) e.kind.now c.rerun_as.result c.rerun_as.ensures (Unit {0}) c.in-Other.is

pub rerun-returns-in-Err-clause-value : goal.rerun-returns-in-Err-clause-value
rerun-returns-in-Err-clause-value t c =
    let d = transacting c.args.context.now (mark_of c.args.dosync.span c.args.dosync.wanted) (tree_of c.args.dosync.body.now) c.args.locals.now.items in
    let e = c.args.event.now in
    rerun_stop d (world_of (plain_view e.start)) e.kind.now c.rerun_as.result c.rerun_as.ensures c.in-Touched.touch c.in-Touched.is (Unit {0}) c.in-Err.stop c.without_fault.result c.without_fault.ensures c.in-Err.ensures.value

pub rerun-returns-clause-value : goal.rerun-returns-clause-value
rerun-returns-clause-value t c =
    let d = transacting c.args.context.now (mark_of c.args.dosync.span c.args.dosync.wanted) (tree_of c.args.dosync.body.now) c.args.locals.now.items in
    let e = c.args.event.now in
    let run = c.in-Ok.run' in
    rerun_run d (world_of (plain_view e.start)) e.kind.now c.rerun_as.result c.rerun_as.ensures c.in-Touched.touch c.in-Touched.is run.result (tx_state run.work) c.in-Ok.ensures.value.0 c.has_touched-given.result c.has_touched-given.ensures

pub rerun-returns-clause-kept : goal.rerun-returns-clause-kept
rerun-returns-clause-kept t c = kept_by c.has_touched-given.result c.in-Ok.ensures.kept

pub evaluate_dosync-eat_dosync-requires : goal.evaluate_dosync-eat_dosync-requires
evaluate_dosync-eat_dosync-requires t c =
    let x = c.args.context.now in
    let smaller : 16 * nodes (tree_of c.args.dosync.body.now) + 9 < 16 * nodes (tree_of c.args.dosync.body.now) + 10 = omega arith in
    let off : is_some c.world.result ≡ false = search rules in
    (search (rules, in_room x _ _ smaller), (nowhere_running c.world.result x.world c.world.ensures off, c.requires))

pub update_inside-apply_on-requires : goal.update_inside-apply_on-requires
update_inside-apply_on-requires t c =
    let x = c.args.context.now in
    let smaller : room x + 2 < room x + 3 = omega arith in
    (search (rules, smaller), subst (λ l. SoundCallee (callable x) c.args.callee (suc (length l))) (sym c.as_slice.ensures.value) c.requires.callee)

pub swap-make-requires : goal.swap-make-requires
swap-make-requires t c =
    let x = c.args.context.now in
    let inner = c.deepest-inner.result in
    let is = c.deepest-inner.ensures.value in
    let smaller : room inner + 3 < t = omega (arith, c.decreases, room_deepest x inner is c.requires.world) in
    let fits = callee_deepest x c.args.callee (suc (length c.args.args.now)) c.requires.callee in
    (smaller, (subst (λ z. SoundCells (callable z) z.cells) (sym is) c.deepest-inner.ensures.sound, subst (λ z. SoundCallee (callable z) c.args.callee (suc (length c.args.args.now))) (sym is) fits))

pub make-apply_on-requires : goal.make-apply_on-requires
make-apply_on-requires t c =
    let smaller : room c.args.context.now + 2 < t = omega (arith, c.decreases) in
    (smaller, c.requires.callee)

pub make-accept-requires : goal.make-accept-requires
make-accept-requires t c =
    let smaller : room c.args.context.now + 2 < t = omega (arith, c.decreases) in
    (smaller, c.requires.cells)

pub make-returns-in_err-new : goal.make-returns-in_err-new
make-returns-in_err-new t c =
    let x = c.args.context.now in
    let y = c.in_err-new.field-0.0 in
    let vs = c.args.first ∷ c.args.args.now in
    let r = c.from_residual in
    stops_gives (λ v. v) true r.result y tt (made_means x c.args.callee c.args.cell vs c.args.span) (halted r.result y r.ensures.1) (made_stop x c.args.callee c.args.cell vs c.args.span y c.in_err-new.ensures)

pub make-returns-in_err-accept : goal.make-returns-in_err-accept
make-returns-in_err-accept t c =
    let x = c.args.context.now in
    let y = c.in_err-accept.field-0.0 in
    let vs = c.args.first ∷ c.args.args.now in
    let r = c.from_residual-in_err-accept in
    let told = made_then x c.args.callee c.args.cell vs c.args.span c.in_ok-new.new c.in_ok-new.ensures (λ v. v) (Err y) c.in_err-accept.ensures in
    stops_gives (λ v. v) true r.result y tt (made_means x c.args.callee c.args.cell vs c.args.span) (halted r.result y r.ensures.1) told

pub make-returns : goal.make-returns
make-returns t c =
    made_then c.args.context.now c.args.callee c.args.cell (c.args.first ∷ c.args.args.now) c.args.span c.in_ok-new.new c.in_ok-new.ensures (λ v. v) (Ok c.in_ok-new.new) c.in_ok-accept.ensures

pub apply_on-apply_callee-requires : goal.apply_on-apply_callee-requires
apply_on-apply_callee-requires t c =
    let x = c.args.context.now in
    let smaller : room x + 1 < room x + 2 = omega arith in
    (search (rules, smaller), subst (λ vs. SoundCallee (callable x) c.args.callee (length vs)) (sym c.in_ok-values.ensures) c.requires)

pub act_outside-reset_at-requires : goal.act_outside-reset_at-requires
act_outside-reset_at-requires t c =
    let ready = subst (λ a. ReadyIn (callable c.args.context.now) in_thread a (length c.args.args.items)) c.in-Put.is c.requires.ready in
    ap length c.in_ok-values.ensures.0 ∙ ready.1

pub finish-call-requires : goal.finish-call-requires
finish-call-requires t c =
    let x = c.args.context.now in
    let smaller : room x < t = omega (arith, c.decreases) in
    (smaller, subst (λ s. Finishes x s (length c.args.values.items)) c.in-Call.is c.requires)

pub eat_dosync-final_writes-last-requires : goal.eat_dosync-final_writes-last-requires
eat_dosync-final_writes-last-requires t c =
    let x = c.args.context.now in
    let inner = c.deepest-inner.result in
    let is = c.deepest-inner.ensures.value in
    let smaller : room inner + 5 < t = omega (arith, c.decreases, room_deepest x inner is c.requires.world) in
    let cs = c.in-Ok.run'.work.done.commutes in
    (smaller, (subst (λ z. SoundCells (callable z) z.cells) (sym is) c.deepest-inner.ensures.sound, subst (λ z. SoundCommutes (callable z) cs) (sym is) (commutes_deepest x cs c.in-Ok.ensures.sound)))

pub evaluate_dosync-evaluate-requires : goal.evaluate_dosync-evaluate-requires
evaluate_dosync-evaluate-requires t c =
    let x = c.args.context.now in
    let body = tree_of c.args.dosync.body.now in
    let on : is_some c.world.result ≡ true = search rules in
    let inside = running c.world.result x.world c.world.ensures ∙ on in
    let smaller : room x + (16 * nodes body + 1) < t = omega (arith, c.decreases) in
    (smaller, subst (λ z. SoundTree (callable x) z (length c.args.locals.now.items) None body) (sym (zone_running x.world inside)) c.requires)

pub evaluate_tail-evaluate_dosync-requires : goal.evaluate_tail-evaluate_dosync-requires
evaluate_tail-evaluate_dosync-requires t c =
    let x = c.args.context.now in
    let n = c.args.node.now in
    let is = subst (λ s. IsShape s (mark_of n.span n.wanted) (tree_of n)) c.in-Dosync.is c.shape_of.ensures in
    let sound = subst (λ e. SoundTree (callable x) (zone_in x) (length c.args.locals.now.items) c.requires.tail e) is c.requires.sound in
    let smaller : room x + (16 * nodes (tree_of c.in-Dosync.body.now) + 10) < t = omega (arith, c.decreases, ap nodes is) in
    (smaller, sound)

pub bind_locals-loop-node-init : goal.bind_locals-loop-node-init
bind_locals-loop-node-init t c =
    let locals = c.args.locals.now.items in
    (take_all (length locals) locals (omega arith), refl, c.requires, refl)

pub run_turns-loop-turn-init : goal.run_turns-loop-turn-init
run_turns-loop-turn-init t c =
    let n = c.args.context.now in
    let b = c.args.before in
    let old = c.args.locals.now.items in
    let all : c.args.turns ≡ c.args.turns - 0 = omega arith in
    (refl, refl, ap (λ k. turns_mean n k (length old - b) (tree_of c.args.body.now) (take b old) (drop b old) c.args.state.now) all)

pub evaluate_tail-returns-in-Const-clause-kept : goal.evaluate_tail-returns-in-Const-clause-kept
evaluate_tail-returns-in-Const-clause-kept t c = kept_by c.copy_step.result refl

pub evaluate_tail-returns-in-Local-clause-kept : goal.evaluate_tail-returns-in-Local-clause-kept
evaluate_tail-returns-in-Local-clause-kept t c = kept_by c.copy_step-in-Local.result refl

pub evaluate_let-returns-clause-kept : goal.evaluate_let-returns-clause-kept
evaluate_let-returns-clause-kept t c =
    let old = c.args.locals.now.items in
    let bound = c.bind_locals.new.locals.items in
    let given = c.evaluate_tail-given in
    let b = c.len-before.result in
    let place : b ≡ length old = search rules in
    kept_then (given.new.locals.items ≡ bound) (c.truncate.new.self.items ≡ old) given.result given.ensures.kept (λ same. c.truncate.ensures.items ∙ ap (λ l. take b l) same ∙ ap (λ k. take k bound) place ∙ c.in_ok-bind_locals.ensures.kept)

pub evaluate_loop-returns-clause-kept : goal.evaluate_loop-returns-clause-kept
evaluate_loop-returns-clause-kept t c =
    let old = c.args.locals.now.items in
    let bound = c.bind_locals.new.locals.items in
    let given = c.run_turns-given in
    let b = c.len-before.result in
    let place : b ≡ length old = search rules in
    kept_as (c.truncate.new.self.items ≡ old) given.result c.as_step.result c.as_step.ensures
    (kept_then (take b given.new.locals.items ≡ take b bound) (c.truncate.new.self.items ≡ old) given.result given.ensures.kept (λ same. c.truncate.ensures.items ∙ same ∙ ap (λ k. take k bound) place ∙ c.in_ok-bind_locals.ensures.kept))

pub redo_one-returns : goal.redo_one-returns
redo_one-returns t c =
    let x = c.args.context.now in
    let commute = c.args.commute.now in
    let v = c.in_ok-value.value in
    let w = c.in_ok-new.new in
    let made = subst (λ us. applied x commute.callee (v ∷ us) c.args.span ≡ Completes w tt) c.as_slice-args.ensures c.in_ok-new.ensures in
    let began = c.in_ok-value.ensures ∙ ap (λ l. or_nil (buffered l commute.cell.number)) c.as_slice.ensures.value in
    redone_made x c.args.span commute c.args.writes.now.items v w c.put_write.new.writes.items began made c.in_ok-put_write.ensures

pub redo_one-returns-in_err-new : goal.redo_one-returns-in_err-new
redo_one-returns-in_err-new t c =
    let x = c.args.context.now in
    let commute = c.args.commute.now in
    let writes = c.args.writes.now.items in
    let v = c.in_ok-value.value in
    let y = c.in_err-new.field-0.0 in
    let told = subst (λ us. Told {A = Value} (Err y) (applied x commute.callee (v ∷ us) c.args.span)) c.as_slice-args.ensures c.in_err-new.ensures in
    let began = c.in_ok-value.ensures ∙ ap (λ l. or_nil (buffered l commute.cell.number)) c.as_slice.ensures.value in
    let r = c.from_residual-in_err-new in
    stops_gives _ true r.result y tt (redone_means x c.args.span (commute ∷ []) writes) (halted r.result y r.ensures.1) (redone_unmade x c.args.span commute writes v y began told)

pub run_body-returns-in-Ok-clause-kept : goal.run_body-returns-in-Ok-clause-kept
run_body-returns-in-Ok-clause-kept t c = c.in-Ok.ensures.kept

pub redo_one-apply_on-requires : goal.redo_one-apply_on-requires
redo_one-apply_on-requires t c =
    let x = c.args.context.now in
    let smaller : room x + 2 < t = omega (arith, c.decreases) in
    (smaller, subst (λ us. SoundCallee (callable x) c.args.commute.now.callee (suc (length us))) (sym c.as_slice-args.ensures) c.requires)

-- ---- validators

pub accept-apply_callee-requires : goal.accept-apply_callee-requires
accept-apply_callee-requires t c =
    let x = c.args.context.now in
    let f = c.in-Some.callee in
    let smaller : room x + 1 < t = omega (arith, c.decreases) in
    let is : validator_at (validators_of x.cells) c.args.cell.number ≡ Some f = sym (c.validator_of.ensures ∙ ap (λ ds. validator_at (validators_of ds) c.args.cell.number) c.cells.ensures) ∙ c.in-Some.is in
    let fits : SoundCallee (callable x) f 1 = subst (λ o. SoundValidator (callable x) o) is (validator_sound (callable x) x.cells c.args.cell.number c.requires) in
    (smaller, subst (λ vs. SoundCallee (callable x) f (length vs)) (sym c.in_ok-values.ensures) fits)

pub accept-returns-in_err-answer : goal.accept-returns-in_err-answer
accept-returns-in_err-answer t c =
    let x = c.args.context.now in
    let f = c.in-Some.callee in
    let v = c.args.value.now in
    let y = c.in_err-answer.field-0.0 in
    let is = c.validator_of.ensures ∙ ap (λ ds. validator_at (validators_of ds) c.args.cell.number) c.cells.ensures in
    let copied = c.in_ok-values.ensures ∙ ap (λ w. w ∷ []) c.in_ok-copy.ensures in
    let told = subst (λ vs. Told {A = Value} (Err y) (applied x f vs c.args.span)) copied c.in_err-answer.ensures in
    let r = c.from_residual-in_err-answer in
    stops_gives _ true r.result y tt (accept_means x c.args.cell c.args.span v) (halted r.result y r.ensures.1) (accept_stop x c.args.cell c.args.span v c.validator_of.result is f c.in-Some.is y told)

pub accept-returns : goal.accept-returns
accept-returns t c =
    let x = c.args.context.now in
    let f = c.in-Some.callee in
    let v = c.args.value.now in
    let is = c.validator_of.ensures ∙ ap (λ ds. validator_at (validators_of ds) c.args.cell.number) c.cells.ensures in
    let copied = c.in_ok-values.ensures ∙ ap (λ w. w ∷ []) c.in_ok-copy.ensures in
    let answer = c.in_ok-answer.answer in
    let given = subst (λ vs. applied x f vs c.args.span ≡ Completes answer tt) copied c.in_ok-answer.ensures in
    accept_answer x c.args.cell c.args.span v c.validator_of.result is f c.in-Some.is answer given (λ (u : Unit {0}). v) c.judge.result (c.judge.ensures v)

pub accept_first-accept-requires : goal.accept_first-accept-requires
accept_first-accept-requires t c =
    let smaller : room c.args.context.now + 2 < t = omega (arith, c.decreases) in
    (smaller, c.requires)

pub accept_put-accept_first-requires : goal.accept_put-accept_first-requires
accept_put-accept_first-requires t c =
    let smaller : room c.args.context.now + 3 < t = omega (arith, c.decreases) in
    (smaller, c.requires)

pub accept_all-accept-requires : goal.accept_all-accept-requires
accept_all-accept-requires t c =
    let smaller : room c.args.context.now + 2 < t = omega (arith, c.decreases) in
    (smaller, c.requires)

pub accept_all-returns-in_err-accept : goal.accept_all-returns-in_err-accept
accept_all-returns-in_err-accept t c =
    let x = c.args.context.now in
    let ws = c.args.writes.now in
    let y = c.in_err-accept.field-0.0 in
    let rest = accepted_stop x c.args.span ws c.loop-write.write-index c.write-item.result c.loop-write-test.true c.write-item.is y c.in_err-accept.ensures in
    let r = c.from_residual in
    stops_gives _ true r.result y tt (accepted_means x c.args.span ws) (halted r.result y r.ensures.1) (subst (λ q. Told {A = Unit {0}} (Err y) q) (sym c.loop-write.invariant) rest)

pub accept_all-loop-write-preserved : goal.accept_all-loop-write-preserved
accept_all-loop-write-preserved t c =
    c.loop-write.invariant ∙ accepted_more c.args.context.now c.args.span c.args.writes.now c.loop-write.write-index c.write-item.result c.loop-write-test.true c.write-item.is c.write-item.result.1 c.in_ok-accept.ensures

pub accept_all-returns : goal.accept_all-returns
accept_all-returns t c =
    let end = drop_all c.loop-write.write-index c.args.writes.now c.loop-write-test.false in
    c.loop-write.invariant ∙ ap (λ l. accepted_means c.args.context.now c.args.span l) end

pub final_writes-accept_all-requires : goal.final_writes-accept_all-requires
final_writes-accept_all-requires t c =
    let smaller : room c.args.context.now + 3 < t = omega (arith, c.decreases) in
    (smaller, c.requires.cells)

pub final_writes-returns-in_err-last : goal.final_writes-returns-in_err-last
final_writes-returns-in_err-last t c =
    let x = c.args.context.now in
    let w = c.args.done.now in
    let r = plain_view c.args.world in
    let y = c.in_err-last.field-0.0 in
    let z = c.from_residual-in_err-last in
    stops_gives (λ (us : Vec (CellId × Value) Global). us.items) true z.result y tt (final_means x w r c.args.span) (halted z.result y z.ensures.1)
    (finals_full x c.args.span w r c.in_ok-writes.writes.items c.in_ok-writes.ensures c.redo.new.writes.items c.in_ok-redo.ensures y c.in_err-last.ensures)

pub final_writes-returns-in_err-accept_all : goal.final_writes-returns-in_err-accept_all
final_writes-returns-in_err-accept_all t c =
    let x = c.args.context.now in
    let w = c.args.done.now in
    let r = plain_view c.args.world in
    let y = c.in_err-accept_all.field-0.0 in
    let last = c.in_ok-last.last.items in
    let made = c.in_ok-last.ensures ∙ ap (λ us. merged (set_writes w) us) c.as_slice.ensures.value in
    let told = subst (λ l. Told {A = Unit {0}} (Err y) (accepted_means x c.args.span l)) c.as_slice-2.ensures.value c.in_err-accept_all.ensures in
    let z = c.from_residual-in_err-accept_all in
    stops_gives (λ (us : Vec (CellId × Value) Global). us.items) true z.result y tt (final_means x w r c.args.span) (halted z.result y z.ensures.1)
    (finals_refused x c.args.span w r c.in_ok-writes.writes.items c.in_ok-writes.ensures c.redo.new.writes.items c.in_ok-redo.ensures last made y told)
