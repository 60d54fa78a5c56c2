use Rattle.std.proofs.Common.{suc, ◌≡◌, ◌+◌, ◌-◌, ◌*◌, length, take, drop}
use Rattle.txs_tree_eval_node.specs.Evaluated.{transacting, retried, thread_state, part, is_on, forms_in, calls_in, all_mean, locals_mean, turns_mean, accepted_means, redone_means}
use Rattle.txs_tree_eval_node.specs.Setting.{callable, zone_in}
use Rattle.txs_frame.specs.Frame.{phase_work}
use Rattle.txs_tree_meaning.specs.Sound.{SoundAll, SoundLet, nodes, nodes_in}
use Rattle.txs_tree_meaning.specs.Meaning.{Applies}
use Rattle.txs_tree_meaning.specs.Thread.{ThreadState, eats_tx}
use Rattle.txs_value_data.specs.Limits.{reruns}
use Rattle.txs_tree_meaning.specs.Tree.{count}
use Rattle.txs_tree_meaning.specs.View.{tree_of, trees_of, mark_of}
use Rattle.txs_tree_eval_node.proofs.Called.{room}
use Rattle.txs_tree_eval_node.proofs.Evaluation.{collects}
use Rattle.txs_tree_eval_node.proofs.evaluate.+evaluate.Given as goal

abbrev pub decreases-evaluate : goal.decreases-evaluate
decreases-evaluate l = room l.context.now + (16 * nodes (tree_of l.node.now) + 1)

abbrev pub decreases-evaluate_tail : goal.decreases-evaluate_tail
decreases-evaluate_tail l = room l.context.now + (16 * nodes (tree_of l.node.now))

abbrev pub decreases-evaluate_if : goal.decreases-evaluate_if
decreases-evaluate_if l = room l.context.now + (16 * (nodes (tree_of l.test.now) + (nodes (tree_of l.yes.now) + nodes (tree_of l.no.now))) + 2)

abbrev pub decreases-evaluate_strict : goal.decreases-evaluate_strict
decreases-evaluate_strict l = room l.context.now + (16 * nodes_in (trees_of l.args.now) + 4)

abbrev pub decreases-finish : goal.decreases-finish
decreases-finish l = room l.context.now + 3

abbrev pub decreases-evaluate_all : goal.decreases-evaluate_all
decreases-evaluate_all l = room l.context.now + (16 * nodes_in (trees_of l.nodes.now) + 2)

abbrev pub decreases-evaluate_do : goal.decreases-evaluate_do
decreases-evaluate_do l = room l.context.now + (16 * nodes_in (trees_of l.nodes.now) + 3)

abbrev pub decreases-evaluate_form : goal.decreases-evaluate_form
decreases-evaluate_form l = room l.context.now + (16 * (nodes (tree_of l.cell.now) + nodes_in (trees_of l.args.now)) + 10)

abbrev pub decreases-act_inside : goal.decreases-act_inside
decreases-act_inside l = room l.context.now + 5

abbrev pub decreases-act_outside : goal.decreases-act_outside
decreases-act_outside l = room l.context.now + 5

abbrev pub decreases-accept_put : goal.decreases-accept_put
decreases-accept_put l = room l.context.now + 4

abbrev pub decreases-accept_first : goal.decreases-accept_first
decreases-accept_first l = room l.context.now + 3

abbrev pub decreases-accept : goal.decreases-accept
decreases-accept l = room l.context.now + 2

abbrev pub decreases-accept_all : goal.decreases-accept_all
decreases-accept_all l = room l.context.now + 3

abbrev pub decreases-make : goal.decreases-make
decreases-make l = room l.context.now + 3

abbrev pub decreases-swap : goal.decreases-swap
decreases-swap l = room l.context.now + 4

abbrev pub decreases-apply_on : goal.decreases-apply_on
decreases-apply_on l = room l.context.now + 2

abbrev pub decreases-apply_callee : goal.decreases-apply_callee
decreases-apply_callee l = room l.context.now + 1

abbrev pub decreases-evaluate_dosync : goal.decreases-evaluate_dosync
decreases-evaluate_dosync l = room l.context.now + (16 * nodes (tree_of l.dosync.body.now) + 10)

abbrev pub decreases-eat_dosync : goal.decreases-eat_dosync
decreases-eat_dosync l = room l.context.now + (16 * nodes (tree_of l.dosync.body.now) + 9)

abbrev pub decreases-end_of_tx : goal.decreases-end_of_tx
decreases-end_of_tx l = room l.context.now + (16 * nodes (tree_of l.dosync.body.now) + 8)

abbrev pub decreases-rerun : goal.decreases-rerun
decreases-rerun l = room l.context.now + (16 * nodes (tree_of l.dosync.body.now) + 7)

abbrev pub decreases-miss : goal.decreases-miss
decreases-miss l = room l.context.now + (16 * nodes (tree_of l.dosync.body.now) + 2)

abbrev pub decreases-run_body : goal.decreases-run_body
decreases-run_body l = room l.context.now + (16 * nodes (tree_of l.dosync.body.now) + 2)

abbrev pub decreases-final_writes : goal.decreases-final_writes
decreases-final_writes l = room l.context.now + 5

abbrev pub decreases-redo : goal.decreases-redo
decreases-redo l = room l.context.now + 4

abbrev pub decreases-redo_one : goal.decreases-redo_one
decreases-redo_one l = room l.context.now + 3

abbrev pub decreases-bind_locals : goal.decreases-bind_locals
decreases-bind_locals l = room l.context.now + (16 * nodes_in (trees_of l.nodes.now) + 2)

abbrev pub decreases-evaluate_let : goal.decreases-evaluate_let
decreases-evaluate_let l = room l.context.now + (16 * (nodes_in (trees_of l.nodes.now) + nodes (tree_of l.body.now)) + 2)

abbrev pub decreases-evaluate_loop : goal.decreases-evaluate_loop
decreases-evaluate_loop l = room l.context.now + (16 * (nodes_in (trees_of l.nodes.now) + nodes (tree_of l.body.now)) + 2)

abbrev pub decreases-run_turns : goal.decreases-run_turns
decreases-run_turns l = room l.context.now + (16 * nodes (tree_of l.body.now) + 1)

abbrev pub decreases-call : goal.decreases-call
decreases-call l = room l.context.now

abbrev pub decreases-update_inside : goal.decreases-update_inside
decreases-update_inside l = room l.context.now + 3

-- the values so far, and the locals as they were
abbrev pub invariant-evaluate_all-loop-node : goal.invariant-evaluate_all-loop-node
invariant-evaluate_all-loop-node l =
    (l.locals.items ≡ l.fn.locals.items)
    × (length l.values.items + count (trees_of (drop l.node-index l.nodes)) ≡ count (trees_of l.nodes))
    × SoundAll (callable l.context) (zone_in l.context) (length l.fn.locals.items) (trees_of (drop l.node-index l.nodes))
    × (all_mean l.context (trees_of l.nodes) l.fn.locals.items l.fn.state
    ≡ collects (forms_in l.context) (calls_in l.context) l.context.turns (is_on l.context.world) l.values.items (trees_of (drop l.node-index l.nodes)) l.fn.locals.items (part l.context.world l.state))

-- the locals so far
abbrev pub invariant-bind_locals-loop-node : goal.invariant-bind_locals-loop-node
invariant-bind_locals-loop-node l =
    (take (length l.fn.locals.items) l.locals.items ≡ l.fn.locals.items)
    × (length l.locals.items + count (trees_of (drop l.node-index l.nodes)) ≡ length l.fn.locals.items + count (trees_of l.nodes))
    × SoundLet (callable l.context) (zone_in l.context) (length l.locals.items) (trees_of (drop l.node-index l.nodes))
    × (locals_mean l.context (trees_of l.nodes) l.fn.locals.items l.fn.state
    ≡ locals_mean l.context (trees_of (drop l.node-index l.nodes)) l.locals.items l.state)

-- the turns that are left
abbrev pub invariant-run_turns-loop-turn : goal.invariant-run_turns-loop-turn
invariant-run_turns-loop-turn l =
    (take l.before l.locals.items ≡ take l.before l.fn.locals.items)
    × (length l.locals.items ≡ length l.fn.locals.items)
    × (turns_mean l.context l.turns (length l.fn.locals.items - l.before) (tree_of l.body) (take l.before l.fn.locals.items) (drop l.before l.fn.locals.items) l.fn.state
    ≡ turns_mean l.context (l.turns - l._turn) (length l.fn.locals.items - l.before) (tree_of l.body) (take l.before l.fn.locals.items) (drop l.before l.locals.items) l.state)

-- the commutes that are left
abbrev pub invariant-redo-loop-commute : goal.invariant-redo-loop-commute
invariant-redo-loop-commute l = redone_means l.context l.span (phase_work l.done) l.fn.writes.items ≡ redone_means l.context l.span (drop l.commute-index l.commutes) l.writes.items

-- the writes that are left
abbrev pub invariant-accept_all-loop-write : goal.invariant-accept_all-loop-write
invariant-accept_all-loop-write l = accepted_means l.context l.span l.writes ≡ accepted_means l.context l.span (drop l.write-index l.writes)

-- the tries that are left
abbrev pub invariant-end_of_tx-loop-try : goal.invariant-end_of_tx-loop-try
invariant-end_of_tx-loop-try l =
    let d = transacting l.context (mark_of l.dosync.span l.dosync.wanted) (tree_of l.dosync.body.now) l.fn.locals.items in
    (l.locals.items ≡ l.fn.locals.items)
    × ((f : Applies ThreadState) → eats_tx (suc reruns) d f (thread_state l.fn.thread).todo (thread_state l.fn.thread) ≡ eats_tx (10000 - l._try) d f (thread_state l.thread).todo (thread_state l.thread))
    × (retried (suc reruns) d (thread_state l.fn.thread) ≡ retried (10000 - l._try) d (thread_state l.thread))
