use Rattle.std.proofs.Common.{rules, ◌≡◌, ◌+◌, ℕ, map, drop, Result, Err, sym, ap, ◌∙◌}
use Rattle.txs_tree_meaning.specs.View.{tree_of, functions_of, threads_of}
use Rattle.txs_check.specs.declared.error.CheckError.{CheckError}
use Rattle.txs_check.specs.Refused.{◌>>=◌, in_order, room, taken, thread_body}
use Rattle.txs_check.proofs.Lists.{room_step}
use Rattle.txs_check.proofs.bodies.room_after_all.Goals as goal

pub returns-in_err-left : goal.returns-in_err-left
returns-in_err-left c =
    let fs = c.args.functions.now in
    let i = c.loop-function.function-index in
    let f = c.function-item.result in
    let ts = c.loop-function.rest.now in
    let n = c.count_before.result in
    let step = room_step fs i f c.loop-function-test.true c.function-item.is ts n c.count_before.ensures.count c.loop-function.left in
    let rest : ℕ → Result ℕ CheckError = λ y. room y (in_order (functions_of (drop (i + 1) fs)) (threads_of (drop n ts))) in
    let later : ℕ → Result ℕ CheckError = λ x. taken x (tree_of f.body) f.span >>= rest in
    let refused : c.from_residual.result ≡ Err c.in_err-left.field-0.0 = search rules in
    refused ∙ ap (λ x. x >>= later) (c.in_err-left.ensures ∙ ap (λ l. room c.loop-function.left (map thread_body (threads_of l))) c.split_at.ensures.front)
    ∙ sym step ∙ c.loop-function.invariant

pub returns-in_err-left-2 : goal.returns-in_err-left-2
returns-in_err-left-2 c =
    let fs = c.args.functions.now in
    let i = c.loop-function.function-index in
    let f = c.function-item.result in
    let ts = c.loop-function.rest.now in
    let n = c.count_before.result in
    let step = room_step fs i f c.loop-function-test.true c.function-item.is ts n c.count_before.ensures.count c.loop-function.left in
    let rest : ℕ → Result ℕ CheckError = λ y. room y (in_order (functions_of (drop (i + 1) fs)) (threads_of (drop n ts))) in
    let later : ℕ → Result ℕ CheckError = λ x. taken x (tree_of f.body) f.span >>= rest in
    let refused : c.from_residual-in_err-left-2.result ≡ Err c.in_err-left-2.field-0.0 = search rules in
    refused ∙ ap (λ x. x >>= rest) c.in_err-left-2.ensures
    ∙ ap (λ x. x >>= later) (c.in_ok-left.ensures ∙ ap (λ l. room c.loop-function.left (map thread_body (threads_of l))) c.split_at.ensures.front)
    ∙ sym step ∙ c.loop-function.invariant

pub loop-function-preserved : goal.loop-function-preserved
loop-function-preserved c =
    let fs = c.args.functions.now in
    let i = c.loop-function.function-index in
    let f = c.function-item.result in
    let ts = c.loop-function.rest.now in
    let n = c.count_before.result in
    let step = room_step fs i f c.loop-function-test.true c.function-item.is ts n c.count_before.ensures.count c.loop-function.left in
    let rest : ℕ → Result ℕ CheckError = λ y. room y (in_order (functions_of (drop (i + 1) fs)) (threads_of (drop n ts))) in
    let later : ℕ → Result ℕ CheckError = λ x. taken x (tree_of f.body) f.span >>= rest in
    ap (λ l. room c.in_ok-left-2.left (in_order (functions_of (drop (i + 1) fs)) (threads_of l))) c.split_at.ensures.back
    ∙ ap (λ x. x >>= rest) c.in_ok-left-2.ensures
    ∙ ap (λ x. x >>= later) (c.in_ok-left.ensures ∙ ap (λ l. room c.loop-function.left (map thread_body (threads_of l))) c.split_at.ensures.front)
    ∙ sym step ∙ c.loop-function.invariant
