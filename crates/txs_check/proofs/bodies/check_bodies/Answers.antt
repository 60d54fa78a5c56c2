use Rattle.std.proofs.Common.{rules, ◌≡◌, ◌+◌, [], ◌∷◌, List, map, drop, Result, Err, sym, ap, ◌∙◌}
use Rattle.txs_tree_meaning.specs.View.{function_of, functions_of, threads_of}
use Rattle.txs_check.specs.declared.error.CheckError.{CheckError}
use Rattle.txs_check.specs.Refused.{Checked, Validator, function_body, thread_body, in_order}
use Rattle.txs_check.specs.Signatures.{known_as}
use Rattle.txs_check.specs.Walked.{further, left, passed, walked}
use Rattle.txs_check.proofs.Walking.{bodies_step}
use Rattle.txs_check.proofs.bodies.check_bodies.Goals as goal

pub returns-in_err-validators : goal.returns-in_err-validators
returns-in_err-validators c =
    let ks = known_as c.args.signatures.now in
    let fs = c.args.functions.now in
    let i = c.loop-function.function-index in
    let f = c.function-item.result in
    let ts = c.loop-function.rest.now in
    let n = c.count_before.result in
    let vs = left c.loop-function.validators in
    let step = bodies_step fs i f c.loop-function-test.true c.function-item.is ts n c.count_before.ensures.count ks vs in
    let last : List Validator → Checked = λ q. walked ks (in_order (functions_of (drop (i + 1) fs)) (threads_of (drop n ts))) q in
    let later : List Validator → Checked = λ r. further (passed ks (function_body (function_of f) ∷ []) r) last in
    let refused : c.from_residual.result ≡ Err c.in_err-validators.field-0.0 = search rules in
    refused ∙ ap (λ (x : Result (List Validator) CheckError). further x later) (c.in_err-validators.ensures ∙ ap (λ l. passed ks (map thread_body (threads_of l)) vs) c.split_at.ensures.front)
    ∙ sym step ∙ c.loop-function.invariant

pub returns-in_err-validators-2 : goal.returns-in_err-validators-2
returns-in_err-validators-2 c =
    let ks = known_as c.args.signatures.now in
    let fs = c.args.functions.now in
    let i = c.loop-function.function-index in
    let f = c.function-item.result in
    let ts = c.loop-function.rest.now in
    let n = c.count_before.result in
    let vs = left c.loop-function.validators in
    let step = bodies_step fs i f c.loop-function-test.true c.function-item.is ts n c.count_before.ensures.count ks vs in
    let last : List Validator → Checked = λ q. walked ks (in_order (functions_of (drop (i + 1) fs)) (threads_of (drop n ts))) q in
    let later : List Validator → Checked = λ r. further (passed ks (function_body (function_of f) ∷ []) r) last in
    let refused : c.from_residual-in_err-validators-2.result ≡ Err c.in_err-validators-2.field-0.0 = search rules in
    refused ∙ ap (λ (x : Result (List Validator) CheckError). further x last) c.in_err-validators-2.ensures
    ∙ ap (λ (x : Result (List Validator) CheckError). further x later) (c.in_ok-validators.ensures ∙ ap (λ l. passed ks (map thread_body (threads_of l)) vs) c.split_at.ensures.front)
    ∙ sym step ∙ c.loop-function.invariant

pub loop-function-preserved : goal.loop-function-preserved
loop-function-preserved c =
    let ks = known_as c.args.signatures.now in
    let fs = c.args.functions.now in
    let i = c.loop-function.function-index in
    let f = c.function-item.result in
    let ts = c.loop-function.rest.now in
    let n = c.count_before.result in
    let vs = left c.loop-function.validators in
    let step = bodies_step fs i f c.loop-function-test.true c.function-item.is ts n c.count_before.ensures.count ks vs in
    let last : List Validator → Checked = λ q. walked ks (in_order (functions_of (drop (i + 1) fs)) (threads_of (drop n ts))) q in
    let later : List Validator → Checked = λ r. further (passed ks (function_body (function_of f) ∷ []) r) last in
    ap (λ l. walked ks (in_order (functions_of (drop (i + 1) fs)) (threads_of l)) (left c.in_ok-validators-2.validators)) c.split_at.ensures.back
    ∙ ap (λ (x : Result (List Validator) CheckError). further x last) c.in_ok-validators-2.ensures
    ∙ ap (λ (x : Result (List Validator) CheckError). further x later) (c.in_ok-validators.ensures ∙ ap (λ l. passed ks (map thread_body (threads_of l)) vs) c.split_at.ensures.front)
    ∙ sym step ∙ c.loop-function.invariant
