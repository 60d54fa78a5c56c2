use Rattle.std.proofs.Common.{◌≡◌, inl, inr, false, length, replicate, rules, subst, Some}
use Rattle.txs_value_data.specs.Places.{nth}
use Rattle.txs_history_run.specs.Callees.{IsSentAmong, MarksMore}
use Rattle.txs_history_run.proofs.Sent.{all_callees}
use Rattle.txs_history_run.proofs.callees.sent_functions.Goals as goal

pub mark_bodies-requires-clause-of : goal.mark_bodies-requires-clause-of
mark_bodies-requires-clause-of c =
    let same : c.functions-functions.result.now ≡ c.args.code.now.functions = search rules in
    λ k b h. inl (k, subst (λ l. nth l k ≡ Some b) same h)

pub mark_bodies-requires-2-clause-of : goal.mark_bodies-requires-2-clause-of
mark_bodies-requires-2-clause-of c =
    let same : c.threads-threads.result.now ≡ c.args.code.now.threads = search rules in
    λ k b h. inr (k, subst (λ l. nth l k ≡ Some b) same h)

pub returns-clause-callees : goal.returns-clause-callees
returns-clause-callees c =
    let code = c.args.code.now in
    let first = c.mark_bodies.new.marks.items in
    let all = c.mark_bodies-2.new.marks.items in
    let functions : c.functions-functions.result.now ≡ code.functions = search rules in
    let threads : c.threads-threads.result.now ≡ code.threads = search rules in
    let start : c.in_ok-marks.marks.items ≡ replicate (length c.functions-functions.result.now) false = search rules in
    all_callees code (length c.functions-functions.result.now) first all
    (subst (λ bs. MarksMore (IsSentAmong code bs (length bs)) (replicate (length c.functions-functions.result.now) false) first) functions
    (subst (λ a. MarksMore (IsSentAmong code c.functions-functions.result.now (length c.functions-functions.result.now)) a first) start c.in_ok-mark_bodies.ensures.more))
    (subst (λ bs. MarksMore (IsSentAmong code bs (length bs)) first all) threads c.in_ok-mark_bodies-2.ensures.more)
