use Rattle.std.proofs.Common.{◌≡◌, ◌<◌, ◌+◌, length, rules, subst, Some}
use Rattle.txs_value_data.specs.Places.{nth}
use Rattle.txs_history_run.specs.Callees.{IsSentAmong, IsSentIn, MarksMore}
use Rattle.txs_history_run.proofs.Sent.{body_more, nth_read, two_more}
use Rattle.txs_history_run.proofs.callees.mark_bodies.Goals as goal

pub mark_body-requires-clause-of : goal.mark_body-requires-clause-of
mark_body-requires-clause-of c =
    let bodies = c.args.bodies.now in
    let n = c.loop-k.k in
    let b = c.index-bodies-k.result in
    let within : n < length bodies = search rules in
    c.requires.of n b (nth_read bodies n b b within c.index-bodies-k.is)

pub loop-k-preserved : goal.loop-k-preserved
loop-k-preserved c =
    let code = c.args.code.now in
    let bodies = c.args.bodies.now in
    let n = c.loop-k.k in
    let b = c.index-bodies-k.result in
    let before = c.args.marks.now.items in
    let mid = c.loop-k.marks.items in
    let later = c.mark_body.new.marks.items in
    let within : n < length bodies = search rules in
    let there : nth bodies n ≡ Some b = nth_read bodies n b b within c.index-bodies-k.is in
    two_more (IsSentAmong code bodies n) (IsSentIn code b) (IsSentAmong code bodies (n + 1)) before mid later (body_more code bodies n b there) c.loop-k.invariant c.in_ok-mark_body.ensures.more

pub returns-clause-more : goal.returns-clause-more
returns-clause-more c =
    let bodies = c.args.bodies.now in
    let end : c.loop-k.k ≡ length bodies = search rules in
    subst (λ n. MarksMore (IsSentAmong c.args.code.now bodies n) c.args.marks.now.items c.loop-k.marks.items) end c.loop-k.invariant
