use Rattle.std.proofs.Common.{◌≡◌, ◌+◌, ◌≤◌, ◌^◌, length, arith, refl, subst}
use Rattle.txs_history_run.specs.Back.{ActorsFollow}
use Rattle.txs_history_run.proofs.Back.{actors_over, follow_next, read_nth}
use Rattle.txs_history_run.proofs.ending.count_actors.Goals as goal

pub loop-i-init : goal.loop-i-init
loop-i-init g c = record { each = λ k x less there. absurd (omega (arith, less)); counted = refl }

pub loop-i-preserved : goal.loop-i-preserved
loop-i-preserved g c =
    let code = g.J.Run.code in
    let limit = g.J.Run.limit in
    let xs = c.args.actors.now in
    let x = c.index-actors-i.result in
    let at = read_nth xs c.loop-i.i x c.loop-i-test.true c.index-actors-i.is in
    let sum : c.loop-i.sum + c.asks.result ≡ c.in_ok-sum.sum = omega (arith, c.in_ok-sum.ensures.1) in
    subst (λ n. ActorsFollow code limit (c.loop-i.i + 1) xs n) sum
    (follow_next code limit xs c.loop-i.i x c.loop-i.sum c.asks.result at (c.is_placed.ensures.settled c.if-not-is_placed.false) c.asks.ensures c.loop-i.invariant)

pub returns-in_err-sum-clause-differs : goal.returns-in_err-sum-clause-differs
returns-in_err-sum-clause-differs g c none =
    let xs = c.args.actors.now in
    let x = c.index-actors-i.result in
    let at = read_nth xs c.loop-i.i x c.loop-i-test.true c.index-actors-i.is in
    let over : 2 ^ 64 ≤ c.loop-i.sum + c.asks.result = omega (arith, c.in_err-sum.ensures) in
    actors_over g.J.Run.code g.J.Run.limit xs c.loop-i.i x c.loop-i.sum c.asks.result at c.asks.ensures c.loop-i.invariant c.loop-i-test.true over

pub returns-clause-follow : goal.returns-clause-follow
returns-clause-follow g c =
    let all : c.loop-i.i ≡ length c.args.actors.now = omega (arith, c.loop-i-test.false, c.loop-i.auto.i-end) in
    subst (λ n. ActorsFollow g.J.Run.code g.J.Run.limit n c.args.actors.now c.loop-i.sum) all c.loop-i.invariant
