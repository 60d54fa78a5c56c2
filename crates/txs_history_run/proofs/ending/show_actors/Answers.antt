use Rattle.std.proofs.Common.{arith, append-nil, []}
use Rattle.txs_history.proofs.Beginnings.{prefix_trans}
use Rattle.txs_history_run.proofs.Back.{actors_next, read_nth}
use Rattle.txs_history_run.proofs.ending.show_actors.Goals as goal

pub loop-i-init : goal.loop-i-init
loop-i-init g c = (([], append-nil _), λ k x less there. absurd (omega (arith, less)))

pub loop-i-preserved : goal.loop-i-preserved
loop-i-preserved g c =
    let xs = c.args.actors.now in
    let x = c.index-actors-i.result in
    let at = read_nth xs c.loop-i.i x c.loop-i-test.true c.index-actors-i.is in (
      prefix_trans c.args.past.now c.loop-i.past c.show.new.past c.loop-i.invariant.0 c.show.ensures.own,
      actors_next xs c.loop-i.i x c.loop-i.past c.show.new.past c.show.ensures.own at c.show.ensures.actor c.loop-i.invariant.1,
    )

pub returns-clause-own : goal.returns-clause-own
returns-clause-own g c = c.loop-i.invariant.0

pub returns-clause-actors : goal.returns-clause-actors
returns-clause-actors g c k x less there = c.loop-i.invariant.1 k x (omega (arith, less, c.loop-i-test.false, c.loop-i.auto.i-end)) there
