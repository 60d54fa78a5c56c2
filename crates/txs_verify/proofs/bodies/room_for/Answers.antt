use Rattle.std.proofs.Common.{arith, rules, ◌∙◌, None}
use Rattle.txs_verify.proofs.Lists.{mark_is}
use Rattle.txs_verify.proofs.Roomy.{room_on, room_all}
use Rattle.txs_verify.proofs.bodies.room_for.Goals as goal

pub higher-room-requires : goal.higher-room-requires
higher-room-requires c = λ m e. c.requires c.loop-at.at m (mark_is c.args.marks.now c.loop-at.at None (search rules) ∙ e)

pub loop-at-init : goal.loop-at-init
loop-at-init c = record { roomy = λ p m below e. absurd (omega (arith, below)); least = λ other h. omega arith }

pub loop-at-preserved : goal.loop-at-preserved
loop-at-preserved c =
    let here = mark_is c.args.marks.now c.loop-at.at None (search rules) in
    record {
      roomy = room_on c.args.marks.now c.loop-at.at c.loop-at.room c.loop-at.invariant.roomy _ here c.higher-room.result c.higher-room.ensures.kept c.higher-room.ensures.roomy;
      least = λ other h. c.higher-room.ensures.least other (c.loop-at.invariant.least other h) (λ m e. h c.loop-at.at m (here ∙ e));
    }

pub returns-clause-roomy : goal.returns-clause-roomy
returns-clause-roomy c = room_all c.args.marks.now c.loop-at.at c.loop-at.room (search rules) c.loop-at.invariant.roomy
