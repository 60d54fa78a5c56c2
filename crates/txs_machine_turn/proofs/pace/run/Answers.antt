use Rattle.std.proofs.Common.{refl, arith}
use Rattle.txs_machine_actor.proofs.Striding.{run_stopped, run_goes}
use Rattle.txs_machine_actor.proofs.Saying.{turns_say}
use Rattle.txs_machine_turn.proofs.pace.run.Goals as goal

pub returns-then-not-went : goal.returns-then-not-went
returns-then-not-went c =
    let i = c.loop.invariant in
    let s = c.stride-done in
    let turns = run_stopped c.args.code.now c.args.actor.now c.loop.actor s.new.actor c.args.budget c.loop.left s.result s.new.turn (omega (arith, i.left)) i.turns s.ensures.strides (c.if-not-went.ensures.other refl) in
    record {
      turns = turns;
      says = turns_say c.args.code.now c.args.budget c.args.actor.now s.new.actor s.new.turn c.requires.answered turns;
      lives = s.ensures.lives;
    }

pub loop-preserved : goal.loop-preserved
loop-preserved c =
    let i = c.loop.invariant in
    let s = c.stride-done in
    let went = c.if-not-went.ensures.went refl in
    let g = run_goes c.args.code.now c.args.actor.now c.loop.actor s.new.actor c.args.budget c.loop.left c.loop.counter s.result s.new.turn i.left i.turns s.ensures.strides went i.answered in
    record { turns = g.0; lives = s.ensures.lives; answered = g.1; left = g.2; went = went }
