use Rattle.std.proofs.Common.{List, Option, refl, ap, sym, subst, ◌∙◌}
use Rattle.txs_world_protocol.specs.declared.ask.Ask.{Ask}
use Rattle.txs_world_protocol.specs.declared.ask.Reply.TheVariants as reply
use Rattle.txs_world_protocol.specs.declared.event.Place.{Place}
use Rattle.txs_machine_actor.specs.PlainActor.{PlainActor, MayAnswerIf}
use Rattle.txs_machine_actor.specs.Turns.{Says}
use Rattle.txs_machine_actor.specs.declared.outcome.Turn.{Turn}
use Rattle.txs_machine_actor.specs.declared.outcome.Turn.TheVariants as turned
use Rattle.txs_machine.proofs.Answered.{stop_ends}
use Rattle.txs_history_run.specs.Actor.{IsFollowing, IsWaiting, PlainLogged, step_of}
use Rattle.txs_history_run.specs.declared.step.Step.TheVariants as step
use Rattle.txs_history_run.proofs.Kept.{unbroken_taken, kept, runs_so, waits_so}
use Rattle.txs_history_run.proofs.Running.{ran, ran_limit, ran_number, refused_may, stopped_so}
use Rattle.txs_history_run.proofs.Turning.{IsTurned}
use Rattle.txs_history_run.proofs.actor.LoggedActor.run.Goals as goal

pub invariant_of-self : goal.invariant_of-self
invariant_of-self g c =
    let p = c.self.inside.player in
    let tr = p.trace.items in
    let own = g.J.Run.code in
    let m = c.self.inside.asks in
    let h = c.self.inside.past in
    let t = ran c.actors_run.ensures c.self.inside.code.now own c.self.invariant.0 c.args.budget p.actor c.run.new.actor c.run.new.turn tr m h (step_of c.self.inside.broken c.self.inside.turn) (runs_so c.self.inside.broken c.self.inside.turn c.if-self.false (c.went.ensures.went c.if-not-went.false)) c.run.ensures.turns c.run.ensures.says c.run.ensures.lives c.self.invariant.2.in_step in
    let n = ran_limit c.actors_run.ensures c.self.inside.code.now own c.self.invariant.0 c.args.budget p.actor c.run.new.actor c.run.new.turn tr m h (step_of c.self.inside.broken c.self.inside.turn) (runs_so c.self.inside.broken c.self.inside.turn c.if-self.false (c.went.ensures.went c.if-not-went.false)) c.run.ensures.turns c.run.ensures.says c.run.ensures.lives c.self.invariant.2.in_step in (
      c.self.invariant.0,
      c.self.invariant.1,
      kept own g.J.Run.limit (record { actor = c.run.new.actor; trace = p.trace }) m h (step_of c.self.inside.broken c.run.new.turn) step.Runs (runs_so c.self.inside.broken c.run.new.turn c.if-self.false c.in-Went.is) (n ∙ c.self.invariant.2.limit_is)
          (subst (λ (r : Turn). IsTurned own r c.run.new.actor tr m h) c.in-Went.is t) tt,
      unbroken_taken c.self.inside.broken c.run.new.turn c.if-self.false,
    )

pub invariant_of-self-in-Ended : goal.invariant_of-self-in-Ended
invariant_of-self-in-Ended g c =
    let p = c.self.inside.player in
    let tr = p.trace.items in
    let own = g.J.Run.code in
    let m = c.self.inside.asks in
    let h = c.self.inside.past in
    let t = ran c.actors_run.ensures c.self.inside.code.now own c.self.invariant.0 c.args.budget p.actor c.run.new.actor c.run.new.turn tr m h (step_of c.self.inside.broken c.self.inside.turn) (runs_so c.self.inside.broken c.self.inside.turn c.if-self.false (c.went.ensures.went c.if-not-went.false)) c.run.ensures.turns c.run.ensures.says c.run.ensures.lives c.self.invariant.2.in_step in
    let n = ran_limit c.actors_run.ensures c.self.inside.code.now own c.self.invariant.0 c.args.budget p.actor c.run.new.actor c.run.new.turn tr m h (step_of c.self.inside.broken c.self.inside.turn) (runs_so c.self.inside.broken c.self.inside.turn c.if-self.false (c.went.ensures.went c.if-not-went.false)) c.run.ensures.turns c.run.ensures.says c.run.ensures.lives c.self.invariant.2.in_step in (
      c.self.invariant.0,
      c.self.invariant.1,
      kept own g.J.Run.limit (record { actor = c.run.new.actor; trace = p.trace }) m h (step_of c.self.inside.broken turned.Went) step.Runs (runs_so c.self.inside.broken turned.Went c.if-self.false refl) (n ∙ c.self.invariant.2.limit_is)
          (subst (λ (r : Turn). IsTurned own r c.run.new.actor tr m h) c.in-Ended.is t) tt,
      unbroken_taken c.self.inside.broken turned.Went c.if-self.false,
    )

pub invariant_of-self-then-has_room : goal.invariant_of-self-then-has_room
invariant_of-self-then-has_room g c =
    let p = c.self.inside.player in
    let tr = p.trace.items in
    let own = g.J.Run.code in
    let m = c.self.inside.asks in
    let h = c.self.inside.past in
    let t = ran c.actors_run.ensures c.self.inside.code.now own c.self.invariant.0 c.args.budget p.actor c.run.new.actor c.run.new.turn tr m h (step_of c.self.inside.broken c.self.inside.turn) (runs_so c.self.inside.broken c.self.inside.turn c.if-self.false (c.went.ensures.went c.if-not-went.false)) c.run.ensures.turns c.run.ensures.says c.run.ensures.lives c.self.invariant.2.in_step in
    let n = ran_limit c.actors_run.ensures c.self.inside.code.now own c.self.invariant.0 c.args.budget p.actor c.run.new.actor c.run.new.turn tr m h (step_of c.self.inside.broken c.self.inside.turn) (runs_so c.self.inside.broken c.self.inside.turn c.if-self.false (c.went.ensures.went c.if-not-went.false)) c.run.ensures.turns c.run.ensures.says c.run.ensures.lives c.self.invariant.2.in_step in (
      c.self.invariant.0,
      c.self.invariant.1,
      kept own g.J.Run.limit (record { actor = c.run.new.actor; trace = c.has_room.new.trace }) m h (step_of c.self.inside.broken c.run.new.turn) (step.Asks c.in-Asks.ask) (waits_so c.self.inside.broken c.run.new.turn c.in-Asks.ask c.if-self.false c.in-Asks.is) (n ∙ c.self.invariant.2.limit_is)
          (subst (λ (l : List Place). IsWaiting own c.run.new.actor c.in-Asks.ask l m h) (sym c.has_room.ensures.same) (subst (λ (r : Turn). IsTurned own r c.run.new.actor tr m h) c.in-Asks.is t))
          (c.has_room.ensures.room c.if-has_room.true),
      unbroken_taken c.self.inside.broken c.run.new.turn c.if-self.false,
    )

pub answer-requires-clause-answers : goal.answer-requires-clause-answers
answer-requires-clause-answers g c =
    let p = c.self.inside.player in
    let tr = p.trace.items in
    let own = g.J.Run.code in
    let m = c.self.inside.asks in
    let h = c.self.inside.past in
    let t = ran c.actors_run.ensures c.self.inside.code.now own c.self.invariant.0 c.args.budget p.actor c.run.new.actor c.run.new.turn tr m h (step_of c.self.inside.broken c.self.inside.turn) (runs_so c.self.inside.broken c.self.inside.turn c.if-self.false (c.went.ensures.went c.if-not-went.false)) c.run.ensures.turns c.run.ensures.says c.run.ensures.lives c.self.invariant.2.in_step in
    let w : IsWaiting own c.run.new.actor c.in-Asks.ask tr m h = subst (λ (r : Turn). IsTurned own r c.run.new.actor tr m h) c.in-Asks.is t in
    subst (λ (o : Option Ask). MayAnswerIf o reply.Memory) (sym w.waits) (refused_may c.in-Asks.ask (c.has_room.ensures.adds c.if-has_room.false))

pub invariant_of-self-in-Asks : goal.invariant_of-self-in-Asks
invariant_of-self-in-Asks g c =
    let p = c.self.inside.player in
    let tr = p.trace.items in
    let own = g.J.Run.code in
    let m = c.self.inside.asks in
    let h = c.self.inside.past in
    let t = ran c.actors_run.ensures c.self.inside.code.now own c.self.invariant.0 c.args.budget p.actor c.run.new.actor c.run.new.turn tr m h (step_of c.self.inside.broken c.self.inside.turn) (runs_so c.self.inside.broken c.self.inside.turn c.if-self.false (c.went.ensures.went c.if-not-went.false)) c.run.ensures.turns c.run.ensures.says c.run.ensures.lives c.self.invariant.2.in_step in
    let n = ran_limit c.actors_run.ensures c.self.inside.code.now own c.self.invariant.0 c.args.budget p.actor c.run.new.actor c.run.new.turn tr m h (step_of c.self.inside.broken c.self.inside.turn) (runs_so c.self.inside.broken c.self.inside.turn c.if-self.false (c.went.ensures.went c.if-not-went.false)) c.run.ensures.turns c.run.ensures.says c.run.ensures.lives c.self.invariant.2.in_step in
    let w : IsWaiting own c.run.new.actor c.in-Asks.ask tr m h = subst (λ (r : Turn). IsTurned own r c.run.new.actor tr m h) c.in-Asks.is t in
    let s = stopped_so c.actors_run.ensures c.self.inside.code.now own c.self.invariant.0 c.run.new.actor c.answer.new.self c.in-Asks.ask tr m h w (c.has_room.ensures.adds c.if-has_room.false) c.answer.ensures.answered c.answer.ensures.lives c.answer.ensures.free in (
      c.self.invariant.0,
      c.self.invariant.1,
      kept own g.J.Run.limit (record { actor = c.answer.new.self; trace = c.has_room.new.trace }) m h (step_of c.self.inside.broken turned.Went) step.Runs (runs_so c.self.inside.broken turned.Went c.if-self.false refl) (s.1 ∙ n ∙ c.self.invariant.2.limit_is)
          (subst (λ (l : List Place). IsFollowing own c.answer.new.self l m h) (sym c.has_room.ensures.same) s.0) tt,
      unbroken_taken c.self.inside.broken turned.Went c.if-self.false,
    )

pub returns-then-has_room-clause-number : goal.returns-then-has_room-clause-number
returns-then-has_room-clause-number g c = ran_number c.actors_run.ensures c.self.inside.code.now g.J.Run.code c.self.invariant.0 c.args.budget c.self.inside.player.actor c.run.new.actor c.run.new.turn c.self.inside.player.trace.items c.self.inside.asks c.self.inside.past (step_of c.self.inside.broken c.self.inside.turn) (runs_so c.self.inside.broken c.self.inside.turn c.if-self.false (c.went.ensures.went c.if-not-went.false)) c.run.ensures.turns c.run.ensures.says c.run.ensures.lives c.self.invariant.2.in_step ∙ ap (λ (x : PlainLogged). x.player.actor.number) c.self.view_is

pub returns-in-Went-clause-number : goal.returns-in-Went-clause-number
returns-in-Went-clause-number g c = ran_number c.actors_run.ensures c.self.inside.code.now g.J.Run.code c.self.invariant.0 c.args.budget c.self.inside.player.actor c.run.new.actor c.run.new.turn c.self.inside.player.trace.items c.self.inside.asks c.self.inside.past (step_of c.self.inside.broken c.self.inside.turn) (runs_so c.self.inside.broken c.self.inside.turn c.if-self.false (c.went.ensures.went c.if-not-went.false)) c.run.ensures.turns c.run.ensures.says c.run.ensures.lives c.self.invariant.2.in_step ∙ ap (λ (x : PlainLogged). x.player.actor.number) c.self.view_is

pub returns-in-Ended-clause-number : goal.returns-in-Ended-clause-number
returns-in-Ended-clause-number g c = ran_number c.actors_run.ensures c.self.inside.code.now g.J.Run.code c.self.invariant.0 c.args.budget c.self.inside.player.actor c.run.new.actor c.run.new.turn c.self.inside.player.trace.items c.self.inside.asks c.self.inside.past (step_of c.self.inside.broken c.self.inside.turn) (runs_so c.self.inside.broken c.self.inside.turn c.if-self.false (c.went.ensures.went c.if-not-went.false)) c.run.ensures.turns c.run.ensures.says c.run.ensures.lives c.self.invariant.2.in_step ∙ ap (λ (x : PlainLogged). x.player.actor.number) c.self.view_is

pub returns-else-has_room-clause-number : goal.returns-else-has_room-clause-number
returns-else-has_room-clause-number g c =
    let tr = c.self.inside.player.trace.items in
    let own = g.J.Run.code in
    let m = c.self.inside.asks in
    let h = c.self.inside.past in
    let t = ran c.actors_run.ensures c.self.inside.code.now g.J.Run.code c.self.invariant.0 c.args.budget c.self.inside.player.actor c.run.new.actor c.run.new.turn c.self.inside.player.trace.items c.self.inside.asks c.self.inside.past (step_of c.self.inside.broken c.self.inside.turn) (runs_so c.self.inside.broken c.self.inside.turn c.if-self.false (c.went.ensures.went c.if-not-went.false)) c.run.ensures.turns c.run.ensures.says c.run.ensures.lives c.self.invariant.2.in_step in
    let w : IsWaiting own c.run.new.actor c.in-Asks.ask tr m h = subst (λ (r : Turn). IsTurned own r c.run.new.actor tr m h) c.in-Asks.is t in
    let s = stopped_so c.actors_run.ensures c.self.inside.code.now own c.self.invariant.0 c.run.new.actor c.answer.new.self c.in-Asks.ask tr m h w (c.has_room.ensures.adds c.if-has_room.false) c.answer.ensures.answered c.answer.ensures.lives c.answer.ensures.free in
    s.2 ∙ ran_number c.actors_run.ensures c.self.inside.code.now g.J.Run.code c.self.invariant.0 c.args.budget c.self.inside.player.actor c.run.new.actor c.run.new.turn c.self.inside.player.trace.items c.self.inside.asks c.self.inside.past (step_of c.self.inside.broken c.self.inside.turn) (runs_so c.self.inside.broken c.self.inside.turn c.if-self.false (c.went.ensures.went c.if-not-went.false)) c.run.ensures.turns c.run.ensures.says c.run.ensures.lives c.self.invariant.2.in_step ∙ ap (λ (x : PlainLogged). x.player.actor.number) c.self.view_is

pub returns-else-has_room-clause-ended : goal.returns-else-has_room-clause-ended
returns-else-has_room-clause-ended g c is =
    let b = c.run.new.actor in
    let q = c.in-Asks.ask in
    let says = subst (λ (r : Turn). Says r b) c.in-Asks.is c.run.ensures.says in
    let ends = stop_ends b q reply.Memory says.1 tt in (
      runs_so c.self.inside.broken turned.Went c.if-self.false refl,
      (ends.0, ap (λ (x : PlainActor). x.outcome) c.answer.ensures.answered ∙ ends.1),
    )
