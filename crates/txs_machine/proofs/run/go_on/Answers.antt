use Rattle.std.proofs.Common.{refl, subst}
use Rattle.txs_machine_actor.specs.Turns.{Says, TurnsOf}
use Rattle.txs_machine_actor.specs.declared.outcome.Turn.{Turn}
use Rattle.txs_machine_actor.specs.declared.outcome.Turn.TheVariants.{Went, Asks, Ended}
use Rattle.txs_machine.specs.Briefs.{ask_of}
use Rattle.txs_machine.proofs.run.go_on.Goals as goal

pub returns-in-Ended : goal.returns-in-Ended
returns-in-Ended c = record {
  turn = Ended c.in-Ended.outcome;
  at = c.run.new.actor;
  turns = subst (λ (t : Turn). TurnsOf c.args.code.now c.args.budget c.args.player.now.actor t c.run.new.actor) c.in-Ended.is c.run.ensures.turns;
  says = subst (λ (t : Turn). Says t c.run.new.actor) c.in-Ended.is c.run.ensures.says;
  reached = c.run.ensures.lives;
  lives = c.run.ensures.lives;
  led = (refl, refl, refl, refl);
}

pub returns-in-Went : goal.returns-in-Went
returns-in-Went c = record {
  turn = Went;
  at = c.run.new.actor;
  turns = subst (λ (t : Turn). TurnsOf c.args.code.now c.args.budget c.args.player.now.actor t c.run.new.actor) c.in-Went.is c.run.ensures.turns;
  says = subst (λ (t : Turn). Says t c.run.new.actor) c.in-Went.is c.run.ensures.says;
  reached = c.run.ensures.lives;
  lives = c.run.ensures.lives;
  led = (refl, refl, refl, refl);
}

pub meet-requires-clause-asks : goal.meet-requires-clause-asks
meet-requires-clause-asks c = (subst (λ (t : Turn). Says t c.run.new.actor) c.in-Asks.is c.run.ensures.says).1

pub meet-requires-clause-may : goal.meet-requires-clause-may
meet-requires-clause-may c =
    let q = c.in-Asks.ask in
    let a = c.run.new.actor in
    let says = subst (λ (t : Turn). Says t a) c.in-Asks.is c.run.ensures.says in
    let turns = subst (λ (t : Turn). TurnsOf c.args.code.now c.args.budget c.args.player.now.actor t a) c.in-Asks.is c.run.ensures.turns in
    c.requires.may a q turns c.run.ensures.lives says.0 says.1

-- how the ask was answered
pub returns-in-Asks : goal.returns-in-Asks
returns-in-Asks c =
    let q = c.in-Asks.ask in
    let a = c.run.new.actor in
    let says = subst (λ (t : Turn). Says t a) c.in-Asks.is c.run.ensures.says in
    let turns = subst (λ (t : Turn). TurnsOf c.args.code.now c.args.budget c.args.player.now.actor t a) c.in-Asks.is c.run.ensures.turns in
    record { turn = Asks q; at = a; turns = turns; says = says; reached = c.run.ensures.lives; lives = c.meet.ensures.lives; led = (c.meet.ensures.answered, refl) }

pub take_brief-requires-clause-asks : goal.take_brief-requires-clause-asks
take_brief-requires-clause-asks c =
    let is = c.in-Some.ensures in
    (subst (λ (t : Turn). Says t c.run.new.actor) is c.run.ensures.says).1

pub take_brief-requires-clause-may : goal.take_brief-requires-clause-may
take_brief-requires-clause-may c =
    let a = c.run.new.actor in
    let is = c.in-Some.ensures in
    let says = subst (λ (t : Turn). Says t a) is c.run.ensures.says in
    let turns = subst (λ (t : Turn). TurnsOf c.args.code.now c.args.budget c.args.player.now.actor t a) is c.run.ensures.turns in
    c.requires.may a _ turns c.run.ensures.lives says.0 says.1

pub returns-in-Some : goal.returns-in-Some
returns-in-Some c =
    let a = c.run.new.actor in
    let is = c.in-Some.ensures in
    let says = subst (λ (t : Turn). Says t a) is c.run.ensures.says in
    let turns = subst (λ (t : Turn). TurnsOf c.args.code.now c.args.budget c.args.player.now.actor t a) is c.run.ensures.turns in
    record { turn = Asks (ask_of c.in-Some.brief); at = a; turns = turns; says = says; reached = c.run.ensures.lives; lives = c.take_brief.ensures.lives; led = (c.take_brief.ensures.answered, refl) }
