use Rattle.std.proofs.Common.{Some, ap, sym, subst, ◌∙◌}
use Rattle.txs_machine.specs.Briefs.{ask_of}
use Rattle.txs_machine.specs.Running.{IsAnswered}
use Rattle.txs_machine.specs.declared.run.Brief.{Brief}
use Rattle.txs_machine.proofs.run.take_brief.Goals as goal

pub take_ask-requires-clause-asks : goal.take_ask-requires-clause-asks
take_ask-requires-clause-asks c = c.requires.asks ∙ ap (λ (b : Brief). Some (ask_of b)) c.in-Begin.is

pub returns-in-Begin-clause-answered : goal.returns-in-Begin-clause-answered
returns-in-Begin-clause-answered c =
    subst (λ (b : Brief). IsAnswered c.args.player.now.actor.number c.args.shared.now c.args.player.now.actor c.args.player.now.trace.items (ask_of b) c.take_ask.new.shared c.take_ask.new.player.actor c.take_ask.new.player.trace.items)
    (sym c.in-Begin.is) c.take_ask.ensures.answered

pub take_ask-requires-in-Look-clause-asks : goal.take_ask-requires-in-Look-clause-asks
take_ask-requires-in-Look-clause-asks c = c.requires.asks ∙ ap (λ (b : Brief). Some (ask_of b)) c.in-Look.is

pub returns-in-Look-clause-answered : goal.returns-in-Look-clause-answered
returns-in-Look-clause-answered c =
    subst (λ (b : Brief). IsAnswered c.args.player.now.actor.number c.args.shared.now c.args.player.now.actor c.args.player.now.trace.items (ask_of b) c.take_ask-in-Look.new.shared c.take_ask-in-Look.new.player.actor c.take_ask-in-Look.new.player.trace.items)
    (sym c.in-Look.is) c.take_ask-in-Look.ensures.answered
