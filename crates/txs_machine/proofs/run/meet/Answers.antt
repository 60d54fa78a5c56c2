use Rattle.std.proofs.Common.{Some, ap, sym, subst, ◌∙◌}
use Rattle.txs_world_protocol.specs.declared.ask.Ask.{Ask}
use Rattle.txs_machine.specs.Running.{IsAnswered}
use Rattle.txs_machine.specs.Turning.{MayAsk}
use Rattle.txs_machine.proofs.run.meet.Goals as goal

pub take_ask-requires-clause-asks : goal.take_ask-requires-clause-asks
take_ask-requires-clause-asks c = c.requires.asks ∙ ap Some c.in-Commit.is

pub take_ask-requires-clause-may : goal.take_ask-requires-clause-may
take_ask-requires-clause-may c = subst (λ (q : Ask). MayAsk c.args.code.now c.args.shared.now c.args.player.now.actor q) c.in-Commit.is c.requires.may

pub returns-in-Commit-clause-answered : goal.returns-in-Commit-clause-answered
returns-in-Commit-clause-answered c =
    subst (λ (q : Ask). IsAnswered c.args.player.now.actor.number c.args.shared.now c.args.player.now.actor c.args.player.now.trace.items q c.take_ask.new.shared c.take_ask.new.player.actor c.take_ask.new.player.trace.items)
    (sym c.in-Commit.is) c.take_ask.ensures.answered

pub take_open-requires-clause-asks : goal.take_open-requires-clause-asks
take_open-requires-clause-asks c = c.requires.asks ∙ ap Some c.in-OpenAt.is

pub take_open-requires-clause-may : goal.take_open-requires-clause-may
take_open-requires-clause-may c = subst (λ (q : Ask). MayAsk c.args.code.now c.args.shared.now c.args.player.now.actor q) c.in-OpenAt.is c.requires.may

pub returns-in-OpenAt-clause-answered : goal.returns-in-OpenAt-clause-answered
returns-in-OpenAt-clause-answered c =
    subst (λ (q : Ask). IsAnswered c.args.player.now.actor.number c.args.shared.now c.args.player.now.actor c.args.player.now.trace.items q c.take_open.new.shared c.take_open.new.player.actor c.take_open.new.player.trace.items)
    (sym c.in-OpenAt.is) c.take_open.ensures.answered

pub take_close-requires-clause-asks : goal.take_close-requires-clause-asks
take_close-requires-clause-asks c = c.requires.asks ∙ ap Some c.in-CloseAt.is

pub take_close-requires-clause-may : goal.take_close-requires-clause-may
take_close-requires-clause-may c = subst (λ (q : Ask). MayAsk c.args.code.now c.args.shared.now c.args.player.now.actor q) c.in-CloseAt.is c.requires.may

pub returns-in-CloseAt-clause-answered : goal.returns-in-CloseAt-clause-answered
returns-in-CloseAt-clause-answered c =
    subst (λ (q : Ask). IsAnswered c.args.player.now.actor.number c.args.shared.now c.args.player.now.actor c.args.player.now.trace.items q c.take_close.new.shared c.take_close.new.player.actor c.take_close.new.player.trace.items)
    (sym c.in-CloseAt.is) c.take_close.ensures.answered
