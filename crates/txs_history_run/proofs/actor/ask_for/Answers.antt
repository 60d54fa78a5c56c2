use Rattle.std.proofs.Common.{length, refl, sym, subst}
use Rattle.txs_history_run.specs.Callees.{AreCallees}
use Rattle.txs_history_run.proofs.Room.{served_adds}
use Rattle.txs_history_run.proofs.Taking.{asked_may, has_asked, same_after}
use Rattle.txs_history_run.proofs.actor.ask_for.Goals as goal

pub take-requires-clause-callees : goal.take-requires-clause-callees
take-requires-clause-callees g c = subst (λ d. AreCallees d c.args.callees.now) (sym c.requires.code) c.requires.callees

pub take-requires-clause-answers : goal.take-requires-clause-answers
take-requires-clause-answers g c = asked_may g.J.Run.code 0 c.args.ask c.args.player.now c.args.asks.now c.args.past.now c.serve_by.new.past c.in-Some.served c.requires.ready c.in-Some.ensures.served.was

pub take-requires-clause-room : goal.take-requires-clause-room
take-requires-clause-room g c e = c.requires.ready.room (served_adds g.J.Run.code.cells (length g.J.Run.code.threads) 0 c.args.player.now.actor.number c.args.ask c.args.past.now c.serve_by.new.past c.in-Some.served c.in-Some.ensures.served.was e)

pub returns-clause-number : goal.returns-clause-number
returns-clause-number g c = (same_after g.J.Run.code 0 c.args.ask c.args.player.now c.args.asks.now c.args.past.now c.serve_by.new.past c.in-Some.served c.requires.ready c.in-Some.ensures.served.was c.args.code.now c.requires.code c.take.result c.take.new.player c.take.new.asks c.take.ensures.took c.take.ensures.broken).1

pub returns-clause-limit : goal.returns-clause-limit
returns-clause-limit g c = (same_after g.J.Run.code 0 c.args.ask c.args.player.now c.args.asks.now c.args.past.now c.serve_by.new.past c.in-Some.served c.requires.ready c.in-Some.ensures.served.was c.args.code.now c.requires.code c.take.result c.take.new.player c.take.new.asks c.take.ensures.took c.take.ensures.broken).0

pub returns-clause-asked : goal.returns-clause-asked
returns-clause-asked g c m n e = has_asked g.J.Run.code 0 c.args.ask c.args.player.now c.args.asks.now c.args.past.now c.serve_by.new.past c.in-Some.served c.requires.ready c.in-Some.ensures.served.was c.args.code.now c.requires.code c.take.result c.take.new.player c.take.new.asks c.take.ensures.took c.take.ensures.broken _ refl m n e
