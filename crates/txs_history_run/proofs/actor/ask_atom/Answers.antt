use Rattle.std.proofs.Common.{ℕ, length, refl, sym, subst}
use Rattle.txs_history.specs.Logged.{WasServed}
use Rattle.txs_history_run.specs.Actor.{HasAsked}
use Rattle.txs_history_run.specs.Callees.{AreCallees}
use Rattle.txs_history_run.proofs.Room.{served_adds}
use Rattle.txs_history_run.proofs.Taking.{asked_may, has_asked, same_after}
use Rattle.txs_history_run.proofs.actor.ask_atom.Goals as goal

pub take-requires-clause-callees : goal.take-requires-clause-callees
take-requires-clause-callees g c = subst (λ d. AreCallees d c.args.callees.now) (sym c.requires.code) c.requires.callees

pub take-requires-clause-answers : goal.take-requires-clause-answers
take-requires-clause-answers g c =
    let code = g.J.Run.code in
    let was : WasServed code.cells (length code.threads) c.lock-lock.result c.args.player.now.actor.number c.args.ask c.args.past.now c.serve.new.past c.in-Some.served =
    subst (λ n. WasServed code.cells (length code.threads) c.lock-lock.result n c.args.ask c.args.past.now c.serve.new.past c.in-Some.served) c.number-number.ensures
    (subst (λ k. WasServed code.cells (length code.threads) k c.number-number.result c.args.ask c.args.past.now c.serve.new.past c.in-Some.served) (sym c.lock-lock.ensures.number) c.in-Some.ensures.served) in
    asked_may g.J.Run.code c.lock-lock.result c.args.ask c.args.player.now c.args.asks.now c.args.past.now c.serve.new.past c.in-Some.served c.requires.ready was

pub take-requires-clause-room : goal.take-requires-clause-room
take-requires-clause-room g c e =
    let code = g.J.Run.code in
    let was : WasServed code.cells (length code.threads) c.lock-lock.result c.args.player.now.actor.number c.args.ask c.args.past.now c.serve.new.past c.in-Some.served =
    subst (λ n. WasServed code.cells (length code.threads) c.lock-lock.result n c.args.ask c.args.past.now c.serve.new.past c.in-Some.served) c.number-number.ensures
    (subst (λ k. WasServed code.cells (length code.threads) k c.number-number.result c.args.ask c.args.past.now c.serve.new.past c.in-Some.served) (sym c.lock-lock.ensures.number) c.in-Some.ensures.served) in
    c.requires.ready.room (served_adds code.cells (length code.threads) c.lock-lock.result c.args.player.now.actor.number c.args.ask c.args.past.now c.serve.new.past c.in-Some.served was e)

pub returns-clause-number : goal.returns-clause-number
returns-clause-number g c =
    let code = g.J.Run.code in
    let was : WasServed code.cells (length code.threads) c.lock-lock.result c.args.player.now.actor.number c.args.ask c.args.past.now c.serve.new.past c.in-Some.served =
    subst (λ n. WasServed code.cells (length code.threads) c.lock-lock.result n c.args.ask c.args.past.now c.serve.new.past c.in-Some.served) c.number-number.ensures
    (subst (λ k. WasServed code.cells (length code.threads) k c.number-number.result c.args.ask c.args.past.now c.serve.new.past c.in-Some.served) (sym c.lock-lock.ensures.number) c.in-Some.ensures.served) in
    (same_after g.J.Run.code c.lock-lock.result c.args.ask c.args.player.now c.args.asks.now c.args.past.now c.serve.new.past c.in-Some.served c.requires.ready was c.args.code.now c.requires.code c.take.result c.take.new.player c.take.new.asks c.take.ensures.took c.take.ensures.broken).1

pub returns-clause-limit : goal.returns-clause-limit
returns-clause-limit g c =
    let code = g.J.Run.code in
    let was : WasServed code.cells (length code.threads) c.lock-lock.result c.args.player.now.actor.number c.args.ask c.args.past.now c.serve.new.past c.in-Some.served =
    subst (λ n. WasServed code.cells (length code.threads) c.lock-lock.result n c.args.ask c.args.past.now c.serve.new.past c.in-Some.served) c.number-number.ensures
    (subst (λ k. WasServed code.cells (length code.threads) k c.number-number.result c.args.ask c.args.past.now c.serve.new.past c.in-Some.served) (sym c.lock-lock.ensures.number) c.in-Some.ensures.served) in
    (same_after g.J.Run.code c.lock-lock.result c.args.ask c.args.player.now c.args.asks.now c.args.past.now c.serve.new.past c.in-Some.served c.requires.ready was c.args.code.now c.requires.code c.take.result c.take.new.player c.take.new.asks c.take.ensures.took c.take.ensures.broken).0

pub returns-clause-asked : goal.returns-clause-asked
returns-clause-asked g c m n e =
    let code = g.J.Run.code in
    let was : WasServed code.cells (length code.threads) c.lock-lock.result c.args.player.now.actor.number c.args.ask c.args.past.now c.serve.new.past c.in-Some.served =
    subst (λ n. WasServed code.cells (length code.threads) c.lock-lock.result n c.args.ask c.args.past.now c.serve.new.past c.in-Some.served) c.number-number.ensures
    (subst (λ k. WasServed code.cells (length code.threads) k c.number-number.result c.args.ask c.args.past.now c.serve.new.past c.in-Some.served) (sym c.lock-lock.ensures.number) c.in-Some.ensures.served) in
    subst (λ (k : ℕ). HasAsked code k c.args.ask c.args.player.now c.take.new.player c.args.asks.now c.take.new.asks c.args.past.now c.serve.new.past m n) c.lock-lock.ensures.number
    (has_asked g.J.Run.code c.lock-lock.result c.args.ask c.args.player.now c.args.asks.now c.args.past.now c.serve.new.past c.in-Some.served c.requires.ready was c.args.code.now c.requires.code c.take.result c.take.new.player c.take.new.asks c.take.ensures.took c.take.ensures.broken _ refl m n e)
