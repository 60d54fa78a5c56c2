use Rattle.std.proofs.Common.{◌<◌, ℕ, length, subst, arith}
use Rattle.txs_history.specs.Logged.{MayNot, WasServed}
use Rattle.txs_history.specs.declared.serve.Served.{Served}
use Rattle.txs_history_run.specs.Actor.{AskServed}
use Rattle.txs_history_run.proofs.Kept.{asked_was, some_so}
use Rattle.txs_history_run.proofs.actor.serve_by.Goals as goal

pub serve-requires : goal.serve-requires
serve-requires g c = record { about = asked_was c.args.actor.now c.args.ask c.number.result c.number.ensures c.requires.asks }

pub returns-clause-served : goal.returns-clause-served
returns-clause-served g c =
    let code = g.J.Run.code in
    let fewer : c.args.asks < 18446744073709551615 = omega arith in
    some_so c.serve.result (λ (v : Served). WasServed code.cells (length code.threads) 0 c.number.result c.args.ask c.args.past.now c.serve.new.past v)
    (λ (v : Served). AskServed code c.args.actor.now.number c.args.asks c.args.ask c.args.past.now c.serve.new.past v)
    (λ v w. record { fewer = fewer; was = subst (λ (n : ℕ). WasServed code.cells (length code.threads) 0 n c.args.ask c.args.past.now c.serve.new.past v) c.number.ensures w })
    c.serve.ensures.served

pub returns-clause-unserved : goal.returns-clause-unserved
returns-clause-unserved g c none works few =
    let code = g.J.Run.code in
    subst (λ (n : ℕ). MayNot code.cells (length code.threads) 0 n c.args.ask c.args.store.now.log.log) c.number.ensures (c.serve.ensures.refused none works).2

pub returns-clause-breaks : goal.returns-clause-breaks
returns-clause-breaks g c broke worked = (c.serve.ensures.breaks broke worked).2
