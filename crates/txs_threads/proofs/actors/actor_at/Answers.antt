use Rattle.std.proofs.Common.{◌≡◌, ◌<◌, ◌+◌, ◌-◌, length, arith}
use Rattle.txs_threads.proofs.Agents.{acts_at}
use Rattle.txs_threads.proofs.actors.actor_at.Goals as goal

pub agent-requires : goal.agent-requires
agent-requires c =
    let gs = c.args.agents.now in
    let threads = c.args.threads in
    let number = c.args.number in
    let i = number - threads in
    let there = c.requires.there in
    let behind = c.if-number-threads.false in
    let place : number ≡ threads + i = omega (arith, behind) in
    let below : i < length gs = omega (arith, there, behind) in
    acts_at c.args.code.now gs i threads number c.agent_at-agent.result c.requires.agents c.requires.many place below c.agent_at-agent.ensures
