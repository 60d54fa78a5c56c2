use Rattle.std.proofs.Common.{◌≡◌, ◌<◌, ◌-◌, ◌+◌, length, get_or, rules, arith}
use Rattle.txs_machine.specs.Running.{attendants}
use Rattle.txs_machine.proofs.Playing.{nth_read}
use Rattle.txs_explore.proofs.Outs.{thread_out, agent_out}
use Rattle.txs_explore.proofs.replay.is_out_at.Goals as goal

pub returns-then-at-threads : goal.returns-then-at-threads
returns-then-at-threads c = λ never x there memory.
    (let xs = c.args.players.now.threads.items in
    let within : c.args.k < length xs = search rules in
    let x0 = c.index.result.now in
    let read : x0 ≡ get_or xs c.args.k x0 = search rules in
    thread_out xs (attendants c.args.players.now.agents.items) c.args.k x0 x (nth_read xs c.args.k x0 within read) there (c.is_out.ensures never) memory)

pub returns-else-at-threads : goal.returns-else-at-threads
returns-else-at-threads c = λ never x there memory.
    (let xs = c.args.players.now.threads.items in
    let gs = c.args.players.now.agents.items in
    let i = c.args.k - c.len-threads.result in
    let len : c.len-threads.result ≡ length xs = search rules in
    let within : i < length gs = omega (arith, len, c.if-at-threads.false, c.requires) in
    let g0 = c.index-else-at-threads.result.now in
    let read : g0 ≡ get_or gs i g0 = search rules in
    let place : c.args.k ≡ length xs + i = omega (arith, len, c.if-at-threads.false) in
    agent_out xs gs c.args.k i g0 x place (nth_read gs i g0 within read) there (c.is_out-else-at-threads.ensures never) memory)
