use Rattle.std.proofs.Common.{◌≡◌, ◌<◌, ◌+◌, ◌-◌, ℕ, length, get_or, Some, rules, refl, sym, subst, arith}
use Rattle.std.specs.Vec.{with_item}
use Rattle.txs_value_data.specs.Places.{nth}
use Rattle.txs_machine.specs.Agents.{agents_of}
use Rattle.txs_machine.specs.RunOver.{books_of}
use Rattle.txs_machine.specs.Running.{IsAttending}
use Rattle.txs_machine.specs.declared.player.Players.{Players}
use Rattle.txs_machine.proofs.Laws.{keeps, lawful, traced}
use Rattle.txs_machine.proofs.PlayedAt.{thread_play_at, agent_may, agent_play_at, agent_rest}
use Rattle.txs_machine.proofs.Playing.{between_of, nth_read}
use Rattle.txs_machine.proofs.Together.{attending_at}
use Rattle.txs_machine.proofs.schedule.play_at.Goals as goal

pub play_actor-requires-clause-between : goal.play_actor-requires-clause-between
play_actor-requires-clause-between c =
    let xs = c.args.players.now.threads.items in
    let k = c.args.k in
    let x = c.index_mut.result.now in
    let within : k < length xs = search rules in
    let read : x ≡ get_or xs k x = search rules in
    between_of c.args.code.now c.args.max_steps (books_of c.args.shared.now) k xs x (nth_read xs k x within read) c.requires.playing.1.threads

pub returns-then-at-threads : goal.returns-then-at-threads
returns-then-at-threads c =
    let all = c.args.players.now in
    let xs = all.threads.items in
    let k = c.args.k in
    let x = c.index_mut.result.now in
    let y = c.play_actor.new.player in
    let within : k < length xs = search rules in
    let read : x ≡ get_or xs k x = search rules in
    let next : Players = record { threads = with_item all.threads k y; agents = all.agents } in
    thread_play_at traced c.args.code.now c.args.max_steps k c.args.budget c.args.shared.now c.play_actor.new.shared all next x y c.requires.playing within (nth_read xs k x within read) c.play_actor.ensures refl refl

-- ---- an agent's

pub play_agent-requires-clause-attending : goal.play_agent-requires-clause-attending
play_agent-requires-clause-attending c =
    let code = c.args.code.now in
    let xs = c.args.players.now.threads.items in
    let gs = c.args.players.now.agents.items in
    let x = c.index_mut-else-at-threads.result.now in
    let i = c.args.k - c.len-threads.result in
    let len : c.len-threads.result ≡ length xs = search rules in
    let within : i < length gs = omega (arith, len, c.if-at-threads.false, c.requires.there) in
    let read : x ≡ get_or gs i x = search rules in
    let a = attending_at code c.args.max_steps (length code.threads) i (agents_of code) gs x c.requires.playing.1.agents (nth_read gs i x within read) in
    let place : length code.threads + i ≡ c.args.k = omega (arith, len, c.if-at-threads.false, c.requires.playing.1.many) in
    subst (λ g. IsAttending code g c.args.k c.args.max_steps x) (sym a.2.agent) (subst (λ (n : ℕ). IsAttending code a.0 n c.args.max_steps x) place a.2)

-- what it comes to ask it may ask, and what waits for any agent the code has sent
pub play_agent-requires-clause-may : goal.play_agent-requires-clause-may
play_agent-requires-clause-may c going =
    let code = c.args.code.now in
    let s = c.args.shared.now in
    let xs = c.args.players.now.threads.items in
    let gs = c.args.players.now.agents.items in
    let x = c.index_mut-else-at-threads.result.now in
    let i = c.args.k - c.len-threads.result in
    let len : c.len-threads.result ≡ length xs = search rules in
    let within : i < length gs = omega (arith, len, c.if-at-threads.false, c.requires.there) in
    let read : x ≡ get_or gs i x = search rules in
    let there : nth gs i ≡ Some x = nth_read gs i x within read in
    agent_may lawful keeps code c.rooms.result.0.now c.rooms.result.1.now c.rooms.ensures c.code-own_cells.ensures.own_cells c.args.max_steps i c.args.budget s c.args.players.now x c.requires.of c.requires.playing there going

-- one that has nothing to do stays as it is
pub play_agent-requires-clause-rests : goal.play_agent-requires-clause-rests
play_agent-requires-clause-rests c =
    let code = c.args.code.now in
    let s = c.args.shared.now in
    let xs = c.args.players.now.threads.items in
    let gs = c.args.players.now.agents.items in
    let x = c.index_mut-else-at-threads.result.now in
    let i = c.args.k - c.len-threads.result in
    let len : c.len-threads.result ≡ length xs = search rules in
    let within : i < length gs = omega (arith, len, c.if-at-threads.false, c.requires.there) in
    let read : x ≡ get_or gs i x = search rules in
    let a = attending_at code c.args.max_steps (length code.threads) i (agents_of code) gs x c.requires.playing.1.agents (nth_read gs i x within read) in
    let many = c.requires.playing.1.many in
    let place : length code.threads + i ≡ c.args.k = omega (arith, len, c.if-at-threads.false, many) in
    agent_rest lawful keeps code c.rooms.result.0.now c.rooms.result.1.now c.rooms.ensures c.code-own_cells.ensures.own_cells c.args.max_steps c.args.k c.args.budget s x a.0 (subst (λ (n : ℕ). IsAttending code a.0 n c.args.max_steps x) place a.2) c.requires.some

pub returns-else-at-threads : goal.returns-else-at-threads
returns-else-at-threads c =
    let all = c.args.players.now in
    let xs = all.threads.items in
    let gs = all.agents.items in
    let x = c.index_mut-else-at-threads.result.now in
    let y = c.play_agent.new.agent in
    let i = c.args.k - c.len-threads.result in
    let len : c.len-threads.result ≡ length xs = search rules in
    let within : i < length gs = omega (arith, len, c.if-at-threads.false, c.requires.there) in
    let read : x ≡ get_or gs i x = search rules in
    let place : c.args.k ≡ length xs + i = omega (arith, len, c.if-at-threads.false) in
    let next : Players = record { threads = all.threads; agents = with_item all.agents i y } in
    agent_play_at traced keeps c.args.code.now c.args.max_steps c.args.k i c.args.budget c.args.shared.now c.play_agent.new.shared all next x y c.code-own_cells.ensures.own_cells c.requires.playing
    place (nth_read gs i x within read) c.play_agent.ensures refl refl
