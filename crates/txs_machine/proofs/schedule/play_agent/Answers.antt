use Rattle.std.proofs.Common.{◌≡◌, ◌<◌, None, refl, sym, ap, ◌∙◌, rules}
use Rattle.txs_machine_actor.proofs.Following.{actors_run}
use Rattle.txs_world_book.specs.Served.{cells_of}
use Rattle.txs_world.specs.Store.{next_action}
use Rattle.txs_world_shared.specs.SharedState.{numbered_book}
use Rattle.txs_machine.specs.Running.{HasWork}
use Rattle.txs_machine.proofs.Turning.{agent_rests, agent_plays}
use Rattle.txs_machine.proofs.schedule.play_agent.Goals as goal

-- one that has nothing to do stays as it is
pub returns-then-not-is_due : goal.returns-then-not-is_due
returns-then-not-is_due c =
    let x = c.args.agent.now in
    let s = c.args.shared.now in
    let none : x.player.actor.outcome ≡ None → next_action (cells_of s.cells) (numbered_book s 0) x.agent ≡ None = c.is_due.ensures.no (search rules) in
    let left : x.player.actor.outcome ≡ None → x.player.actor.steps < c.args.max_steps = c.is_due.ensures.left (search rules) in
    agent_rests c.args.code.now c.args.k c.args.max_steps s x c.requires.of c.requires.attending c.args.budget none left c.requires.rests

pub go_on-requires-clause-may : goal.go_on-requires-clause-may
go_on-requires-clause-may c = c.requires.may (c.is_due.ensures.unended (search rules))

pub returns : goal.returns
returns c =
    let x = c.args.agent.now in
    let going : x.player.actor.outcome ≡ None = c.is_due.ensures.unended (search rules) in
    let s = c.args.shared.now in
    let due : x.player.actor.steps < c.args.max_steps → HasWork c.args.code.now s x.agent = λ l. (let w = c.is_due.ensures.yes (search rules) l in (w.0, ap (λ cs. next_action (cells_of cs) (numbered_book s 0) x.agent) (sym c.requires.of.cells) ∙ w.1)) in
    agent_plays c.args.code.now c.args.k c.args.max_steps c.args.shared.now x c.requires.of c.requires.attending c.args.budget going
    actors_run c.requires.some c.go_on.result c.go_on.new.shared (record { agent = x.agent; player = c.go_on.new.player }) refl due c.go_on.ensures
