use Rattle.std.proofs.Common.{◌≡◌, None, rules}
use Rattle.txs_machine_actor.proofs.Following.{actors_run}
use Rattle.txs_theorem_runs.proofs.Told.{served_is_told}
use Rattle.txs_machine.proofs.Limits.{self_limited}
use Rattle.txs_machine.proofs.PlayedAt.{thread_rests, thread_plays}
use Rattle.txs_machine.proofs.Turning.{thread_asks, thread_round}
use Rattle.txs_machine.proofs.schedule.play_actor.Goals as goal

-- one that has ended stays as it is
pub returns-then-ended : goal.returns-then-ended
returns-then-ended c = thread_rests c.args.code.now c.args.k c.args.max_steps c.args.budget c.args.shared.now c.args.player.now c.requires.of c.requires.between (λ e. search (rules, e))

pub go_on-requires-clause-may : goal.go_on-requires-clause-may
go_on-requires-clause-may c =
    let x = c.args.player.now in
    let h = c.requires.between in
    thread_asks actors_run c.args.code.now c.args.k c.args.budget c.args.shared.now x.actor x.trace.items c.code-own_cells.ensures.own_cells h.free c.requires.of h.over

pub returns : goal.returns
returns c =
    let x = c.args.player.now in
    let y = c.go_on.new.player in
    let h = c.requires.between in
    let going : x.actor.outcome ≡ None = search rules in
    thread_plays c.args.code.now c.args.k c.args.max_steps c.args.budget c.args.shared.now x h going c.go_on.result c.go_on.new.shared y
    (thread_round actors_run c.args.code.now c.args.k c.args.budget c.args.shared.now x.actor x.trace.items c.code-own_cells.ensures.own_cells h.free c.requires.of h.over
    c.requires.some (self_limited c.args.max_steps x.actor h.limited) served_is_told c.go_on.result c.go_on.new.shared y.actor y.trace.items c.go_on.ensures)
