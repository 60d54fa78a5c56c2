use Rattle.std.proofs.Common.{◌≡◌, ◌+◌, [], length, true, refl, subst, arith}
use Rattle.txs_theorem_runs.proofs.Report.{typed_staged}
use Rattle.txs_theorem_runs.specs.Invariant.{SharedStands}
use Rattle.txs_world_shared.specs.SharedState.{shared_of}
use Rattle.txs_machine.specs.Plays.{ArePlayedOut}
use Rattle.txs_machine.specs.Schedule.{all_named, spread}
use Rattle.txs_machine.specs.Scheduled.{ArePlays, AreRoundsIf, AreScheduledFrom}
use Rattle.txs_machine.proofs.Playing.{steps_later}
use Rattle.txs_machine.proofs.Reporting.{says_of}
use Rattle.txs_machine.proofs.RunOver.{state_stands}
use Rattle.txs_machine.proofs.Scheduled.{still, then_on}
use Rattle.txs_machine.proofs.schedule.run_all.Goals as goal

pub play_all-requires-clause-named : goal.play_all-requires-clause-named
play_all-requires-clause-named c =
    let e = c.in_ok-open_players.ensures in
    let all = c.open_players.new.players in
    let many : c.args.actors ≡ length all.threads.items + length all.agents.items = omega (arith, c.requires.many, e.many, e.agents, c.threads.ensures, c.requires.of.threads) in
    subst (λ n. all_named n (spread c.args.plays.now) ≡ true) many c.requires.named

pub play_all-requires-clause-playing : goal.play_all-requires-clause-playing
play_all-requires-clause-playing c = ([], c.in_ok-open_players.ensures.playing c.args.shared.now c.requires.unused)

pub play_rounds-requires-clause-playing : goal.play_rounds-requires-clause-playing
play_rounds-requires-clause-playing c =
    still c.args.code.now c.args.max_steps (ArePlays c.args.code.now c.args.max_steps (spread c.args.plays.now)) c.args.shared.now c.play_all.new.shared c.open_players.new.players c.play_all.new.players c.play_all.ensures.plays
    ([], c.in_ok-open_players.ensures.playing c.args.shared.now c.requires.unused)

pub play_rounds-requires-clause-many : goal.play_rounds-requires-clause-many
play_rounds-requires-clause-many c =
    let e = c.in_ok-open_players.ensures in
    let p = c.play_all.ensures in
    omega (arith, c.requires.many, e.many, e.agents, c.threads.ensures, c.requires.of.threads, p.many, p.agents)

pub returns-clause-says : goal.returns-clause-says
returns-clause-says c =
    let code = c.args.code.now in
    let limit = c.args.max_steps in
    let s = c.play_rounds.new.shared in
    let all = c.play_rounds.new.players in
    let e = c.play_rounds.ensures in
    let stands : SharedStands s.cells s.threads (shared_of s) = c.events-stands.ensures.stands in
    let went = then_on code limit (ArePlays code limit (spread c.args.plays.now)) (AreRoundsIf code limit c.args.rounds) (λ st us. AreScheduledFrom code limit (spread c.args.plays.now) c.args.rounds st us) c.args.shared.now c.play_all.new.shared s c.open_players.new.players c.play_all.new.players all
    (λ st us vs h g. (us, vs, refl, h, g)) c.play_all.ensures.plays e.plays [] (c.in_ok-open_players.ensures.playing c.args.shared.now c.requires.unused) in
    let out : ArePlayedOut code limit (spread c.args.plays.now) c.args.rounds s all = record {
      of = e.of;
      turns = went.0;
      scheduled = went.1;
      playing = went.2;
      steps = steps_later (spread c.args.plays.now) 0 c.play_all.new.players.threads.items all.threads.items e.later c.play_all.ensures.steps;
      ended = e.ended;
      idle = e.idle;
    } in
    says_of code limit (spread c.args.plays.now) c.args.rounds s all out (state_stands code s e.of stands) (typed_staged code c.rooms.result.0.now c.rooms.result.1.now c.rooms.ensures) c.report_all.result
    c.report_all.ensures.threads
    c.report_all.ensures.agents
