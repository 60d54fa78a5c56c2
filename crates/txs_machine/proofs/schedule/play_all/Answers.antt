use Rattle.std.proofs.Common.{◌≡◌, ◌<◌, ◌≤◌, ◌+◌, ◌++◌, [], length, take, get_or, replicate, rules, refl, subst, ◌∙◌, arith}
use Rattle.txs_machine.specs.Playing.{HaveSteps}
use Rattle.txs_machine.specs.Running.{GoOnBy}
use Rattle.txs_machine.specs.Schedule.{spread}
use Rattle.txs_machine.specs.Scheduled.{ArePlays}
use Rattle.txs_machine.specs.declared.schedule.Play.TheVariants.{Turn}
use Rattle.txs_machine.specs.declared.schedule.Repeated.{Repeated}
use Rattle.txs_machine.proofs.Opening.{take_whole}
use Rattle.txs_machine.proofs.Playing.{no_steps}
use Rattle.txs_machine.proofs.Repeats.{named_at, spread_more}
use Rattle.txs_machine.proofs.Scheduled.{none_on, plays_append, still, then_on}
use Rattle.txs_machine.proofs.schedule.play_all.Goals as goal

abbrev nothing : Repeated
nothing = record { play = Turn 0; times = 0 }

pub loop-run-init : goal.loop-run-init
loop-run-init c = record { of = c.requires.of; plays = none_on c.args.code.now c.args.max_steps (ArePlays c.args.code.now c.args.max_steps []) c.args.shared.now c.args.players.now (λ st. refl); many = refl; agents = refl; steps = no_steps 0 c.args.players.now.threads.items }

pub play_times-requires-clause-named : goal.play_times-requires-clause-named
play_times-requires-clause-named c = λ some.
    (let rs = c.args.plays.now in
    let i = c.loop-run.run-index in
    let within : i < length rs = search rules in
    let inv = c.loop-run.invariant in
    let named = named_at (length c.args.players.now.threads.items + length c.args.players.now.agents.items) i rs nothing within c.requires.named (search (rules, some)) in
    omega (arith, named, inv.many, inv.agents))

pub loop-run-preserved : goal.loop-run-preserved
loop-run-preserved c =
    let e = c.play_times.ensures in
    let rs = c.args.plays.now in
    let i = c.loop-run.run-index in
    let within : i < length rs = search rules in
    let inv = c.loop-run.invariant in
    let code = c.args.code.now in
    let limit = c.args.max_steps in
    let r = get_or rs i nothing in
    record {
      of = e.of;
      plays = then_on code limit (ArePlays code limit (spread (take i rs))) (ArePlays code limit (replicate r.times r.play)) (ArePlays code limit (spread (take (i + 1) rs))) c.args.shared.now c.loop-run.shared c.play_times.new.shared c.args.players.now c.loop-run.players c.play_times.new.players
          (λ st us vs h g. subst (λ l. ArePlays code limit l st (us ++ vs)) (spread_more rs i nothing within) (plays_append code limit (spread (take i rs)) (replicate r.times r.play) st us vs h g)) inv.plays (search (rules, e.plays));
      many = e.many ∙ inv.many;
      agents = e.agents ∙ inv.agents;
      steps = subst (λ l. HaveSteps l 0 c.play_times.new.players.threads.items) (spread_more rs i nothing within) (e.steps (spread (take i rs)) inv.steps);
    }

pub returns-clause-plays : goal.returns-clause-plays
returns-clause-plays c =
    let past : length c.args.plays.now ≤ c.loop-run.run-index = search rules in
    let all : take c.loop-run.run-index c.args.plays.now ≡ c.args.plays.now = take_whole c.args.plays.now c.loop-run.run-index past in
    subst (λ rs. GoOnBy c.args.code.now c.args.max_steps (ArePlays c.args.code.now c.args.max_steps (spread rs)) c.args.shared.now c.args.players.now c.loop-run.shared c.loop-run.players) all c.loop-run.invariant.plays

pub play_times-requires-clause-playing : goal.play_times-requires-clause-playing
play_times-requires-clause-playing c =
    let l = c.loop-run in
    still c.args.code.now c.args.max_steps (ArePlays c.args.code.now c.args.max_steps (spread (take l.run-index c.args.plays.now))) c.args.shared.now l.shared c.args.players.now l.players l.invariant.plays c.requires.playing
