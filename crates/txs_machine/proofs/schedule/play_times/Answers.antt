use Rattle.std.proofs.Common.{◌≡◌, ◌<◌, ◌++◌, ◌+◌, [], replicate, rules, refl, sym, subst, ◌∙◌, append-nil, arith}
use Rattle.std.proofs.lemmas.List.{replicate_more}
use Rattle.txs_machine.specs.Playing.{HaveSteps}
use Rattle.txs_machine.proofs.Playing.{at_or_behind}
use Rattle.txs_machine.specs.Running.{GoOnBy}
use Rattle.txs_machine.specs.Schedule.{player}
use Rattle.txs_machine.specs.Scheduled.{most_turns, AreTurnsOf, ArePlays}
use Rattle.txs_machine.proofs.Repeats.{made_more}
use Rattle.txs_machine.proofs.Scheduled.{none_on, plays_more, some_turns, still, then_on}
use Rattle.txs_machine.proofs.schedule.play_times.Goals as goal

pub loop-made-init : goal.loop-made-init
loop-made-init c =
    record {
      of = c.requires.of;
      plays = none_on c.args.code.now c.args.max_steps (ArePlays c.args.code.now c.args.max_steps []) c.args.shared.now c.args.players.now (λ st. refl);
      many = refl;
      agents = refl;
      steps = λ before h. subst (λ l. HaveSteps l 0 c.args.players.now.threads.items) (sym (append-nil before)) h;
    }

pub play_at-requires-clause-there : goal.play_at-requires-clause-there
play_at-requires-clause-there c =
    let inv = c.loop-made.invariant in
    let made : c.loop-made.made < c.args.run.times = search rules in
    let named = c.requires.named (omega (arith, made)) in
    omega (arith, named, c.player-number.ensures, inv.many, inv.agents)

pub loop-made-preserved : goal.loop-made-preserved
loop-made-preserved c =
    let e = c.play_at.ensures in
    let inv = c.loop-made.invariant in
    let y = c.args.run.play in
    let n = c.loop-made.made in
    let code = c.args.code.now in
    let limit = c.args.max_steps in
    record {
      of = e.of;
      plays = then_on code limit (ArePlays code limit (replicate n y)) (AreTurnsOf code limit (player y) (most_turns y)) (ArePlays code limit (replicate (n + 1) y)) c.args.shared.now c.loop-made.shared c.play_at.new.shared c.args.players.now c.loop-made.players c.play_at.new.players
          (λ st us vs h g. subst (λ l. ArePlays code limit l st (us ++ vs)) (replicate_more n y) (plays_more code limit (replicate n y) y st us vs h g)) inv.plays
          (subst (λ k. GoOnBy code limit (AreTurnsOf code limit k (most_turns y)) c.loop-made.shared c.loop-made.players c.play_at.new.shared c.play_at.new.players) c.player-number.ensures
          (subst (λ m. GoOnBy code limit (AreTurnsOf code limit c.player-number.result m) c.loop-made.shared c.loop-made.players c.play_at.new.shared c.play_at.new.players) c.most_turns-budget.ensures e.goes));
      many = e.many ∙ inv.many;
      agents = e.agents ∙ inv.agents;
      steps = λ before h.
          subst (λ l. HaveSteps l 0 c.play_at.new.players.threads.items) (made_more before n y)
          (at_or_behind (before ++ replicate n y) y c.player-number.result c.loop-made.players.threads.items c.play_at.new.players.threads.items (sym c.player-number.ensures) e.played e.later (inv.steps before h));
    }

pub returns-clause-steps : goal.returns-clause-steps
returns-clause-steps c = λ before h.
    (let all : c.loop-made.made ≡ c.args.run.times = search rules in
    subst (λ n. HaveSteps (before ++ replicate n c.args.run.play) 0 c.loop-made.players.threads.items) all (c.loop-made.invariant.steps before h))

pub returns-clause-plays : goal.returns-clause-plays
returns-clause-plays c =
    let all : c.loop-made.made ≡ c.args.run.times = search rules in
    subst (λ n. GoOnBy c.args.code.now c.args.max_steps (ArePlays c.args.code.now c.args.max_steps (replicate n c.args.run.play)) c.args.shared.now c.args.players.now c.loop-made.shared c.loop-made.players) all c.loop-made.invariant.plays

pub play_at-requires-clause-playing : goal.play_at-requires-clause-playing
play_at-requires-clause-playing c =
    let l = c.loop-made in
    still c.args.code.now c.args.max_steps (ArePlays c.args.code.now c.args.max_steps (replicate l.made c.args.run.play)) c.args.shared.now l.shared c.args.players.now l.players l.invariant.plays c.requires.playing

pub play_at-requires-clause-some : goal.play_at-requires-clause-some
play_at-requires-clause-some c = some_turns c.args.run.play c.most_turns-budget.result c.most_turns-budget.ensures
