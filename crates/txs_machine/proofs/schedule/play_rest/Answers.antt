use Rattle.std.proofs.Common.{◌≡◌, ◌<◌, ◌+◌, ◌-◌, ◌++◌, refl, rules, subst, ◌∙◌, inr, arith}
use Rattle.std.specs.Prelude.{◌^◌}
use Rattle.txs_machine.specs.Running.{GoOnBy, left_all}
use Rattle.txs_machine.specs.Scheduled.{asks_from, ArePlays, AreTurnsOf}
use Rattle.txs_machine.specs.declared.schedule.Play.TheVariants.{Ask}
use Rattle.txs_machine.proofs.Playing.{later_itself, later_than}
use Rattle.txs_machine.proofs.Scheduled.{asks_at, asks_next, live_below, live_still, none_on, plays_more, still, then_on}
use Rattle.txs_machine.proofs.schedule.play_rest.Goals as goal

pub loop-k-init : goal.loop-k-init
loop-k-init c =
    record {
      of = c.requires.of;
      start = omega arith;
      plays = none_on c.args.code.now c.args.max_steps (ArePlays c.args.code.now c.args.max_steps (asks_from c.args.from (c.args.from - c.args.from))) c.args.shared.now c.args.players.now (λ st. asks_at c.args.code.now c.args.max_steps c.args.from st);
      many = refl;
      agents = refl;
      later = later_itself c.args.players.now.threads.items;
      left = omega arith;
      less = λ j p live. inr (p, live);
    }

pub play_at-requires-clause-there : goal.play_at-requires-clause-there
play_at-requires-clause-there c =
    let within : c.loop-k.k < c.args.actors = search rules in
    let i = c.loop-k.invariant in
    omega (arith, within, c.requires.many, i.many, i.agents)

pub play_at-requires-clause-playing : goal.play_at-requires-clause-playing
play_at-requires-clause-playing c =
    let l = c.loop-k in
    still c.args.code.now c.args.max_steps (ArePlays c.args.code.now c.args.max_steps (asks_from c.args.from (l.k - c.args.from))) c.args.shared.now l.shared c.args.players.now l.players l.invariant.plays c.requires.playing

pub loop-k-preserved : goal.loop-k-preserved
loop-k-preserved c =
    let e = c.play_at.ensures in
    let l = c.loop-k in
    let i = l.invariant in
    let code = c.args.code.now in
    let limit = c.args.max_steps in
    let from = c.args.from in
    let start = i.start in
    record {
      of = e.of;
      start = omega (arith, start);
      plays = then_on code limit (ArePlays code limit (asks_from from (l.k - from))) (AreTurnsOf code limit l.k (2 ^ 64 - 1)) (ArePlays code limit (asks_from from (l.k + 1 - from))) c.args.shared.now l.shared c.play_at.new.shared c.args.players.now l.players c.play_at.new.players
          (λ st us vs h g. subst (λ ys. ArePlays code limit ys st (us ++ vs)) (asks_next from l.k start) (plays_more code limit (asks_from from (l.k - from)) (Ask l.k) st us vs h g)) i.plays e.goes;
      many = e.many ∙ i.many;
      agents = e.agents ∙ i.agents;
      later = later_than c.args.players.now.threads.items l.players.threads.items c.play_at.new.players.threads.items i.later e.later;
      left = omega (arith, e.left, i.left);
      less = λ j p live. live_still code l.k j l.shared c.play_at.new.shared c.args.players.now l.players c.play_at.new.players i.left e.left e.live e.still (i.less j p live);
    }

pub returns-clause-plays : goal.returns-clause-plays
returns-clause-plays c =
    let all : c.loop-k.k ≡ c.args.actors = search rules in
    subst (λ n. GoOnBy c.args.code.now c.args.max_steps (ArePlays c.args.code.now c.args.max_steps (asks_from c.args.from (n - c.args.from))) c.args.shared.now c.args.players.now c.loop-k.shared c.loop-k.players) all c.loop-k.invariant.plays

pub returns-clause-less : goal.returns-clause-less
returns-clause-less c = λ j p live.
    (let i = c.loop-k.invariant in
    let all : c.loop-k.k ≡ c.args.actors = search rules in
    live_below c.args.code.now c.loop-k.k j c.loop-k.players (left_all c.args.players.now) c.loop-k.shared (omega (arith, all, c.requires.many, i.many, i.agents)) (i.less j p live))
