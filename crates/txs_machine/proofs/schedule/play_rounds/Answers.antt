use Rattle.std.proofs.Common.{refl, rules, ◌∙◌, arith}
use Rattle.txs_machine.specs.Scheduled.{AreRoundsIf}
use Rattle.txs_machine.proofs.Playing.{later_itself, later_than}
use Rattle.txs_machine.proofs.Scheduled.{LeadRounds, actors_all, first_round, none_on, rounds_lead, rounds_made, stays, still, then_on, unwanted}
use Rattle.txs_machine.proofs.schedule.play_rounds.Goals as goal

pub loop-k-init : goal.loop-k-init
loop-k-init c = record { of = c.requires.of; plays = stays c.args.code.now c.args.max_steps c.args.shared.now c.args.players.now; many = refl; agents = refl; later = later_itself c.args.players.now.threads.items }

pub first_live-requires-clause-playing : goal.first_live-requires-clause-playing
first_live-requires-clause-playing c =
    let l = c.loop-k in
    (c.args.max_steps, still c.args.code.now c.args.max_steps (LeadRounds c.args.code.now c.args.max_steps) c.args.shared.now l.shared c.args.players.now l.players l.invariant.plays c.requires.playing)

pub play_rest-requires-clause-playing : goal.play_rest-requires-clause-playing
play_rest-requires-clause-playing c =
    let l = c.loop-k in
    still c.args.code.now c.args.max_steps (LeadRounds c.args.code.now c.args.max_steps) c.args.shared.now l.shared c.args.players.now l.players l.invariant.plays c.requires.playing

pub play_rest-requires-clause-within : goal.play_rest-requires-clause-within
play_rest-requires-clause-within c =
    let i = c.loop-k.invariant in
    let there = c.in-Some.ensures.there in
    omega (arith, there, c.requires.many, i.many, i.agents)

pub loop-k-smaller : goal.loop-k-smaller
loop-k-smaller c = let live = c.in-Some.ensures.live in c.play_rest.ensures.less live.0 live.1 live.2

pub loop-k-preserved : goal.loop-k-preserved
loop-k-preserved c =
    let r = c.play_rest.ensures in
    let l = c.loop-k in
    let i = l.invariant in
    let k = c.in-Some.k in
    let found = c.in-Some.ensures in
    let code = c.args.code.now in
    let limit = c.args.max_steps in
    let rest = c.play_rest.new.players in
    record {
      of = r.of;
      plays = then_on code limit (LeadRounds code limit) (LeadRounds code limit) (LeadRounds code limit) c.args.shared.now l.shared c.play_rest.new.shared c.args.players.now l.players rest (λ st us vs f g. rounds_lead code limit st us vs f g) i.plays
          (λ turns h. (let a = r.plays turns h in (
            a.0,
            first_round code limit k found.live.0 c.args.actors l.shared l.players turns a.0 h (actors_all code limit l.shared l.players turns h c.args.actors (omega (arith, c.requires.many, i.many, i.agents)))
                (let t = found.there in omega (arith, t, c.requires.many, i.many, i.agents)) found.there found.before found.live.2 a.1,
            a.2,
          )));
      many = r.many ∙ i.many;
      agents = r.agents ∙ i.agents;
      later = later_than c.args.players.now.threads.items l.players.threads.items rest.threads.items i.later r.later;
    }

-- where no rounds are wanted all is as it is
pub returns-then-not-wanted-clause-later : goal.returns-then-not-wanted-clause-later
returns-then-not-wanted-clause-later c = later_itself c.args.players.now.threads.items

pub returns-then-not-wanted-clause-plays : goal.returns-then-not-wanted-clause-plays
returns-then-not-wanted-clause-plays c =
    none_on c.args.code.now c.args.max_steps (AreRoundsIf c.args.code.now c.args.max_steps c.args.wanted) c.args.shared.now c.args.players.now (λ st. unwanted c.args.code.now c.args.max_steps c.args.wanted st (search rules))

pub returns-clause-plays : goal.returns-clause-plays
returns-clause-plays c =
    let l = c.loop-k in
    rounds_made c.args.code.now c.args.max_steps c.args.wanted c.args.shared.now l.shared c.args.players.now l.players l.invariant.plays (search rules) (search rules) (search rules)
