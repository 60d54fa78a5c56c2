use Rattle.std.proofs.Common.{◌-◌, rules, subst, arith}
use Rattle.std.specs.Prelude.{◌^◌}
use Rattle.txs_machine_actor.specs.Turns.{TurnsOf}
use Rattle.txs_explore.proofs.Looks.{look_is}
use Rattle.txs_explore.proofs.Settling.{went_within}
use Rattle.txs_explore.proofs.look.look_at.Goals as goal

pub ask_of-requires : goal.ask_of-requires
ask_of-requires c = λ went.
    (let a = c.args.actor in
    let b = c.run.new.actor in
    let limited = c.requires.fresh.limited in
    let small = c.requires.small in
    let within = c.requires.fresh.within in
    let past = went_within c.args.code.now (2 ^ 64 - 1) a b (subst (λ r. TurnsOf c.args.code.now (2 ^ 64 - 1) a r b) went c.run.ensures.turns) (omega (arith, limited, within)) in
    omega (arith, past, limited, small))

pub returns : goal.returns
returns c =
    look_is c.args.code.now c.args.actor c.run.new.actor c.run.new.turn c.in_ok-ask.ask c.outcome-outcome.result c.from_vec-printed.result c.run.ensures.turns c.run.ensures.says c.in_ok-ask.ensures (search rules) (search rules)
