use Rattle.std.proofs.Common.{Option, sym, subst}
use Rattle.txs_machine_loop.specs.Values.{last_of}
use Rattle.txs_machine_actor.specs.Turns.{CanCheck, Check, Hands}
use Rattle.txs_machine_turn.proofs.attend.hand_value.Goals as goal

pub returns-in-None : goal.returns-in-None
returns-in-None c =
    let a = c.args.actor.now in
    subst (λ (o : Option Check). Hands c.args.code.now a o c.give.new.turn c.give.new.actor) (sym (c.in-None.ensures (last_of a.values))) c.give.ensures

pub hand_checked-requires-clause-judges : goal.hand_checked-requires-clause-judges
hand_checked-requires-clause-judges c = subst (λ (o : Option Check). CanCheck c.args.code.now o) (c.in-Some.ensures (last_of c.args.actor.now.values)) c.requires.can

pub returns-in-Some : goal.returns-in-Some
returns-in-Some c =
    let a = c.args.actor.now in
    subst (λ (o : Option Check). Hands c.args.code.now a o c.hand_checked.new.turn c.hand_checked.new.actor) (sym (c.in-Some.ensures (last_of a.values))) c.hand_checked.ensures
