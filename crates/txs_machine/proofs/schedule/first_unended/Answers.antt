use Rattle.std.proofs.Common.{◌≡◌, ◌<◌, length, get_or, None, rules, sym, subst}
use Rattle.txs_machine.specs.Playing.{AllEnded}
use Rattle.txs_machine.proofs.Playing.{nth_read, taken_read, unended_at, ended_more}
use Rattle.txs_machine.proofs.Scheduled.{before_take}
use Rattle.txs_machine.proofs.schedule.first_unended.Goals as goal

pub returns-then-is_none-clause-unended : goal.returns-then-is_none-clause-unended
returns-then-is_none-clause-unended c =
    let xs = c.args.players.now in
    let a = c.index-players-k.result in
    let within : c.loop-k.k < length xs = c.loop-k-test.true in
    let read : a ≡ get_or xs c.loop-k.k a = c.index-players-k.is in
    let none : a.actor.outcome ≡ None = search rules in
    unended_at xs c.loop-k.k a (nth_read xs c.loop-k.k a within read) none

pub loop-k-preserved : goal.loop-k-preserved
loop-k-preserved c =
    let xs = c.args.players.now in
    let a = c.index-players-k.result in
    let within : c.loop-k.k < length xs = c.loop-k-test.true in
    let read : a ≡ get_or xs c.loop-k.k a = c.index-players-k.is in
    let some : a.actor.outcome ≡ None → ⊥ = λ e. search (rules, e) in
    subst AllEnded (sym (taken_read xs c.loop-k.k a within read)) (ended_more _ a c.loop-k.invariant some)

pub returns-then-is_none-clause-before : goal.returns-then-is_none-clause-before
returns-then-is_none-clause-before c = before_take c.loop-k.k c.args.players.now c.loop-k.invariant
