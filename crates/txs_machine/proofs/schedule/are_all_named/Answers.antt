use Rattle.std.proofs.Common.{◌≡◌, ◌<◌, length, get_or, replicate, true, false, rules}
use Rattle.txs_machine.specs.Schedule.{all_named}
use Rattle.txs_machine.specs.declared.schedule.Play.TheVariants.{Turn}
use Rattle.txs_machine.specs.declared.schedule.Repeated.{Repeated}
use Rattle.txs_machine.proofs.Repeats.{named_on, unnamed_on}
use Rattle.txs_machine.proofs.schedule.are_all_named.Goals as goal

abbrev nothing : Repeated
nothing = record { play = Turn 0; times = 0 }

pub loop-run-preserved : goal.loop-run-preserved
loop-run-preserved c =
    let rs = c.args.plays.now in
    let i = c.loop-run.run-index in
    let r = get_or rs i nothing in
    let within : i < length rs = search rules in
    let named : all_named c.args.actors (replicate r.times r.play) ≡ true = search rules in
    named_on c.args.actors i rs nothing within named c.loop-run.invariant

pub returns-then-not-is_named : goal.returns-then-not-is_named
returns-then-not-is_named c =
    let rs = c.args.plays.now in
    let i = c.loop-run.run-index in
    let r = get_or rs i nothing in
    let within : i < length rs = search rules in
    let unnamed : all_named c.args.actors (replicate r.times r.play) ≡ false = search rules in
    unnamed_on c.args.actors i rs nothing within unnamed c.loop-run.invariant
