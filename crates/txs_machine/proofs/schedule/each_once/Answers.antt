use Rattle.std.proofs.Common.{◌≡◌, ◌<◌, ◌++◌, ◌∷◌, [], length, get_or, rules}
use Rattle.txs_machine.specs.declared.schedule.Play.TheVariants.{Turn}
use Rattle.txs_machine.proofs.Repeats.{once_more}
use Rattle.txs_machine.proofs.schedule.each_once.Goals as goal

pub loop-play-preserved : goal.loop-play-preserved
loop-play-preserved c =
    let ys = c.args.plays.now in
    let i = c.loop-play.play-index in
    let within : i < length ys = search rules in
    let pushed : c.push.new.self.items ≡ c.loop-play.once.items ++ (record { play = get_or ys i (Turn 0); times = 1 }) ∷ [] = search rules in
    once_more c.loop-play.once.items c.push.new.self.items ys i (Turn 0) within pushed c.loop-play.invariant
