use Rattle.std.proofs.Common.{◌≡◌, ◌++◌, ◌∷◌, ◌∙◌, List, [], Some, None, ap, replicate, rules}
use Rattle.txs_machine.proofs.Repeats.{spread_last}
use Rattle.txs_machine.specs.Schedule.{spread}
use Rattle.txs_machine.specs.declared.schedule.Play.{Play}
use Rattle.txs_machine.specs.declared.schedule.Repeated.{Repeated}
use Rattle.txs_cli_report.specs.Plays.{item_in}
use Rattle.txs_cli_report.proofs.plays.push_item.Goals as goal

pub returns-in_ok-push_play-in-Some-clause-said : goal.returns-in_ok-push_play-in-Some-clause-said
returns-in_ok-push_play-in-Some-clause-said c =
    let old = c.args.plays.now.items in
    let run : Repeated = record { play = c.in-Some.play; times = c.in-Some.times } in
    let says : item_in c.args.text.now ≡ Some (replicate run.times run.play) = search rules in
    let pushed : c.push_play.new.plays.items ≡ old ++ run ∷ [] = search rules in
    (replicate run.times run.play, says, ap spread pushed ∙ spread_last old run)
