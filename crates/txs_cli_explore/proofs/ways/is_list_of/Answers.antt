use Rattle.std.proofs.Common.{◌∙◌, List, Ok, Result, ap, sym}
use Rattle.txs_cli_report.specs.Plays.{plays_in}
use Rattle.txs_cli_report.specs.declared.plays.WrongPlay.{WrongPlay}
use Rattle.txs_machine.specs.Schedule.{spread}
use Rattle.txs_machine.specs.declared.schedule.Play.{Play}
use Rattle.txs_machine.specs.declared.schedule.Repeated.{Repeated}
use Rattle.txs_cli_explore.proofs.ways.is_list_of.Goals as goal

-- the text was read as plays, which are the same
pub returns-in-Ok-read_plays : goal.returns-in-Ok-read_plays
returns-in-Ok-read_plays c = λ same.
    let said : List Repeated → Result (List Play) WrongPlay = λ rs. Ok (spread rs) in
    ap plays_in (sym c.in-Ok.ensures.cases.0) ∙ c.in-Ok-read_plays.ensures.plays ∙ ap said (sym c.as_slice.ensures.value ∙ c.same_plays.ensures same)
