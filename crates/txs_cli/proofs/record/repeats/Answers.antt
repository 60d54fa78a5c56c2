use Rattle.std.proofs.Common.{◌≡◌, ◌++◌, ◌∙◌, List, Ok, Result, ap, sym, subst}
use Rattle.txs_cli_report.specs.Lent.{lines_of, script_of, told_of}
use Rattle.txs_cli_report.specs.Lines.{all_printed}
use Rattle.txs_cli_report.specs.Plays.{plays_in}
use Rattle.txs_cli_report.specs.Told.{Told, behind_bytes}
use Rattle.txs_cli_report.specs.declared.plays.WrongPlay.{WrongPlay}
use Rattle.txs_machine.specs.Schedule.{spread}
use Rattle.txs_machine.specs.declared.schedule.Play.{Play}
use Rattle.txs_cli.proofs.Recording.{some_at}
use Rattle.txs_cli.proofs.record.repeats.Goals as goal
use Rattle.txs_cli.specs.Recorded.{whole}
use Rattle.txs_cli.specs.Runs.{Turns, nobody}
use Rattle.txs_cli.specs.Source.{OfScript}
use Rattle.txs_cli.specs.Telling.{Run, ScheduleTells, UseTells, of_plays, of_use}

pub returns : goal.returns
returns c = λ same.
    let l = c.args.loaded.now in
    let o = whole c.args.options in
    let list = c.args.list.now in
    let script = script_of c.args.script in
    let report = c.args.report.now in
    let plays = spread c.as_slice.result.now in
    let said : List Play → Result (List Play) WrongPlay = λ ps. Ok ps in
    let read : plays_in list ≡ said plays = c.in-Ok.ensures.plays ∙ ap (λ rs. said (spread rs)) (sym c.as_slice.ensures.value) in
    let all = behind_bytes (all_printed (report.threads.items ++ report.agents.items)) (lines_of c.args.lines.now) in
    let t = told_of c.in-Some.again in
    let told : UseTells nobody script l.program l.code (Run (Turns plays) o) t = some_at c.in_ok-again.field-0 c.in-Some.again (λ a. UseTells nobody script l.program l.code (Run (Turns plays) o) (told_of a)) c.in-Some.is c.in_ok-again.ensures in
    subst (λ (x : Told). ScheduleTells nobody (OfScript script.file) script.text list o x) (c.is_told.ensures same) (of_plays plays read (of_use l.program l.code c.requires.loaded told))
