use Rattle.std.proofs.Common.{◌≡◌, ◌∙◌, ℕ, List, Result, Ok, Err, IfSome, ap, sym}
use Rattle.txs_cli_report.proofs.Fronts.{kept, ok_maps, some_always, some_maps}
use Rattle.txs_cli_report.specs.Lent.{told_of}
use Rattle.txs_cli_report.specs.Plays.{plays_in}
use Rattle.txs_cli_report.specs.Told.{Told, WrongListTells}
use Rattle.txs_cli_report.specs.declared.plays.WrongPlay.{WrongPlay}
use Rattle.txs_machine.specs.Schedule.{spread}
use Rattle.txs_machine.specs.declared.schedule.Play.{Play}
use Rattle.txs_cli.proofs.program.schedule.Goals as goal
use Rattle.txs_cli.specs.Runs.{Failures, Turns, failing}
use Rattle.txs_cli.specs.Source.{file_of, source_of, source_text}
use Rattle.txs_cli.specs.Telling.{Run, ScheduleTells, SourceTells, of_plays, of_wrong}

pub returns-in-Ok-clause-told : goal.returns-in-Ok-clause-told
returns-in-Ok-clause-told g c =
    let f : Failures = failing (goal.X-post g c.args.runner.now) (goal.A-post g c.args.auditor.now) in
    let known = g.R.Read.remaining c.args.reader.now in
    let s = source_of c.args.source in
    let turns = c.args.turns.now in
    let o = c.args.options in
    let plays = spread c.as_slice.result.now in
    let said : List Play → Result (List Play) WrongPlay = λ ps. Ok ps in
    let read : plays_in turns ≡ said plays = c.in-Ok.ensures.plays ∙ ap (λ rs. said (spread rs)) (sym c.as_slice.ensures.value) in
    let ran : List ℕ → Told → Type 0 = λ input t. SourceTells f s (source_text s input) (Run (Turns plays) o) t in
    let tells : List ℕ → Told → Type 0 = λ input t. ScheduleTells f s (source_text s input) turns o t in
    ok_maps c.use_source.result (λ t. IfSome known (λ input. ran input (told_of t))) (λ t. IfSome known (λ input. tells input (told_of t)))
    (λ t h. some_maps known (λ input. ran input (told_of t)) (λ input. tells input (told_of t)) (λ input told. of_plays plays read told) h) c.use_source.ensures

-- the list is wrong, whatever the input is
pub returns-in-Err-clause-told : goal.returns-in-Err-clause-told
returns-in-Err-clause-told g c =
    let f : Failures = failing (goal.X-post g c.args.runner.now) (goal.A-post g c.args.auditor.now) in
    let known = g.R.Read.remaining c.args.reader.now in
    let s = source_of c.args.source in
    let turns = c.args.turns.now in
    let said : WrongPlay → Result (List Play) WrongPlay = λ w. Err w in
    let tells : List ℕ → Told → Type 0 = λ input t. ScheduleTells f s (source_text s input) turns c.args.options t in
    ok_maps c.tell_list.result (λ t. (w : WrongPlay) × (plays_in turns ≡ said w) × WrongListTells turns (file_of s) w (told_of t)) (λ t. IfSome known (λ input. tells input (told_of t)))
    (λ t h. some_always known (λ input. tells input (told_of t)) (λ input. of_wrong h.0 h.1 h.2)) c.tell_list.ensures

-- and the reader isn't touched
pub returns-in-Err-clause-unread : goal.returns-in-Err-clause-unread
returns-in-Err-clause-unread g c = λ wrong. kept (g.R.Read.remaining c.args.reader.now)
