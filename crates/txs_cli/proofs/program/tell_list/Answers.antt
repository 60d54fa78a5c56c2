use Rattle.std.proofs.Common.{◌≡◌, ℕ, List, Option, Result, Err, subst}
use Rattle.txs_cli_report.proofs.Fronts.{ok_maps}
use Rattle.txs_cli_report.specs.Lent.{text_in, told_of}
use Rattle.txs_cli_report.specs.Plays.{IsListError, plays_in}
use Rattle.txs_cli_report.specs.Told.{WrongListTells}
use Rattle.txs_cli_report.specs.declared.plays.ListError.{ListError}
use Rattle.txs_cli_report.specs.declared.plays.WrongPlay.{WrongPlay}
use Rattle.txs_machine.specs.declared.schedule.Play.{Play}
use Rattle.txs_cli.proofs.program.tell_list.Goals as goal
use Rattle.txs_cli.specs.Source.{file_of, source_of}

pub returns-in-Wrong : goal.returns-in-Wrong
returns-in-Wrong c =
    let turns = c.args.turns.now in
    let wrong = c.in-Wrong.wrong in
    let said : WrongPlay → Result (List Play) WrongPlay = λ w. Err w in
    let read : plays_in turns ≡ said wrong = subst (λ (e : ListError). IsListError turns e) c.in-Wrong.is c.requires in
    ok_maps c.wrong_list.result (λ t. WrongListTells turns (text_in c.file.result) wrong (told_of t)) (λ t. (w : WrongPlay) × (plays_in turns ≡ said w) × WrongListTells turns (file_of (source_of c.args.source)) w (told_of t))
    (λ t told. (wrong, read, subst (λ (n : Option (List ℕ)). WrongListTells turns n wrong (told_of t)) c.file.ensures told)) c.wrong_list.ensures
