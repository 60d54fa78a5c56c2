use Rattle.std.proofs.Common.{sym, subst}
use Rattle.std.specs.Option.{IfSome}
use Rattle.txs_cli_report.specs.Told.{Told, Written}
use Rattle.txs_cli.proofs.program.play_words.Goals as goal
use Rattle.txs_cli.specs.Runs.{nobody}
use Rattle.txs_cli.specs.Telling.{ReadsNothing, Task, TaskTells, alone}

pub returns-clause-unread : goal.returns-clause-unread
returns-clause-unread g c = λ nothing. c.perform_alone.ensures.unread (subst (λ (x : Task). ReadsNothing (alone x)) (sym c.task_of.ensures) nothing)

pub returns-clause-told : goal.returns-clause-told
returns-clause-told g c =
    let known = g.R.Read.remaining c.args.reader.now in
    let w = c.perform_alone in
    let writes : Told → Type 0 = λ t. Written (g.W.Write.contents c.args.writer.now) (g.W.Write.contents w.new.writer) (g.F.Write.contents c.args.faults.now) (g.F.Write.contents w.new.faults) t w.result in
    subst (λ (x : Task). IfSome known (λ input. (t : Told) × TaskTells nobody input (alone x) t × writes t)) c.task_of.ensures w.ensures.told
