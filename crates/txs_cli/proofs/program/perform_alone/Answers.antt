use Rattle.std.proofs.Common.{sym, subst}
use Rattle.txs_cli_report.specs.Told.{Told, Written}
use Rattle.txs_cli.proofs.Alone.{alone_written}
use Rattle.txs_cli.proofs.program.perform_alone.Goals as goal
use Rattle.txs_cli.specs.Telling.{ReadsNothing, task_in}

pub returns-clause-unread : goal.returns-clause-unread
returns-clause-unread g c = λ nothing. c.perform.ensures.unread (subst ReadsNothing (sym c.alone.ensures) nothing)

-- nobody is called, so that nobody fails
pub returns-clause-told : goal.returns-clause-told
returns-clause-told g c =
    let w = c.perform in
    let writes : Told → Type 0 = λ t. Written (g.W.Write.contents c.args.writer.now) (g.W.Write.contents w.new.writer) (g.F.Write.contents c.args.faults.now) (g.F.Write.contents w.new.faults) t w.result in
    alone_written _ (g.R.Read.remaining c.args.reader.now) (task_in c.args.task) (task_in c.alone.result) writes c.alone.ensures w.ensures.told
