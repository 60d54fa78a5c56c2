use Rattle.std.proofs.Common.{IfOk, subst, sym}
use Rattle.txs_machine.specs.declared.run_error.RunError.{RunError}
use Rattle.txs_machine.specs.declared.run_error.RunError.TheVariants.{JournalMismatch, NoThread}
use Rattle.txs_cli_report.specs.Lent.{told_of}
use Rattle.txs_cli.proofs.Failing.{failure_answered}
use Rattle.txs_cli.proofs.tell.of_failure.Goals as goal
use Rattle.txs_cli.specs.Runs.{FailureTells}

pub returns-in-JournalMismatch : goal.returns-in-JournalMismatch
returns-in-JournalMismatch c =
    let r = c.complaint.result in
    let e = c.complaint.ensures in
    subst (λ (f : RunError). IfOk r (λ t. FailureTells f (told_of t))) (sym c.in-JournalMismatch.is) (failure_answered r JournalMismatch (λ is. cc) e.output e.errors e.status)

pub returns-in-NoThread : goal.returns-in-NoThread
returns-in-NoThread c =
    let r = c.complaint-in-NoThread.result in
    let e = c.complaint-in-NoThread.ensures in
    subst (λ (f : RunError). IfOk r (λ t. FailureTells f (told_of t))) (sym c.in-NoThread.is) (failure_answered r NoThread (λ is. cc) e.output e.errors e.status)
