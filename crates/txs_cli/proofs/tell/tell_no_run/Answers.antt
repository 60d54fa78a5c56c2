use Rattle.std.proofs.Common.{IfOk, sym, subst}
use Rattle.txs_cli_report.specs.Lent.{text_in, told_of}
use Rattle.txs_cli.proofs.tell.tell_no_run.Goals as goal
use Rattle.txs_cli.specs.Runs.{NoneTells}
use Rattle.txs_cli.specs.declared.run.NoRun.{NoRun}

pub returns-in-NoActor : goal.returns-in-NoActor
returns-in-NoActor c = subst (λ (e : NoRun). IfOk c.no_actor.result (λ t. NoneTells e (text_in c.args.file) (told_of t))) (sym c.in-NoActor.is) c.no_actor.ensures

pub returns-in-Failed : goal.returns-in-Failed
returns-in-Failed c = subst (λ (e : NoRun). IfOk c.of_failure.result (λ t. NoneTells e (text_in c.args.file) (told_of t))) (sym c.in-Failed.is) c.of_failure.ensures
