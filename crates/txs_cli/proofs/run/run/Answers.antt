use Rattle.std.proofs.Common.{sym, subst}
use Rattle.txs_verify.proofs.Formed.{few_threads}
use Rattle.txs_cli.proofs.Failing.{runnable}
use Rattle.txs_cli.proofs.run.run.Goals as goal
use Rattle.txs_cli.specs.Runs.{IsRunIn, way_of}
use Rattle.txs_cli.specs.declared.run.Way.{Way}

pub run_plays-requires-clause-runnable : goal.run_plays-requires-clause-runnable
run_plays-requires-clause-runnable g c = runnable c.args.code.now c.requires.form

pub run_plays-requires-clause-few : goal.run_plays-requires-clause-few
run_plays-requires-clause-few g c = few_threads c.args.code.now c.requires.form

pub run_all-requires-clause-runnable : goal.run_all-requires-clause-runnable
run_all-requires-clause-runnable g c = runnable c.args.code.now c.requires.form

pub returns-in-Ok-clause-so : goal.returns-in-Ok-clause-so
returns-in-Ok-clause-so g c =
    let ran = c.in-Ok.ran in
    subst (λ (w : Way). IsRunIn (way_of w) c.args.code.now c.args.steps ran.0 ran.1) (sym c.in-Turns.is) c.in-Ok.ensures.played
