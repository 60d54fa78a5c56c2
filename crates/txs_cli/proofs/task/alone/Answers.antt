use Rattle.std.proofs.Common.{◌≡◌, ◌∙◌, ap, refl, sym, subst}
use Rattle.txs_cli.proofs.task.alone.Goals as goal
use Rattle.txs_cli.specs.Telling.{alone, task_in, unless}
use Rattle.txs_cli.specs.declared.task.Task.{Task}

pub returns-in-Say : goal.returns-in-Say
returns-in-Say c = subst (λ (x : Task). task_in x ≡ alone (task_in x)) (sym c.in-Say.is) refl

pub returns-in-Do : goal.returns-in-Do
returns-in-Do c = c.use_alone.ensures ∙ ap (λ (x : Task). alone (task_in x)) (sym c.in-Do.is)

pub returns-in-Schedule : goal.returns-in-Schedule
returns-in-Schedule c = c.unless.ensures ∙ subst (λ (x : Task). unless c.in-Schedule.options.audit (task_in x) ≡ alone (task_in x)) (sym c.in-Schedule.is) refl
