-- Where nobody runs or audits, nobody fails to.
use Rattle.std.proofs.Common.{◌≡◌, ℕ, Bool, true, false, List, [], Option, IfSome, refl, subst}
use Rattle.txs_cli_args.specs.declared.request.RunOptions.{RunOptions}
use Rattle.txs_machine.specs.declared.schedule.Play.{Play}
use Rattle.txs_cli_report.proofs.Fronts.{some_maps}
use Rattle.txs_cli_report.specs.Told.{Told}
use Rattle.txs_cli.proofs.Weaker.{AreAmong, AreAmongFor, task_maps}
use Rattle.txs_cli.specs.Runs.{Failures, Turns, Workers, nobody}
use Rattle.txs_cli.specs.Source.{Source}
use Rattle.txs_cli.specs.Telling.{Task, TaskTells, Say, Do, Schedule, Check, Listing, Build, Run, alone, unless}

no_audit : {A : Type 0} (b : Bool) → b ≡ false → b ≡ true → A
no_audit true e h = absurd cc
no_audit false e h = absurd cc

-- no worker runs, and no audit is asked for
by_turns : (f g : Failures) (plays : List Play) (o : RunOptions) → o.audit ≡ false → AreAmong f g (Run (Turns plays) o)
by_turns f g plays o is = (λ code file t h. h, λ asked p r e h. no_audit o.audit is asked)

used : (f g : Failures) (s : Source) (plays : List Play) (o : RunOptions) (b : Bool) → o.audit ≡ b → AreAmongFor f g (unless b (Do s (Run (Turns plays) o)))
used f g s plays o true is = tt
used f g s plays o false is = by_turns f g plays o is

scheduled : (f g : Failures) (s : Source) (turns : List ℕ) (o : RunOptions) (b : Bool) → o.audit ≡ b → AreAmongFor f g (unless b (Schedule s turns o))
scheduled f g s turns o true is = tt
scheduled f g s turns o false is = λ plays. by_turns f g plays o is

among_alone : (f g : Failures) (task : Task) → AreAmongFor f g (alone task)
among_alone f g (Say told) = tt
among_alone f g (Do s Check) = tt
among_alone f g (Do s Listing) = tt
among_alone f g (Do s Build) = tt
among_alone f g (Do s (Run (Turns plays) o)) = used f g s plays o o.audit refl
among_alone f g (Do s (Run (Workers n) o)) = used f g s [] o o.audit refl
among_alone f g (Schedule s turns o) = scheduled f g s turns o o.audit refl

-- so that what is told is told where there is nobody
pub alone_written : (f : Failures) (known : Option (List ℕ)) (task x : Task) (writes : Told → Type 0) → x ≡ alone task
    → IfSome known (λ input. (t : Told) × TaskTells f input x t × writes t) → IfSome known (λ input. (t : Told) × TaskTells nobody input (alone task) t × writes t)
alone_written f known task x writes is told =
    some_maps known (λ input. (t : Told) × TaskTells f input x t × writes t) (λ input. (t : Told) × TaskTells nobody input (alone task) t × writes t)
    (λ input h. (h.0, task_maps f nobody input (alone task) (among_alone f nobody task) h.0 (subst (λ (y : Task). TaskTells f input y h.0) is h.1), h.2)) told
