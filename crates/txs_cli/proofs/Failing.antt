-- Why a run has no report.
use Rattle.std.proofs.Common.{arith, ◌≡◌, ◌≢◌, ◌≤◌, ◌+◌, ◌++◌, length, ℕ, false, List, [], Option, IfOk, codes, Global, Result, Ok, Err, IfErr, refl, subst, sym}
use Rattle.std.specs.Borrow.{Bor}
use Rattle.txs_code_meaning.specs.PlainCode.{PlainCode}
use Rattle.txs_machine.specs.declared.run_error.RunError.{RunError}
use Rattle.txs_machine.specs.declared.run_error.RunError.TheVariants.{JournalMismatch, NoThread, Memory}
use Rattle.txs_machine.specs.Agents.{actors_of}
use Rattle.txs_machine.specs.Schedule.{HasNoReport, all_named}
use Rattle.txs_machine.specs.declared.schedule.Entries.{Entries}
use Rattle.txs_machine.specs.declared.schedule.Play.{Play}
use Rattle.txs_machine.specs.declared.schedule.ScheduleError.{ScheduleError}
use Rattle.txs_machine.specs.declared.schedule.ScheduleError.TheVariants as schedule
use Rattle.txs_world_shared.specs.SharedState.{PlainShared}
use Rattle.txs_code_decode.specs.CodeForm.{HasForm}
use Rattle.txs_verify.proofs.Formed.{few_cells, few_threads}
use Rattle.txs_machine.specs.ErrorName.{error_name}
use Rattle.txs_cli_report.specs.Lent.{told_of}
use Rattle.txs_cli_report.specs.Told.{Told}
use Rattle.txs_cli_report.specs.declared.told.Told as owned
use Rattle.txs_cli.specs.Runner.{FailsAs, HasFailed}
use Rattle.txs_cli.specs.Runs.{FailureTells, HasNoRun, NoRunTells, NoneTells, Way, Turns, Workers}
use Rattle.txs_cli.specs.declared.run.NoRun.{NoRun}
use Rattle.txs_cli.specs.declared.run.NoRun.TheVariants as none

-- code that has a form has few actors
runs_of : (n m : ℕ) → n ≤ 64 → m ≤ 1000 → n + m ≤ 65535
runs_of n m p q = omega (arith, p, q)

pub runnable : (code : PlainCode) → HasForm code → length code.threads + length code.cells ≤ 65535
runnable code h = runs_of (length code.threads) (length code.cells) (few_threads code h) (few_cells code h)

-- what runs it has answered so
pub failed_by : (answers : Global → Bor PlainCode → ℕ → ℕ → Result (PlainShared × Entries) RunError → Type 0) (alloc : Global) (lent : Bor PlainCode) (workers steps : ℕ) (r : Result (PlainShared × Entries) RunError)
    → answers alloc lent workers steps r → IfErr r (FailsAs (HasFailed answers lent.now workers steps))
failed_by answers alloc lent workers steps (Ok x) h = tt
failed_by answers alloc lent workers steps (Err JournalMismatch) h = (alloc, lent, refl, h)
failed_by answers alloc lent workers steps (Err NoThread) h = (alloc, lent, refl, h)
failed_by answers alloc lent workers steps (Err Memory) h = tt

-- for want of memory nothing is to be shown
pub for_memory : {A : Type 0} (r : Result A RunError) (failed : RunError → Type 0) → IfErr r (λ e. e ≡ Memory) → IfErr r (FailsAs failed)
for_memory (Ok x) failed h = tt
for_memory (Err e) failed h = subst (FailsAs failed) (sym h) tt

-- another failure is that of what runs it
pub failed_so : (failed : RunError → Type 0) (e : RunError) → e ≢ Memory → FailsAs failed e → failed e
failed_so failed JournalMismatch told h = h
failed_so failed NoThread told h = h
failed_so failed Memory told h = absurd (told refl)

-- a schedule that wasn't run since a play names no actor
pub unnamed_so : (code : PlainCode) (plays : List Play) (before after : PlainShared) (e : ScheduleError) → HasNoReport code plays before after e → e ≡ schedule.NoActor → all_named (actors_of code) plays ≡ false
unnamed_so code plays before after schedule.NoActor h is = h.0
unnamed_so code plays before after schedule.Memory h is = absurd cc

-- what is told of it is told in place of the run
pub none_told : (failed : PlainCode → ℕ → ℕ → RunError → Type 0) (way : Way) (code : PlainCode) (steps : ℕ) (e : NoRun) (file : Option (List ℕ)) (t : Told) → HasNoRun failed way code steps e → NoneTells e file t → NoRunTells failed way code steps file t
none_told failed (Turns plays) code steps (none.NoActor list) file t h told = (h, told)
none_told failed (Turns plays) code steps (none.Failed e) file t h told = absurd (told.told h)
none_told failed (Workers n) code steps (none.NoActor list) file t h told = absurd h
none_told failed (Workers n) code steps (none.Failed e) file t h told = (e, failed_so (failed code n steps) e told.told h, told)

-- why a run has no report
pub failure_answered : {E : Type 0} (r : Result owned.Told E) (failure : RunError) → failure ≢ Memory → IfOk r (λ t. (told_of t).output ≡ [])
    → IfOk r (λ t. t.errors.items ≡ (codes "run failed: " ++ error_name failure) ++ codes "\n") → IfOk r (λ t. t.status ≡ 4) → IfOk r (λ t. FailureTells failure (told_of t))
failure_answered (Ok t) failure told output errors status = record { told = told; is = record { output = output; errors = errors; status = status } }
failure_answered (Err x) failure told output errors status = tt
