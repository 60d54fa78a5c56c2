-- What runs all threads and agents of a code, whoever makes the turns.
use Rattle.std.specs.Prelude.{◌≡◌, ◌+◌, ◌≤◌, ℕ, IfOk, Err, length}
use Rattle.std.specs.Borrow.{Bor}
use Rattle.std.proofs.Common.{Global, Result}
use Rattle.txs_code_meaning.specs.PlainCode.{PlainCode}
use Rattle.txs_machine.specs.Agents.{AgentsAreDone, AreDrained, AreExplainedBy}
use Rattle.txs_machine.specs.RunOver.{IsStateOf, books_of}
use Rattle.txs_machine.specs.Schedule.{AreDone, HaveEnded}
use Rattle.txs_machine.specs.Scheduled.{IsInterleaving}
use Rattle.txs_machine.specs.declared.run_error.RunError.{RunError}
use Rattle.txs_machine.specs.declared.run_error.RunError.TheVariants.{JournalMismatch, NoThread, Memory}
use Rattle.txs_machine.specs.declared.schedule.Entries.{Entries}
use Rattle.txs_world_shared.specs.SharedState.{PlainShared, shared_of}

-- each actor of the code has a number of 16 bits
abbrev pub IsRunnable : PlainCode → Type 0
IsRunnable code = length code.threads + length code.cells ≤ 65535

-- A run of the code, where each actor makes no more than so many steps, leaves a state of its cells, and there is one entry for each thread and for each
-- agent, which says what its actor did; each thread has ended, and no agent that goes on has something to do; each program that the code follows
-- explains the entries; and they are those of a run by turns.
pub record IsWorked (code : PlainCode) (steps : ℕ) (s : PlainShared) (report : Entries) : Type 0 where
  pub of : IsStateOf code s
  pub done : AreDone code steps (books_of s) report.threads.items
  pub agents_done : AgentsAreDone code steps (books_of s) report.agents.items
  pub ended : HaveEnded report.threads.items
  pub drained : AreDrained code (shared_of s) report.agents.items
  pub explained : AreExplainedBy code (shared_of s) report.threads.items report.agents.items
  pub interleaved : IsInterleaving code s report.threads.items report.agents.items

-- a run that has a report is such a one
abbrev pub RunsLawfully : PlainCode → ℕ → Result (PlainShared × Entries) RunError → Type 0
RunsLawfully code steps r = IfOk r (λ ran. IsWorked code steps ran.0 ran.1)

-- what runs code, which answers so, has failed so of this code, with so many workers and so many steps of each actor
abbrev pub HasFailed : (Global → Bor PlainCode → ℕ → ℕ → Result (PlainShared × Entries) RunError → Type 0) → PlainCode → ℕ → ℕ → RunError → Type 0
HasFailed answers code workers steps e = (alloc : Global) × (lent : Bor PlainCode) × (lent.now ≡ code) × answers alloc lent workers steps (Err e)

-- a run that has no report: what runs it has failed so, or memory ran out
abbrev pub FailsAs : (RunError → Type 0) → RunError → Type 0
FailsAs failed JournalMismatch = failed JournalMismatch
FailsAs failed NoThread = failed NoThread
FailsAs failed Memory = Unit {0}

-- a report of a run of this code, in which each actor makes no more than so many steps, or why there is none
abbrev pub Runs : Global → Bor PlainCode → ℕ → ℕ → Result (PlainShared × Entries) RunError → Type 0
Runs alloc code workers steps r = RunsLawfully code.now steps r
