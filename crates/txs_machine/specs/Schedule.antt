-- Runs of all threads of a code over what they share, by turns that a schedule names: what a report says of all threads.
use Rattle.std.specs.Prelude.{◌≡◌, ◌≤◌, ◌+◌, ℕ, suc, Bool, true, false, ◌&&◌, ◌==◌, nat_lt, List, [], ◌∷◌, ◌++◌, length, map, replicate, Some, None, if◌then◌else◌}
use Rattle.txs_world_protocol.specs.declared.event.Event.{Event}
use Rattle.txs_value_data.specs.Places.{nth}
use Rattle.txs_tree_meaning.specs.Tree.{PlainProgram}
use Rattle.txs_code_meaning.specs.PlainCode.{PlainCode, thread_code}
use Rattle.txs_theorem_threads.specs.FollowsAll.{FollowsAll}
use Rattle.txs_value_cell.specs.Agents.{agents_from}
use Rattle.txs_world_shared.specs.SharedState.{PlainShared}
use Rattle.txs_theorem_runs.specs.Shared.{Shared}
use Rattle.txs_machine.specs.RunTheorem.{HasDone, Explains}
use Rattle.txs_machine.specs.declared.schedule.Play.{Play}
use Rattle.txs_machine.specs.declared.schedule.Play.TheVariants as play
use Rattle.txs_machine.specs.declared.schedule.Repeated.{Repeated}
use Rattle.txs_world_protocol.specs.declared.report.ActorReport.{ActorReport}
use Rattle.txs_machine.specs.declared.schedule.ScheduleError.{ScheduleError}
use Rattle.txs_machine.specs.declared.schedule.ScheduleError.TheVariants.{NoActor, Memory}

-- ---- plays

-- whose play it is
abbrev pub player : Play → ℕ
player (play.Turn k) = k
player (play.Ask k) = k

-- how many of these plays name this actor
abbrev pub plays_of : ℕ → List Play → ℕ
plays_of k [] = 0
plays_of k (y ∷ ys) = if player y == k then suc (plays_of k ys) else plays_of k ys

-- whether each play names one of so many actors
abbrev pub all_named : ℕ → List Play → Bool
all_named n [] = true
all_named n (y ∷ ys) = nat_lt (player y) n && all_named n ys

-- the plays of a schedule that says of each how many times it is made in a row
abbrev pub spread : List Repeated → List Play
spread [] = []
spread (r ∷ rs) = replicate r.times r.play ++ spread rs

-- ---- what the actors did

-- A report has one entry for each thread, which says what its actor did.
pub record AreDone (code : PlainCode) (limit : ℕ) (books : ℕ → List Event) (rans : List ActorReport) : Type 0 where
  pub one_each : length rans ≡ length code.threads
  pub each : (k : ℕ) (ran : ActorReport) → nth rans k ≡ Some ran → HasDone code k limit books ran

-- a thread that hasn't ended has made at least as many steps as there are plays of it
abbrev pub ArePlayed : List Play → List ActorReport → Type 0
ArePlayed ys rans = (k : ℕ) (ran : ActorReport) → nth rans k ≡ Some ran → ran.outcome ≡ None → plays_of k ys ≤ ran.steps

-- every thread has ended
abbrev pub HaveEnded : List ActorReport → Type 0
HaveEnded rans = (k : ℕ) (ran : ActorReport) → nth rans k ≡ Some ran → ran.outcome ≡ None → ⊥

-- ---- what the source says

-- each program of the code's cells that the code follows explains the run
abbrev pub IsExplainedBy : PlainCode → Shared → List ActorReport → Type 0
IsExplainedBy code sh rans = (p : PlainProgram) → p.cells ≡ code.cells → FollowsAll (map (thread_code code) code.threads) p → Explains p sh rans

-- Why there is no report: a play names no actor, and nothing was run; or there was no memory.
abbrev pub HasNoReport : PlainCode → List Play → PlainShared → PlainShared → ScheduleError → Type 0
HasNoReport code ys before after NoActor = (all_named (length code.threads + length (agents_from 0 code.cells)) ys ≡ false) × (after ≡ before)
HasNoReport code ys before after Memory = all_named (length code.threads + length (agents_from 0 code.cells)) ys ≡ true
