-- The numbers and names of the reasons why a run has no report.
use Rattle.std.specs.Prelude.{ℕ, List, codes}
use Rattle.txs_machine.specs.declared.run_error.RunError.{RunError}
use Rattle.txs_machine.specs.declared.run_error.RunError.TheVariants.{JournalMismatch, NoThread, Memory}
use Rattle.txs_machine.specs.declared.schedule.ScheduleError.{ScheduleError}
use Rattle.txs_machine.specs.declared.schedule.ScheduleError.TheVariants as schedule

-- the number of each reason
abbrev pub error_number : RunError → ℕ
error_number JournalMismatch = 51
error_number NoThread = 52
error_number Memory = 53

-- its name
abbrev pub error_name : RunError → List ℕ
error_name JournalMismatch = codes "JournalMismatch"
error_name NoThread = codes "NoThread"
error_name Memory = codes "Memory"

-- the number of each reason why a schedule wasn't run
abbrev pub schedule_error_number : ScheduleError → ℕ
schedule_error_number schedule.NoActor = 54
schedule_error_number schedule.Memory = 53
