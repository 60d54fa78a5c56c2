-- What the outcomes that are written say of each run by workers.
use Rattle.std.specs.Prelude.{◌≡◌, ℕ, Bool, true, false, List}
use Rattle.txs_cli_report.specs.Lines.{Script}
use Rattle.txs_cli_report.specs.Told.{Told, ReportTells}
use Rattle.txs_code_meaning.specs.PlainCode.{PlainCode}
use Rattle.txs_explore.specs.Laws.{HasWorked}
use Rattle.txs_explore.specs.Reported.{reported}
use Rattle.txs_explore.specs.declared.ways.Way.{Way}
use Rattle.txs_machine.specs.declared.schedule.Entries.{Entries}
use Rattle.txs_explore.specs.System.{IsIn}
use Rattle.txs_world_shared.specs.SharedState.{PlainShared}
use Rattle.txs_cli_explore.specs.Explored.{IsExplored, WayHas}
use Rattle.txs_cli_explore.specs.declared.outcomes.Outcome.{Outcome}

-- what a run tells with its cells
abbrev pub run_tells : PlainCode → Script → PlainShared → Entries → Told → Type 0
run_tells code script s entries t = ReportTells code script s entries true false t

-- Where what is written of a script's code says that the search went everywhere, there is a written outcome for each run that came to its end below the limit with nobody stopped. It has
-- the lines and the status of a run with the same end: each actor ended so and printed this, and so are the cells and the failed agents. On the standard output both tell the same.
abbrev pub WrittenOutcomesAreAll : Type 0
WrittenOutcomesAreAll =
    (code : PlainCode) (script : Script) (limit : ℕ) (same : Bool) (lists : List (List ℕ)) (t : Told) (told : IsExplored code limit (run_tells code script) same lists t) → told.whole ≡ true
    → (s : PlainShared) (entries : Entries) → HasWorked code limit s entries
    → (o : Outcome) × IsIn o told.outcomes × (w : Way) × (has : WayHas code limit (run_tells code script) w o.lines.items o.status) × (reported has.ran.shared has.ran.entries ≡ reported s entries)
    × ((u : Told) → run_tells code script s entries u → u.output ≡ has.told.output)
