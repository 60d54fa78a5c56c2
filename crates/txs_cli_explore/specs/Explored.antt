-- What is told of the outcomes of a script: the outcomes of ways from its beginning to its ends, and whether there are others.
use Rattle.std.specs.Prelude.{◌≡◌, ◌==◌, ℕ, Bool, true, false, List, [], ◌++◌, codes, decimal, length, Option, Some, None, Vec, if◌then◌else◌, map, min}
use Rattle.std.proofs.Common.{Global}
use Rattle.std.specs.declared.result.Result.TheVariants.{Ok}
use Rattle.txs_audit_book.specs.declared.verdict.AuditError.{AuditError}
use Rattle.txs_cli.specs.Runner.{IsWorked}
use Rattle.txs_cli.specs.Runs.{RanTells, against}
use Rattle.txs_cli_report.specs.Plays.{plays_in}
use Rattle.txs_cli_report.specs.Lines.{Script}
use Rattle.txs_cli_report.specs.Told.{Told, IsCompiled, IsTold, ScriptRefused}
use Rattle.txs_cli_args.specs.declared.request.RunOptions.{RunOptions}
use Rattle.txs_code_meaning.specs.PlainCode.{PlainCode}
use Rattle.txs_explore.specs.Reported.{plays_of, reported}
use Rattle.txs_explore.specs.Told.{explored}
use Rattle.txs_explore.specs.Ways.{AreAll, AreAllOfFew, AreRuns, as_ending}
use Rattle.txs_explore.specs.declared.ways.Way.{Way}
use Rattle.txs_machine.specs.Scheduled.{IsScheduledRun}
use Rattle.txs_machine.specs.declared.schedule.Entries.{Entries}
use Rattle.txs_explore.specs.Ends.{IsScript}
use Rattle.txs_tree_meaning.specs.View.{Parts, program_of}
use Rattle.txs_world_protocol.specs.declared.report.Report.{Report}
use Rattle.txs_world_shared.specs.SharedState.{PlainShared}
use Rattle.txs_cli_explore.specs.Outcomes.{AreOutcomes, AreWritten, status_of}
use Rattle.txs_cli_explore.specs.declared.outcomes.Outcome.{Outcome}

-- ---- the last line

-- of so many outcomes that there are no others
abbrev pub ends_line : ℕ → List ℕ
ends_line n = if n == 1 then codes " ends in this outcome\n" else (codes " ends in one of these " ++ decimal n) ++ codes " outcomes\n"

abbrev pub switches_word : ℕ → List ℕ
switches_word most = if most == 1 then codes " switch" else codes " switches"

-- what is known of the schedules with few switches
abbrev pub few_line : Option ℕ → ℕ → List ℕ
few_line None n = codes "\n"
few_line (Some most) n = ((codes "; each schedule with at most " ++ decimal most) ++ switches_word most) ++ ends_line n

-- whether a search that made so many asks went everywhere; else how far it is known that there are no others
abbrev pub last_line : Bool → Option ℕ → ℕ → ℕ → List ℕ
last_line true within asks n = codes "complete: each schedule" ++ ends_line n
last_line false within asks n = ((codes "not complete: a search made " ++ decimal asks) ++ codes " requests") ++ few_line within n

-- ---- the outcome of a way

-- what a run is told of which is an outcome: its cells, and its audit where one is made
abbrev pub outcome_options : ℕ → Bool → RunOptions
outcome_options steps audit = record { steps = steps; cells = true; events = false; audit = audit }

-- What a run of a script's code tells that left this state and has these entries, with its cells; and behind it the verdict on its report, where that is audited, or that who audits had no answer.
abbrev pub OutcomeTells : Bool → (Parts → Report → AuditError → Type 0) → Script → ℕ → Parts → PlainCode → PlainShared → Entries → Told → Type 0
OutcomeTells audit unaudited script steps parts code s entries t = RanTells (against audit (Some parts)) unaudited code script (outcome_options steps audit) s entries t

-- The run by just the asks of a way, and by those of the rounds behind them, has the way's ending, and tells this.
pub record WayTells (code : PlainCode) (limit : ℕ) (tells : PlainShared → Entries → Told → Type 0) (w : Way) (t : Told) : Type 0 where
  pub shared : PlainShared
  pub entries : Entries
  pub worked : IsWorked code limit shared entries
  pub scheduled : IsScheduledRun code limit (plays_of w.asks.items) true shared entries.threads.items entries.agents.items
  pub ending : as_ending w.ending ≡ reported shared entries
  pub told : tells shared entries t

-- such a run has these lines, of the standard output and behind them of the standard error, and this status
pub record WayHas (code : PlainCode) (limit : ℕ) (tells : PlainShared → Entries → Told → Type 0) (w : Way) (lines : List ℕ) (status : ℕ) : Type 0 where
  pub told : Told
  pub ran : WayTells code limit tells w told
  pub lines_are : lines ≡ told.output ++ told.errors
  pub status_is : status ≡ told.status

-- the list of plays of an outcome is read as the asks of this way
abbrev pub ComesBy : Outcome → Way → Type 0
ComesBy o w = plays_in o.list.items ≡ Ok (plays_of w.asks.items)

-- ---- what is told

-- The limit of each actor's steps: what is asked for, but no more than an actor may make in any search.
abbrev pub limit_of : ℕ → ℕ
limit_of steps = min steps 1000000000000

-- What is told of outcomes that a search found: their text, and the last line with their number. It says whether the search went everywhere, or how far it is known that there are no
-- others. The status is the highest of the outcomes and of the search.
pub record OutcomesTell (whole : Bool) (within : Option ℕ) (asks : ℕ) (same : Bool) (outcomes : List Outcome) (t : Told) : Type 0 where
  pub text : List ℕ
  pub written : AreWritten outcomes text
  pub output : t.output ≡ text ++ last_line whole within asks (length outcomes)
  pub errors : t.errors ≡ []
  pub status : t.status ≡ status_of whole same outcomes

-- the lists of plays of outcomes
abbrev pub lists_in : List Outcome → List (List ℕ)
lists_in os = map (λ o. o.list.items) os

-- texts as plain data
abbrev pub texts_in : List (Vec ℕ Global) → List (List ℕ)
texts_in ts = map (λ t. t.items) ts

-- What is told of a script's code and its outcomes, and the lists of their plays, where it is known what a run tells, and whether the outcomes were to be the same. There are ways, each a run within the
-- limit, and the outcomes are those of these ways. The search went everywhere only where each run within the limit ends as one of these ways. It is known of the schedules with so many
-- switches only where each such schedule does.
pub record IsExplored (code : PlainCode) (limit : ℕ) (tells : PlainShared → Entries → Told → Type 0) (same : Bool) (lists : List (List ℕ)) (t : Told) : Type 0 where
  pub script : IsScript (explored code limit)
  pub ways : List Way
  pub runs : AreRuns code limit ways
  pub whole : Bool
  pub all : whole ≡ true → AreAll code limit ways
  pub within : Option ℕ
  pub few : (most : ℕ) → within ≡ Some most → AreAllOfFew code limit most ways
  pub asks : ℕ
  pub outcomes : List Outcome
  pub are : AreOutcomes ComesBy (WayHas code limit tells) ways outcomes
  pub told : OutcomesTell whole within asks same outcomes t
  pub listed : lists ≡ lists_in outcomes

-- What is told of a script whose outcomes are wanted: that it is refused, or its outcomes.
pub data ExploredTells (script : Script) (limit : ℕ) (tells : Parts → PlainCode → PlainShared → Entries → Told → Type 0) (same : Bool) (lists : List (List ℕ)) (t : Told) : Type 0 where
  of_outcomes :
      (parts : Parts) (code : PlainCode) (compiled : IsCompiled script.text (program_of parts) code) (told : IsExplored code limit (tells parts code) same lists t) → ExploredTells script limit tells same lists t
  of_refused : (told : ScriptRefused script t) (none : lists ≡ []) → ExploredTells script limit tells same lists t

-- The same of a stream whose front is the script: it may not be read, or memory may run out.
pub data StreamExploredTells (script : Script) (limit : ℕ) (tells : Parts → PlainCode → PlainShared → Entries → Told → Type 0) (same : Bool) (lists : List (List ℕ)) (t : Told) : Type 0 where
  of_script : (told : ExploredTells script limit tells same lists t) → StreamExploredTells script limit tells same lists t
  of_unread : (told : IsTold [] (codes "read failed\n") 2 t) (none : lists ≡ []) → StreamExploredTells script limit tells same lists t
  of_memory : (told : IsTold [] (codes "out of memory\n") 4 t) (none : lists ≡ []) → StreamExploredTells script limit tells same lists t
