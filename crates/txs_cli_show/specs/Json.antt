-- What lines of JSON tell of a run, or of a check.
use Rattle.std.specs.Prelude.{◌≡◌, ◌≤◌, ℕ, max, Bool, true, false, List, [], ◌∷◌, ◌++◌, codes, length}
use Rattle.txs_cli_events.specs.declared.seen.Noted.{Noted}
use Rattle.txs_cli_json.specs.Json.{AreJsonLines, end_line, ok_line, problem_line, refusal_kinds, run_kinds}
use Rattle.txs_cli_report.specs.Told.{IsCompiled, Told}
use Rattle.txs_cli_args.specs.declared.request.RunOptions.{RunOptions}
use Rattle.txs_code_meaning.specs.PlainCode.{PlainCode}
use Rattle.txs_compile.specs.Compiled.{IsRefusal}
use Rattle.txs_compile.specs.declared.compile_error.CompileError.{CompileError}
use Rattle.txs_tree_meaning.specs.Tree.{PlainProgram}
use Rattle.txs_world_protocol.specs.declared.report.Report.{Report}
use Rattle.txs_cli_show.specs.Shown.{IsListed}

-- the type of the line of an audit, where one is wanted
abbrev pub audit_kinds : Bool → List (List ℕ)
audit_kinds false = []
audit_kinds true = codes "audit" ∷ []

-- Lines of JSON of these types, and behind them that of the status, which is this one at least; and nothing else.
pub record EndsInStatus (kinds : List (List ℕ)) (least : ℕ) (t : Told) : Type 0 where
  pub lines : List ℕ
  pub typed : AreJsonLines kinds lines
  pub output : t.output ≡ lines ++ end_line t.status
  pub errors : t.errors ≡ []
  pub high : least ≤ t.status

-- What is told of a run of a script by this list of plays: a line for each thread, agent, cell and event of that run, and one of its audit, where it is wanted; the line of a refusal
-- that is true of the script; or that the list isn't that of a run whose events have an order.
pub data JsonTells (text list : List ℕ) (o : RunOptions) (least : ℕ) (t : Told) : Type 0 where
  of_run :
      (program : PlainProgram) (code : PlainCode) (report : Report) (notes : List Noted) (compiled : IsCompiled text program code) (listed : IsListed code list o.steps report notes)
      (told : EndsInStatus (run_kinds report (length notes) ++ audit_kinds o.audit) least t) → JsonTells text list o least t
  of_refused : (e : CompileError) (refused : IsRefusal text e) (told : EndsInStatus (refusal_kinds e) least t) → JsonTells text list o least t
  of_failed :
      (output : t.output ≡ problem_line (codes "show failed") ++ end_line (max least 4)) (errors : t.errors ≡ []) (status : t.status ≡ max least 4) → JsonTells text list o least t

-- What is told of a script that is checked: the line that says that it compiles, or that of a refusal that is true of it.
pub data CheckShows (text : List ℕ) (t : Told) : Type 0 where
  of_code : (p : PlainProgram) (code : PlainCode) (compiled : IsCompiled text p code) (output : t.output ≡ ok_line) (errors : t.errors ≡ []) (status : t.status ≡ 0) → CheckShows text t
  of_refused : (e : CompileError) (refused : IsRefusal text e) (output : AreJsonLines (refusal_kinds e) t.output) (errors : t.errors ≡ []) (status : t.status ≡ 1) → CheckShows text t
