-- Lines of JSON.
use Rattle.std.specs.Prelude.{◌≡◌, ◌≤◌, ℕ, zero, suc, List, [], ◌∷◌, ◌++◌, false, Some, codes, decimal, length}
use Rattle.txs_compile.specs.declared.compile_error.CompileError.{CompileError}
use Rattle.txs_compile.specs.declared.compile_error.CompileError.TheVariants.{Read, Resolve, Check, Memory}
use Rattle.txs_world_protocol.specs.declared.report.Report.{Report}
use Rattle.serde_json.specs.Data.{Data, object, string, Members, depth, put}
use Rattle.serde_json.specs.Find.{get}
use Rattle.serde_json.specs.Read.{read}
use Rattle.serde_json.specs.Written.{compact_text, has_float}

-- a value that nests no deeper than so many levels, and has no number with a fraction
pub record Fits (n : ℕ) (d : Data) : Type 0 where
  pub shallow : depth d ≤ n
  pub whole : has_float d ≡ false

-- A line that is the text of this value without white space, and a newline. The text reads back as the value.
pub record IsLineOf (d : Data) (line : List ℕ) : Type 0 where
  pub text : line ≡ compact_text d ++ 10 ∷ []
  pub reads : read (compact_text d) ≡ Some d

-- the object of these members, and of its type
abbrev pub typed : List ℕ → Members → Data
typed kind ms = object (put (codes "type") (string kind) ms)

-- a line of JSON of this type: an object that says it
pub record IsJsonLine (kind line : List ℕ) : Type 0 where
  pub value : Data
  pub line_of : IsLineOf value line
  pub of_type : get (codes "type") value ≡ Some (string kind)

-- lines of JSON of these types, one behind the other
abbrev pub AreJsonLines : List (List ℕ) → List ℕ → Type 0
AreJsonLines [] text = text ≡ []
AreJsonLines (kind ∷ kinds) text = (line : List ℕ) × (rest : List ℕ) × IsJsonLine kind line × AreJsonLines kinds rest × (text ≡ line ++ rest)

-- the new text is the old one with a line of this type behind it
abbrev pub AddsLine : List ℕ → List ℕ → List ℕ → Type 0
AddsLine kind old new = (line : List ℕ) × IsJsonLine kind line × (new ≡ old ++ line)

-- the new text is the old one with lines of these types behind it
abbrev pub AddsLines : List (List ℕ) → List ℕ → List ℕ → Type 0
AddsLines kinds old new = (lines : List ℕ) × AreJsonLines kinds lines × (new ≡ old ++ lines)

-- so many of one type
abbrev pub times : ℕ → List ℕ → List (List ℕ)
times zero kind = []
times (suc n) kind = kind ∷ times n kind

-- the types of the lines of a run with so many events: its threads, its agents, its cells, and its events
abbrev pub run_kinds : Report → ℕ → List (List ℕ)
run_kinds r events = times (length r.threads.items) (codes "thread") ++ (times (length r.agents.items) (codes "agent") ++ (times (length r.cells.items) (codes "cell") ++ times events (codes "event")))

-- the types of the lines of a refusal: where there was no memory there is none
abbrev pub refusal_kinds : CompileError → List (List ℕ)
refusal_kinds Memory = []
refusal_kinds (Read e) = codes "refused" ∷ []
refusal_kinds (Resolve e) = codes "refused" ∷ []
refusal_kinds (Check e) = codes "refused" ∷ []

-- the line of a script that compiles
abbrev pub ok_line : List ℕ
ok_line = codes "{\"type\":\"ok\"}\n"

-- the line of a problem
abbrev pub problem_line : List ℕ → List ℕ
problem_line message = codes "{\"message\":" ++ compact_text (string message) ++ codes ",\"type\":\"problem\"}\n"

-- the last line
abbrev pub end_line : ℕ → List ℕ
end_line status = codes "{\"status\":" ++ decimal status ++ codes ",\"type\":\"end\"}\n"
