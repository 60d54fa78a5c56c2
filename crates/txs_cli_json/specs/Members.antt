-- The members of the lines of refusals and audits, and of places in lines.
use Rattle.std.specs.Prelude.{◌≡◌, ◌++◌, ℕ, List, codes, Option, Some, None}
use Rattle.std.specs.Borrow.{Bor}
use Rattle.std.proofs.Common.{Result}
use Rattle.std.specs.declared.result.Result.TheVariants.{Ok, Err}
use Rattle.serde_json.specs.Data.{Data, null, boolean, number, unsigned, string, Members, no_members, put}
use Rattle.txs_audit_book.specs.declared.verdict.Verdict.{Verdict}
use Rattle.txs_audit_book.specs.declared.verdict.Verdict.TheVariants.{Agrees, Differs, Undecided}
use Rattle.txs_audit_book.specs.declared.verdict.AuditError.{AuditError}
use Rattle.txs_audit_book.specs.declared.verdict.AuditError.TheVariants.{NoThread, Memory}
use Rattle.txs_check.specs.Errors.{check_number, check_name}
use Rattle.txs_compile.specs.declared.compile_error.CompileError.{CompileError}
use Rattle.txs_compile.specs.declared.compile_error.CompileError.TheVariants.{Read, Resolve, Check as Unsound, Memory as NoMemory}
use Rattle.txs_cli_json.specs.Json.{IsLineOf, typed}
use Rattle.txs_reader.specs.Errors.{report_number as read_number, report_name as read_name}
use Rattle.txs_reader.specs.Place.{line_number, column_number}
use Rattle.txs_resolve_expand.specs.Reported.{report_number as resolve_number, report_name as resolve_name}
use Rattle.txs_value_data.specs.declared.fault.Span.{Span}

-- members, and a number of this name
abbrev pub with_number : List ℕ → ℕ → Members → Members
with_number name n ms = put name (number (unsigned n)) ms

-- members, and the bytes of a span
abbrev pub with_span : Span → Members → Members
with_span at ms = with_number (codes "to") at.to (with_number (codes "from") at.from ms)

-- members, and a place: its bytes, and the line and the column where it begins, counted from 1; all null where there is no place
abbrev pub with_place : List ℕ → Option Span → Members → Members
with_place text None ms = put (codes "column") null (put (codes "line") null (put (codes "to") null (put (codes "from") null ms)))
with_place text (Some at) ms = with_number (codes "column") (column_number text at.from) (with_number (codes "line") (line_number text at.from) (with_span at ms))

-- members, and a verdict that names an event
abbrev pub with_event : List ℕ → ℕ → ℕ → Members → Members
with_event verdict actor event ms = with_number (codes "event") event (with_number (codes "actor") actor (put (codes "verdict") (string verdict) ms))

-- members, and a verdict
abbrev pub with_verdict : Verdict → Members → Members
with_verdict (Agrees serial) ms = put (codes "serial") (boolean serial) (put (codes "verdict") (string (codes "agrees")) ms)
with_verdict (Differs actor event) ms = with_event (codes "differs") actor event ms
with_verdict (Undecided actor event) ms = with_event (codes "undecided") actor event ms

-- the word for why there is no verdict
abbrev pub failure_word : AuditError → List ℕ
failure_word NoThread = codes "NoThread"
failure_word Memory = codes "Memory"

-- members, and why there is no verdict
abbrev pub with_failure : AuditError → Members → Members
with_failure failure ms = put (codes "failure") (string (failure_word failure)) (put (codes "verdict") null ms)

-- the answer of an audit: its verdict, or why there is none
abbrev pub answer_members : Result Verdict AuditError → Members
answer_members (Ok verdict) = with_verdict verdict no_members
answer_members (Err failure) = with_failure failure no_members

-- the members of the line of an audit: its answer, and where it is explained the sentence and the place in the script
abbrev pub audit_members : List ℕ → Result Verdict AuditError → Option (Bor (List ℕ) × Option Span) → Members
audit_members text answer None = answer_members answer
audit_members text answer (Some why) = with_place text why.1 (put (codes "why") (string why.0.now) (answer_members answer))

-- members, and a refusal of this number and name, and its place in the script
abbrev pub with_refusal : List ℕ → ℕ → List ℕ → Span → Members → Members
with_refusal text n name at ms = with_place text (Some at) (put (codes "name") (string name) (with_number (codes "number") n ms))

-- members, and those of a refusal; where there was no memory there are none
abbrev pub with_refused : List ℕ → CompileError → Members → Members
with_refused text (Read e) ms = with_refusal text (read_number e.kind) (read_name e.kind) e.at ms
with_refused text (Resolve e) ms = with_refusal text (resolve_number e.kind) (resolve_name e.kind) e.at ms
with_refused text (Unsound e) ms = with_refusal text (check_number e.kind) (check_name e.kind) e.at ms
with_refused text NoMemory ms = ms

-- What a refusal adds: its line, of which it isn't said what the advice is; where there was no memory nothing.
abbrev pub AddsRefusal : List ℕ → CompileError → List ℕ → List ℕ → Type 0
AddsRefusal text NoMemory old new = new ≡ old
AddsRefusal text e old new = (advice : Data) × (line : List ℕ) × IsLineOf (typed (codes "refused") (with_refused text e (put (codes "advice") advice no_members))) line × (new ≡ old ++ line)
