-- What a sentence says is so: what it says to be found is there, what it says to be expected is what the text gives, and the two differ.
use Rattle.std.specs.Prelude.{◌≡◌, ℕ, Bool, true, false, ◌==◌, List, [], ◌∷◌, take, Option, Some, None, Result, if◌then◌else◌}
use Rattle.txs_value_data.specs.Places.{nth}
use Rattle.txs_value_data.specs.declared.fault.Fault.{Fault}
use Rattle.txs_value_data.specs.declared.fault.Span.{Span}
use Rattle.txs_value_cell.specs.declared.action.Action.{Action}
use Rattle.txs_value_data.specs.declared.value.CellId.{CellId}
use Rattle.txs_value_data.specs.declared.value.Value.{Value}
use Rattle.txs_world_protocol.specs.Ask.{Writes, same_action, same_new, same_value}
use Rattle.txs_world_protocol.specs.declared.event.Event.{Event}
use Rattle.txs_world_protocol.specs.declared.event.EventKind.{EventKind}
use Rattle.txs_world_protocol.specs.declared.event.EventKind.TheVariants.{Commit, Retry, Fail, Refused, Send, Act}
use Rattle.txs_world_protocol.specs.declared.event.Outcome.{Outcome}
use Rattle.txs_world_book.specs.Book.{writes_of, writes_to}
use Rattle.txs_theorem_audit.specs.Audited.{PlainActorReport}
use Rattle.txs_theorem_audit.specs.Verdict.{is_full_book}
use Rattle.txs_tree_meaning.specs.Tree.{PlainProgram}
use Rattle.txs_audit_event.specs.Lines.{events_in, outcome_of, printed_what, stop_what}
use Rattle.txs_audit_event.specs.Transactions.{Asked, asked_what, awaited, booked_what}
use Rattle.txs_audit_event.specs.declared.what.What.{What}
use Rattle.txs_audit_event.specs.declared.what.What.TheVariants as what

-- ---- lines

-- a byte before the first of these lines
abbrev pub before_line : ℕ → List (List ℕ) → List (List ℕ)
before_line x [] = (x ∷ []) ∷ []
before_line x (l ∷ ls) = (x ∷ l) ∷ ls

-- the lines of a text, each up to its end, which is a byte 10; the last one may lack it
abbrev pub lines : List ℕ → List (List ℕ)
lines [] = []
lines (x ∷ xs) = if x == 10 then [] ∷ lines xs else before_line x (lines xs)

-- These are the lines with this number of what is expected and of what is found, and all lines before them are the same.
pub record AreFirst (xs ys : List ℕ) (n : ℕ) (e f : Option (List ℕ)) : Type 0 where
  pub expected : e ≡ nth (lines xs) n
  pub found : f ≡ nth (lines ys) n
  pub before : take n (lines xs) ≡ take n (lines ys)

-- a line that is told of these texts
abbrev pub LineTrue : List ℕ → List ℕ → What → Type 0
LineTrue xs ys (what.Line n e f) = AreFirst xs ys n e f
LineTrue xs ys _ = ⊥

-- ---- ends

-- What is told of a thread's end, where the text ends so and needs an event of this book, prints this whole and at least that part.
abbrev pub EndTrue : (ℕ → List Event) → Option Outcome → Option ℕ → List ℕ → List ℕ → PlainActorReport → What → Type 0
EndTrue books ends needed whole least ran (what.Line n e f) = (f ≡ nth (lines ran.printed) n)
EndTrue books ends needed whole least ran (what.Ended e f) = (e ≡ ends) × (f ≡ ran.outcome)
EndTrue books ends needed whole least ran (what.NotFull b k) = (b ≡ needed) × (is_full_book books b ≡ false) × (k ≡ events_in books b)
EndTrue books ends needed whole least ran _ = ⊥

-- ---- events

-- whether these values are the same, if there are any
abbrev pub same_there : Option Value → Option Value → Bool
same_there None None = true
same_there (Some v) (Some w) = same_value v w
same_there _ _ = false

-- whether these actions are
abbrev pub same_sent : Option Action → Option Action → Bool
same_sent None None = true
same_sent (Some a) (Some b) = same_action a b
same_sent _ _ = false

-- this value, if it is one, is written to the cell
abbrev pub IsWritten : Writes → CellId → Option Value → Type 0
IsWritten ws c None = Unit {0}
IsWritten ws c (Some v) = (i : ℕ) × (d : CellId) × (nth ws i ≡ Some (d, v)) × (c.number ≡ d.number)

-- what an event sends, and what it is for
abbrev pub sends_in : EventKind → List Action
sends_in (Commit at view ws sends) = sends
sends_in (Act g number new sends) = sends
sends_in _ = []

abbrev pub retried_for : EventKind → Option CellId
retried_for (Retry since c cause) = Some c
retried_for _ = None

abbrev pub refused_for : EventKind → Option CellId
refused_for (Refused at view g) = Some g
refused_for _ = None

abbrev pub refused_by : Option Event → Option CellId
refused_by None = None
refused_by (Some e) = refused_for e.kind

abbrev pub is_failure : EventKind → Bool
is_failure (Fail at view) = true
is_failure _ = false

abbrev pub is_send : EventKind → Bool
is_send (Send a) = true
is_send _ = false

-- What is told of an event, as it is asked about and as it stands in its book behind these: what it writes or sends, or why its transaction ran again or was refused; who
-- disturbed it; or what the text does there.
abbrev pub EventTrue : List Event → Option Event → Asked → What → Type 0
EventTrue done e x (what.Wrote c u v s) = IsWritten (writes_of x.event.kind) c v × (same_there u v ≡ false)
EventTrue done e x (what.Sends n a b s) = (b ≡ nth (sends_in x.event.kind) n) × (same_sent a b ≡ false)
EventTrue done e x (what.Disturbed c set by s) = (d : Event) × (nth done by ≡ Some d) × (writes_to d.kind c.number ≡ true)
EventTrue done e x (what.Refusal o g s) = refused_by e ≡ Some g
EventTrue done e x (what.Cause c s) = retried_for x.event.kind ≡ Some c
EventTrue done e x (what.NoFault s) = is_failure x.event.kind ≡ true
EventTrue done e x (what.Sent s) = is_send x.event.kind ≡ true
EventTrue done e x (what.Over o) = outcome_of (x.means x.front) ≡ Some o
EventTrue done e x (what.Event b) = b ≡ awaited (x.means x.front)
EventTrue done e x (what.Faults f) = Unit {0}
EventTrue done e x (what.Dosync s) = Unit {0}
EventTrue done e x _ = ⊥

-- ---- acts

-- what is told of an act, where the text gives this and sends that
abbrev pub ActTrue : Result Value Fault → List Action → Result Value Fault → List Action → What → Type 0
ActTrue meant held new sends (what.Gave e f) = (e ≡ meant) × (f ≡ new) × (same_new e f ≡ false)
ActTrue meant held new sends (what.Sends n a b s) = (a ≡ nth held n) × (b ≡ nth sends n) × (same_sent a b ≡ false)
ActTrue meant held new sends (what.Event b) = b ≡ None
ActTrue meant held new sends _ = ⊥

-- ---- laws

-- What is told of two texts is true of them.
abbrev pub LinesAreTrue : Type 0
LinesAreTrue = (xs ys : List ℕ) → LineTrue xs ys (printed_what xs ys)

-- What is told of a thread's end is true of it.
abbrev pub EndsAreTrue : Type 0
EndsAreTrue =
    (books : ℕ → List Event) (ends : Option Outcome) (needed : Option ℕ) (whole least : List ℕ) (ran : PlainActorReport) → EndTrue books ends needed whole least ran (stop_what books ends needed whole least ran)

-- What is told of an event is true of it.
abbrev pub EventsAreTrue : Type 0
EventsAreTrue = (p : PlainProgram) (n : ℕ) (done : List Event) (e : Option Event) (x : Asked) → EventTrue done e x (asked_what p n done e x)

-- What is told of an act is true of it.
abbrev pub ActsAreTrue : Type 0
ActsAreTrue = (span : Span) (meant : Result Value Fault) (held : List Action) (new : Result Value Fault) (sends : List Action) → ActTrue meant held new sends (booked_what span meant held new sends)
