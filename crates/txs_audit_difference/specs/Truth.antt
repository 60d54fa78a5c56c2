-- A sentence is true of a report: what it says to be found is there, and isn't what it says to be expected.
use Rattle.std.specs.Prelude.{◌≡◌, ◌⊎◌, ℕ, suc, true, false, ◌++◌, length, Option, Some, None, Result}
use Rattle.txs_value_data.specs.Places.{nth}
use Rattle.txs_value_data.specs.declared.fault.Fault.{Fault}
use Rattle.txs_value_data.specs.declared.value.Value.{Value}
use Rattle.txs_world_protocol.specs.Ask.{same_new, same_value}
use Rattle.txs_world_protocol.specs.declared.event.Event.{Event}
use Rattle.txs_world_protocol.specs.declared.event.EventKind.{EventKind}
use Rattle.txs_world_protocol.specs.declared.event.EventKind.TheVariants.{Act}
use Rattle.txs_world_book.specs.Book.{mail_after, writes_of, writes_to}
use Rattle.txs_world_book.specs.Served.{cells_of}
use Rattle.txs_tree_meaning.specs.Tree.{PlainProgram}
use Rattle.txs_theorem_audit.specs.Audited.{PlainActorReport, PlainReport, PlainTerms, books_of, entry_of, Off}
use Rattle.txs_theorem_audit.specs.Verdict.{fits_sizes, is_full_book, order_found, same_failure, traces_found}
use Rattle.txs_audit_event.specs.Lines.{events_in}
use Rattle.txs_audit_event.specs.Truth.{IsWritten, is_failure, is_send, lines, refused_for, retried_for, same_sent, sends_in, same_there}
use Rattle.txs_audit_event.specs.declared.what.What.{What}
use Rattle.txs_audit_event.specs.declared.what.What.TheVariants as what
use Rattle.txs_audit_difference.specs.Difference.{difference_of}
use Rattle.txs_audit_difference.specs.declared.told.Difference.{Difference}

-- it is an entry of the report
abbrev pub IsEntry : PlainReport → PlainActorReport → Type 0
IsEntry r ran = (i : ℕ) × ((nth r.threads i ≡ Some ran) ⊎ (nth r.agents i ≡ Some ran))

-- an event of its books is of such a kind
abbrev pub HasKind : PlainReport → (EventKind → Type 0) → Type 0
HasKind r P = (b k : ℕ) × (e : Event) × (nth (books_of r b) k ≡ Some e) × P e.kind

-- what an act came to
abbrev pub came_to : EventKind → Option (Result Value Fault)
came_to (Act g number new sends) = Some new
came_to _ = None

-- how many steps an actor made, if there is one
abbrev pub steps_in : Option PlainActorReport → Option ℕ
steps_in None = None
steps_in (Some ran) = Some ran.steps

-- What a sentence says of a report, at this event of this actor's trace.
abbrev pub SaysOf : PlainProgram → PlainTerms → PlainReport → ℕ → ℕ → What → Type 0
SaysOf p w r a i what.Sizes = fits_sizes p r ≡ false
SaysOf p w r a i what.Trace = traces_found (books_of r) (suc (length r.atom_books)) 0 (r.threads ++ r.agents) ≡ Off a i
SaysOf p w r a i what.Order = order_found p r ≡ Off a i
SaysOf p w r a i (what.Illegal b k) = (e : Event) × (nth (books_of r b) k ≡ Some e) × (a ≡ e.actor)
SaysOf p w r a i (what.Cell c v u) = (nth r.cells c.number ≡ Some u) × (same_value v u ≡ false)
SaysOf p w r a i (what.Failure g f h) = (f ≡ (mail_after (cells_of p.cells) r.book g.number).fault) × (same_failure f h ≡ false)
SaysOf p w r a i (what.Steps e f) = (e ≡ w.limit) × (steps_in (entry_of r a) ≡ Some f)
SaysOf p w r a i (what.NotFull b k) = (is_full_book (books_of r) b ≡ false) × (k ≡ events_in (books_of r) b)
SaysOf p w r a i (what.Line n e f) = (ran : PlainActorReport) × IsEntry r ran × (f ≡ nth (lines ran.printed) n)
SaysOf p w r a i (what.Ended e f) = (ran : PlainActorReport) × IsEntry r ran × (f ≡ ran.outcome)
SaysOf p w r a i (what.Wrote c u v s) = HasKind r (λ k. IsWritten (writes_of k) c v) × (same_there u v ≡ false)
SaysOf p w r a i (what.Sends n u v s) = HasKind r (λ k. v ≡ nth (sends_in k) n) × (same_sent u v ≡ false)
SaysOf p w r a i (what.Disturbed c set by s) = (b : ℕ) × (e : Event) × (nth (books_of r b) by ≡ Some e) × (writes_to e.kind c.number ≡ true)
SaysOf p w r a i (what.Refusal o g s) = HasKind r (λ k. refused_for k ≡ Some g)
SaysOf p w r a i (what.Cause c s) = HasKind r (λ k. retried_for k ≡ Some c)
SaysOf p w r a i (what.NoFault s) = HasKind r (λ k. is_failure k ≡ true)
SaysOf p w r a i (what.Sent s) = HasKind r (λ k. is_send k ≡ true)
SaysOf p w r a i (what.Gave e f) = HasKind r (λ k. came_to k ≡ Some f) × (same_new e f ≡ false)
SaysOf p w r a i what.Left = Unit {0}
SaysOf p w r a i (what.Over o) = Unit {0}
SaysOf p w r a i (what.Faults f) = Unit {0}
SaysOf p w r a i (what.Dosync s) = Unit {0}
SaysOf p w r a i (what.Event b) = Unit {0}
SaysOf p w r a i what.Unfinished = Unit {0}
SaysOf p w r a i what.Idle = Unit {0}

-- Whatever is told to differ is true of the report.
abbrev pub DifferencesAreTrue : Type 0
DifferencesAreTrue = (p : PlainProgram) (w : PlainTerms) (r : PlainReport) (n : ℕ) (d : Difference) → difference_of p w r n ≡ Some d → SaysOf p w r d.actor d.event d.what
