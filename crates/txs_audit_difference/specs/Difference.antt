-- What differs between a report and its program's text: the tests of an audit in their order, and of the first that isn't fine what it is.
use Rattle.std.specs.Prelude.{◌≡◌, ◌↔◌, ℕ, suc, Bool, ◌&&◌, nat_lt, List, [], ◌∷◌, ◌++◌, length, Option, Some, None, if◌then◌else◌}
use Rattle.txs_value_data.specs.Places.{nth}
use Rattle.txs_value_data.specs.declared.fault.Fault.{Fault}
use Rattle.txs_value_cell.specs.Agents.{agents_from}
use Rattle.txs_value_cell.specs.Forms.{same_kind}
use Rattle.txs_value_cell.specs.declared.cell.CellDefinition.{CellDefinition}
use Rattle.txs_value_data.specs.declared.value.CellId.{CellId}
use Rattle.txs_value_data.specs.declared.value.CellKind.TheVariants.{Atom}
use Rattle.txs_value_data.specs.declared.value.Value.{Value}
use Rattle.txs_world_protocol.specs.Ask.{same_value}
use Rattle.txs_world_protocol.specs.SeenEvent.{home}
use Rattle.txs_world_protocol.specs.declared.event.Event.{Event}
use Rattle.txs_world_protocol.specs.declared.event.Outcome.{Outcome}
use Rattle.txs_world_protocol.specs.declared.event.Outcome.TheVariants.{Done, Failed, StepsSpent, JournalFull, Memory}
use Rattle.txs_world_book.specs.Atom.{atom_after}
use Rattle.txs_world_book.specs.Book.{actors, mail_after, makes, newest, opening}
use Rattle.txs_world_book.specs.Served.{cells_of}
use Rattle.txs_world_book.specs.declared.cell.StoreCell.{StoreCell}
use Rattle.txs_tree_meaning.specs.Tree.{PlainProgram}
use Rattle.txs_theorem_audit.specs.Audited.{PlainActorReport, PlainReport, PlainTerms, books_of, entry_of, Differs, Finding, Fine, Off, Short, check}
use Rattle.txs_theorem_audit.specs.Pieces.{Piece, piece_finding, pieces_of}
use Rattle.txs_theorem_audit.specs.Verdict.{atoms_from, book_found, ends_found, fits_sizes, has_failed, has_values, index_if, is_legal_kind, is_legal_swap, is_value, length_if, order_found, same_failure, traces_found, verdict}
use Rattle.txs_audit_difference.specs.Pieces.{at_event, piece_what}
use Rattle.txs_audit_event.specs.Transactions.{or_else}
use Rattle.txs_audit_difference.specs.declared.told.Told.{Told}
use Rattle.txs_audit_difference.specs.declared.told.Told.TheVariants as told
use Rattle.txs_audit_difference.specs.declared.told.Difference.{Difference}
use Rattle.txs_audit_event.specs.declared.what.What.{What}
use Rattle.txs_audit_event.specs.declared.what.What.TheVariants as what

-- ---- the first that isn't fine

-- what some tests tell, and others behind them
abbrev pub first : Told → Told → Told
first told.Clear u = u
first told.Open u = told.Open
first (told.So d) u = told.So d

-- what a test tells that finds this, where this says what is off there
abbrev pub tells : (ℕ → ℕ → Difference) → Finding → Told
tells d Fine = told.Clear
tells d (Off a i) = told.So (d a i)
tells d (Short a i) = told.Open

-- what differs, if something does
abbrev pub difference_in : Told → Option Difference
difference_in told.Clear = None
difference_in told.Open = None
difference_in (told.So d) = Some d

-- ---- books

-- the index of the first event of a book that may not stand there: a book is told to be off at it where an event's own index is asked for
abbrev pub event_in : Finding → ℕ
event_in Fine = 0
event_in (Off a i) = i
event_in (Short a i) = i

abbrev pub illegal_at : (List Event → Event → Bool) → List Event → ℕ
illegal_at test book = event_in (book_found test (λ a k. k) [] book)

-- the book with this number, gone through by this test
abbrev pub book_told : (List Event → Event → Bool) → (ℕ → ℕ → ℕ) → ℕ → List Event → Told
book_told test index b book = tells (at_event (what.Illegal b (illegal_at test book))) (book_found test index [] book)

-- a cell that should have this value and has that one, if they differ
abbrev pub cell_what : CellId → Value → Value → Option What
cell_what c v w = if same_value v w then None else Some (what.Cell c v w)

-- the first of the store's cells that hasn't its newest value, from the n-th on
abbrev pub value_what : List CellDefinition → PlainReport → ℕ → List CellDefinition → List Value → Option What
value_what all r n [] vs = None
value_what all r n (d ∷ ds) [] = None
value_what all r n (d ∷ ds) (v ∷ vs) =
    if same_kind d.kind Atom then value_what all r (suc n) ds vs
    else or_else (cell_what (record { kind = d.kind; number = n }) (newest (opening (cells_of all)) r.book n) v) (value_what all r (suc n) ds vs)

-- the first agent that hasn't failed so
abbrev pub failed_what : List StoreCell → List Event → List CellId → List (Option Fault) → Option What
failed_what cells book [] fs = None
failed_what cells book (g ∷ gs) [] = None
failed_what cells book (g ∷ gs) (f ∷ fs) =
    if same_failure (mail_after cells book g.number).fault f then failed_what cells book gs fs else Some (what.Failure g (mail_after cells book g.number).fault f)

-- what there is, else nothing finer
abbrev pub or_event : Option What → What
or_event None = what.Event None
or_event (Some w) = w

-- what the store's book leaves
abbrev pub left_what : PlainProgram → PlainReport → What
left_what p r = or_event (or_else (value_what p.cells r 0 p.cells r.cells) (failed_what (cells_of p.cells) r.book (agents_from 0 p.cells) r.failed))

-- the store's book, and then what it leaves
abbrev pub store_told : PlainProgram → PlainReport → Told
store_told p r =
    first
    (book_told (λ done e. makes (cells_of p.cells) (length p.threads) e.actor e.kind && is_legal_kind (cells_of p.cells) done e.actor e.kind) (λ a k. index_if 0 k (entry_of r a)) 0 r.book)
    (tells (at_event (left_what p r)) (check (has_values p.cells r 0 p.cells r.cells && has_failed (cells_of p.cells) r.book (agents_from 0 p.cells) r.failed) 0 (length_if (entry_of r 0))))

-- what an atom's book leaves, against the value that the report says, if it says one
abbrev pub atom_what : CellId → Value → Option Value → What
atom_what c v None = what.Event None
atom_what c v (Some w) = what.Cell c v w

-- the value that an atom's book leaves
abbrev pub atom_leaves : PlainProgram → PlainReport → CellId → Value
atom_leaves p r c = atom_after (opening (cells_of p.cells) c.number) (books_of r (home p.cells c)) (length (books_of r (home p.cells c)))

-- an atom's book, and then what it leaves
abbrev pub atom_told : PlainProgram → PlainReport → CellId → Told
atom_told p r c =
    first
    (book_told (λ done e. nat_lt e.actor (actors (length p.threads) (cells_of p.cells)) && is_legal_swap c done e.actor e.kind) (λ a k. index_if (home p.cells c) k (entry_of r a)) (home p.cells c) (books_of r (home p.cells c)))
    (tells (at_event (atom_what c (atom_leaves p r c) (nth r.cells c.number))) (check (is_value (atom_leaves p r c) (nth r.cells c.number)) 0 (length_if (entry_of r 0))))

-- the books of these atoms
abbrev pub atoms_told : PlainProgram → PlainReport → List CellId → Told
atoms_told p r [] = told.Clear
atoms_told p r (c ∷ cs) = first (atom_told p r c) (atoms_told p r cs)

-- ---- ends

-- what is wrong of the end of an actor that ended so and made so many steps: a stop for steps that isn't true, or that it hasn't ended
abbrev pub stopped_what : PlainTerms → Option Outcome → ℕ → What
stopped_what w None steps = what.Left
stopped_what w (Some Done) steps = what.Left
stopped_what w (Some (Failed f)) steps = what.Left
stopped_what w (Some StepsSpent) steps = what.Steps w.limit steps
stopped_what w (Some JournalFull) steps = what.Left
stopped_what w (Some Memory) steps = what.Left

abbrev pub stopped_what_in : PlainTerms → Option PlainActorReport → What
stopped_what_in w None = what.Left
stopped_what_in w (Some ran) = stopped_what w ran.outcome ran.steps

-- ---- all

-- what the tests of these pieces tell
abbrev pub pieces_told : PlainProgram → PlainReport → ℕ → List Piece → Told
pieces_told p r n [] = told.Clear
pieces_told p r n (x ∷ xs) = first (tells (piece_what p r n x) (piece_finding p r n x)) (pieces_told p r n xs)

-- what the tests of the books tell
abbrev pub books_told : PlainProgram → PlainReport → Told
books_told p r = first (store_told p r) (atoms_told p r (atoms_from 0 p.cells))

-- what the tests tell behind those of how actors ended
abbrev pub order_told : PlainProgram → PlainReport → ℕ → Told
order_told p r n = first (tells (at_event what.Order) (order_found p r)) (pieces_told p r n (pieces_of r))

-- what the tests behind the books tell
abbrev pub actors_told : PlainProgram → PlainTerms → PlainReport → ℕ → Told
actors_told p w r n = first (tells (λ a i. at_event (stopped_what_in w (entry_of r a)) a i) (ends_found p w r)) (order_told p r n)

-- what the tests tell, in their order
abbrev pub all_told : PlainProgram → PlainTerms → PlainReport → ℕ → Told
all_told p w r n =
    first (tells (at_event what.Sizes) (check (fits_sizes p r) 0 0))
    (first (tells (at_event what.Trace) (traces_found (books_of r) (suc (length r.atom_books)) 0 (r.threads ++ r.agents)))
    (first (books_told p r) (actors_told p w r n)))

-- What differs between a report of a run that was to do this and the program's text, where each loop makes at most n turns; none where an audit doesn't differ.
abbrev pub difference_of : PlainProgram → PlainTerms → PlainReport → ℕ → Option Difference
difference_of p w r n = difference_in (all_told p w r n)

-- ---- law

-- the place of a difference, if there is one
abbrev pub place_of : Option Difference → Option (ℕ × ℕ)
place_of None = None
place_of (Some d) = Some (d.actor, d.event)

-- A difference is told exactly where an audit differs, and of the place that the audit names.
abbrev pub ToldWhereItDiffers : Type 0
ToldWhereItDiffers = (p : PlainProgram) (w : PlainTerms) (r : PlainReport) (n a i : ℕ) → (verdict p w r n ≡ Differs a i) ↔ (place_of (difference_of p w r n) ≡ Some (a, i))
