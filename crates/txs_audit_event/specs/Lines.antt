-- The first line in which two texts differ, and how an actor ended.
use Rattle.std.specs.Prelude.{◌≡◌, ℕ, suc, Bool, true, false, ◌==◌, ◌&&◌, List, [], ◌∷◌, ◌++◌, length, Option, Some, None, if◌then◌else◌}
use Rattle.txs_value_data.specs.Places.{nth}
use Rattle.txs_world_book.specs.Book.{is_empty}
use Rattle.txs_world_protocol.specs.declared.event.Event.{Event}
use Rattle.txs_world_protocol.specs.declared.event.Outcome.{Outcome}
use Rattle.txs_world_protocol.specs.declared.event.Outcome.TheVariants.{Done, Failed}
use Rattle.txs_value_data.specs.declared.value.Value.{Value}
use Rattle.txs_tree_meaning.specs.Meaning.{Completion, Completes, Recurs, Faults, Retries, Waits, OutOfTurns, Invalid}
use Rattle.txs_tree_meaning.specs.Thread.{ThreadState}
use Rattle.txs_theorem_audit.specs.Audited.{PlainActorReport}
use Rattle.txs_theorem_audit.specs.Verdict.{begins, is_full_book, is_full_stop, is_stopped}
use Rattle.txs_theorem_audit.specs.Evaluated.{same_end}
use Rattle.txs_audit_event.specs.declared.what.What.{What}
use Rattle.txs_audit_event.specs.declared.what.What.TheVariants as what

-- the bytes before the first end of a line
abbrev pub line_of : List ℕ → List ℕ
line_of [] = []
line_of (x ∷ xs) = if x == 10 then [] else x ∷ line_of xs

-- a line that begins so and goes on with the first of these; none where there is nothing of it
abbrev pub line_from : List ℕ → List ℕ → Option (List ℕ)
line_from front rest = if is_empty front && is_empty rest then None else Some (front ++ line_of rest)

-- The first line in which these texts differ, where both have n lines and the beginning of another one before them.
abbrev pub line_what : ℕ → List ℕ → List ℕ → List ℕ → What
line_what n front (x ∷ xs) (y ∷ ys) =
    if x == y
    then (if x == 10 then line_what (suc n) [] xs ys else line_what n (front ++ x ∷ []) xs ys)
    else what.Line n (line_from front (x ∷ xs)) (line_from front (y ∷ ys))
line_what n front [] ys = what.Line n (line_from front []) (line_from front ys)
line_what n front (x ∷ xs) [] = what.Line n (line_from front (x ∷ xs)) (line_from front [])

-- whether there is a byte, and it is this one
abbrev pub is_byte : ℕ → Option ℕ → Bool
is_byte b None = false
is_byte b (Some x) = b == x

-- whether a text has this byte at this index
abbrev pub is_byte_at : List ℕ → ℕ → ℕ → Bool
is_byte_at xs i b = is_byte b (nth xs i)

-- With n lines and the beginning of another one before it this byte of both texts is passed: with as many lines and this beginning behind it the first line in which they
-- differ is the same.
abbrev pub HasPassed : ℕ → List ℕ → ℕ → ℕ → List ℕ → Type 0
HasPassed n front b m next = (xs ys : List ℕ) → line_what m next xs ys ≡ line_what n front (b ∷ xs) (b ∷ ys)

-- the first line that is printed otherwise than the text gives it
abbrev pub printed_what : List ℕ → List ℕ → What
printed_what expected found = line_what 0 [] expected found

-- how a meaning ends by itself, if it does
abbrev pub outcome_of : Completion ThreadState Value → Option Outcome
outcome_of (Completes v t) = Some Done
outcome_of (Recurs vs t) = None
outcome_of (Faults f t) = Some (Failed f)
outcome_of (Retries t) = None
outcome_of (Waits t) = None
outcome_of (OutOfTurns t) = None
outcome_of Invalid = None

-- What differs of what was printed, where the text prints this whole and at least that part: more than the whole, or less than the part.
abbrev pub part_what : List ℕ → List ℕ → List ℕ → What
part_what whole least out = if begins out whole then printed_what least out else printed_what whole out

-- how many events a book has, if there is one
abbrev pub events_in : (ℕ → List Event) → Option ℕ → ℕ
events_in books None = 0
events_in books (Some b) = length (books b)

-- What differs of a stop for a full book, where the text needs an event of this book, if of any, and prints that up to there: the book isn't full, or something else was
-- printed.
abbrev pub full_what : (ℕ → List Event) → Option ℕ → List ℕ → List ℕ → What
full_what books needed whole out = if is_full_book books needed then printed_what whole out else what.NotFull needed (events_in books needed)

-- the same of a thread, which has an end where the text ends so
abbrev pub full_end : (ℕ → List Event) → Option Outcome → Option ℕ → List ℕ → PlainActorReport → What
full_end books None needed whole ran = full_what books needed whole ran.printed
full_end books (Some o) needed whole ran = what.Ended (Some o) ran.outcome

-- What differs of a thread's end, where the text ends so, prints this whole and at least that part.
abbrev pub end_what : Option Outcome → List ℕ → List ℕ → PlainActorReport → What
end_what ends whole least ran =
    if same_end ends ran.outcome then printed_what whole ran.printed
    else if is_stopped ran.outcome then part_what whole least ran.printed
    else what.Ended ends ran.outcome

-- the same of any thread, where the text needs an event of this book behind those of its trace, if of any
abbrev pub stop_what : (ℕ → List Event) → Option Outcome → Option ℕ → List ℕ → List ℕ → PlainActorReport → What
stop_what books ends needed whole least ran = if is_full_stop ran.outcome then full_end books ends needed whole ran else end_what ends whole least ran
