-- What is left when no more events may be taken, and what it waits for.
use Rattle.std.specs.Prelude.{◌≡◌, ◌≤◌, ℕ, zero, suc, Bool, true, false, nat_le, nat_lt, List, [], length, Option, Some, None, if◌then◌else◌}
use Rattle.std.proofs.Common.{get_or}
use Rattle.std.specs.List.{All, Contains}
use Rattle.txs_world_protocol.specs.declared.event.Place as event
use Rattle.txs_theorem_serial.specs.Taken.{taken_of}
use Rattle.txs_audit_order.specs.declared.links.Before.{Before}
use Rattle.txs_audit_order.specs.declared.left.Wait.{Wait}
use Rattle.txs_audit_order.specs.Going.{stands_in, IsLast}

-- a link stands in the way of the event at this index, by the first book that one waits for
pub record Waits (row : List Before) (cut : List ℕ) (k : ℕ) (w : Wait) : Type 0 where
  pub at : w.at ≡ k
  pub there : (x : Before) × Contains row x × (stands_in cut k x ≡ true) × (x.book ≡ w.first)
  pub least : All (λ (x : Before). stands_in cut k x ≡ true → w.first ≤ x.book) row

-- what the event at this index waits for, if for anything
abbrev pub IsWait : List Before → List ℕ → ℕ → Option Wait → Type 0
IsWait row cut k None = All (λ (x : Before). stands_in cut k x ≡ false) row
IsWait row cut k (Some w) = Waits row cut k w

-- what the next event of each book waits for
pub record AreWaits (rows : List (List Before)) (cut : List ℕ) (waits : List (Option Wait)) : Type 0 where
  pub many : length waits ≡ length rows
  pub each : (b : ℕ) → IsWait (get_or rows b []) cut (taken_of cut b) (get_or waits b None)

-- the first of so many books, from this one on, of which an event is left
abbrev pub left_from : List ℕ → List ℕ → ℕ → ℕ → Option ℕ
left_from lengths cut b zero = None
left_from lengths cut b (suc n) = if nat_lt (taken_of cut b) (get_or lengths b 0) then Some b else left_from lengths cut (suc b) n

-- the book to which one leads, by what it waits for
abbrev pub led_by : ℕ → Option Wait → ℕ
led_by b None = b
led_by b (Some w) = w.first

-- the same behind so many steps
abbrev pub led_in : List (Option Wait) → ℕ → ℕ → ℕ
led_in waits zero b = b
led_in waits (suc m) b = led_in waits m (led_by b (get_or waits b None))

-- where each of these books waits for one of these, from this one on it never ends
abbrev pub IsOn : (ℕ → Bool) → Option Wait → Type 0
IsOn left None = ⊥
IsOn left (Some w) = left w.first ≡ true

abbrev pub NeverEnds : List (Option Wait) → (ℕ → Bool) → Type 0
NeverEnds waits left = (b : ℕ) → left b ≡ true → IsOn left (get_or waits b None)

-- the event to which a book leads, behind as many steps as there are books; none where it ends before
abbrev pub IsLed : List (Option Wait) → ℕ → Option event.Place → Type 0
IsLed waits b None = (left : ℕ → Bool) → NeverEnds waits left → left b ≡ false
IsLed waits b (Some p) = (p.book ≡ led_in waits (length waits) b) × ((w : Wait) × (get_or waits p.book None ≡ Some w) × (p.at ≡ w.at))

-- what is named where so many events of each book are taken
abbrev pub IsLeft : List (List Before) → List ℕ → Option ℕ → Option event.Place → Type 0
IsLeft rows cut None o = o ≡ None
IsLeft rows cut (Some b) o = (waits : List (Option Wait)) × AreWaits rows cut waits × IsLed waits b o

-- what is named where no more may be taken
abbrev pub IsNamed : List ℕ → List (List Before) → Option event.Place → Type 0
IsNamed lengths rows o = (cut : List ℕ) × IsLast lengths rows cut × IsLeft rows cut (left_from lengths cut 0 (length lengths)) o

-- what waits for the lesser book, where a link stands in the way of the event at this index
abbrev pub nearest : Before → Option Wait → Option Wait
nearest x None = Some (record { at = x.at; first = x.book })
nearest x (Some w) = if nat_le w.first x.book then Some w else Some (record { at = x.at; first = x.book })

abbrev pub IsNearer : List ℕ → ℕ → Option Wait → Before → Option Wait → Type 0
IsNearer cut k o x now = now ≡ (if stands_in cut k x then nearest x o else o)
