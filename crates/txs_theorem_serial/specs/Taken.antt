-- Whether there is such an order, found by taking events: each is taken when it is the next of its book, and all that came before it is taken. Where some are left
-- over there is none, and an event is named that comes before itself.
use Rattle.std.specs.Prelude.{◌≡◌, ◌<◌, ◌+◌, ℕ, zero, suc, Bool, true, false, not, ◌&&◌, ◌||◌, ◌==◌, nat_lt, nat_le, List, [], ◌∷◌, length, replicate, set, Option, Some, None, if◌then◌else◌}
use Rattle.std.proofs.Common.{get_or}
use Rattle.txs_value_data.specs.Places.{nth}
use Rattle.txs_world_protocol.specs.declared.event.Event.{Event}
use Rattle.txs_theorem_runs.specs.Told.{Place}
use Rattle.txs_value_data.specs.declared.value.CellId.{CellId}
use Rattle.txs_theorem_serial.specs.Order.{Link, IsOrdered, all_links}

-- A cut says how many events of each book are taken: the first of them.

-- how many of this book
abbrev pub taken_of : List ℕ → ℕ → ℕ
taken_of cut b = get_or cut b 0

-- whether an event is taken
abbrev pub is_taken : List ℕ → Place → Bool
is_taken cut p = nat_lt p.at (taken_of cut p.book)

-- whether an event is this one
abbrev pub is_place : Place → ℕ → ℕ → Bool
is_place p b k = p.book == b && p.at == k

-- whether all is taken that came before this event
abbrev pub is_free : List Link → List ℕ → ℕ → ℕ → Bool
is_free [] cut b k = true
is_free (l ∷ ls) cut b k = (not (is_place l.later b k) || is_taken cut l.earlier) && is_free ls cut b k

-- whether a book's next event may be taken
abbrev pub may_take : (ℕ → List Event) → List Link → List ℕ → ℕ → Bool
may_take books ls cut b = nat_lt (taken_of cut b) (length (books b)) && is_free ls cut b (taken_of cut b)

-- the cut with one event more of a book
abbrev pub with_next : List ℕ → ℕ → List ℕ
with_next cut b = set cut b (suc (taken_of cut b))

-- the first of so many books, from this one on, whose next event may be taken
abbrev pub first_free : (ℕ → List Event) → List Link → List ℕ → ℕ → ℕ → Option ℕ
first_free books ls cut b zero = None
first_free books ls cut b (suc n) = if may_take books ls cut b then Some b else first_free books ls cut (suc b) n

-- the cut after so many events at most are taken, of as many books as it has
abbrev pub take_next : (List ℕ → List ℕ) → List ℕ → Option ℕ → List ℕ
take_next go cut None = cut
take_next go cut (Some b) = go (with_next cut b)

abbrev pub take_some : (ℕ → List Event) → List Link → ℕ → List ℕ → List ℕ
take_some books ls zero cut = cut
take_some books ls (suc m) cut = take_next (take_some books ls m) cut (first_free books ls cut 0 (length cut))

-- how many events the first n books have
abbrev pub events_in : (ℕ → List Event) → ℕ → ℕ
events_in books zero = 0
events_in books (suc n) = events_in books n + length (books n)

-- the cut of n books behind which no event may be taken
abbrev pub last_cut : (ℕ → List Event) → List Link → ℕ → List ℕ
last_cut books ls n = take_some books ls (events_in books n) (replicate n 0)

-- ---- what is left over

-- the first of so many books, from this one on, of which an event is left
abbrev pub first_left : (ℕ → List Event) → List ℕ → ℕ → ℕ → Option ℕ
first_left books cut b zero = None
first_left books cut b (suc n) = if nat_lt (taken_of cut b) (length (books b)) then Some b else first_left books cut (suc b) n

-- the lesser of two numbers, if there is one
abbrev pub lesser : ℕ → Option ℕ → ℕ
lesser m None = m
lesser m (Some n) = if nat_le m n then m else n

-- the first book of which an event is left that came before this one
abbrev pub waits_for : List Link → List ℕ → ℕ → ℕ → Option ℕ
waits_for [] cut b k = None
waits_for (l ∷ ls) cut b k = if is_place l.later b k && not (is_taken cut l.earlier) then Some (lesser l.earlier.book (waits_for ls cut b k)) else waits_for ls cut b k

-- the number that is there, else another one
abbrev pub number_or : ℕ → Option ℕ → ℕ
number_or b None = b
number_or b (Some c) = c

-- the book behind so many steps, each from a book to the first one that its next event waits for
abbrev pub led_to : List Link → List ℕ → ℕ → ℕ → ℕ
led_to ls cut zero b = b
led_to ls cut (suc m) b = led_to ls cut m (number_or b (waits_for ls cut b (taken_of cut b)))

-- the next event of the book to which the first one leads of which an event is left, behind as many steps as there are books
abbrev pub left_event : List Link → List ℕ → Option ℕ → Option Place
left_event ls cut None = None
left_event ls cut (Some b) = let c = led_to ls cut (length cut) b in Some (record { book = c; at = taken_of cut c })

-- an event of n books that comes before itself, if there is no order of their events
abbrev pub out_of_order : (ℕ → List Event) → List Link → ℕ → Option Place
out_of_order books ls n = left_event ls (last_cut books ls n) (first_left books (last_cut books ls n) 0 n)

-- ---- laws

-- each link is between events of the first n books
abbrev pub AreWithin : (ℕ → List Event) → ℕ → List Link → Type 0
AreWithin books n ls =
    (i : ℕ) (l : Link) → nth ls i ≡ Some l
    → (l.earlier.book < n) × (l.earlier.at < length (books l.earlier.book)) × (l.later.book < n) × (l.later.at < length (books l.later.book))

-- What traces say is between events of the books, where the books behind the first n are empty.
abbrev pub LinksAreWithin : Type 0
LinksAreWithin =
    (books : ℕ → List Event) (n : ℕ) (threads : List (List Place)) (gs : List CellId) (agents : List (List Place))
    → ((b : ℕ) → nat_lt b n ≡ false → books b ≡ []) → AreWithin books n (all_links books threads gs agents)

-- Where no event is named there is an order of all events, where the books behind the first n are empty.
abbrev pub NoneIsOrdered : Type 0
NoneIsOrdered =
    (books : ℕ → List Event) (n : ℕ) (ls : List Link) → ((b : ℕ) → nat_lt b n ≡ false → books b ≡ []) → AreWithin books n ls → out_of_order books ls n ≡ None → IsOrdered books ls

-- Where one is named there is none.
abbrev pub SomeIsNotOrdered : Type 0
SomeIsNotOrdered = (books : ℕ → List Event) (n : ℕ) (ls : List Link) (p : Place) → AreWithin books n ls → out_of_order books ls n ≡ Some p → IsOrdered books ls → ⊥

-- one event comes before another by a book, or by a link, or by several of these one after the other
pub data Precedes (books : ℕ → List Event) (ls : List Link) : Place → Place → Type 0 where
  in_book : (b j k : ℕ) → j < k → k < length (books b) → Precedes books ls (record { book = b; at = j }) (record { book = b; at = k })
  by_link : (i : ℕ) (l : Link) → nth ls i ≡ Some l → Precedes books ls l.earlier l.later
  through : (p q r : Place) → Precedes books ls p q → Precedes books ls q r → Precedes books ls p r

-- The event that is named is one of the books', and comes before itself.
abbrev pub NamedOnACycle : Type 0
NamedOnACycle =
    (books : ℕ → List Event) (n : ℕ) (ls : List Link) (p : Place)
    → AreWithin books n ls → out_of_order books ls n ≡ Some p → (p.book < n) × (p.at < length (books p.book)) × Precedes books ls p p

-- a cut that is come to by taking events, one after the other, in any order
pub data IsReached (books : ℕ → List Event) (ls : List Link) (n : ℕ) : List ℕ → Type 0 where
  none_taken : IsReached books ls n (replicate n 0)
  one_more : (cut : List ℕ) (b : ℕ) → IsReached books ls n cut → b < n → may_take books ls cut b ≡ true → IsReached books ls n (with_next cut b)

-- Whoever takes events in any order comes to the same cut, where none may be taken.
abbrev pub OneLastCut : Type 0
OneLastCut =
    (books : ℕ → List Event) (n : ℕ) (ls : List Link) (cut : List ℕ) → AreWithin books n ls → IsReached books ls n cut → first_free books ls cut 0 n ≡ None → cut ≡ last_cut books ls n
