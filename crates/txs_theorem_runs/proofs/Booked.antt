-- Each event of the store's book is that of an entry which its actor was told there; so what the asks of all entries may bring is what the book has.
use Rattle.std.proofs.Common.{◌≡◌, ◌≤◌, ◌<◌, ◌+◌, ℕ, zero, suc, Bool, true, false, ◌==◌, nat_lt, List, [], ◌∷◌, ◌++◌, length, take, Option, Some, None, refl, sym, ap, ◌∙◌, subst, arith, if◌then◌else◌, ◌⊎◌, inl, inr}
use Rattle.std.proofs.lemmas.Bool.Decides.{nat_tests}
use Rattle.txs_world_protocol.specs.declared.ask.Ask.{Ask}
use Rattle.txs_world_protocol.specs.declared.event.Event.{Event}
use Rattle.txs_world_protocol.specs.declared.event.EventKind.{EventKind}
use Rattle.txs_value_data.proofs.SameLemmas.{numbers, number-itself}
use Rattle.txs_value_cell.specs.declared.cell.CellDefinition.{CellDefinition}
use Rattle.txs_value_data.specs.Places.{nth}
use Rattle.txs_world_book.specs.Book.{Each}
use Rattle.txs_world_book.specs.Served.{Served}
use Rattle.txs_theorem_runs.specs.Shared.{book_for, serve_on}
use Rattle.txs_theorem_runs.specs.Told.{Entry, before_entry, served_at, EntryHolds, AllHold, trace_of, places_in, places_by, TraceHolds}
use Rattle.txs_theorem_runs.proofs.Adding.{IsQuiet, Brings, served_such}
use Rattle.txs_theorem_runs.proofs.Serving.{serves}

-- ---- lists

abbrev pub Has : ℕ → List ℕ → Type 0
Has k [] = ⊥
Has k (j ∷ js) = (j ≡ k) ⊎ Has k js

-- an entry is one of these
abbrev pub In : Entry → List Entry → Type 0
In e [] = ⊥
In e (x ∷ xs) = (x ≡ e) ⊎ In e xs

abbrev is_some : {A : Type 0} → Option A → Type 0
is_some None = ⊥
is_some (Some x) = Unit {0}

abbrev event_or : Event → Option Event → Event
event_or d None = d
event_or d (Some e) = e

-- each place of a list has an item
pub item_at : {A : Type 0} (xs : List A) (i : ℕ) → i < length xs → (x : A) × (nth xs i ≡ Some x)
item_at [] i h = absurd (omega (arith, h))
item_at (x ∷ xs) zero h = (x, refl)
item_at (x ∷ xs) (suc i) h = item_at xs i (omega (arith, h))

-- an actor's event is among its places
by_has : (a j : ℕ) (es : List Event) (k : ℕ) (e : Event) → nth es k ≡ Some e → e.actor ≡ a → Has (j + k) (places_by a j es)
by_has a j [] k e h own = absurd (subst is_some (sym h) tt)
by_has a j (x ∷ es) zero e h own = subst (λ (b : Bool). Has (j + 0) (if b then j ∷ places_by a (suc j) es else places_by a (suc j) es)) (sym same) (inl (omega arith))
  where
    same : (x.actor == a) ≡ true
    same = ap (λ i. i == a) (ap (λ o. (event_or x o).actor) h ∙ own) ∙ number-itself a
by_has a j (x ∷ es) (suc k) e h own = go (x.actor == a) (subst (λ n. Has n (places_by a (suc j) es)) (omega arith) (by_has a (suc j) es k e h own))
  where
    go : (b : Bool) → Has (j + suc k) (places_by a (suc j) es) → Has (j + suc k) (if b then j ∷ places_by a (suc j) es else places_by a (suc j) es)
    go true later = inr later
    go false later = later

take_next : {A : Type 0} (k : ℕ) (xs : List A) → k < length xs → length (take k xs) ≡ k
take_next zero [] h = refl
take_next zero (x ∷ xs) h = refl
take_next (suc k) [] h = absurd (omega (arith, h))
take_next (suc k) (x ∷ xs) h = ap suc (take_next k xs (omega (arith, h)))

length_append : {A : Type 0} (xs ys : List A) → length (xs ++ ys) ≡ length xs + length ys
length_append [] ys = omega arith
length_append (x ∷ xs) ys = let h = length_append xs ys in omega (arith, h)

less_than : (m n : ℕ) → nat_lt m n ≡ true → m < n
less_than m n h = grind (arith, nat_tests, h)

one_more : (k m n : ℕ) → k < m → m ≡ k + n → n ≤ 1 → m ≡ suc k
one_more k m n h e f = omega (arith, h, e, f)

module _ (cells : List CellDefinition) (threads : ℕ) (books : ℕ → List Event) where
  -- an entry that added the event at this place of the store's book
  record Added (a k : ℕ) (es : List Entry) : Type 0 where
    entry : Entry
    among : In entry es
    holds : EntryHolds cells threads books a entry
    home : book_for cells entry.ask ≡ 0
    place : entry.at ≡ k
    added : nat_lt entry.at (length (served_at cells books a entry).book) ≡ true

  added_later : (a k : ℕ) (e : Entry) (es : List Entry) → Added a k es → Added a k (e ∷ es)
  added_later a k e es h = record { entry = h.entry; among = inr h.among; holds = h.holds; home = h.home; place = h.place; added = h.added }

  -- a place of a trace is that of an entry which added an event there
  added_at : (a k : ℕ) (es : List Entry) → AllHold cells threads books a es → Has k (places_in 0 (trace_of cells books a es)) → Added a k es
  added_at a k [] hold h = absurd h
  added_at a k (e ∷ es) hold h = go (nat_lt e.at (length (served_at cells books a e).book)) refl (added_at a k es hold.1) h
    where
      here : (t : Bool) → (book_for cells e.ask == 0) ≡ t → nat_lt e.at (length (served_at cells books a e).book) ≡ true → (Has k (places_in 0 (trace_of cells books a es)) → Added a k es)
          → Has k (if t then e.at ∷ places_in 0 (trace_of cells books a es) else places_in 0 (trace_of cells books a es)) → Added a k (e ∷ es)
      here true b lt later (inl i) = record { entry = e; among = inl refl; holds = hold.0; home = numbers (book_for cells e.ask) 0 b; place = i; added = lt }
      here true b lt later (inr i) = added_later a k e es (later i)
      here false b lt later i = added_later a k e es (later i)

      go : (t : Bool) → nat_lt e.at (length (served_at cells books a e).book) ≡ t → (Has k (places_in 0 (trace_of cells books a es)) → Added a k es)
          → Has k (places_in 0 (if t then record { book = book_for cells e.ask; at = e.at } ∷ trace_of cells books a es else trace_of cells books a es)) → Added a k (e ∷ es)
      go true lt later i = here (book_for cells e.ask == 0) refl lt later i
      go false lt later i = added_later a k e es (later i)

  -- the event at a place was added by an entry of its actor
  event_added : (a : ℕ) (es : List Entry) → AllHold cells threads books a es → TraceHolds books a (trace_of cells books a es) → (k : ℕ) (e : Event) → nth (books 0) k ≡ Some e → e.actor ≡ a → Added a k es
  event_added a es hold traced k e h own = added_at a k es hold (subst (Has k) (sym (traced 0)) (subst (λ n. Has n (places_by a 0 (books 0))) (omega arith) (by_has a 0 (books 0) k e h own)))

  module _ (told : ℕ → List Entry) (hold : (a : ℕ) → AllHold cells threads books a (told a)) (traced : (a : ℕ) → TraceHolds books a (trace_of cells books a (told a)))
      (Q : List Event → EventKind → Type 0) (quiet : (done : List Event) (kind : EventKind) → IsQuiet kind → Q done kind)
      (brings : (a : ℕ) (e : Entry) → In e (told a) → EntryHolds cells threads books a e → Brings Q (before_entry cells books e) e.ask) where
    abbrev All : List Event → Type 0
    All es = Each (λ done e. Q done e.kind) [] es

    grows : (k : ℕ) (e : Event) → nth (books 0) k ≡ Some e → k < length (books 0) → All (take k (books 0)) → All (take (suc k) (books 0))
    grows k e h lt all =
        subst All (sym stands ∙ ap (λ n. take n (books 0)) long)
        (served_such Q quiet cells a book all q bring)
      where
        a : ℕ
        a = e.actor

        book : List Event
        book = take k (books 0)

        x : Added a k (told a)
        x = event_added a (told a) (hold a) (traced a) k e h refl

        q : Ask
        q = x.entry.ask

        v : Served
        v = serve_on cells a q book

        before : before_entry cells books x.entry ≡ book
        before = ap (λ n. take x.entry.at (books n)) x.home ∙ ap (λ n. take n (books 0)) x.place

        bring : Brings Q book q
        bring = subst (λ l. Brings Q l q) before (brings a x.entry x.among x.holds)

        long : length v.book ≡ suc k
        long =
            let s = serves a book cells q in
            let more = less_than x.entry.at (length v.book) (subst (λ l. nat_lt x.entry.at (length (serve_on cells a q l).book) ≡ true) before x.added) in
            one_more k (length v.book) (length s.more) (subst (λ n. n < length v.book) x.place more)
            (ap length s.grown ∙ length_append book s.more ∙ ap (λ n. n + length s.more) (take_next k (books 0) lt)) s.few

        stands : take (length v.book) (books 0) ≡ v.book
        stands = subst (λ n. take (length v.book) (books n) ≡ v.book) x.home (subst (λ l. take (length (serve_on cells a q l).book) (books (book_for cells q)) ≡ (serve_on cells a q l).book) before x.holds.stands)

    -- of the events before a place, wherever it is within the book
    pub all_before : (k : ℕ) → k ≤ length (books 0) → All (take k (books 0))
    all_before zero le = nothing (books 0)
      where
        nothing : (xs : List Event) → All (take 0 xs)
        nothing [] = tt
        nothing (x ∷ xs) = tt
    all_before (suc k) le =
        let lt : k < length (books 0) = omega (arith, le) in
        let e = item_at (books 0) k lt in
        grows k e.0 e.1 lt (all_before k (omega (arith, le)))
