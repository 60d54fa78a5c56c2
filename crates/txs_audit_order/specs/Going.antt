-- Taking events, by the lengths of books and their rows of links.
use Rattle.std.specs.Prelude.{◌≡◌, ◌<◌, ◌+◌, ◌-◌, ℕ, zero, suc, Bool, true, not, ◌&&◌, ◌==◌, nat_lt, List, [], ◌∷◌, length, take, replicate, Option, Some, None, MatchOption, if◌then◌else◌}
use Rattle.std.proofs.Common.{get_or}
use Rattle.std.specs.List.Sorted.{IsNonDecreasingBy}
use Rattle.txs_theorem_runs.specs.Told.{Place}
use Rattle.txs_theorem_serial.specs.Taken.{is_taken, taken_of, with_next}
use Rattle.txs_audit_order.specs.declared.links.Before.{Before}

-- what came before
abbrev pub earlier_of : Before → Place
earlier_of x = record { book = x.book; at = x.earlier }

-- whether a link stands in the way of the event at this index: what came before it isn't taken
abbrev pub stands_in : List ℕ → ℕ → Before → Bool
stands_in cut k x = x.at == k && not (is_taken cut (earlier_of x))

-- whether no link stands in the way of the event at this index
abbrev pub free_in : List Before → List ℕ → ℕ → Bool
free_in [] cut k = true
free_in (x ∷ xs) cut k = not (stands_in cut k x) && free_in xs cut k

-- whether all is taken that came before, by these links
abbrev pub are_taken : List ℕ → List Before → Bool
are_taken cut [] = true
are_taken cut (x ∷ xs) = is_taken cut (earlier_of x) && are_taken cut xs

-- whether a book's next event may be taken
abbrev pub may_go : List ℕ → List (List Before) → List ℕ → ℕ → Bool
may_go lengths rows cut b = nat_lt (taken_of cut b) (get_or lengths b 0) && free_in (get_or rows b []) cut (taken_of cut b)

-- the first of so many books, from this one on, whose next event may be taken
abbrev pub first_to_go : List ℕ → List (List Before) → List ℕ → ℕ → ℕ → Option ℕ
first_to_go lengths rows cut b zero = None
first_to_go lengths rows cut b (suc n) = if may_go lengths rows cut b then Some b else first_to_go lengths rows cut (suc b) n

-- a cut that is come to by taking events
pub data IsGone (lengths : List ℕ) (rows : List (List Before)) : List ℕ → Type 0 where
  none_gone : IsGone lengths rows (replicate (length lengths) 0)
  one_goes : (cut : List ℕ) (b : ℕ) → IsGone lengths rows cut → b < length lengths → may_go lengths rows cut b ≡ true → IsGone lengths rows (with_next cut b)

-- there is a row of each book, in order of the later events
pub record AreReady (lengths : List ℕ) (rows : List (List Before)) : Type 0 where
  pub many : length rows ≡ length lengths
  pub ascends : (b : ℕ) → IsNonDecreasingBy (λ (x : Before). x.at) (get_or rows b [])

-- so many events of each book are taken, and so many links of each row are passed, of which all is taken that came before
pub record IsTaking (lengths : List ℕ) (rows : List (List Before)) (cut passed : List ℕ) : Type 0 where
  pub gone : IsGone lengths rows cut
  pub many : length passed ≡ length lengths
  pub past : (b : ℕ) → are_taken cut (take (get_or passed b 0) (get_or rows b [])) ≡ true

-- of a row so many links are passed, and there is one that stands in the way of an event, or none
pub record IsPassed (row : List Before) (cut : List ℕ) (k passed : ℕ) (o : Option Before) : Type 0 where
  pub past : are_taken cut (take passed row) ≡ true
  pub free : MatchOption o (free_in row cut k ≡ true) (λ x. Unit {0})

-- no more events may be taken
pub record IsLast (lengths : List ℕ) (rows : List (List Before)) (cut : List ℕ) : Type 0 where
  pub gone : IsGone lengths rows cut
  pub last : first_to_go lengths rows cut 0 (length lengths) ≡ None

-- how many events are left
abbrev pub left_in : List ℕ → List ℕ → ℕ
left_in [] cut = 0
left_in (n ∷ ns) [] = n + left_in ns []
left_in (n ∷ ns) (k ∷ ks) = (n - k) + left_in ns ks
