-- Where events are left over, one of them comes before itself.
use Rattle.std.proofs.Common.{◌≡◌, ◌<◌, ◌≤◌, ◌==◌, ◌&&◌, ◌||◌, not, nat_lt, nat_le, ℕ, zero, suc, Bool, true, false, List, [], ◌∷◌, length, Option, Some, None, if◌then◌else◌, refl, sym, ap, subst, ◌∙◌, arith}
use Rattle.std.proofs.lemmas.Bool.Decides.{nat_tests}
use Rattle.std.proofs.lemmas.Bool.{false≢true, true≢false}
use Rattle.std.proofs.lemmas.Option.{none-some, same_Some}
use Rattle.txs_tree_meaning.proofs.Callable.{both}
use Rattle.txs_value_data.specs.Places.{nth}
use Rattle.txs_world_protocol.specs.declared.event.Event.{Event}
use Rattle.txs_theorem_runs.specs.Told.{Place}
use Rattle.txs_theorem_serial.specs.Order.{Link, IsOrdered}
use Rattle.txs_theorem_serial.specs.Taken.{taken_of, is_taken, is_place, is_free, first_left, last_cut, lesser, waits_for, number_or, led_to, left_event, AreWithin, Precedes, in_book, by_link, through, SomeIsNotOrdered, NamedOnACycle}
use Rattle.txs_theorem_serial.proofs.Cuts.{untaken_least, first_is, has_left, left_first, IsStuck}
use Rattle.txs_theorem_serial.proofs.Reached.{reached_length, last_reached, last_stuck}
use Rattle.txs_theorem_serial.proofs.Rounds.{goes, comes_round}

-- ---- what an event waits for

-- an event of this book isn't taken, and came before this event
record Waits (ls : List Link) (cut : List ℕ) (b k d : ℕ) : Type 0 where
  index : ℕ
  link : Link
  there : nth ls index ≡ Some link
  book : link.later.book ≡ b
  at : link.later.at ≡ k
  untaken : is_taken cut link.earlier ≡ false
  first : link.earlier.book ≡ d

place_is : (p : Place) (b k : ℕ) → is_place p b k ≡ true → (p.book ≡ b) × (p.at ≡ k)
place_is p b k is =
    let parts = both (p.book == b) (p.at == k) is in
    let one = parts.0 in
    let two = parts.1 in
    (grind (arith, nat_tests, one), grind (arith, nat_tests, two))

not_so : (a : Bool) → not a ≡ true → a ≡ false
not_so true is = absurd (false≢true is)
not_so false is = refl

waits_here : (l : Link) (ls : List Link) (cut : List ℕ) (b k d : ℕ) → (is_place l.later b k && not (is_taken cut l.earlier)) ≡ true → l.earlier.book ≡ d → Waits (l ∷ ls) cut b k d
waits_here l ls cut b k d is first =
    let parts = both (is_place l.later b k) (not (is_taken cut l.earlier)) is in
    let place = place_is l.later b k parts.0 in
    record { index = 0; link = l; there = refl; book = place.0; at = place.1; untaken = not_so (is_taken cut l.earlier) parts.1; first = first }

waits_behind : (l : Link) (ls : List Link) (cut : List ℕ) (b k d : ℕ) → Waits ls cut b k d → Waits (l ∷ ls) cut b k d
waits_behind l ls cut b k d w = record { index = suc w.index; link = w.link; there = w.there; book = w.book; at = w.at; untaken = w.untaken; first = w.first }

lesser_case : (l : Link) (ls : List Link) (cut : List ℕ) (b k d c : ℕ) → (is_place l.later b k && not (is_taken cut l.earlier)) ≡ true → Waits ls cut b k c
    → (t : Bool) → (if t then l.earlier.book else c) ≡ d → Waits (l ∷ ls) cut b k d
lesser_case l ls cut b k d c is rest true same = waits_here l ls cut b k d is same
lesser_case l ls cut b k d c is rest false same = waits_behind l ls cut b k d (subst (λ (e : ℕ). Waits ls cut b k e) same rest)

first_case : (l : Link) (ls : List Link) (cut : List ℕ) (b k d : ℕ) → (is_place l.later b k && not (is_taken cut l.earlier)) ≡ true → (o : Option ℕ) → ((c : ℕ) → o ≡ Some c → Waits ls cut b k c)
    → lesser l.earlier.book o ≡ d → Waits (l ∷ ls) cut b k d
first_case l ls cut b k d is None rest same = waits_here l ls cut b k d is same
first_case l ls cut b k d is (Some c) rest same = lesser_case l ls cut b k d c is (rest c refl) (nat_le l.earlier.book c) same

is_case : (l : Link) (ls : List Link) (cut : List ℕ) (b k d : ℕ) → ((c : ℕ) → waits_for ls cut b k ≡ Some c → Waits ls cut b k c) → (t : Bool) → (is_place l.later b k && not (is_taken cut l.earlier)) ≡ t
    → (if t then Some (lesser l.earlier.book (waits_for ls cut b k)) else waits_for ls cut b k) ≡ Some d → Waits (l ∷ ls) cut b k d
is_case l ls cut b k d rest true is e = first_case l ls cut b k d is (waits_for ls cut b k) rest (same_Some (lesser l.earlier.book (waits_for ls cut b k)) d e)
is_case l ls cut b k d rest false is e = waits_behind l ls cut b k d (rest d e)

waits_is : (ls : List Link) (cut : List ℕ) (b k d : ℕ) → waits_for ls cut b k ≡ Some d → Waits ls cut b k d
waits_is [] cut b k d e = absurd (none-some d e)
waits_is (l ∷ ls) cut b k d e = is_case l ls cut b k d (waits_is ls cut b k) (is_place l.later b k && not (is_taken cut l.earlier)) refl e

rest_unfree : (x y f : Bool) → (x && not y) ≡ false → ((not x || y) && f) ≡ false → f ≡ false
rest_unfree true true f no_hit is = is
rest_unfree true false f no_hit is = absurd (true≢false no_hit)
rest_unfree false y f no_hit is = is

some_case : (l : Link) (ls : List Link) (cut : List ℕ) (b k : ℕ) → is_free (l ∷ ls) cut b k ≡ false → (is_free ls cut b k ≡ false → (d : ℕ) × (waits_for ls cut b k ≡ Some d))
    → (t : Bool) → (is_place l.later b k && not (is_taken cut l.earlier)) ≡ t → (d : ℕ) × (waits_for (l ∷ ls) cut b k ≡ Some d)
some_case l ls cut b k unfree rest true is = (lesser l.earlier.book (waits_for ls cut b k), ap (λ t. if t then Some (lesser l.earlier.book (waits_for ls cut b k)) else waits_for ls cut b k) is)
some_case l ls cut b k unfree rest false is =
    let r = rest (rest_unfree (is_place l.later b k) (is_taken cut l.earlier) (is_free ls cut b k) is unfree) in
    (r.0, ap (λ t. if t then Some (lesser l.earlier.book (waits_for ls cut b k)) else waits_for ls cut b k) is ∙ r.1)

-- an event that may not be taken waits for one
waits_some : (ls : List Link) (cut : List ℕ) (b k : ℕ) → is_free ls cut b k ≡ false → (d : ℕ) × (waits_for ls cut b k ≡ Some d)
waits_some [] cut b k unfree = absurd (true≢false unfree)
waits_some (l ∷ ls) cut b k unfree = some_case l ls cut b k unfree (waits_some ls cut b k) (is_place l.later b k && not (is_taken cut l.earlier)) refl

-- ---- from one book to the next

second_false : (a b : Bool) → a ≡ true → (a && b) ≡ false → b ≡ false
second_false true b is h = h
second_false false b is h = absurd (false≢true is)

module _ (books : ℕ → List Event) (ls : List Link) (n : ℕ) (within : AreWithin books n ls) (cut : List ℕ) (stuck : IsStuck books ls n cut) where
  -- the next event of a book
  abbrev head : ℕ → Place
  head c = record { book = c; at = taken_of cut c }

  -- one of the first n books has a next event
  abbrev IsLeft : ℕ → Type 0
  IsLeft c = (c < n) × (taken_of cut c < length (books c))

  abbrev step : ℕ → ℕ
  step c = number_or c (waits_for ls cut c (taken_of cut c))

  -- this book has a next event, which came before that one
  abbrev LeftBefore : ℕ → ℕ → Type 0
  LeftBefore d c = IsLeft d × Precedes books ls (head d) (head c)

  up_to : (p q : Place) → taken_of cut p.book ≤ p.at → p.at < length (books p.book) → Precedes books ls p q → (t : Bool) → nat_lt (taken_of cut p.book) p.at ≡ t → Precedes books ls (head p.book) q
  up_to p q le there link true is = through (head p.book) p q (in_book p.book (taken_of cut p.book) p.at (grind (arith, nat_tests, is)) there) link
  up_to p q le there link false is =
      let same : p.at ≡ taken_of cut p.book = grind (arith, nat_tests, is, le) in
      subst (λ (k : ℕ). Precedes books ls (record { book = p.book; at = k }) q) same link

  by_wait : (c d : ℕ) → Waits ls cut c (taken_of cut c) d → LeftBefore d c
  by_wait c d w =
      let l = w.link in
      let bounds = within w.index l w.there in
      let there = bounds.1 in
      let least = untaken_least cut l.earlier w.untaken in
      let link : Precedes books ls l.earlier l.later = by_link w.index l w.there in
      let moved : Precedes books ls l.earlier (record { book = c; at = l.later.at }) = subst (λ (e : ℕ). Precedes books ls l.earlier (record { book = e; at = l.later.at })) w.book link in
      let before : Precedes books ls l.earlier (head c) = subst (λ (k : ℕ). Precedes books ls l.earlier (record { book = c; at = k })) w.at moved in
      let left : IsLeft l.earlier.book = (bounds.0, omega (arith, there, least)) in
      subst (λ (e : ℕ). LeftBefore e c) w.first (left, up_to l.earlier (head c) least there before (nat_lt (taken_of cut l.earlier.book) l.earlier.at) refl)

  step_left : (c : ℕ) → IsLeft c → LeftBefore (step c) c
  step_left c left =
      let some = left.1 in
      let more : nat_lt (taken_of cut c) (length (books c)) ≡ true = grind (arith, nat_tests, some) in
      let w = waits_some ls cut c (taken_of cut c) (second_false (nat_lt (taken_of cut c) (length (books c))) (is_free ls cut c (taken_of cut c)) more (stuck c left.0)) in
      let leads : step c ≡ w.0 = ap (number_or c) w.1 in
      subst (λ (d : ℕ). LeftBefore d c) (sym leads) (by_wait c w.0 (waits_is ls cut c (taken_of cut c) w.0 w.1))

  goes_left : (m c : ℕ) → IsLeft c → IsLeft (goes step m c)
  goes_left zero c left = left
  goes_left (suc m) c left = goes_left m (step c) (step_left c left).0

  goes_before : (m c : ℕ) → IsLeft c → Precedes books ls (head (goes step (suc m) c)) (head c)
  goes_before zero c left = (step_left c left).1
  goes_before (suc m) c left =
      let next = step_left c left in
      through (head (goes step (suc m) (step c))) (head (step c)) (head c) (goes_before m (step c) next.0) next.1

  led_goes : (m c : ℕ) → led_to ls cut m c ≡ goes step m c
  led_goes zero c = refl
  led_goes (suc m) c = led_goes m (step c)

  -- an event of the first n books that comes before itself
  abbrev OnCycle : Place → Type 0
  OnCycle p = (p.book < n) × (p.at < length (books p.book)) × Precedes books ls p p

  cycle_at : (c : ℕ) → IsLeft c → OnCycle (head (goes step n c))
  cycle_at c left =
      let round = comes_round n step c (λ m le. (goes_left m c left).0) in
      let end = goes_left n c left in
      (end.0, end.1, subst (λ (d : ℕ). Precedes books ls (head d) (head (goes step n c))) round.1 (goes_before round.0 (goes step n c) end))

  named : (p : Place) (o : Option ℕ) → first_left books cut 0 n ≡ o → length cut ≡ n → left_event ls cut o ≡ Some p → OnCycle p
  named p None is size e = absurd (none-some p e)
  named p (Some b) is size e =
      let f = first_is (has_left books cut) 0 n b (sym (left_first books cut 0 n) ∙ is) in
      let more = f.0 in
      let less = f.1 in
      let left : IsLeft b = (omega (arith, less), grind (arith, nat_tests, more)) in
      let c = led_to ls cut (length cut) b in
      let led : goes step n b ≡ c = sym (led_goes n b) ∙ ap (λ (m : ℕ). led_to ls cut m b) (sym size) in
      subst OnCycle (same_Some (head c) p e) (subst (λ (d : ℕ). OnCycle (head d)) led (cycle_at b left))

pub on_cycle : NamedOnACycle
on_cycle books n ls p within e =
    let cut = last_cut books ls n in
    named books ls n within cut (last_stuck books ls n) p (first_left books cut 0 n) refl (reached_length books ls n cut (last_reached books ls n)) e

-- ---- where there is an order none comes before itself

module _ (books : ℕ → List Event) (ls : List Link) (order : IsOrdered books ls) where
  ascends_case : (b j k : ℕ) → j < suc k → suc k < length (books b) → (j < k → order.time b j < order.time b k) → (t : Bool) → nat_lt j k ≡ t → order.time b j < order.time b (suc k)
  ascends_case b j k less there rest true is = omega (arith, rest (grind (arith, nat_tests, is)), order.ascends b k there)
  ascends_case b j k less there rest false is =
      let at : k ≡ j = grind (arith, nat_tests, is, less) in
      subst (λ (i : ℕ). order.time b i < order.time b (suc k)) at (order.ascends b k there)

  ascends : (b j k : ℕ) → j < k → k < length (books b) → order.time b j < order.time b k
  ascends b j zero less there = absurd (omega (arith, less))
  ascends b j (suc k) less there = ascends_case b j k less there (λ lower. ascends b j k lower (omega (arith, there))) (nat_lt j k) refl

  precedes_less : (p q : Place) → Precedes books ls p q → order.time p.book p.at < order.time q.book q.at
  precedes_less p q (in_book b j k less there) = ascends b j k less there
  precedes_less p q (by_link i l there) = order.linked i l there
  precedes_less p q (through a b c first second) = omega (arith, precedes_less a b first, precedes_less b c second)

pub not_ordered : SomeIsNotOrdered
not_ordered books n ls p within e order = let less = precedes_less books ls order p p (on_cycle books n ls p within e).2 in omega (arith, less)
