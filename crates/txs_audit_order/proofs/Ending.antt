-- What is named by the rows of links is what the links name.
use Rattle.std.proofs.Common.{◌≡◌, ◌<◌, ◌≤◌, ◌+◌, nat_lt, ℕ, zero, suc, Bool, true, false, List, [], ◌∷◌, length, get_or, Option, Some, None, refl, sym, ap, ◌∙◌, subst, arith, if◌then◌else◌}
use Rattle.std.proofs.lemmas.Bool.{and_from, false≢true, lt-ltb, ltb-false, ltb-true, ne_eqb}
use Rattle.std.proofs.lemmas.List.{get_or_past}
use Rattle.txs_value_data.specs.Places.{nth}
use Rattle.txs_world_protocol.specs.declared.event.Event.{Event}
use Rattle.txs_world_protocol.specs.declared.event.Place as event
use Rattle.txs_world_protocol.specs.declared.report.Report.{Report}
use Rattle.txs_theorem_runs.specs.Told.{Place}
use Rattle.txs_theorem_serial.specs.Order.{Link, book_or_none}
use Rattle.txs_theorem_serial.specs.Taken.{AreWithin, OneLastCut, first_free, first_left, left_event, led_to, number_or, out_of_order, taken_of, waits_for}
use Rattle.txs_audit_order.specs.declared.left.Wait.{Wait}
use Rattle.txs_audit_order.specs.declared.links.Before.{Before}
use Rattle.txs_audit_order.specs.Going.{AreReady, first_to_go, free_in, may_go}
use Rattle.txs_audit_order.specs.Linked.{AreLengths, AreLinks, before_of, row_of}
use Rattle.txs_audit_order.specs.Ordered.{books_as, place_in}
use Rattle.txs_audit_order.specs.Waiting.{AreWaits, IsLeft, IsNamed, IsOn, IsWait, NeverEnds, led_by, led_in, left_from}
use Rattle.txs_audit_order.proofs.Agreeing.{all_free, first_of, is_left, is_reached, least_in, least_row, same_first, same_left, same_wait}
use Rattle.txs_audit_order.proofs.Passing.{gone_many, within}

-- ---- rows

-- rows of links are ready, where there is a length of each book
pub are_ready : (books : ℕ → List Event) (ls : List Link) (n : ℕ) (lengths : List ℕ) (rows : List (List Before)) → AreLengths books n lengths → AreLinks ls n rows → AreReady lengths rows
are_ready books ls n lengths rows size h = record {
  many = h.many ∙ sym size.many;
  ascends = λ b. go b (nat_lt b n) refl;
}
  where
    go : (b : ℕ) → (t : Bool) → nat_lt b n ≡ t → (i j : ℕ) (d : Before) → i ≤ j → j < length (get_or rows b []) → (get_or (get_or rows b []) i d).at ≤ (get_or (get_or rows b []) j d).at
    go b true e = (h.each b (ltb-true b n e)).ascends
    go b false e =
        let many = h.many in
        let high = ltb-false b n e in
        subst (λ (r : List Before). (i j : ℕ) (d : Before) → i ≤ j → j < length r → (get_or r i d).at ≤ (get_or r j d).at) (sym (get_or_past rows b [] (omega (arith, many, high)))) (λ i j d le lt. absurd (omega (arith, lt)))

-- there are no links to events of a book behind the last
row_none : (ls : List Link) (n b : ℕ) → ((i : ℕ) (l : Link) → nth ls i ≡ Some l → l.later.book < n) → n ≤ b → row_of b ls ≡ []
row_none [] n b h le = refl
row_none (l ∷ ls) n b h le =
    let low = h 0 l refl in
    ap (λ t. if t then before_of l ∷ row_of b ls else row_of b ls) (ne_eqb l.later.book b (λ s. absurd (omega (arith, low, le, s))))
    ∙ row_none ls n b (λ i m is. h (suc i) m is) le

-- ---- from book to book

first_led : (b : ℕ) (o : Option Wait) → number_or b (first_of o) ≡ led_by b o
first_led b None = refl
first_led b (Some w) = refl

-- the next book
led_once : (books : ℕ → List Event) (ls : List Link) (n : ℕ) (rows : List (List Before)) (cut : List ℕ) (waits : List (Option Wait)) → AreWithin books n ls → AreLinks ls n rows → AreWaits rows cut waits
    → (b : ℕ) → led_by b (get_or waits b None) ≡ number_or b (waits_for ls cut b (taken_of cut b))
led_once books ls n rows cut waits inside h are b = go (nat_lt b n) refl
  where
    go : (t : Bool) → nat_lt b n ≡ t → led_by b (get_or waits b None) ≡ number_or b (waits_for ls cut b (taken_of cut b))
    go true e = sym (ap (number_or b) (same_wait ls n rows cut b (taken_of cut b) (get_or waits b None) h (ltb-true b n e) (are.each b)) ∙ first_led b (get_or waits b None))
    go false e =
        let high = ltb-false b n e in
        let one = h.many in
        let two = are.many in
        ap (led_by b) (get_or_past waits b None (omega (arith, high, one, two)))
        ∙ ap (λ r. number_or b (least_in r cut (taken_of cut b))) (sym (row_none ls n b (λ i l is. (inside i l is).2) high))
        ∙ ap (number_or b) (least_row ls cut b (taken_of cut b))

-- so many steps
led_same : (books : ℕ → List Event) (ls : List Link) (n : ℕ) (rows : List (List Before)) (cut : List ℕ) (waits : List (Option Wait)) → AreWithin books n ls → AreLinks ls n rows → AreWaits rows cut waits
    → (m b : ℕ) → led_in waits m b ≡ led_to ls cut m b
led_same books ls n rows cut waits inside h are zero b = refl
led_same books ls n rows cut waits inside h are (suc m) b =
    ap (led_in waits m) (led_once books ls n rows cut waits inside h are b) ∙ led_same books ls n rows cut waits inside h are m (number_or b (waits_for ls cut b (taken_of cut b)))

-- ---- where no more may be taken

none_may : (lengths : List ℕ) (rows : List (List Before)) (cut : List ℕ) (s m c : ℕ) → first_to_go lengths rows cut s m ≡ None → s ≤ c → c < s + m → may_go lengths rows cut c ≡ false
none_may lengths rows cut s zero c h le lt = absurd (omega (arith, le, lt))
none_may lengths rows cut s (suc m) c h le lt = go (none_may lengths rows cut (suc s) m c) (may_go lengths rows cut s) refl h (nat_lt s c) refl
  where
    go : (first_to_go lengths rows cut (suc s) m ≡ None → suc s ≤ c → c < suc s + m → may_go lengths rows cut c ≡ false) → (t : Bool) → may_go lengths rows cut s ≡ t
        → (if t then Some s else first_to_go lengths rows cut (suc s) m) ≡ None → (b : Bool) → nat_lt s c ≡ b → may_go lengths rows cut c ≡ false
    go rest true e q b r = absurd (cc)
    go rest false e q true r = (let low = ltb-true s c r in rest q (omega (arith, low)) (omega (arith, lt)))
    go rest false e q false r =
        let high = ltb-false s c r in
        let same : s ≡ c = omega (arith, le, high) in
        subst (λ j. may_go lengths rows cut j ≡ false) same e

-- whether an event of a book is left
abbrev is_over : List ℕ → List ℕ → ℕ → Bool
is_over lengths cut b = nat_lt (taken_of cut b) (get_or lengths b 0)

left_is : (lengths cut : List ℕ) (s m b : ℕ) → left_from lengths cut s m ≡ Some b → is_over lengths cut b ≡ true
left_is lengths cut s zero b h = absurd (cc)
left_is lengths cut s (suc m) b h = go (left_is lengths cut (suc s) m b) (is_over lengths cut s) refl h
  where
    go : (left_from lengths cut (suc s) m ≡ Some b → is_over lengths cut b ≡ true) → (t : Bool) → is_over lengths cut s ≡ t → (if t then Some s else left_from lengths cut (suc s) m) ≡ Some b → is_over lengths cut b ≡ true
    go rest true e q = (let same : s ≡ b = cc in subst (λ j. is_over lengths cut j ≡ true) same e)
    go rest false e q = rest q

-- Each book of which an event is left waits for one.
never_ends : (books : ℕ → List Event) (ls : List Link) (n : ℕ) (lengths : List ℕ) (rows : List (List Before)) (cut : List ℕ) (waits : List (Option Wait)) → AreWithin books n ls → AreLengths books n lengths → AreLinks ls n rows → AreWaits rows cut waits
    → first_to_go lengths rows cut 0 (length lengths) ≡ None → NeverEnds waits (is_over lengths cut)
never_ends books ls n lengths rows cut waits inside size h are last b left =
    go (get_or waits b None) (are.each b)
  where
    low : b < length lengths
    low = within lengths b (taken_of cut b) (ltb-true (taken_of cut b) (get_or lengths b 0) left)

    in_books : b < n
    in_books = (let many = size.many in let lt = low in omega (arith, many, lt))

    waits_so : free_in (get_or rows b []) cut (taken_of cut b) ≡ true → ⊥
    waits_so free = false≢true (sym (none_may lengths rows cut 0 (length lengths) b last (omega arith) (let lt = low in omega (arith, lt))) ∙ and_from (is_over lengths cut b) (free_in (get_or rows b []) cut (taken_of cut b)) left free)

    go : (o : Option Wait) → IsWait (get_or rows b []) cut (taken_of cut b) o → IsOn (is_over lengths cut) o
    go None w = waits_so (all_free (get_or rows b []) cut (taken_of cut b) w)
    go (Some w) is =
        let x = is.there.0 in
        let found = is_left books ls n rows cut b (taken_of cut b) x inside h in_books is.there.1 is.there.2 in
        subst (λ j. is_over lengths cut j ≡ true) is.there.3
        (lt-ltb (taken_of cut x.book) (get_or lengths x.book 0) (subst (λ m. taken_of cut x.book < m) (sym (size.each x.book found.0)) found.1))

-- what is named by what is left
left_named : (books : ℕ → List Event) (ls : List Link) (n : ℕ) (lengths : List ℕ) (rows : List (List Before)) (cut : List ℕ) → AreWithin books n ls → AreLengths books n lengths → AreLinks ls n rows → length cut ≡ length lengths
    → first_to_go lengths rows cut 0 (length lengths) ≡ None → (f : Option ℕ) → left_from lengths cut 0 (length lengths) ≡ f → (o : Option event.Place) → IsLeft rows cut f o → place_in o ≡ left_event ls cut f
left_named books ls n lengths rows cut inside size h many last None e o is = ap place_in is
left_named books ls n lengths rows cut inside size h many last (Some b) e None (waits, are, led) =
    absurd (false≢true (sym (led (is_over lengths cut) (never_ends books ls n lengths rows cut waits inside size h are last)) ∙ left_is lengths cut 0 (length lengths) b e))
left_named books ls n lengths rows cut inside size h many last (Some b) e (Some p) (waits, are, led) =
    ap (λ k. Some (place p.book k)) at ∙ ap (λ c. Some (place c (taken_of cut c))) book
  where
    place : ℕ → ℕ → Place
    place c k = record { book = c; at = k }

    steps : length waits ≡ length cut
    steps = are.many ∙ h.many ∙ sym size.many ∙ sym many

    book : p.book ≡ led_to ls cut (length cut) b
    book = led.0 ∙ ap (λ m. led_in waits m b) steps ∙ led_same books ls n rows cut waits inside h are (length cut) b

    at : p.at ≡ taken_of cut p.book
    at = led.1.2 ∙ (subst (λ o. IsWait (get_or rows p.book []) cut (taken_of cut p.book) o) led.1.1 (are.each p.book)).at

-- What the code names is what is out of order, if whoever takes events comes to the same cut.
pub named : (books : ℕ → List Event) (ls : List Link) (n : ℕ) (lengths : List ℕ) (rows : List (List Before)) → OneLastCut → AreWithin books n ls → AreLengths books n lengths → AreLinks ls n rows → (o : Option event.Place) → IsNamed lengths rows o → place_in o ≡ out_of_order books ls n
named books ls n lengths rows one inside size h o (cut, is, left) =
    left_named books ls n lengths rows cut inside size h (gone_many lengths rows is.gone) is.last (left_from lengths cut 0 (length lengths)) refl o left
    ∙ ap (left_event ls cut) (ap (left_from lengths cut 0) size.many ∙ same_left books n lengths cut 0 n size (omega arith))
    ∙ ap (λ c. left_event ls c (first_left books c 0 n)) (one books n ls cut inside (is_reached books ls n lengths rows size h is.gone) none)
  where
    none : first_free books ls cut 0 n ≡ None
    none = sym (ap (first_to_go lengths rows cut 0) size.many ∙ same_first books ls n lengths rows cut 0 n size h (omega arith)) ∙ is.last

nth_past : {A : Type 0} (xs : List A) (i : ℕ) → length xs ≤ i → nth xs i ≡ None
nth_past [] i le = refl
nth_past (x ∷ xs) zero le = absurd (omega (arith, le))
nth_past (x ∷ xs) (suc i) le = nth_past xs i (omega (arith, le))

-- a report has no books behind the last
pub books_past : (r : Report) (b : ℕ) → nat_lt b (suc (length r.atom_books.items)) ≡ false → books_as r b ≡ []
books_past r zero h = (let le = ltb-false 0 (suc (length r.atom_books.items)) h in absurd (omega (arith, le)))
books_past r (suc b) h = (let le = ltb-false (suc b) (suc (length r.atom_books.items)) h in ap book_or_none (nth_past r.atom_books.items b (omega (arith, le))))
