-- What is found of a trace, place by place.
use Rattle.std.proofs.Common.{◌≡◌, ◌≤◌, ◌<◌, ◌+◌, ℕ, zero, suc, Bool, true, false, ◌&&◌, ◌==◌, nat_lt, List, [], ◌∷◌, ◌++◌, length, get_or, set, Option, Some, None, refl, sym, ap, ◌∙◌, subst, arith, append-nil, append_assoc, drop, take, map, if◌then◌else◌}
use Rattle.std.proofs.lemmas.Bool.{false≢true, ltb-true}
use Rattle.std.proofs.lemmas.Bool.Decides.{nat_tests}
use Rattle.std.proofs.lemmas.List.{get_or-set_same, get_or-set_other, length-set, drop_all, drop_more, take_all, take_more, length-take-le}
use Rattle.txs_theorem_audit.specs.Audited.{Finding, Fine, Off, Short, PlainActorReport, and_then, books_of, check, place_of, ran_as, report_as}
use Rattle.txs_theorem_audit.specs.Verdict.{begins, same_numbers, runs_right, names_all, in_books, trace_found, traces_found}
use Rattle.txs_theorem_runs.specs.Told.{Place, places_in, places_by}
use Rattle.txs_value_data.specs.Places.{nth}
use Rattle.txs_world_book.proofs.Outcomes.{both}
use Rattle.txs_world_protocol.specs.declared.event.Event.{Event}
use Rattle.txs_world_protocol.specs.declared.event.Place as event
use Rattle.txs_world_protocol.specs.declared.report.ActorReport.{ActorReport}
use Rattle.txs_world_protocol.specs.declared.report.Report.{Report}
use Rattle.txs_audit_order.specs.Named.{AllBegun, Begun, Counted, Outside, OffIn, OffOf, all_named, is_this, off_at, off_in, plain_trace}
use Rattle.txs_audit_order.specs.Rows.{AllRows}
use Rattle.txs_audit_order.proofs.Naming.{begins_less, begins_more, begins_same, books_out, both_ways, equal, is_equal, names_each, places_append, same_begins, turned}

one_place : (p : Place) → places_in p.book (p ∷ []) ≡ p.at ∷ []
one_place p = ap (λ b. if b then p.at ∷ [] else []) (is_equal p.book p.book refl)

no_place : (n : ℕ) (p : Place) → (p.book == n) ≡ false → places_in n (p ∷ []) ≡ []
no_place n p e = ap (λ b. if b then p.at ∷ [] else []) e

-- the places of a book with one more
pub place_more : (done : List Place) (p : Place) → places_in p.book (done ++ p ∷ []) ≡ places_in p.book done ++ p.at ∷ []
place_more done p = places_append p.book done (p ∷ []) ∙ ap (λ l. places_in p.book done ++ l) (one_place p)

in_more : (count : ℕ) (done : List Place) (p : Place) → in_books count (done ++ p ∷ []) ≡ (in_books count done && nat_lt p.book count)
in_more count [] p = go (nat_lt p.book count)
  where
    go : (b : Bool) → (b && true) ≡ b
    go true = refl
    go false = refl
in_more count (q ∷ done) p = ap (λ b. nat_lt q.book count && b) (in_more count done p) ∙ assoc (nat_lt q.book count) (in_books count done) (nat_lt p.book count)
  where
    assoc : (a b c : Bool) → (a && (b && c)) ≡ ((a && b) && c)
    assoc true b c = refl
    assoc false b c = refl

in_less : (count : ℕ) (xs ys : List Place) → in_books count (xs ++ ys) ≡ true → in_books count xs ≡ true
in_less count [] ys h = refl
in_less count (p ∷ xs) ys h = go (in_less count xs ys) (nat_lt p.book count) h
  where
    go : (in_books count (xs ++ ys) ≡ true → in_books count xs ≡ true) → (b : Bool) → (b && in_books count (xs ++ ys)) ≡ true → (b && in_books count xs) ≡ true
    go rest true q = rest q
    go rest false q = absurd (false≢true q)

-- one more place of a book
pub counted_more : (count : ℕ) (done : List Place) (p : Place) (named now : List ℕ) → Counted count done named → nat_lt p.book count ≡ true → now ≡ set named p.book (get_or named p.book 0 + 1) → Counted count (done ++ p ∷ []) now
counted_more count done p named now h lt put = subst (Counted count (done ++ p ∷ [])) (sym put) (record {
  many = length-set named p.book (get_or named p.book 0 + 1) ∙ h.many;
  each = λ n low. go n low (p.book == n) refl;
  inside = in_more count done p ∙ ap (λ b. b && nat_lt p.book count) h.inside ∙ lt;
})
  where
    longer : (xs : List ℕ) (x : ℕ) → length (xs ++ x ∷ []) ≡ length xs + 1
    longer [] x = omega arith
    longer (y ∷ xs) x = ap suc (longer xs x) ∙ moved (length xs)
      where
        moved : (n : ℕ) → suc (n + 1) ≡ suc n + 1
        moved n = omega arith

    go : (n : ℕ) → n < count → (b : Bool) → (p.book == n) ≡ b → get_or (set named p.book (get_or named p.book 0 + 1)) n 0 ≡ length (places_in n (done ++ p ∷ []))
    go n low true q =
        let same = equal p.book n q in
        let many = h.many in
        ap (λ k. get_or (set named p.book (get_or named p.book 0 + 1)) k 0) (sym same)
        ∙ get_or-set_same named p.book (get_or named p.book 0 + 1) 0 (omega (arith, low, many, same))
        ∙ ap (λ k. k + 1) (h.each p.book (omega (arith, low, same))) ∙ sym (ap length (place_more done p) ∙ longer (places_in p.book done) p.at)
        ∙ ap (λ k. length (places_in k (done ++ p ∷ []))) same
    go n low false q =
        get_or-set_other named p.book n (get_or named p.book 0 + 1) 0 (λ s. absurd (false≢true (sym q ∙ is_equal p.book n (sym s)))) ∙ h.each n low
        ∙ sym (ap length (places_append n done (p ∷ []) ∙ ap (λ l. places_in n done ++ l) (no_place n p q) ∙ nothing (places_in n done)))
      where
        nothing : (xs : List ℕ) → xs ++ [] ≡ xs
        nothing [] = refl
        nothing (x ∷ xs) = ap (λ l. x ∷ l) (nothing xs)

places_few : (n : ℕ) (ps : List Place) → length (places_in n ps) ≤ length ps
places_few n [] = omega arith
places_few n (p ∷ ps) = go (p.book == n) (places_few n ps)
  where
    go : (b : Bool) → length (places_in n ps) ≤ length ps → length (if b then p.at ∷ places_in n ps else places_in n ps) ≤ suc (length ps)
    go true h = omega (arith, h)
    go false h = omega (arith, h)

pub plain_many : (ps : List event.Place) → length (plain_trace ps) ≡ length ps
plain_many [] = refl
plain_many (p ∷ ps) = ap suc (plain_many ps)

-- no book has more places than were gone through
pub counted_few : (count i : ℕ) (trace : List event.Place) (named : List ℕ) (n : ℕ) → n < count → i ≤ length trace → Counted count (plain_trace (take i trace)) named → get_or named n 0 ≤ i
counted_few count i trace named n lt le h =
    let few = places_few n (plain_trace (take i trace)) in
    let is = h.each n lt in
    let long = plain_many (take i trace) in
    let cut = length-take-le i trace le in
    omega (arith, few, is, long, cut)

-- ---- what is found at a place

-- one place more begins the events of its book
pub begun_more : (books : ℕ → List Event) (count a : ℕ) (done : List Place) (p : Place) (rest trace : List Place) → Begun books count a done (p ∷ rest) trace
    → begins (places_in p.book (done ++ p ∷ [])) (places_by a 0 (books p.book)) ≡ true → Begun books count a (done ++ p ∷ []) rest trace
begun_more books count a done p rest trace h good = record {
  begun = λ n lt. go n lt (p.book == n) refl;
  runs = sym (ap (λ b. if b then runs_right books a (done ++ p ∷ []) rest else length done) good) ∙ h.runs;
}
  where
    go : (n : ℕ) → n < count → (b : Bool) → (p.book == n) ≡ b → begins (places_in n (done ++ p ∷ [])) (places_by a 0 (books n)) ≡ true
    go n lt true q = subst (λ k. begins (places_in k (done ++ p ∷ [])) (places_by a 0 (books k)) ≡ true) (equal p.book n q) good
    go n lt false q = ap (λ l. begins l (places_by a 0 (books n))) (places_append n done (p ∷ []) ∙ ap (λ l. places_in n done ++ l) (no_place n p q) ∙ append-nil (places_in n done)) ∙ h.begun n lt

-- whether a place names the next event of its book
pub next_begins : (books : ℕ → List Event) (count a : ℕ) (done : List Place) (p : Place) → (p.book < count → begins (places_in p.book done) (places_by a 0 (books p.book)) ≡ true) → Outside count books
    → begins (places_in p.book (done ++ p ∷ [])) (places_by a 0 (books p.book)) ≡ (nat_lt p.book count && is_this p.at (nth (places_by a 0 (books p.book)) (length (places_in p.book done))))
next_begins books count a done p h out =
    ap (λ l. begins l (places_by a 0 (books p.book))) (place_more done p) ∙ begins_more (places_in p.book done) p.at (places_by a 0 (books p.book)) ∙ go (nat_lt p.book count) refl
  where
    and_none : (b : Bool) → (b && false) ≡ false
    and_none true = refl
    and_none false = refl

    go : (b : Bool) → nat_lt p.book count ≡ b
        → (begins (places_in p.book done) (places_by a 0 (books p.book)) && is_this p.at (nth (places_by a 0 (books p.book)) (length (places_in p.book done))))
        ≡ (b && is_this p.at (nth (places_by a 0 (books p.book)) (length (places_in p.book done))))
    go true q = ap (λ b. b && is_this p.at (nth (places_by a 0 (books p.book)) (length (places_in p.book done)))) (h (ltb-true p.book count q))
    go false q =
        let high : count ≤ p.book = grind (arith, nat_tests, q) in
        ap (λ es. begins (places_in p.book done) (places_by a 0 es) && is_this p.at (nth (places_by a 0 es) (length (places_in p.book done)))) (out p.book high)
        ∙ and_none (begins (places_in p.book done) [])

-- a place that doesn't is off
pub found_off : (books : ℕ → List Event) (count a : ℕ) (done : List Place) (p : Place) (rest trace : List Place) → trace ≡ done ++ p ∷ rest → Begun books count a done (p ∷ rest) trace
    → begins (places_in p.book (done ++ p ∷ [])) (places_by a 0 (books p.book)) ≡ false → trace_found books count a trace ≡ Off a (length done)
found_off books count a done p rest trace is h bad =
    ap (λ b. check b a (runs_right books a [] trace)) (wrong (in_books count trace && names_all books a trace count) refl)
    ∙ ap (λ n. Off a n) (sym h.runs ∙ ap (λ b. if b then runs_right books a (done ++ p ∷ []) rest else length done) bad)
  where
    good : in_books count trace ≡ true → names_all books a trace count ≡ true → begins (places_in p.book (done ++ p ∷ [])) (places_by a 0 (books p.book)) ≡ true
    good ins names =
        let split : trace ≡ (done ++ p ∷ []) ++ rest = is ∙ sym (append_assoc done (p ∷ []) rest) in
        let inside = in_less count (done ++ p ∷ []) rest (ap (in_books count) (sym split) ∙ ins) in
        let low = ltb-true p.book count (both (in_books count done) (nat_lt p.book count) (sym (in_more count done p) ∙ inside)).1 in
        begins_less (places_in p.book (done ++ p ∷ [])) (places_in p.book rest) (places_by a 0 (books p.book))
        (ap (λ l. begins l (places_by a 0 (books p.book))) (sym (places_append p.book (done ++ p ∷ []) rest) ∙ ap (places_in p.book) (sym split))
        ∙ same_begins (places_in p.book trace) (places_by a 0 (books p.book)) (names_each books a trace count p.book low names))

    wrong : (b : Bool) → (in_books count trace && names_all books a trace count) ≡ b → b ≡ false
    wrong false q = refl
    wrong true q = (let parts = both (in_books count trace) (names_all books a trace count) q in absurd (false≢true (sym bad ∙ good parts.0 parts.1)))

-- ---- at the end of a trace

names_from : (books : ℕ → List Event) (a : ℕ) (trace : List Place) (count : ℕ) → ((n : ℕ) → n < count → same_numbers (places_in n trace) (places_by a 0 (books n)) ≡ true) → names_all books a trace count ≡ true
names_from books a trace zero h = refl
names_from books a trace (suc n) h = ap (λ b. b && names_all books a trace n) (h n (omega arith)) ∙ names_from books a trace n (λ k lt. h k (omega (arith, lt)))

named_each : (a : ℕ) (all : List (List (List ℕ))) (ns : List ℕ) (n : ℕ) → n < length all → n < length ns → all_named a all ns ≡ true → (length (get_or (get_or all n []) a []) == get_or ns n 0) ≡ true
named_each a [] ns n lt less h = absurd (omega (arith, lt))
named_each a (rows ∷ all) [] n lt less h = absurd (omega (arith, less))
named_each a (rows ∷ all) (m ∷ ns) zero lt less h = (both (length (get_or rows a []) == m) (all_named a all ns) h).0
named_each a (rows ∷ all) (m ∷ ns) (suc n) lt less h = named_each a all ns n (omega (arith, lt)) (omega (arith, less)) (both (length (get_or rows a []) == m) (all_named a all ns) h).1

named_from : (a : ℕ) (all : List (List (List ℕ))) (ns : List ℕ) → ((n : ℕ) → n < length all → (length (get_or (get_or all n []) a []) == get_or ns n 0) ≡ true) → all_named a all ns ≡ true
named_from a [] ns h = refl
named_from a (rows ∷ all) [] h = refl
named_from a (rows ∷ all) (m ∷ ns) h = ap (λ b. b && all_named a all ns) (h 0 (omega arith)) ∙ named_from a all ns (λ n lt. h (suc n) (omega (arith, lt)))

-- a trace of places that each name the next event is off behind them, unless all events are named
pub found_end : (books : ℕ → List Event) (count actors a : ℕ) (all : List (List (List ℕ))) (named : List ℕ) (trace : List Place) → a < actors → AllRows actors count books all → Begun books count a trace [] trace → Counted count trace named
    → trace_found books count a trace ≡ check (all_named a all named) a (length trace)
found_end books count actors a all named trace lt rows h many =
    ap (λ b. check (b && names_all books a trace count) a (runs_right books a [] trace)) many.inside
    ∙ ap (λ b. check b a (runs_right books a [] trace)) (both_ways (names_all books a trace count) (all_named a all named) to from)
    ∙ ap (check (all_named a all named) a) (sym h.runs)
  where
    link : (n : ℕ) → n < count → (length (get_or (get_or all n []) a []) == get_or named n 0) ≡ same_numbers (places_in n trace) (places_by a 0 (books n))
    link n low =
        ap (λ l. length l == get_or named n 0) ((rows.each n low).each a lt) ∙ ap (λ m. length (places_by a 0 (books n)) == m) (many.each n low)
        ∙ turned (length (places_by a 0 (books n))) (length (places_in n trace)) ∙ sym (begins_same (places_in n trace) (places_by a 0 (books n)) (h.begun n low))

    to : names_all books a trace count ≡ true → all_named a all named ≡ true
    to e = named_from a all named (λ n low. (let size = rows.many in link n (omega (arith, low, size)) ∙ names_each books a trace count n (omega (arith, low, size)) e))

    from : all_named a all named ≡ true → names_all books a trace count ≡ true
    from e = names_from books a trace count (λ n low. (let size = rows.many in let as_many = many.many in sym (link n low) ∙ named_each a all named n (omega (arith, low, size)) (omega (arith, low, as_many)) e))

-- ---- what the code finds

-- nothing is named at first
pub counted_none : (count : ℕ) (named : List ℕ) → length named ≡ count → ((n : ℕ) → get_or named n 0 ≡ 0) → Counted count [] named
counted_none count named many each = record { many = many; each = λ n lt. each n; inside = refl }

pub begun_none : (actors : ℕ) (all : List (List (List ℕ))) (a : ℕ) (trace : List Place) → AllBegun actors all a [] trace trace
begun_none actors all a trace books la rows out = record { begun = λ n lt. refl; runs = refl }

module _ (all : List (List (List ℕ))) (a : ℕ) (trace : List event.Place) (i : ℕ) (p : event.Place) (lt : i < length trace) (is : p ≡ get_or trace i p) (named : List ℕ)
    (many : Counted (length all) (plain_trace (take i trace)) named) where
  here : plain_trace (drop i trace) ≡ place_of p ∷ plain_trace (drop (i + 1) trace)
  here = ap plain_trace (drop_more trace i p lt ∙ ap (λ y. y ∷ drop (i + 1) trace) (sym is))

  more : plain_trace (take (i + 1) trace) ≡ plain_trace (take i trace) ++ place_of p ∷ []
  more = ap plain_trace (take_more trace i p lt ∙ ap (λ y. take i trace ++ y ∷ []) (sym is)) ∙ plain_push (take i trace) p
    where
      plain_push : (xs : List event.Place) (x : event.Place) → plain_trace (xs ++ x ∷ []) ≡ plain_trace xs ++ place_of x ∷ []
      plain_push [] x = refl
      plain_push (y ∷ xs) x = ap (λ l. place_of y ∷ l) (plain_push xs x)

  whole : plain_trace trace ≡ plain_trace (take i trace) ++ place_of p ∷ plain_trace (drop (i + 1) trace)
  whole = cut i trace ∙ ap (λ l. plain_trace (take i trace) ++ l) here
    where
      cut : (n : ℕ) (xs : List event.Place) → plain_trace xs ≡ plain_trace (take n xs) ++ plain_trace (drop n xs)
      cut zero xs = refl
      cut (suc n) [] = refl
      cut (suc n) (x ∷ xs) = ap (λ l. place_of x ∷ l) (cut n xs)

  long : length (plain_trace (take i trace)) ≡ i
  long = plain_many (take i trace) ∙ length-take-le i trace (omega (arith, lt))

  abbrev named_next : Bool
  named_next = nat_lt p.book (length all) && is_this p.at (nth (get_or (get_or all p.book []) a []) (get_or named p.book 0))

  -- what the code tests is whether the place names the next event
  tests : (actors : ℕ) (books : ℕ → List Event) → a < actors → AllRows actors (length all) books all → Outside (length all) books
      → Begun books (length all) a (plain_trace (take i trace)) (plain_trace (drop i trace)) (plain_trace trace)
      → begins (places_in p.book (plain_trace (take i trace) ++ place_of p ∷ [])) (places_by a 0 (books p.book)) ≡ named_next
  tests actors books la rows out h =
      next_begins books (length all) a (plain_trace (take i trace)) (place_of p) (λ low. h.begun p.book low) out ∙ go (nat_lt p.book (length all)) refl
    where
      go : (b : Bool) → nat_lt p.book (length all) ≡ b
          → (b && is_this p.at (nth (places_by a 0 (books p.book)) (length (places_in p.book (plain_trace (take i trace))))))
          ≡ (b && is_this p.at (nth (get_or (get_or all p.book []) a []) (get_or named p.book 0)))
      go true q =
          let low = ltb-true p.book (length all) q in
          ap (λ l. is_this p.at (nth l (length (places_in p.book (plain_trace (take i trace)))))) (sym ((rows.each p.book low).each a la))
          ∙ ap (λ n. is_this p.at (nth (get_or (get_or all p.book []) a []) n)) (sym (many.each p.book low))
      go false q = refl

  pub off_here : named_next ≡ false → ((actors : ℕ) → AllBegun actors all a (plain_trace (take i trace)) (plain_trace (drop i trace)) (plain_trace trace)) → OffOf all a (plain_trace trace) (Some i)
  off_here bad h actors books la rows out =
      let begun = h actors books la rows out in
      sym (found_off books (length all) a (plain_trace (take i trace)) (place_of p) (plain_trace (drop (i + 1) trace)) (plain_trace trace) whole
      (subst (λ l. Begun books (length all) a (plain_trace (take i trace)) l (plain_trace trace)) here begun) (tests actors books la rows out begun ∙ bad) ∙ ap (λ n. Off a n) long)

  pub named_here : (now : List ℕ) → named_next ≡ true → now ≡ set named p.book (get_or named p.book 0 + 1) → Counted (length all) (plain_trace (take (i + 1) trace)) now
  named_here now good put =
      let low = (both (nat_lt p.book (length all)) (is_this p.at (nth (get_or (get_or all p.book []) a []) (get_or named p.book 0))) good).0 in
      subst (λ l. Counted (length all) l now) (sym more) (counted_more (length all) (plain_trace (take i trace)) (place_of p) named now many low put)

  pub begun_here : named_next ≡ true → (actors : ℕ) → AllBegun actors all a (plain_trace (take i trace)) (plain_trace (drop i trace)) (plain_trace trace) → AllBegun actors all a (plain_trace (take (i + 1) trace)) (plain_trace (drop (i + 1) trace)) (plain_trace trace)
  begun_here good actors h books la rows out =
      let begun = h books la rows out in
      subst (λ l. Begun books (length all) a l (plain_trace (drop (i + 1) trace)) (plain_trace trace)) (sym more)
      (begun_more books (length all) a (plain_trace (take i trace)) (place_of p) (plain_trace (drop (i + 1) trace)) (plain_trace trace)
      (subst (λ l. Begun books (length all) a (plain_trace (take i trace)) l (plain_trace trace)) here begun) (tests actors books la rows out begun ∙ good))

-- a trace in which no place was off
pub end_here : (all : List (List (List ℕ))) (a : ℕ) (trace : List event.Place) (i : ℕ) (named : List ℕ) (b : Bool) (o : Option ℕ) → length trace ≤ i → Counted (length all) (plain_trace (take i trace)) named
    → ((actors : ℕ) → AllBegun actors all a (plain_trace (take i trace)) (plain_trace (drop i trace)) (plain_trace trace)) → b ≡ all_named a all named → off_at a o ≡ check b a (length trace) → OffOf all a (plain_trace trace) o
end_here all a trace i named b o past many h is off actors books la rows out =
    let begun = subst (λ l. Begun books (length all) a (plain_trace l) (plain_trace (drop i trace)) (plain_trace trace)) (take_all i trace past) (h actors books la rows out) in
    let at_end = subst (λ l. Begun books (length all) a (plain_trace trace) (plain_trace l) (plain_trace trace)) (drop_all i trace past) begun in
    let counted = subst (λ l. Counted (length all) (plain_trace l) named) (take_all i trace past) many in
    off ∙ ap (λ x. check x a (length trace)) is ∙ ap (check (all_named a all named) a) (sym (plain_many trace))
    ∙ sym (found_end books (length all) actors a all named (plain_trace trace) la rows at_end counted)

-- ---- which events are named, book by book

named_nil : (a : ℕ) (all : List (List (List ℕ))) → all_named a all [] ≡ true
named_nil a [] = refl
named_nil a (rows ∷ all) = refl

pub named_step : (a : ℕ) (all : List (List (List ℕ))) (ns : List ℕ) (i : ℕ) → i < length all → i < length ns
    → all_named a (drop i all) (drop i ns) ≡ ((length (get_or (get_or all i []) a []) == get_or ns i 0) && all_named a (drop (i + 1) all) (drop (i + 1) ns))
named_step a all ns i lt less = ap (λ l. all_named a l (drop i ns)) (drop_more all i [] lt) ∙ ap (all_named a (get_or all i [] ∷ drop (i + 1) all)) (drop_more ns i 0 less)

pub named_end : (a : ℕ) (all : List (List (List ℕ))) (ns : List ℕ) (i : ℕ) → length ns ≤ i → all_named a (drop i all) (drop i ns) ≡ true
named_end a all ns i le = ap (all_named a (drop i all)) (drop_all i ns le) ∙ named_nil a (drop i all)

-- ---- the traces of several entries

pub traces_append : (books : ℕ → List Event) (count a : ℕ) (xs ys : List PlainActorReport) → traces_found books count a (xs ++ ys) ≡ and_then (traces_found books count a xs) (traces_found books count (a + length xs) ys)
traces_append books count a [] ys = ap (λ n. traces_found books count n ys) (none a)
  where
    none : (n : ℕ) → n ≡ n + 0
    none n = omega arith
traces_append books count a (x ∷ xs) ys =
    ap (and_then (trace_found books count a x.trace)) (traces_append books count (suc a) xs ys ∙ ap (λ n. and_then (traces_found books count (suc a) xs) (traces_found books count n ys)) (moved a (length xs)))
    ∙ assoc (trace_found books count a x.trace) (traces_found books count (suc a) xs) (traces_found books count (a + suc (length xs)) ys)
  where
    moved : (n m : ℕ) → suc n + m ≡ n + suc m
    moved n m = omega arith

    assoc : (f g h : Finding) → and_then f (and_then g h) ≡ and_then (and_then f g) h
    assoc Fine g h = refl
    assoc (Off b i) g h = refl
    assoc (Short b i) g h = refl

module _ (all : List (List (List ℕ))) (first : ℕ) (rans : List ActorReport) (i : ℕ) (r : ActorReport) (lt : i < length rans) (is : r ≡ get_or rans i r) where
  abbrev pub AsWhole : ℕ → Type 0
  AsWhole k = (actors : ℕ) (books : ℕ → List Event) → first + length rans ≤ actors → AllRows actors (length all) books all → Outside (length all) books
      → traces_found books (length all) (first + k) (map ran_as (drop k rans)) ≡ traces_found books (length all) first (map ran_as rans)

  one_ran : (books : ℕ → List Event) → traces_found books (length all) (first + i) (map ran_as (drop i rans))
      ≡ and_then (trace_found books (length all) (first + i) (plain_trace r.trace.items)) (traces_found books (length all) (first + (i + 1)) (map ran_as (drop (i + 1) rans)))
  one_ran books =
      ap (λ l. traces_found books (length all) (first + i) (map ran_as l)) (drop_more rans i r lt ∙ ap (λ y. y ∷ drop (i + 1) rans) (sym is))
      ∙ ap (λ n. and_then (trace_found books (length all) (first + i) (plain_trace r.trace.items)) (traces_found books (length all) n (map ran_as (drop (i + 1) rans)))) (moved first i)
    where
      moved : (n m : ℕ) → suc (n + m) ≡ n + (m + 1)
      moved n m = omega arith

  pub ran_off : (at : ℕ) → OffOf all (first + i) (plain_trace r.trace.items) (Some at) → AsWhole i → OffIn all first rans (Some (first + i, at))
  ran_off at off whole actors books le rows out =
      ap (λ f. and_then f (traces_found books (length all) (first + (i + 1)) (map ran_as (drop (i + 1) rans)))) (off actors books (omega (arith, le, lt)) rows out)
      ∙ sym (one_ran books) ∙ whole actors books le rows out

  pub ran_fine : OffOf all (first + i) (plain_trace r.trace.items) None → AsWhole i → AsWhole (i + 1)
  ran_fine off whole actors books le rows out =
      ap (λ f. and_then f (traces_found books (length all) (first + (i + 1)) (map ran_as (drop (i + 1) rans)))) (off actors books (omega (arith, le, lt)) rows out)
      ∙ sym (one_ran books) ∙ whole actors books le rows out

-- none was off
pub rans_end : (all : List (List (List ℕ))) (first : ℕ) (rans : List ActorReport) (i : ℕ) → length rans ≤ i
    → ((actors : ℕ) (books : ℕ → List Event) → first + length rans ≤ actors → AllRows actors (length all) books all → Outside (length all) books
    → traces_found books (length all) (first + i) (map ran_as (drop i rans)) ≡ traces_found books (length all) first (map ran_as rans))
    → OffIn all first rans None
rans_end all first rans i past whole actors books le rows out =
    sym (ap (λ l. traces_found books (length all) (first + i) (map ran_as l)) (drop_all i rans past)) ∙ whole actors books le rows out

-- the traces of threads, and then of agents
module _ (r : Report) (actors : ℕ) (all : List (List (List ℕ))) (is : actors ≡ length r.threads.items + length r.agents.items) (given : AllRows actors (suc (length r.atom_books.items)) (books_of (report_as r)) all) where
  abbrev books : ℕ → List Event
  books = books_of (report_as r)

  abbrev Whole : Option (ℕ × ℕ) → ℕ → Type 0
  Whole o count = off_in o ≡ traces_found books count 0 (map ran_as r.threads.items ++ map ran_as r.agents.items)

  rows : AllRows actors (length all) books all
  rows = subst (λ n. AllRows actors n books all) (sym given.many) given

  out : Outside (length all) books
  out = subst (λ n. Outside n books) (sym given.many) (books_out (report_as r))

  first_found : (o : Option (ℕ × ℕ)) → OffIn all 0 r.threads.items o
      → traces_found books (length all) 0 (map ran_as r.threads.items ++ map ran_as r.agents.items) ≡ and_then (off_in o) (traces_found books (length all) (length r.threads.items) (map ran_as r.agents.items))
  first_found o off =
      traces_append books (length all) 0 (map ran_as r.threads.items) (map ran_as r.agents.items)
      ∙ ap (λ n. and_then (traces_found books (length all) 0 (map ran_as r.threads.items)) (traces_found books (length all) n (map ran_as r.agents.items))) (as_many r.threads.items)
      ∙ ap (λ f. and_then f (traces_found books (length all) (length r.threads.items) (map ran_as r.agents.items))) (sym (off actors books (omega (arith, is)) rows out))
    where
      as_many : (xs : List ActorReport) → 0 + length (map ran_as xs) ≡ length xs
      as_many [] = refl
      as_many (x ∷ xs) = (let e = as_many xs in omega (arith, e))

  pub whole_first : (w : ℕ × ℕ) → OffIn all 0 r.threads.items (Some w) → Whole (Some w) (suc (length r.atom_books.items))
  whole_first w off = subst (Whole (Some w)) given.many (sym (first_found (Some w) off))

  pub whole_second : (o : Option (ℕ × ℕ)) → OffIn all 0 r.threads.items None → OffIn all (length r.threads.items) r.agents.items o → Whole o (suc (length r.atom_books.items))
  whole_second o none off = subst (Whole o) given.many (off actors books (omega (arith, is)) rows out ∙ sym (first_found None none))
