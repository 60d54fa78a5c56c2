-- How far a trace names an actor's events.
use Rattle.std.proofs.Common.{◌≡◌, ◌≢◌, ◌≤◌, ◌<◌, ◌+◌, ℕ, zero, suc, Bool, true, false, ◌&&◌, ◌==◌, nat_lt, List, [], ◌∷◌, ◌++◌, length, get_or, Some, None, Result, Ok, Err, refl, sym, ap, ◌∙◌, subst, arith, append-nil, length-append, set, if◌then◌else◌}
use Rattle.std.specs.Prelude.{IfOk}
use Rattle.std.proofs.lemmas.Bool.{false≢true, ltb-true}
use Rattle.std.proofs.lemmas.Bool.Decides.{nat_tests}
use Rattle.txs_theorem_audit.specs.Audited.{PlainReport, books_of}
use Rattle.txs_theorem_serial.specs.Order.{book_or_none}
use Rattle.txs_theorem_audit.specs.Verdict.{begins, same_numbers, names_all}
use Rattle.txs_theorem_runs.specs.Told.{Place, places_in, places_by}
use Rattle.std.proofs.lemmas.List.{get_or-set_same, get_or-set_other, length-set, get_or_read}
use Rattle.txs_audit_order.specs.Named.{HasActor, Outside, is_this}
use Rattle.txs_audit_order.specs.Rows.{AreRows, AllRows, with_index}
use Rattle.txs_value_data.specs.Places.{nth}
use Rattle.txs_world_protocol.specs.declared.event.Event.{Event}

pub equal : (a b : ℕ) → (a == b) ≡ true → a ≡ b
equal a b e = grind (arith, nat_tests)

kept : (b : Bool) → (b && true) ≡ b
kept true = refl
kept false = refl

pub both_ways : (a b : Bool) → (a ≡ true → b ≡ true) → (b ≡ true → a ≡ true) → a ≡ b
both_ways true true f g = refl
both_ways true false f g = sym (f refl)
both_ways false true f g = g refl
both_ways false false f g = refl

pub is_equal : (a b : ℕ) → a ≡ b → (a == b) ≡ true
is_equal a b e = grind (arith, nat_tests)

pub is_other : (a b x : ℕ) → x ≡ a → x ≢ b → (a == b) ≡ false
is_other a b x e ne = go (a == b) refl
  where
    go : (t : Bool) → (a == b) ≡ t → t ≡ false
    go false q = refl
    go true q = absurd (ne (e ∙ equal a b q))

pub turned : (a b : ℕ) → (a == b) ≡ (b == a)
turned a b = both_ways (a == b) (b == a) (λ e. is_equal b a (sym (equal a b e))) (λ e. is_equal a b (sym (equal b a e)))

later : (a b : ℕ) → (suc a == suc b) ≡ (a == b)
later a b = both_ways (suc a == suc b) (a == b) (λ e. (let q = equal (suc a) (suc b) e in is_equal a b (omega (arith, q)))) (λ e. is_equal (suc a) (suc b) (ap suc (equal a b e)))

zero_less : (n : ℕ) → (0 == suc n) ≡ false
zero_less n = go (0 == suc n) refl
  where
    go : (b : Bool) → (0 == suc n) ≡ b → (0 == suc n) ≡ false
    go true e = (let z = equal 0 (suc n) e in absurd (omega (arith, z)))
    go false e = e

-- one number more begins the others where the next of these is that one
pub begins_more : (xs : List ℕ) (p : ℕ) (ys : List ℕ) → begins (xs ++ p ∷ []) ys ≡ (begins xs ys && is_this p (nth ys (length xs)))
begins_more [] p [] = refl
begins_more [] p (y ∷ ys) = ap (λ b. b && true) (turned p y) ∙ kept (y == p)
begins_more (x ∷ xs) p [] = refl
begins_more (x ∷ xs) p (y ∷ ys) = ap (λ b. (x == y) && b) (begins_more xs p ys) ∙ assoc (x == y) (begins xs ys) (is_this p (nth ys (length xs)))
  where
    assoc : (a b c : Bool) → (a && (b && c)) ≡ ((a && b) && c)
    assoc true b c = refl
    assoc false b c = refl

-- what begins with more begins with less
pub begins_less : (xs zs ys : List ℕ) → begins (xs ++ zs) ys ≡ true → begins xs ys ≡ true
begins_less [] zs ys h = refl
begins_less (x ∷ xs) zs [] h = absurd (false≢true h)
begins_less (x ∷ xs) zs (y ∷ ys) h = go (begins_less xs zs ys) (x == y) h
  where
    go : (begins (xs ++ zs) ys ≡ true → begins xs ys ≡ true) → (b : Bool) → (b && begins (xs ++ zs) ys) ≡ true → (b && begins xs ys) ≡ true
    go rest true q = rest q
    go rest false q = absurd (false≢true q)

pub same_begins : (xs ys : List ℕ) → same_numbers xs ys ≡ true → begins xs ys ≡ true
same_begins [] ys h = refl
same_begins (x ∷ xs) [] h = absurd (false≢true h)
same_begins (x ∷ xs) (y ∷ ys) h = go (same_begins xs ys) (x == y) h
  where
    go : (same_numbers xs ys ≡ true → begins xs ys ≡ true) → (b : Bool) → (b && same_numbers xs ys) ≡ true → (b && begins xs ys) ≡ true
    go rest true q = rest q
    go rest false q = absurd (false≢true q)

-- what begins others is the same exactly where there are as many
pub begins_same : (xs ys : List ℕ) → begins xs ys ≡ true → same_numbers xs ys ≡ (length xs == length ys)
begins_same [] [] h = refl
begins_same [] (y ∷ ys) h = sym (zero_less (length ys))
begins_same (x ∷ xs) [] h = absurd (false≢true h)
begins_same (x ∷ xs) (y ∷ ys) h = go (begins_same xs ys) (x == y) h
  where
    go : (begins xs ys ≡ true → same_numbers xs ys ≡ (length xs == length ys)) → (b : Bool) → (b && begins xs ys) ≡ true → (b && same_numbers xs ys) ≡ (suc (length xs) == suc (length ys))
    go rest true q = rest q ∙ sym (later (length xs) (length ys))
    go rest false q = absurd (false≢true q)

pub places_append : (n : ℕ) (ps qs : List Place) → places_in n (ps ++ qs) ≡ places_in n ps ++ places_in n qs
places_append n [] qs = refl
places_append n (p ∷ ps) qs = go (p.book == n) (places_append n ps qs)
  where
    go : (b : Bool) → places_in n (ps ++ qs) ≡ places_in n ps ++ places_in n qs → (if b then p.at ∷ places_in n (ps ++ qs) else places_in n (ps ++ qs)) ≡ (if b then p.at ∷ places_in n ps else places_in n ps) ++ places_in n qs
    go true e = ap (λ l. p.at ∷ l) e
    go false e = e

-- a trace that names all of some books names all of each
pub names_each : (books : ℕ → List Event) (a : ℕ) (trace : List Place) (count n : ℕ) → n < count → names_all books a trace count ≡ true → same_numbers (places_in n trace) (places_by a 0 (books n)) ≡ true
names_each books a trace zero n lt h = absurd (omega (arith, lt))
names_each books a trace (suc count) n lt h = go (names_each books a trace count n) (same_numbers (places_in count trace) (places_by a 0 (books count))) refl h (n == count) refl
  where
    go : (n < count → names_all books a trace count ≡ true → same_numbers (places_in n trace) (places_by a 0 (books n)) ≡ true) → (b : Bool) → same_numbers (places_in count trace) (places_by a 0 (books count)) ≡ b → (b && names_all books a trace count) ≡ true → (t : Bool) → (n == count) ≡ t → same_numbers (places_in n trace) (places_by a 0 (books n)) ≡ true
    go rest true e q true s = (let same : n ≡ count = grind (arith, nat_tests, s) in subst (λ k. same_numbers (places_in k trace) (places_by a 0 (books k)) ≡ true) (sym same) e)
    go rest true e q false s = rest (grind (arith, nat_tests, s, lt)) q
    go rest false e q t s = absurd (false≢true q)

-- ---- rows

pub all_push : {A : Type 0} (xs : List A) (x d : A) → ((n : ℕ) → get_or xs n d ≡ d) → x ≡ d → (n : ℕ) → get_or (xs ++ x ∷ []) n d ≡ d
all_push [] x d h e zero = e
all_push [] x d h e (suc n) = refl
all_push (y ∷ xs) x d h e zero = h 0
all_push (y ∷ xs) x d h e (suc n) = all_push xs x d (λ k. h (suc k)) e n

pub push_front : {A : Type 0} (xs : List A) (x d : A) (n : ℕ) → n < length xs → get_or (xs ++ x ∷ []) n d ≡ get_or xs n d
push_front [] x d n lt = absurd (omega (arith, lt))
push_front (y ∷ xs) x d zero lt = refl
push_front (y ∷ xs) x d (suc n) lt = push_front xs x d n (omega (arith, lt))

pub push_last : {A : Type 0} (xs : List A) (x d : A) → get_or (xs ++ x ∷ []) (length xs) d ≡ x
push_last [] x d = refl
push_last (y ∷ xs) x d = push_last xs x d

places_snoc : (a k : ℕ) (es : List Event) (e : Event) → places_by a k (es ++ e ∷ []) ≡ places_by a k es ++ (if e.actor == a then (k + length es) ∷ [] else [])
places_snoc a k [] e = ap (λ i. if e.actor == a then i ∷ [] else []) (omega_zero k)
  where
    omega_zero : (n : ℕ) → n ≡ n + 0
    omega_zero n = omega arith
places_snoc a k (d ∷ es) e = go (d.actor == a) (places_snoc a (suc k) es e ∙ ap (λ i. places_by a (suc k) es ++ (if e.actor == a then i ∷ [] else [])) (moved k (length es)))
  where
    moved : (n m : ℕ) → suc n + m ≡ n + suc m
    moved n m = omega arith

    go : (b : Bool) → places_by a (suc k) (es ++ e ∷ []) ≡ places_by a (suc k) es ++ (if e.actor == a then (k + suc (length es)) ∷ [] else [])
        → (if b then k ∷ places_by a (suc k) (es ++ e ∷ []) else places_by a (suc k) (es ++ e ∷ [])) ≡ (if b then k ∷ places_by a (suc k) es else places_by a (suc k) es) ++ (if e.actor == a then (k + suc (length es)) ∷ [] else [])
    go true h = ap (λ l. k ∷ l) h
    go false h = h

pub rows_more : (actors : ℕ) (es more : List Event) (e : Event) (rows now : List (List ℕ)) (i : ℕ) → AreRows actors es rows → i ≡ length es → now ≡ with_index rows e.actor i → more ≡ es ++ e ∷ [] → AreRows actors more now
rows_more actors es more e rows now i h is put to =
    subst (λ l. AreRows actors l now) (sym to) (subst (AreRows actors (es ++ e ∷ [])) (sym (put ∙ ap (with_index rows e.actor) is)) (record {
      many = length-set rows e.actor (get_or rows e.actor [] ++ length es ∷ []) ∙ h.many;
      each = λ a lt. go a lt (e.actor == a) refl;
    }))
  where
    new : List ℕ
    new = get_or rows e.actor [] ++ length es ∷ []

    go : (a : ℕ) → a < actors → (b : Bool) → (e.actor == a) ≡ b → get_or (set rows e.actor (get_or rows e.actor [] ++ length es ∷ [])) a [] ≡ places_by a 0 (es ++ e ∷ [])
    go a lt true q =
        let same = equal e.actor a q in
        let many = h.many in
        ap (λ k. get_or (set rows e.actor (get_or rows e.actor [] ++ length es ∷ [])) k []) (sym same)
        ∙ get_or-set_same rows e.actor (get_or rows e.actor [] ++ length es ∷ []) [] (omega (arith, lt, many, same))
        ∙ ap (λ k. get_or rows k [] ++ length es ∷ []) same ∙ ap (λ l. l ++ length es ∷ []) (h.each a lt)
        ∙ sym (places_snoc a 0 es e ∙ ap (λ x. places_by a 0 es ++ x) (ap (λ b. if b then (0 + length es) ∷ [] else []) q ∙ ap (λ k. k ∷ []) (start (length es))))
      where
        start : (n : ℕ) → 0 + n ≡ n
        start n = omega arith
    go a lt false q =
        get_or-set_other rows e.actor a (get_or rows e.actor [] ++ length es ∷ []) [] (λ s. absurd (false≢true (sym q ∙ is_equal e.actor a (sym s))))
        ∙ h.each a lt ∙ sym (places_snoc a 0 es e ∙ ap (λ b. places_by a 0 es ++ (if b then (0 + length es) ∷ [] else [])) q ∙ append-nil (places_by a 0 es))

pub all_rows_more : (actors count : ℕ) (books : ℕ → List Event) (all : List (List (List ℕ))) (rows : List (List ℕ)) → AllRows actors count books all → AreRows actors (books count) rows → AllRows actors (suc count) books (all ++ rows ∷ [])
all_rows_more actors count books all rows h r = record {
  many = length-append all (rows ∷ []) ∙ ap (λ k. k + 1) h.many ∙ one count;
  each = λ n lt. go n lt (nat_lt n count) refl;
}
  where
    one : (k : ℕ) → k + 1 ≡ suc k
    one k = omega arith

    go : (n : ℕ) → n < suc count → (b : Bool) → nat_lt n count ≡ b → AreRows actors (books n) (get_or (all ++ rows ∷ []) n [])
    go n lt true q = (let low = ltb-true n count q in let many = h.many in subst (AreRows actors (books n)) (sym (push_front all rows [] n (omega (arith, low, many)))) (h.each n low))
    go n lt false q =
        let high : count ≤ n = grind (arith, nat_tests, q) in
        let many = h.many in
        let same : n ≡ count = omega (arith, lt, high) in
        subst (λ k. AreRows actors (books k) (get_or (all ++ rows ∷ []) k [])) (sym same)
        (subst (λ k. AreRows actors (books count) (get_or (all ++ rows ∷ []) k [])) many (subst (AreRows actors (books count)) (sym (push_last all rows [])) r))

-- the rows of one book
pub rows_first : (actors : ℕ) (books : ℕ → List Event) (all : List (List (List ℕ))) (rows : List (List ℕ)) → AreRows actors (books 0) rows → all ≡ rows ∷ [] → AllRows actors 1 books all
rows_first actors books all rows r is = subst (AllRows actors 1 books) (sym is) (all_rows_more actors 0 books [] rows (record { many = refl; each = λ n lt. absurd (omega (arith, lt)) }) r)

-- the rows of one book more
pub rows_next : (actors i n : ℕ) (books : ℕ → List Event) (all now : List (List (List ℕ))) (rows : List (List ℕ)) → AllRows actors (suc i) books all → AreRows actors (books (suc i)) rows → now ≡ all ++ rows ∷ [] → n ≡ suc i → AllRows actors (suc n) books now
rows_next actors i n books all now rows h r is to = subst (λ k. AllRows actors (suc k) books now) (sym to) (subst (AllRows actors (suc (suc i)) books) (sym is) (all_rows_more actors (suc i) books all rows h r))

nth_at : {A : Type 0} (xs : List A) (i : ℕ) (x : A) → i < length xs → x ≡ get_or xs i x → nth xs i ≡ Some x
nth_at [] i x lt is = absurd (omega (arith, lt))
nth_at (y ∷ xs) zero x lt is = ap Some (sym is)
nth_at (y ∷ xs) (suc i) x lt is = nth_at xs i x (omega (arith, lt)) is

nth_past : {A : Type 0} (xs : List A) (i : ℕ) → length xs ≤ i → nth xs i ≡ None
nth_past [] i le = refl
nth_past (x ∷ xs) zero le = absurd (omega (arith, le))
nth_past (x ∷ xs) (suc i) le = nth_past xs i (omega (arith, le))

-- an atom's book
pub book_at : (r : PlainReport) (i : ℕ) (b : List Event) → i < length r.atom_books → b ≡ get_or r.atom_books i b → books_of r (suc i) ≡ b
book_at r i b lt is = ap book_or_none (nth_at r.atom_books i b lt is)

-- there is none behind the last
pub books_out : (r : PlainReport) → Outside (suc (length r.atom_books)) (books_of r)
books_out r zero le = absurd (omega (arith, le))
books_out r (suc n) le = ap book_or_none (nth_past r.atom_books n (omega (arith, le)))

-- an actor's row in a book
pub row_read : (all : List (List (List ℕ))) (i a : ℕ) (book rows : List (List ℕ)) (row items : List ℕ) → i < length all → HasActor a all → book ≡ get_or all i book → rows ≡ book → row ≡ get_or rows a row → items ≡ row → items ≡ get_or (get_or all i []) a []
row_read all i a book rows row items lt has b r w t =
    let same : rows ≡ get_or all i [] = r ∙ get_or_read all i book lt b [] in
    let low : a < length rows = subst (λ l. a < length l) (sym same) (has i lt) in
    t ∙ get_or_read rows a row low w [] ∙ ap (λ l. get_or l a []) same

-- what follows of a result, where there is one
pub if_ok : {T E : Type 0} (r : Result T E) (P Q : T → Type 0) → ((v : T) → P v → Q v) → IfOk r P → IfOk r Q
if_ok (Ok v) P Q f p = f v p
if_ok (Err e) P Q f p = tt
