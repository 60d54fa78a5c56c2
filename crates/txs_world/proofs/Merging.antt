-- What a commit writes: refs of the store that ascend, and of what was set and what was commuted none was written since.
use Rattle.std.proofs.Common.{◌≡◌, ◌≢◌, ◌≤◌, ◌<◌, ◌+◌, ℕ, zero, suc, Bool, true, false, ◌&&◌, ◌==◌, List, [], ◌∷◌, ◌++◌, length, drop, get_or, Option, Some, None, refl, sym, ap, ◌∙◌, subst, arith, if◌then◌else◌}
use Rattle.std.specs.Prelude.{nat_lt, nat_le}
use Rattle.std.proofs.lemmas.Bool.{ltb-true, ltb-false, eqb-true}
use Rattle.std.proofs.lemmas.Bool.Decides.{nat_tests}
use Rattle.txs_world_protocol.specs.Ask.{Writes, with_write}
use Rattle.txs_world_protocol.specs.declared.event.Event.{Event}
use Rattle.txs_value_cell.specs.Forms.{same_kind}
use Rattle.txs_value_data.specs.declared.value.CellId.{CellId}
use Rattle.txs_value_data.specs.declared.value.CellKind.TheVariants.{Ref}
use Rattle.txs_value_data.specs.declared.value.Value.{Value}
use Rattle.txs_world_book.specs.Book.{has_cell, has_ref, cells_in, are_refs, has_refs, written, least, least_written, Untouched}
use Rattle.txs_world.specs.Store.{merged}
use Rattle.txs_world_book.specs.declared.cell.StoreCell.{StoreCell}
use Rattle.txs_world_book.proofs.Outcomes.{both}
use Rattle.txs_world_book.proofs.Growth.{unwritten_later}

pub joined : (a b : Bool) → a ≡ true → b ≡ true → (a && b) ≡ true
joined a b p q = ap (λ t. t && b) p ∙ q

le_true : (m n : ℕ) → m ≤ n → nat_le m n ≡ true
le_true m n h = grind (arith, nat_tests, h)

pub true_le : (m n : ℕ) → nat_le m n ≡ true → m ≤ n
true_le m n h = grind (arith, nat_tests, h)

-- refs that ascend are refs
pub refs_has : (cells : List StoreCell) (n : ℕ) (cs : List CellId) → are_refs cells n cs ≡ true → has_refs cells cs ≡ true
refs_has cells n [] h = refl
refs_has cells n (c ∷ cs) h =
    let a = both (has_ref cells c) (nat_le n c.number && are_refs cells (suc c.number) cs) h in
    joined (has_ref cells c) (has_refs cells cs) a.0 (refs_has cells (suc c.number) cs (both (nat_le n c.number) (are_refs cells (suc c.number) cs) a.1).1)

-- refs that ascend from a number on do so from a lesser one
pub refs_from : (cells : List StoreCell) (m n : ℕ) (cs : List CellId) → m ≤ n → are_refs cells n cs ≡ true → are_refs cells m cs ≡ true
refs_from cells m n [] le h = refl
refs_from cells m n (c ∷ cs) le h =
    let a = both (has_ref cells c) (nat_le n c.number && are_refs cells (suc c.number) cs) h in
    let b = both (nat_le n c.number) (are_refs cells (suc c.number) cs) a.1 in
    let low = true_le n c.number b.0 in
    joined (has_ref cells c) (nat_le m c.number && are_refs cells (suc c.number) cs) a.0 (joined (nat_le m c.number) (are_refs cells (suc c.number) cs) (le_true m c.number (omega (arith, le, low))) b.1)

pub refs_with : (cells : List StoreCell) (n : ℕ) (ws : Writes) (c : CellId) (v : Value) → has_ref cells c ≡ true → n ≤ c.number → are_refs cells n (cells_in ws) ≡ true → are_refs cells n (cells_in (with_write ws c v)) ≡ true
refs_with cells n [] c v has le h = joined (has_ref cells c) (nat_le n c.number && true) has (joined (nat_le n c.number) true (le_true n c.number le) refl)
refs_with cells n (w ∷ ws) c v has le h = test (λ low q. refs_with cells (suc w.0.number) ws c v has low q) (w.0.number == c.number) (nat_lt c.number w.0.number) refl refl
  where
    a : (has_ref cells w.0 ≡ true) × ((nat_le n w.0.number && are_refs cells (suc w.0.number) (cells_in ws)) ≡ true)
    a = both (has_ref cells w.0) (nat_le n w.0.number && are_refs cells (suc w.0.number) (cells_in ws)) h

    b : (nat_le n w.0.number ≡ true) × (are_refs cells (suc w.0.number) (cells_in ws) ≡ true)
    b = both (nat_le n w.0.number) (are_refs cells (suc w.0.number) (cells_in ws)) a.1

    front : (x : CellId) (xs : List CellId) → has_ref cells x ≡ true → n ≤ x.number → are_refs cells (suc x.number) xs ≡ true → are_refs cells n (x ∷ xs) ≡ true
    front x xs p q r = joined (has_ref cells x) (nat_le n x.number && are_refs cells (suc x.number) xs) p (joined (nat_le n x.number) (are_refs cells (suc x.number) xs) (le_true n x.number q) r)

    test : (suc w.0.number ≤ c.number → are_refs cells (suc w.0.number) (cells_in ws) ≡ true → are_refs cells (suc w.0.number) (cells_in (with_write ws c v)) ≡ true)
        → (s t : Bool) → (w.0.number == c.number) ≡ s → nat_lt c.number w.0.number ≡ t → are_refs cells n (cells_in (if s then (c, v) ∷ ws else if t then (c, v) ∷ w ∷ ws else w ∷ with_write ws c v)) ≡ true
    test r true t e f =
        let same : w.0.number ≡ c.number = eqb-true w.0.number c.number e in
        front c (cells_in ws) has le (subst (λ k. are_refs cells (suc k) (cells_in ws) ≡ true) same b.1)
    test r false true e f =
        let less : c.number < w.0.number = ltb-true c.number w.0.number f in
        front c (cells_in (w ∷ ws)) has le (joined (has_ref cells w.0) (nat_le (suc c.number) w.0.number && are_refs cells (suc w.0.number) (cells_in ws)) a.0 (joined (nat_le (suc c.number) w.0.number) (are_refs cells (suc w.0.number) (cells_in ws)) (le_true (suc c.number) w.0.number (omega (arith, less))) b.1))
    test r false false e f =
        let low : w.0.number ≤ c.number = ltb-false c.number w.0.number f in
        let differ : w.0.number ≢ c.number = λ q. other q in
        front w.0 (cells_in (with_write ws c v)) a.0 (true_le n w.0.number b.0) (r (omega (arith, low, differ)) b.1)
      where
        other : w.0.number ≡ c.number → ⊥
        other q = let z : (w.0.number == c.number) ≡ false = e in grind (arith, nat_tests, q, z)

pub refs_merged : (cells : List StoreCell) (ws xs : Writes) (n : ℕ) → are_refs cells 0 (cells_in ws) ≡ true → are_refs cells n (cells_in xs) ≡ true → are_refs cells 0 (cells_in (merged ws xs)) ≡ true
refs_merged cells ws [] n h g = h
refs_merged cells ws (x ∷ xs) n h g =
    let a = both (has_ref cells x.0) (nat_le n x.0.number && are_refs cells (suc x.0.number) (cells_in xs)) g in
    let b = both (nat_le n x.0.number) (are_refs cells (suc x.0.number) (cells_in xs)) a.1 in
    refs_merged cells (with_write ws x.0 x.1) xs (suc x.0.number) (refs_with cells 0 ws x.0 x.1 a.0 (omega arith) h) b.1

-- ---- written since

pub untouched_later : (book : List Event) (p q : ℕ) (cs : List CellId) → p ≤ q → Untouched book p cs → Untouched book q cs
untouched_later book p q [] le h = tt
untouched_later book p q (c ∷ cs) le h = (unwritten_later c.number p q book le h.0, untouched_later book p q cs le h.1)

untouched_with : (book : List Event) (p : ℕ) (ws : Writes) (c : CellId) (v : Value) → written c.number p book ≡ false → Untouched book p (cells_in ws) → Untouched book p (cells_in (with_write ws c v))
untouched_with book p [] c v e h = (e, tt)
untouched_with book p (w ∷ ws) c v e h = test (untouched_with book p ws c v e h.1) (w.0.number == c.number) (nat_lt c.number w.0.number)
  where
    test : Untouched book p (cells_in (with_write ws c v)) → (s t : Bool) → Untouched book p (cells_in (if s then (c, v) ∷ ws else if t then (c, v) ∷ w ∷ ws else w ∷ with_write ws c v))
    test r true t = (e, h.1)
    test r false true = (e, h)
    test r false false = (h.0, r)

pub untouched_merged : (book : List Event) (p : ℕ) (ws xs : Writes) → Untouched book p (cells_in ws) → Untouched book p (cells_in xs) → Untouched book p (cells_in (merged ws xs))
untouched_merged book p ws [] h g = h
untouched_merged book p ws (x ∷ xs) h g = untouched_merged book p (with_write ws x.0 x.1) xs (untouched_with book p ws x.0 x.1 g.0 h) g.1

-- what the least written ref tells: it is one of the store's, or none was written
abbrev pub Finds : List StoreCell → List Event → ℕ → List CellId → Option CellId → Type 0
Finds cells book p cs None = Untouched book p cs
Finds cells book p cs (Some c) = (has_ref cells c ≡ true) × (written c.number p book ≡ true)

pub finds : (cells : List StoreCell) (book : List Event) (p : ℕ) (cs : List CellId) → has_refs cells cs ≡ true → Finds cells book p cs (least_written book p cs)
finds cells book p [] h = tt
finds cells book p (x ∷ xs) h = go (finds cells book p xs a.1) (written x.number p book) refl
  where
    a : (has_ref cells x ≡ true) × (has_refs cells xs ≡ true)
    a = both (has_ref cells x) (has_refs cells xs) h

    rest : (o : Option CellId) → written x.number p book ≡ false → Finds cells book p xs o → Finds cells book p (x ∷ xs) o
    rest None e d = (e, d)
    rest (Some c) e d = d

    one : (c : CellId) → written x.number p book ≡ true → Finds cells book p xs (Some c) → (t : Bool) → Finds cells book p (x ∷ xs) (if t then Some x else Some c)
    one c e d true = (a.0, e)
    one c e d false = d

    with : (o : Option CellId) → written x.number p book ≡ true → Finds cells book p xs o → Finds cells book p (x ∷ xs) (least (Some x) o)
    with None e d = (a.0, e)
    with (Some c) e d = one c e d (nat_le x.number c.number)

    go : Finds cells book p xs (least_written book p xs) → (t : Bool) → written x.number p book ≡ t → Finds cells book p (x ∷ xs) (if t then least (Some x) (least_written book p xs) else least_written book p xs)
    go d true e = with (least_written book p xs) e d
    go d false e = rest (least_written book p xs) e d

-- the refs of two lists are refs
pub refs_joined : (cells : List StoreCell) (cs ds : List CellId) → has_refs cells cs ≡ true → has_refs cells ds ≡ true → has_refs cells (cs ++ ds) ≡ true
refs_joined cells [] ds h g = g
refs_joined cells (c ∷ cs) ds h g = let a = both (has_ref cells c) (has_refs cells cs) h in joined (has_ref cells c) (has_refs cells (cs ++ ds)) a.0 (refs_joined cells cs ds a.1 g)

-- of two lists none is written: of neither
pub untouched_parts : (book : List Event) (p : ℕ) (cs ds : List CellId) → Untouched book p (cs ++ ds) → Untouched book p cs × Untouched book p ds
untouched_parts book p [] ds h = (tt, h)
untouched_parts book p (c ∷ cs) ds h = let r = untouched_parts book p cs ds h.1 in ((h.0, r.0), r.1)

-- ---- the least of some cells

pub least_none : (o : Option CellId) → least o None ≡ o
least_none None = refl
least_none (Some c) = refl

least_of_three : (b c d : CellId) (s t u : Bool) → nat_le b.number c.number ≡ s → nat_le c.number d.number ≡ t → nat_le b.number d.number ≡ u
    → least (if s then Some b else Some c) (Some d) ≡ least (Some b) (if t then Some c else Some d)
least_of_three b c d true true u p q r =
    let le : b.number ≤ d.number = (let m = true_le b.number c.number p in let n = true_le c.number d.number q in omega (arith, m, n)) in
    ap (λ x. if x then Some b else Some d) (le_true b.number d.number le) ∙ sym (ap (λ x. if x then Some b else Some c) p)
least_of_three b c d true false u p q r = refl
least_of_three b c d false true u p q r = ap (λ x. if x then Some c else Some d) q ∙ sym (ap (λ x. if x then Some b else Some c) p)
least_of_three b c d false false true p q r = absurd (let n = true_le b.number d.number r in grind (arith, nat_tests, p, q, n))
least_of_three b c d false false false p q r = ap (λ x. if x then Some c else Some d) q ∙ sym (ap (λ x. if x then Some b else Some d) r)

pub least_assoc : (o1 o2 o3 : Option CellId) → least (least o1 o2) o3 ≡ least o1 (least o2 o3)
least_assoc None o2 o3 = refl
least_assoc (Some b) None o3 = refl
least_assoc (Some b) (Some c) None = least_none (least (Some b) (Some c))
least_assoc (Some b) (Some c) (Some d) = least_of_three b c d (nat_le b.number c.number) (nat_le c.number d.number) (nat_le b.number d.number) refl refl refl

-- the least of two lists
pub least_joined : (book : List Event) (p : ℕ) (cs ds : List CellId) → least_written book p (cs ++ ds) ≡ least (least_written book p cs) (least_written book p ds)
least_joined book p [] ds = refl
least_joined book p (c ∷ cs) ds = go (least_joined book p cs ds) (written c.number p book)
  where
    go : least_written book p (cs ++ ds) ≡ least (least_written book p cs) (least_written book p ds) → (t : Bool)
        → (if t then least (Some c) (least_written book p (cs ++ ds)) else least_written book p (cs ++ ds)) ≡ least (if t then least (Some c) (least_written book p cs) else least_written book p cs) (least_written book p ds)
    go r true = ap (least (Some c)) r ∙ sym (least_assoc (Some c) (least_written book p cs) (least_written book p ds))
    go r false = r

drop_at : (cs : List CellId) (i : ℕ) (d : CellId) → i < length cs → drop i cs ≡ get_or cs i d ∷ drop (suc i) cs
drop_at [] i d lt = absurd (omega (arith, lt))
drop_at (c ∷ cs) zero d lt = refl
drop_at (c ∷ cs) (suc i) d lt = drop_at cs i d (omega (arith, lt))

-- the next of some refs is a cell of the store
pub next_there : (cells : List StoreCell) (cs : List CellId) (i : ℕ) (d : CellId) → i < length cs → has_refs cells (drop i cs) ≡ true → has_cell cells (get_or cs i d) ≡ true
next_there cells cs i d lt h =
    let x = get_or cs i d in
    let here = both (has_ref cells x) (has_refs cells (drop (suc i) cs)) (subst (λ l. has_refs cells l ≡ true) (drop_at cs i d lt) h) in
    (both (same_kind x.kind Ref) (has_cell cells x) here.0).1

-- one more of some cells: those to come are refs, and with what was found they give the answer
abbrev pub FoundSo : List StoreCell → List Event → ℕ → List CellId → Option CellId → ℕ → Type 0
FoundSo cells book p cs found i = (has_refs cells (drop i cs) ≡ true) × (least found (least_written book p (drop i cs)) ≡ least_written book p cs)

pub found_next : (cells : List StoreCell) (book : List Event) (p : ℕ) (cs : List CellId) (i : ℕ) (d : CellId) (found new : Option CellId) → i < length cs → FoundSo cells book p cs found i → new ≡ least found (least_written book p (get_or cs i d ∷ []))
    → FoundSo cells book p cs new (i + 1)
found_next cells book p cs i d found new lt h e =
    let next : suc i ≡ i + 1 = omega arith in
    let x = get_or cs i d in
    let there = drop_at cs i d lt in
    subst (FoundSo cells book p cs new) next (
      (both (has_ref cells x) (has_refs cells (drop (suc i) cs)) (subst (λ l. has_refs cells l ≡ true) there h.0)).1,
      ap (λ o. least o (least_written book p (drop (suc i) cs))) e ∙ least_assoc found (least_written book p (x ∷ [])) (least_written book p (drop (suc i) cs))
          ∙ ap (least found) (sym (least_joined book p (x ∷ []) (drop (suc i) cs))) ∙ ap (λ l. least found (least_written book p l)) (sym there) ∙ h.1,
    )

-- ---- a write among others

pub tested : (ws : Writes) (w : CellId × Value) (c : CellId) (v : Value) (s t : Bool) → (w.0.number == c.number) ≡ s → nat_lt c.number w.0.number ≡ t → with_write (w ∷ ws) c v ≡ (if s then (c, v) ∷ ws else if t then (c, v) ∷ w ∷ ws else w ∷ with_write ws c v)
tested ws w c v s t e f = ap (λ x. if x then (c, v) ∷ ws else if nat_lt c.number w.0.number then (c, v) ∷ w ∷ ws else w ∷ with_write ws c v) e ∙ ap (λ x. if s then (c, v) ∷ ws else if x then (c, v) ∷ w ∷ ws else w ∷ with_write ws c v) f

pub eqb_no : (m n : ℕ) → m ≢ n → (m == n) ≡ false
eqb_no m n h = grind (arith, nat_tests, h)

pub ltb_yes : (m n : ℕ) → m < n → nat_lt m n ≡ true
ltb_yes m n h = grind (arith, nat_tests, h)

pub ltb_no : (m n : ℕ) → n ≤ m → nat_lt m n ≡ false
ltb_no m n h = grind (arith, nat_tests, h)
