-- The tasks at a transaction's end, as plain data: validators look at just the writes of its commit, each at the value that is written.
use Rattle.std.proofs.Common.{◌≡◌, ℕ, suc, ◌<◌, ◌≤◌, ◌==◌, ◌||◌, Bool, true, false, List, [], ◌∷◌, map, Option, Some, None, refl, sym, ap, ◌∙◌, subst, arith, if◌then◌else◌}
use Rattle.std.specs.Prelude.{nat_lt, is_some}
use Rattle.std.proofs.lemmas.Bool.{eqb-true, eqb-false, ltb-true, ltb-false, ne_eqb, false≢true}
use Rattle.txs_world_protocol.specs.Ask.{Writes, buffered, with_write}
use Rattle.txs_frame.specs.Frame.{PlainTxFrame, with_cell, with_cells, has_number, outside_of, writes_to, refs_of, commuted, set_writes, cells_in, written, commutes_of, by_ref, phase_work}
use Rattle.txs_frame.specs.Phase.{value_or_nil, first_of, to_write}
use Rattle.txs_frame.specs.declared.frame.Commute.{Commute}
use Rattle.txs_value_data.specs.declared.value.CellId.{CellId}
use Rattle.txs_value_data.specs.declared.value.Value.{Value}
use Rattle.txs_value_data.specs.declared.value.Value.TheVariants.{Nil}
use Rattle.txs_tree_meaning.specs.Meaning.{Completion, Completes, Recurs, Faults, Retries, Waits, OutOfTurns, Invalid, bind, Applies}
use Rattle.txs_tree_meaning.specs.Transaction.{value_or, merged, redone}
use Rattle.txs_theorem_threads.proofs.Owned.{itself, own_found, other_found}
use Rattle.txs_theorem_threads.proofs.Quiet.{Each, each_both}

-- ---- numbers that rise

-- numbers that rise, from this one on
abbrev pub Rise : ℕ → List ℕ → Type 0
Rise l [] = Unit {0}
Rise l (n ∷ ns) = (l ≤ n) × Rise (suc n) ns

-- whether a number is among these
abbrev pub among : List ℕ → ℕ → Bool
among [] k = false
among (n ∷ ns) k = n == k || among ns k

-- a number joins those that rise, once
abbrev pub with_number : List ℕ → ℕ → List ℕ
with_number [] k = k ∷ []
with_number (n ∷ ns) k = if n == k then n ∷ ns else if nat_lt k n then k ∷ n ∷ ns else n ∷ with_number ns k

-- numbers join, one after the other
abbrev pub with_numbers : List ℕ → List ℕ → List ℕ
with_numbers ns [] = ns
with_numbers ns (k ∷ ks) = with_numbers (with_number ns k) ks

-- what rises from a number rises from each smaller one
rise_from : (l m : ℕ) (ns : List ℕ) → l ≤ m → Rise m ns → Rise l ns
rise_from l m [] le up = tt
rise_from l m (n ∷ ns) le up = (let h : m ≤ n = up.0 in omega (arith, le, h), up.1)

rise_with : (l : ℕ) (ns : List ℕ) (k : ℕ) → Rise l ns → l ≤ k → Rise l (with_number ns k)
rise_with l [] k up le = (le, tt)
rise_with l (n ∷ ns) k up le = test (n == k) (nat_lt k n) refl refl (rise_with (suc n) ns k up.1)
  where
    test : (a b : Bool) → (n == k) ≡ a → nat_lt k n ≡ b → (suc n ≤ k → Rise (suc n) (with_number ns k)) → Rise l (if a then n ∷ ns else if b then k ∷ n ∷ ns else n ∷ with_number ns k)
    test true b e f rest = up
    test false true e f rest = (le, ((let h = ltb-true k n f in omega (arith, h)), up.1))
    test false false e f rest =
        let h = ltb-false k n f in
        let g = eqb-false n k e in
        (up.0, rest (omega (arith, h, g)))

rise_all : (ns ks : List ℕ) → Rise 0 ns → Rise 0 (with_numbers ns ks)
rise_all ns [] up = up
rise_all ns (k ∷ ks) up = rise_all (with_number ns k) ks (rise_with 0 ns k up (omega arith))

-- a number among those that rise is none below them
among_least : (l : ℕ) (ns : List ℕ) (k : ℕ) → Rise l ns → among ns k ≡ true → l ≤ k
among_least l [] k up h = absurd (false≢true h)
among_least l (n ∷ ns) k up h = test (n == k) refl h (among_least (suc n) ns k up.1)
  where
    test : (b : Bool) → (n == k) ≡ b → (b || among ns k) ≡ true → (among ns k ≡ true → suc n ≤ k) → l ≤ k
    test true e g rest = let le : l ≤ n = up.0 in let same = eqb-true n k e in omega (arith, le, same)
    test false e g rest = let le : l ≤ n = up.0 in let more = rest g in omega (arith, le, more)

-- one that is among them doesn't join anew
number_stays : (l : ℕ) (ns : List ℕ) (k : ℕ) → Rise l ns → among ns k ≡ true → with_number ns k ≡ ns
number_stays l [] k up h = absurd (false≢true h)
number_stays l (n ∷ ns) k up h = test (n == k) (nat_lt k n) refl h (number_stays (suc n) ns k up.1)
  where
    test : (a b : Bool) → nat_lt k n ≡ b → (a || among ns k) ≡ true → (among ns k ≡ true → with_number ns k ≡ ns) → (if a then n ∷ ns else if b then k ∷ n ∷ ns else n ∷ with_number ns k) ≡ n ∷ ns
    test true b f g rest = refl
    test false true f g rest =
        let less = ltb-true k n f in
        let more : suc n ≤ k = among_least (suc n) ns k up.1 g in
        absurd (omega (arith, less, more))
    test false false f g rest = ap (λ l1. n ∷ l1) (rest g)

-- ---- numbers of cells and of writes

-- the numbers of cells
abbrev pub numbers : List CellId → List ℕ
numbers cs = map (λ c. c.number) cs

-- the numbers of the refs that are written
abbrev pub numbers_in : Writes → List ℕ
numbers_in ws = map (λ w. w.0.number) ws

cell_joins : (ds : List CellId) (c : CellId) → numbers (with_cell ds c) ≡ with_number (numbers ds) c.number
cell_joins [] c = refl
cell_joins (d ∷ ds) c = test (d.number == c.number) (nat_lt c.number d.number) (cell_joins ds c)
  where
    test : (a b : Bool) → numbers (with_cell ds c) ≡ with_number (numbers ds) c.number → numbers (if a then d ∷ ds else if b then c ∷ d ∷ ds else d ∷ with_cell ds c) ≡ (if a then d.number ∷ numbers ds else if b then c.number ∷ d.number ∷ numbers ds else d.number ∷ with_number (numbers ds) c.number)
    test true b rest = refl
    test false true rest = refl
    test false false rest = ap (λ l. d.number ∷ l) rest

write_joins : (ws : Writes) (c : CellId) (v : Value) → numbers_in (with_write ws c v) ≡ with_number (numbers_in ws) c.number
write_joins [] c v = refl
write_joins (w ∷ ws) c v = test (w.0.number == c.number) (nat_lt c.number w.0.number) refl (write_joins ws c v)
  where
    test : (a b : Bool) → (w.0.number == c.number) ≡ a → numbers_in (with_write ws c v) ≡ with_number (numbers_in ws) c.number →
        numbers_in (if a then (c, v) ∷ ws else if b then (c, v) ∷ w ∷ ws else w ∷ with_write ws c v) ≡ (if a then w.0.number ∷ numbers_in ws else if b then c.number ∷ w.0.number ∷ numbers_in ws else w.0.number ∷ with_number (numbers_in ws) c.number)
    test true b e rest = ap (λ n. n ∷ numbers_in ws) (sym (eqb-true w.0.number c.number e))
    test false true e rest = refl
    test false false e rest = ap (λ l. w.0.number ∷ l) rest

cells_join : (ds cs : List CellId) → numbers (with_cells ds cs) ≡ with_numbers (numbers ds) (numbers cs)
cells_join ds [] = refl
cells_join ds (c ∷ cs) = cells_join (with_cell ds c) cs ∙ ap (λ ns. with_numbers ns (numbers cs)) (cell_joins ds c)

writes_join : (ws xs : Writes) → numbers_in (merged ws xs) ≡ with_numbers (numbers_in ws) (numbers_in xs)
writes_join ws [] = refl
writes_join ws (x ∷ xs) = writes_join (with_write ws x.0 x.1) xs ∙ ap (λ ns. with_numbers ns (numbers_in xs)) (write_joins ws x.0 x.1)

of_writes : (ws : Writes) → numbers (cells_in ws) ≡ numbers_in ws
of_writes [] = refl
of_writes (w ∷ ws) = ap (λ l. w.0.number ∷ l) (of_writes ws)

-- the writes of a commit are to the refs that the transaction writes, where the others that it commuted have their values
pub tasks_written : (w : PlainTxFrame) (xs : Writes) → numbers_in xs ≡ numbers (commuted w) → numbers (written w) ≡ numbers_in (merged (set_writes w) xs)
tasks_written w xs e =
    cells_join (cells_in (set_writes w)) (commuted w)
    ∙ ap (λ ns. with_numbers ns (numbers (commuted w))) (of_writes (set_writes w))
    ∙ ap (λ ks. with_numbers (numbers_in (set_writes w)) ks) (sym e)
    ∙ sym (writes_join (set_writes w) xs)

-- a write more, and the numbers still rise
pub rise_written : (ws : Writes) (c : CellId) (v : Value) → Rise 0 (numbers_in ws) → Rise 0 (numbers_in (with_write ws c v))
rise_written ws c v up = subst (λ l. Rise 0 l) (sym (write_joins ws c v)) (rise_with 0 (numbers_in ws) c.number up (omega arith))

rise_kept : (l : ℕ) (ds : List CellId) (ws : Writes) → Rise l (numbers_in ws) → Rise l (numbers_in (writes_to ds ws))
rise_kept l ds [] up = tt
rise_kept l ds (w ∷ ws) up = test (has_number ds w.0.number) (rise_kept (suc w.0.number) ds ws up.1)
  where
    test : (b : Bool) → Rise (suc w.0.number) (numbers_in (writes_to ds ws)) → Rise l (numbers_in (if b then w ∷ writes_to ds ws else writes_to ds ws))
    test true rest = (up.0, rest)
    test false rest = rise_from l (suc w.0.number) (numbers_in (writes_to ds ws)) (let h : l ≤ w.0.number = up.0 in omega (arith, h)) rest

rise_outside : (l : ℕ) (ds cs : List CellId) → Rise l (numbers cs) → Rise l (numbers (outside_of ds cs))
rise_outside l ds [] up = tt
rise_outside l ds (c ∷ cs) up = test (has_number ds c.number) (rise_outside (suc c.number) ds cs up.1)
  where
    test : (b : Bool) → Rise (suc c.number) (numbers (outside_of ds cs)) → Rise l (numbers (if b then outside_of ds cs else c ∷ outside_of ds cs))
    test true rest = rise_from l (suc c.number) (numbers (outside_of ds cs)) (let h : l ≤ c.number = up.0 in omega (arith, h)) rest
    test false rest = (up.0, rest)

-- the refs that were commuted and not set ascend
pub commuted_rise : (w : PlainTxFrame) → Rise 0 (numbers (commuted w))
commuted_rise w =
    let cs = map (λ (c : Commute). c.cell) w.commutes in
    rise_outside 0 w.sets (refs_of w.commutes) (subst (λ l. Rise 0 l) (sym (cells_join [] cs)) (rise_all [] (numbers cs) tt))

-- ---- values

-- each of these writes is found among others by its ref's number
abbrev Found : Writes → Writes → Type 0
Found zs [] = Unit {0}
Found zs (y ∷ ys) = (buffered zs y.0.number ≡ Some y.1) × Found zs ys

-- a write to a smaller number hides none
found_more : (y : CellId × Value) (ys zs : Writes) → Rise (suc y.0.number) (numbers_in zs) → Found ys zs → Found (y ∷ ys) zs
found_more y ys [] up h = tt
found_more y ys (z ∷ zs) up h =
    let less : suc y.0.number ≤ z.0.number = up.0 in
    let apart = ne_eqb y.0.number z.0.number (λ e. absurd (omega (arith, less, e))) in (
      ap (λ b. if b then Some y.1 else buffered ys z.0.number) apart ∙ h.0,
      found_more y ys zs (rise_from (suc y.0.number) (suc z.0.number) (numbers_in zs) (omega (arith, less)) up.1) h.1,
    )

found_all : (l : ℕ) (ys : Writes) → Rise l (numbers_in ys) → Found ys ys
found_all l [] up = tt
found_all l (y ∷ ys) up = (ap (λ b. if b then Some y.1 else buffered ys y.0.number) (itself y.0.number), found_more y ys ys up.1 (found_all (suc y.0.number) ys up.1))

-- a number below all has no write
none_there : (l : ℕ) (ws : Writes) (k : ℕ) → Rise l (numbers_in ws) → k < l → buffered ws k ≡ None
none_there l [] k up lt = refl
none_there l (w ∷ ws) k up lt =
    let le : l ≤ w.0.number = up.0 in
    ap (λ b. if b then Some w.1 else buffered ws k) (ne_eqb w.0.number k (λ e. absurd (omega (arith, le, lt, e))))
    ∙ none_there (suc w.0.number) ws k up.1 (omega (arith, le, lt))

-- what two lists of writes have together
merged_value : (l : ℕ) (a b : Writes) (k : ℕ) → Rise l (numbers_in b) → buffered (merged a b) k ≡ first_of (buffered b k) (buffered a k)
merged_value l a [] k up = refl
merged_value l a (x ∷ xs) k up =
    let a1 = with_write a x.0 x.1 in
    merged_value (suc x.0.number) a1 xs k up.1 ∙ test (x.0.number == k) refl
  where
    test : (b : Bool) → (x.0.number == k) ≡ b → first_of (buffered xs k) (buffered (with_write a x.0 x.1) k) ≡ first_of (if b then Some x.1 else buffered xs k) (buffered a k)
    test true e =
        let same = eqb-true x.0.number k e in
        ap (λ o. first_of o (buffered (with_write a x.0 x.1) k)) (none_there (suc x.0.number) xs k up.1 (omega (arith, same)))
        ∙ subst (λ m. buffered (with_write a x.0 x.1) m ≡ Some x.1) same (own_found a x.0 x.1)
    test false e = ap (λ o. first_of (buffered xs k) o) (other_found a x.0 x.1 k e)

-- a write that isn't kept
not_kept : (ds : List CellId) (ws : Writes) (k : ℕ) → has_number ds k ≡ false → buffered (writes_to ds ws) k ≡ None
not_kept ds [] k h = refl
not_kept ds (w ∷ ws) k h = test (has_number ds w.0.number) refl (not_kept ds ws k h)
  where
    apart : (b : Bool) → has_number ds w.0.number ≡ true → (w.0.number == k) ≡ b → (if b then Some w.1 else buffered (writes_to ds ws) k) ≡ buffered (writes_to ds ws) k
    apart true e q = absurd (false≢true (sym h ∙ ap (λ n. has_number ds n) (sym (eqb-true w.0.number k q)) ∙ e))
    apart false e q = refl

    test : (b : Bool) → has_number ds w.0.number ≡ b → buffered (writes_to ds ws) k ≡ None → buffered (if b then w ∷ writes_to ds ws else writes_to ds ws) k ≡ None
    test true e rest = apart (w.0.number == k) e refl ∙ rest
    test false e rest = rest

-- a write that is kept is the one that there was
kept_value : (ds : List CellId) (ws : Writes) (k : ℕ) (v : Value) → buffered (writes_to ds ws) k ≡ Some v → buffered ws k ≡ Some v
kept_value ds [] k v h = h
kept_value ds (w ∷ ws) k v h = test (has_number ds w.0.number) refl (kept_value ds ws k v) h
  where
    either : (b : Bool) → (buffered (writes_to ds ws) k ≡ Some v → buffered ws k ≡ Some v) → (if b then Some w.1 else buffered (writes_to ds ws) k) ≡ Some v → (if b then Some w.1 else buffered ws k) ≡ Some v
    either true rest g = g
    either false rest g = rest g

    left_out : (b : Bool) → has_number ds w.0.number ≡ false → (w.0.number == k) ≡ b → (buffered (writes_to ds ws) k ≡ Some v → buffered ws k ≡ Some v) → buffered (writes_to ds ws) k ≡ Some v → (if b then Some w.1 else buffered ws k) ≡ Some v
    left_out true e q rest g = absurd (false≢true (ap is_some (sym (not_kept ds ws k (ap (λ n. has_number ds n) (sym (eqb-true w.0.number k q)) ∙ e)) ∙ g)))
    left_out false e q rest g = rest g

    test : (b : Bool) → has_number ds w.0.number ≡ b → (buffered (writes_to ds ws) k ≡ Some v → buffered ws k ≡ Some v) → buffered (if b then w ∷ writes_to ds ws else writes_to ds ws) k ≡ Some v → buffered (w ∷ ws) k ≡ Some v
    test true e rest g = either (w.0.number == k) rest g
    test false e rest g = left_out (w.0.number == k) e refl rest g

-- this gives each write's value by its ref's number
abbrev pub Values : (ℕ → Value) → Writes → Type 0
Values f [] = Unit {0}
Values f (y ∷ ys) = (f y.0.number ≡ y.1) × Values f ys

-- what each validator looks at is the value that the commit writes
pub values_written : (w : PlainTxFrame) (xs : Writes) → Rise 0 (numbers_in w.values) → Rise 0 (numbers_in xs) → Values (to_write xs w) (merged (set_writes w) xs)
values_written w xs own up = go (merged (set_writes w) xs) (found_all 0 (merged (set_writes w) xs) rises)
  where
    rises : Rise 0 (numbers_in (merged (set_writes w) xs))
    rises = subst (λ l. Rise 0 l) (sym (writes_join (set_writes w) xs)) (rise_all (numbers_in (set_writes w)) (numbers_in xs) (rise_kept 0 w.sets w.values own))

    first : (o : Option Value) (k : ℕ) (v : Value) → first_of o (buffered (set_writes w) k) ≡ Some v → first_of o (buffered w.values k) ≡ Some v
    first None k v e = kept_value w.sets w.values k v e
    first (Some x) k v e = e

    one : (k : ℕ) (v : Value) → buffered (merged (set_writes w) xs) k ≡ Some v → to_write xs w k ≡ v
    one k v e = ap value_or_nil (first (buffered xs k) k v (sym (merged_value 0 (set_writes w) xs k up) ∙ e))

    go : (ys : Writes) → Found (merged (set_writes w) xs) ys → Values (to_write xs w) ys
    go [] h = tt
    go (y ∷ ys) h = (one y.0.number y.1 h.0, go ys h.1)

-- ---- commutes that are redone

-- what holds of a part's value and state, where it completes
abbrev pub Completed : {S A : Type 0} → (A → S → Type 0) → Completion S A → Type 0
Completed F (Completes a s) = F a s
Completed F (Recurs vs s) = Unit {0}
Completed F (Faults f s) = Unit {0}
Completed F (Retries s) = Unit {0}
Completed F (Waits s) = Unit {0}
Completed F (OutOfTurns s) = Unit {0}
Completed F Invalid = Unit {0}

pub bind_completed : {S A B : Type 0} (F : B → S → Type 0) (r : Completion S A) (go : A → S → Completion S B) → ((a : A) (s : S) → Completed F (go a s)) → Completed F (bind r go)
bind_completed F (Completes a s) go h = h a s
bind_completed F (Recurs vs s) go h = tt
bind_completed F (Faults f s) go h = tt
bind_completed F (Retries s) go h = tt
bind_completed F (Waits s) go h = tt
bind_completed F (OutOfTurns s) go h = tt
bind_completed F Invalid go h = tt

-- a commute's ref is among these
abbrev pub IsAmong : List ℕ → Commute → Type 0
IsAmong ns c = among ns c.cell.number ≡ true

second : (b : Bool) → (b || true) ≡ true
second true = refl
second false = refl

-- the refs of the phase's commutes are those that were commuted and not set
pub phase_among : (w : PlainTxFrame) → Each (IsAmong (numbers (commuted w))) (phase_work w)
phase_among w = by_refs (commuted w) (λ k h. h)
  where
    of_one : (k : ℕ) → among (numbers (commuted w)) k ≡ true → (cs : List Commute) → Each (IsAmong (numbers (commuted w))) (commutes_of k cs)
    of_one k h [] = tt
    of_one k h (c ∷ cs) = test (c.cell.number == k) refl (of_one k h cs)
      where
        test : (b : Bool) → (c.cell.number == k) ≡ b → Each (IsAmong (numbers (commuted w))) (commutes_of k cs) → Each (IsAmong (numbers (commuted w))) (if b then c ∷ commutes_of k cs else commutes_of k cs)
        test true e rest = (ap (λ m. among (numbers (commuted w)) m) (eqb-true c.cell.number k e) ∙ h, rest)
        test false e rest = rest

    by_refs : (ds : List CellId) → ((k : ℕ) → among (numbers ds) k ≡ true → among (numbers (commuted w)) k ≡ true) → Each (IsAmong (numbers (commuted w))) (by_ref ds w.commutes)
    by_refs [] h = tt
    by_refs (d ∷ ds) h =
        each_both (IsAmong (numbers (commuted w))) (commutes_of d.number w.commutes) (by_ref ds w.commutes)
        (of_one d.number (h d.number (ap (λ b. b || among (numbers ds) d.number) (itself d.number))) w.commutes)
        (by_refs ds (λ k e. h k (ap (λ b. d.number == k || b) e ∙ second (d.number == k))))

-- commutes that are redone leave their refs as they were
pub redone_numbers : {S : Type 0} (ns : List ℕ) → Rise 0 ns → (f : Applies S) (work : List Commute) → Each (IsAmong ns) work → (ws : Writes) → numbers_in ws ≡ ns → (s : S) → Completed (λ xs s1. numbers_in xs ≡ ns) (redone f work ws s)
redone_numbers ns up f [] all ws e s = e
redone_numbers ns up f (c ∷ cs) all ws e s =
    bind_completed (λ xs s1. numbers_in xs ≡ ns) (f c.callee (value_or (buffered ws c.cell.number) Nil ∷ c.args) s) (λ v s1. redone f cs (with_write ws c.cell v) s1)
    (λ v s1. redone_numbers ns up f cs all.1 (with_write ws c.cell v) (write_joins ws c.cell v ∙ ap (λ l. with_number l c.cell.number) e ∙ number_stays 0 ns c.cell.number up all.0) s1)
