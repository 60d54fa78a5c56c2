-- Each ref that a transaction set has a value of its own, and so is among the writes of its commit.
use Rattle.std.proofs.Common.{◌≡◌, ℕ, Bool, true, false, ◌||◌, ◌==◌, List, [], ◌∷◌, ◌++◌, map, Option, Some, None, is_some, refl, sym, ap, ◌∙◌, subst, if◌then◌else◌}
use Rattle.std.specs.Prelude.{nat_lt}
use Rattle.std.proofs.lemmas.Bool.{eq-eqb, eqb-true, false≢true}
use Rattle.txs_world_protocol.specs.Ask.{Writes, buffered, with_write}
use Rattle.txs_frame.specs.Frame.{PlainTxFrame, empty_frame, with_cell, has_number, cells_in, commuted, writes_to, set_writes, commute_ref, commutes_of, by_ref, phase_work}
use Rattle.txs_frame.specs.declared.frame.Commute.{Commute}
use Rattle.txs_value_cell.specs.Cells.{World}
use Rattle.txs_tree_meaning.specs.Thread.{is_held}
use Rattle.txs_tree_meaning.specs.Transaction.{valued}
use Rattle.txs_value_data.specs.declared.op.Callee.{Callee}
use Rattle.txs_value_data.specs.declared.value.CellId.{CellId}
use Rattle.txs_value_data.specs.declared.value.Value.{Value}
use Rattle.txs_theorem_threads.specs.Noted.{AreWritten}

-- a number is itself
pub itself : (k : ℕ) → (k == k) ≡ true
itself k = eq-eqb k k refl

-- what differs from one of two equal numbers differs from the other
pub differs : (a b k : ℕ) → (a == b) ≡ true → (b == k) ≡ false → (a == k) ≡ false
differs a b k e d = ap (λ x. x == k) (eqb-true a b e) ∙ d

-- ---- writes

pub own_found : (ws : Writes) (c : CellId) (v : Value) → buffered (with_write ws c v) c.number ≡ Some v
own_found [] c v = ap (λ b. if b then Some v else None) (itself c.number)
own_found (w ∷ ws) c v = test (w.0.number == c.number) (nat_lt c.number w.0.number) refl (own_found ws c v)
  where
    head : (xs : Writes) → buffered ((c, v) ∷ xs) c.number ≡ Some v
    head xs = ap (λ b. if b then Some v else buffered xs c.number) (itself c.number)

    test : (a b : Bool) → (w.0.number == c.number) ≡ a → buffered (with_write ws c v) c.number ≡ Some v → buffered (if a then (c, v) ∷ ws else if b then (c, v) ∷ w ∷ ws else w ∷ with_write ws c v) c.number ≡ Some v
    test true b e rest = head ws
    test false true e rest = head (w ∷ ws)
    test false false e rest = ap (λ b. if b then Some w.1 else buffered (with_write ws c v) c.number) e ∙ rest

pub other_found : (ws : Writes) (c : CellId) (v : Value) (k : ℕ) → (c.number == k) ≡ false → buffered (with_write ws c v) k ≡ buffered ws k
other_found [] c v k d = ap (λ b. if b then Some v else None) d
other_found (w ∷ ws) c v k d = test (w.0.number == c.number) (nat_lt c.number w.0.number) refl (other_found ws c v k d)
  where
    head : (xs : Writes) → buffered ((c, v) ∷ xs) k ≡ buffered xs k
    head xs = ap (λ b. if b then Some v else buffered xs k) d

    test : (a b : Bool) → (w.0.number == c.number) ≡ a → buffered (with_write ws c v) k ≡ buffered ws k → buffered (if a then (c, v) ∷ ws else if b then (c, v) ∷ w ∷ ws else w ∷ with_write ws c v) k ≡ buffered (w ∷ ws) k
    test true b e rest = head ws ∙ sym (ap (λ b. if b then Some w.1 else buffered ws k) (differs w.0.number c.number k e d))
    test false true e rest = head (w ∷ ws)
    test false false e rest = ap (λ x. if w.0.number == k then Some w.1 else x) rest

-- of cells that are wanted, the writes are those that there were
kept_written : (ds : List CellId) (ws : Writes) (k : ℕ) → has_number ds k ≡ true → buffered (writes_to ds ws) k ≡ buffered ws k
kept_written ds [] k h = refl
kept_written ds (w ∷ ws) k h = test (has_number ds w.0.number) refl (kept_written ds ws k h)
  where
    left_out : (b : Bool) → has_number ds w.0.number ≡ false → (w.0.number == k) ≡ b → buffered ws k ≡ (if b then Some w.1 else buffered ws k)
    left_out true e q = absurd (false≢true (sym e ∙ ap (λ n. has_number ds n) (eqb-true w.0.number k q) ∙ h))
    left_out false e q = refl

    test : (b : Bool) → has_number ds w.0.number ≡ b → buffered (writes_to ds ws) k ≡ buffered ws k → buffered (if b then w ∷ writes_to ds ws else writes_to ds ws) k ≡ buffered (w ∷ ws) k
    test true e rest = ap (λ x. if w.0.number == k then Some w.1 else x) rest
    test false e rest = rest ∙ left_out (w.0.number == k) e refl

-- ---- cells

pub joined : (ds : List CellId) (c : CellId) → has_number (with_cell ds c) c.number ≡ true
joined [] c = ap (λ b. b || false) (itself c.number)
joined (d ∷ ds) c = test (d.number == c.number) (nat_lt c.number d.number) refl (joined ds c)
  where
    second : (b : Bool) → (b || true) ≡ true
    second true = refl
    second false = refl

    test : (a b : Bool) → (d.number == c.number) ≡ a → has_number (with_cell ds c) c.number ≡ true → has_number (if a then d ∷ ds else if b then c ∷ d ∷ ds else d ∷ with_cell ds c) c.number ≡ true
    test true b e rest = ap (λ b. b || has_number ds c.number) e
    test false true e rest = ap (λ b. b || has_number (d ∷ ds) c.number) (itself c.number)
    test false false e rest = ap (λ x. d.number == c.number || x) rest ∙ second (d.number == c.number)

pub others : (ds : List CellId) (c : CellId) (k : ℕ) → (c.number == k) ≡ false → has_number (with_cell ds c) k ≡ has_number ds k
others [] c k e = ap (λ b. b || false) e
others (d ∷ ds) c k e = test (d.number == c.number) (nat_lt c.number d.number) (others ds c k e)
  where
    test : (a b : Bool) → has_number (with_cell ds c) k ≡ has_number ds k → has_number (if a then d ∷ ds else if b then c ∷ d ∷ ds else d ∷ with_cell ds c) k ≡ has_number (d ∷ ds) k
    test true b rest = refl
    test false true rest = ap (λ b. b || has_number (d ∷ ds) k) e
    test false false rest = ap (λ x. d.number == k || x) rest

-- ---- what a transaction set

-- each ref that was set has a value
abbrev pub Owned : PlainTxFrame → Type 0
Owned w = (k : ℕ) → has_number w.sets k ≡ true → is_some (buffered w.values k) ≡ true

pub owned_none : Owned empty_frame
owned_none k h = absurd (false≢true h)

-- a ref that gets a value leaves the others theirs
still_owned : (ws : Writes) (c : CellId) (v : Value) (k : ℕ) (b : Bool) → (c.number == k) ≡ b → (b ≡ false → is_some (buffered ws k) ≡ true) → is_some (buffered (with_write ws c v) k) ≡ true
still_owned ws c v k true e h = subst (λ n. is_some (buffered (with_write ws c v) n) ≡ true) (eqb-true c.number k e) (ap is_some (own_found ws c v))
still_owned ws c v k false e h = ap is_some (other_found ws c v k e) ∙ h refl

pub owned_set : (c : CellId) (v : Value) (w : PlainTxFrame) → Owned w → Owned (record w { values = with_write w.values c v; sets = with_cell w.sets c })
owned_set c v w own k h = test (c.number == k) refl
  where
    test : (b : Bool) → (c.number == k) ≡ b → is_some (buffered (with_write w.values c v) k) ≡ true
    test true e = still_owned w.values c v k true e (λ f. absurd (false≢true (sym f)))
    test false e = still_owned w.values c v k false e (λ f. own k (sym (others w.sets c k e) ∙ h))

pub owned_commute : (c : CellId) (callee : Callee) (vs : List Value) (v : Value) (w : PlainTxFrame) → Owned w → Owned (commute_ref c callee vs v w)
owned_commute c callee vs v w own k h = still_owned w.values c v k (c.number == k) refl (λ f. own k h)

-- each ref that was set is among the writes of the commit
pub are_written : (w : PlainTxFrame) → Owned w → AreWritten w.sets (set_writes w)
are_written w own = go w.sets (λ k h. h)
  where
    value_there : (o : Option Value) → is_some o ≡ true → (v : Value) × (o ≡ Some v)
    value_there None h = absurd (false≢true h)
    value_there (Some v) h = (v, refl)

    second : (b : Bool) → (b || true) ≡ true
    second true = refl
    second false = refl

    go : (ds : List CellId) → ((k : ℕ) → has_number ds k ≡ true → has_number w.sets k ≡ true) → AreWritten ds (set_writes w)
    go [] h = tt
    go (d ∷ ds) h =
        let among : has_number w.sets d.number ≡ true = h d.number (ap (λ b. b || has_number ds d.number) (itself d.number)) in
        let there = value_there (buffered w.values d.number) (own d.number among) in
        ((there.0, kept_written w.sets w.values d.number among ∙ there.1), go ds (λ k e. h k (ap (λ b. d.number == k || b) e ∙ second (d.number == k))))

-- ---- the refs that a commit names

either : {X : Type 0} (a b : Bool) → (a || b) ≡ true → (a ≡ true → X) → (b ≡ true → X) → X
either true b h f g = f refl
either false b h f g = g h

second : (b : Bool) → (b || true) ≡ true
second true = refl
second false = refl

shift : (a b d : Bool) → (b || d) ≡ true → ((a || b) || d) ≡ true
shift true b d e = refl
shift false b d e = e

-- each of these cells is among those
abbrev pub Within : List CellId → List CellId → Type 0
Within ds cs = (k : ℕ) → has_number cs k ≡ true → has_number ds k ≡ true

-- one more
within_more : (ds cs : List CellId) (c : CellId) → has_number ds c.number ≡ true → Within ds cs → Within ds (c ∷ cs)
within_more ds cs c h all k e = either (c.number == k) (has_number cs k) e (λ q. subst (λ n. has_number ds n ≡ true) (eqb-true c.number k q) h) (λ q. all k q)

-- what is within with one more is within without it
pub within_head : (ds cs : List CellId) (c : CellId) → Within ds (c ∷ cs) → has_number ds c.number ≡ true
within_head ds cs c all = all c.number (ap (λ b. b || has_number cs c.number) (itself c.number))

pub within_tail : (ds cs : List CellId) (c : CellId) → Within ds (c ∷ cs) → Within ds cs
within_tail ds cs c all k e = all k (ap (λ b. c.number == k || b) e ∙ second (c.number == k))

-- a write adds its own cell alone
pub write_within : (ds : List CellId) (ws : Writes) (c : CellId) (v : Value) → has_number ds c.number ≡ true → Within ds (cells_in ws) → Within ds (cells_in (with_write ws c v))
write_within ds [] c v h all = within_more ds [] c h all
write_within ds (w ∷ ws) c v h all =
    test (w.0.number == c.number) (nat_lt c.number w.0.number) (write_within ds ws c v h (within_tail ds (cells_in ws) w.0 all))
  where
    test : (a b : Bool) → Within ds (cells_in (with_write ws c v)) → Within ds (cells_in (if a then (c, v) ∷ ws else if b then (c, v) ∷ w ∷ ws else w ∷ with_write ws c v))
    test true b rest = within_more ds (cells_in ws) c h (within_tail ds (cells_in ws) w.0 all)
    test false true rest = within_more ds (cells_in (w ∷ ws)) c h all
    test false false rest = within_more ds (cells_in (with_write ws c v)) w.0 (within_head ds (cells_in ws) w.0 all) rest

-- of cells that are wanted, the writes are of none else
wanted_within : (ds : List CellId) (ws : Writes) → Within ds (cells_in (writes_to ds ws))
wanted_within ds [] k h = absurd (false≢true h)
wanted_within ds (w ∷ ws) k h = test (has_number ds w.0.number) refl (wanted_within ds ws) h
  where
    test : (b : Bool) → has_number ds w.0.number ≡ b → Within ds (cells_in (writes_to ds ws)) → has_number (cells_in (if b then w ∷ writes_to ds ws else writes_to ds ws)) k ≡ true → has_number ds k ≡ true
    test true e rest g = within_more ds (cells_in (writes_to ds ws)) w.0 e rest k g
    test false e rest g = rest k g

both_numbers : (cs ds : List CellId) (k : ℕ) → has_number (cs ++ ds) k ≡ true → (has_number cs k || has_number ds k) ≡ true
both_numbers [] ds k h = h
both_numbers (c ∷ cs) ds k h = either (c.number == k) (has_number (cs ++ ds) k) h (λ q. ap (λ b. (b || has_number cs k) || has_number ds k) q) (λ q. shift (c.number == k) (has_number cs k) (has_number ds k) (both_numbers cs ds k q))

-- a ref that a commit sets or ensures is held
pub held_there : (w : PlainTxFrame) (k : ℕ) → has_number (cells_in (set_writes w) ++ w.ensures) k ≡ true → is_held w k ≡ true
held_there w k h =
    either (has_number (cells_in (set_writes w)) k) (has_number w.ensures k) (both_numbers (cells_in (set_writes w)) w.ensures k h)
    (λ q. ap (λ b. b || has_number w.ensures k) (wanted_within w.sets w.values k q))
    (λ q. ap (λ b. has_number w.sets k || b) q ∙ second (has_number w.sets k))

-- the cells with their values are the cells
pub valued_within : (cs : List CellId) (Q : World) → Within cs (cells_in (valued cs Q))
valued_within [] Q k h = h
valued_within (c ∷ cs) Q k h =
    either (c.number == k) (has_number (cells_in (valued cs Q)) k) h (λ q. ap (λ b. b || has_number cs k) q) (λ q. ap (λ b. c.number == k || b) (valued_within cs Q k q) ∙ second (c.number == k))

-- the refs of commutes
abbrev pub refs_in : List Commute → List CellId
refs_in cs = map (λ c. c.cell) cs

commutes_number : (n : ℕ) (cs : List Commute) (k : ℕ) → has_number (refs_in (commutes_of n cs)) k ≡ true → (n == k) ≡ true
commutes_number n [] k h = absurd (false≢true h)
commutes_number n (c ∷ cs) k h = test (c.cell.number == n) refl (commutes_number n cs k) h
  where
    test : (b : Bool) → (c.cell.number == n) ≡ b → (has_number (refs_in (commutes_of n cs)) k ≡ true → (n == k) ≡ true) → has_number (refs_in (if b then c ∷ commutes_of n cs else commutes_of n cs)) k ≡ true → (n == k) ≡ true
    test true e rest g = either (c.cell.number == k) (has_number (refs_in (commutes_of n cs)) k) g (λ q. subst (λ m. (m == k) ≡ true) (eqb-true c.cell.number n e) q) rest
    test false e rest g = rest g

refs_of_both : (xs ys : List Commute) (k : ℕ) → has_number (refs_in (xs ++ ys)) k ≡ true → (has_number (refs_in xs) k || has_number (refs_in ys) k) ≡ true
refs_of_both [] ys k h = h
refs_of_both (x ∷ xs) ys k h = either (x.cell.number == k) (has_number (refs_in (xs ++ ys)) k) h (λ q. ap (λ b. (b || has_number (refs_in xs) k) || has_number (refs_in ys) k) q) (λ q. shift (x.cell.number == k) (has_number (refs_in xs) k) (has_number (refs_in ys) k) (refs_of_both xs ys k q))

by_ref_within : (ds : List CellId) (cs : List Commute) → Within ds (refs_in (by_ref ds cs))
by_ref_within [] cs k h = h
by_ref_within (d ∷ ds) cs k h =
    either (has_number (refs_in (commutes_of d.number cs)) k) (has_number (refs_in (by_ref ds cs)) k) (refs_of_both (commutes_of d.number cs) (by_ref ds cs) k h)
    (λ q. ap (λ b. b || has_number ds k) (commutes_number d.number cs k q))
    (λ q. ap (λ b. d.number == k || b) (by_ref_within ds cs k q) ∙ second (d.number == k))

-- the commute phase is of refs that were commuted and not set
pub phase_within : (w : PlainTxFrame) → Within (commuted w) (refs_in (phase_work w))
phase_within w = by_ref_within (commuted w) w.commutes
