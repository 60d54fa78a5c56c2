-- What is found by number among cells and commutes, before and after one of them joins.
use Rattle.std.proofs.Common.{◌≡◌, ℕ, Bool, true, false, ◌||◌, ◌==◌, List, [], ◌∷◌, ◌++◌, map, refl, sym, ap, ◌∙◌, subst, if◌then◌else◌}
use Rattle.std.proofs.lemmas.Bool.{eqb-true, false≢true}
use Rattle.txs_frame.specs.Frame.{with_cell, with_cells, has_number, outside_of, refs_of, commutes_of}
use Rattle.txs_frame.specs.declared.frame.Commute.{Commute}
use Rattle.txs_value_data.specs.declared.value.CellId.{CellId}
use Rattle.txs_theorem_threads.proofs.Owned.{joined, others}

pub true_false : true ≡ false → ⊥
true_false e = false≢true (sym e)

-- ---- cells

-- what was among them stays among them
pub stays : (ds : List CellId) (c : CellId) (k : ℕ) → has_number ds k ≡ true → has_number (with_cell ds c) k ≡ true
stays ds c k h = test (c.number == k) refl
  where
    test : (b : Bool) → (c.number == k) ≡ b → has_number (with_cell ds c) k ≡ true
    test true e = subst (λ n. has_number (with_cell ds c) n ≡ true) (eqb-true c.number k e) (joined ds c)
    test false e = others ds c k e ∙ h

pub stay_all : (ds cs : List CellId) (k : ℕ) → has_number ds k ≡ true → has_number (with_cells ds cs) k ≡ true
stay_all ds [] k h = h
stay_all ds (c ∷ cs) k h = stay_all (with_cell ds c) cs k (stays ds c k h)

-- what isn't left out
pub kept_outside : (ds cs : List CellId) (k : ℕ) → has_number ds k ≡ false → has_number (outside_of ds cs) k ≡ has_number cs k
kept_outside ds [] k h = refl
kept_outside ds (c ∷ cs) k h = test (has_number ds c.number) refl (kept_outside ds cs k h)
  where
    -- a cell that is left out has another number
    apart : (b : Bool) → has_number ds c.number ≡ true → (c.number == k) ≡ b → has_number cs k ≡ (b || has_number cs k)
    apart true e q = absurd (true_false (sym e ∙ ap (λ n. has_number ds n) (eqb-true c.number k q) ∙ h))
    apart false e q = refl

    test : (a : Bool) → has_number ds c.number ≡ a → has_number (outside_of ds cs) k ≡ has_number cs k → has_number (if a then outside_of ds cs else c ∷ outside_of ds cs) k ≡ has_number (c ∷ cs) k
    test true e rest = rest ∙ apart (c.number == k) e refl
    test false e rest = ap (λ x. c.number == k || x) rest

-- ---- commutes

pub cells_append : (ds xs ys : List CellId) → with_cells ds (xs ++ ys) ≡ with_cells (with_cells ds xs) ys
cells_append ds [] ys = refl
cells_append ds (x ∷ xs) ys = cells_append (with_cell ds x) xs ys

map_append : (xs ys : List Commute) → map (λ c. c.cell) (xs ++ ys) ≡ map (λ c. c.cell) xs ++ map (λ c. c.cell) ys
map_append [] ys = refl
map_append (x ∷ xs) ys = ap (λ l. x.cell ∷ l) (map_append xs ys)

-- the refs of commutes, with one more
pub refs_more : (cs : List Commute) (c : Commute) → refs_of (cs ++ c ∷ []) ≡ with_cell (refs_of cs) c.cell
refs_more cs c = ap (λ l. with_cells [] l) (map_append cs (c ∷ [])) ∙ cells_append [] (map (λ c. c.cell) cs) (c.cell ∷ [])

-- a ref that wasn't commuted has no commutes
none_from : (ds : List CellId) (cs : List Commute) (k : ℕ) → has_number (with_cells ds (map (λ c. c.cell) cs)) k ≡ false → commutes_of k cs ≡ []
none_from ds [] k h = refl
none_from ds (c ∷ cs) k h = test (c.cell.number == k) refl (none_from (with_cell ds c.cell) cs k h)
  where
    test : (b : Bool) → (c.cell.number == k) ≡ b → commutes_of k cs ≡ [] → (if b then c ∷ commutes_of k cs else commutes_of k cs) ≡ []
    test true e rest =
        absurd (true_false (sym (stay_all (with_cell ds c.cell) (map (λ x. x.cell) cs) k (subst (λ n. has_number (with_cell ds c.cell) n ≡ true) (eqb-true c.cell.number k e) (joined ds c.cell))) ∙ h))
    test false e rest = rest

pub no_commutes : (cs : List Commute) (k : ℕ) → has_number (refs_of cs) k ≡ false → commutes_of k cs ≡ []
no_commutes cs k h = none_from [] cs k h

-- one more commute of this ref, or of another
pub of_append : (k : ℕ) (cs ds : List Commute) → commutes_of k (cs ++ ds) ≡ commutes_of k cs ++ commutes_of k ds
of_append k [] ds = refl
of_append k (c ∷ cs) ds = test (c.cell.number == k) (of_append k cs ds)
  where
    test : (b : Bool) → commutes_of k (cs ++ ds) ≡ commutes_of k cs ++ commutes_of k ds → (if b then c ∷ commutes_of k (cs ++ ds) else commutes_of k (cs ++ ds)) ≡ (if b then c ∷ commutes_of k cs else commutes_of k cs) ++ commutes_of k ds
    test true e = ap (λ l. c ∷ l) e
    test false e = e
