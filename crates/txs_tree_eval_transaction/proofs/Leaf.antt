-- Lists by ascending number.
use Rattle.std.proofs.Common.{◌≡◌, ℕ, zero, suc, ◌+◌, ◌<◌, ◌≤◌, ◌==◌, nat_lt, Bool, true, false, if◌then◌else◌, List, [], ◌∷◌, length, get_or, drop, set, Ok, Err, refl, sym, ap, ◌∙◌, subst, arith}
use Rattle.std.specs.List.{insert}
use Rattle.std.proofs.lemmas.List.{drop_more}
use Rattle.std.proofs.lemmas.Bool.{eq-eqb, ne_eqb, le-ltb, lt-ltb, false≢true}
use Rattle.txs_world_protocol.specs.Ask.{Writes, with_write}
use Rattle.txs_frame.specs.Frame.{with_cell}
use Rattle.txs_tree_meaning.specs.Transaction.{merged}
use Rattle.txs_tree_eval_transaction.specs.Worked.{Finds}
use Rattle.txs_value_data.specs.declared.value.CellId.{CellId}
use Rattle.txs_value_data.specs.declared.value.Value.{Value}

module _ {X : Type 0} (n : X → ℕ) (xs : List X) (k i p : ℕ) where
  module _ (found : (j : ℕ) → Finds n (drop i xs) k (Ok j) → Finds n xs k (Ok (j + p))) (missed : (j : ℕ) → Finds n (drop i xs) k (Err j) → Finds n xs k (Err (j + p))) (x : X) (lt : i < length xs) where
    here : drop i xs ≡ get_or xs i x ∷ drop (i + 1) xs
    here = drop_more xs i x lt

    pub found_next : n (get_or xs i x) < k → (j : ℕ) → Finds n (drop (i + 1) xs) k (Ok j) → Finds n xs k (Ok (j + (p + 1)))
    found_next less j h = subst (λ q. Finds n xs k (Ok q)) (omega arith) (found (suc j) (subst (λ l. Finds n l k (Ok (suc j))) (sym here) (less, h)))

    pub missed_next : n (get_or xs i x) < k → (j : ℕ) → Finds n (drop (i + 1) xs) k (Err j) → Finds n xs k (Err (j + (p + 1)))
    missed_next less j h = subst (λ q. Finds n xs k (Err q)) (omega arith) (missed (suc j) (subst (λ l. Finds n l k (Err (suc j))) (sym here) (less, h)))

  pub missed_end : drop i xs ≡ [] → ((j : ℕ) → Finds n (drop i xs) k (Err j) → Finds n xs k (Err (j + p))) → Finds n xs k (Err p)
  missed_end is missed = subst (λ q. Finds n xs k (Err q)) (omega arith) (missed 0 (subst (λ l. Finds n l k (Err 0)) (sym is) refl))

pub less_of : (a b : ℕ) → (a ≡ b → ⊥) → a ≤ b → a < b
less_of a b ne le = omega (arith, ne, le)

pub found_within : {X : Type 0} (n : X → ℕ) (xs : List X) (k i : ℕ) → Finds n xs k (Ok i) → i < length xs
found_within n [] k i h = absurd h
found_within n (x ∷ xs) k zero h = omega arith
found_within n (x ∷ xs) k (suc i) h = omega (arith, found_within n xs k i h.1)

pub missed_within : {X : Type 0} (n : X → ℕ) (xs : List X) (k i : ℕ) → Finds n xs k (Err i) → i ≤ length xs
missed_within n [] k i h = omega (arith, h)
missed_within n (x ∷ xs) k zero h = omega arith
missed_within n (x ∷ xs) k (suc i) h = omega (arith, missed_within n xs k i h.1)

-- ---- what is put there

first_of : {A : Type 0} (a b : Bool) (p q r : A) → a ≡ true → (if a then p else if b then q else r) ≡ p
first_of true b p q r h = refl
first_of false b p q r h = absurd (false≢true h)

second_of : {A : Type 0} (a b : Bool) (p q r : A) → a ≡ false → b ≡ true → (if a then p else if b then q else r) ≡ q
second_of true b p q r h g = absurd (false≢true (sym h))
second_of false true p q r h g = refl
second_of false false p q r h g = absurd (false≢true g)

third_of : {A : Type 0} (a b : Bool) (p q r : A) → a ≡ false → b ≡ false → (if a then p else if b then q else r) ≡ r
third_of true b p q r h g = absurd (false≢true (sym h))
third_of false true p q r h g = absurd (false≢true (sym g))
third_of false false p q r h g = refl

apart : (a b : ℕ) → a < b → (a == b) ≡ false
apart a b lt = ne_eqb a b (λ e. omega (arith, lt, e))

apart_above : (a b : ℕ) → b < a → (a == b) ≡ false
apart_above a b lt = ne_eqb a b (λ e. omega (arith, lt, e))

pub with_write_found : (ws : Writes) (c : CellId) (v : Value) (i : ℕ) → Finds (λ w. w.0.number) ws c.number (Ok i) → with_write ws c v ≡ set ws i (c, v)
with_write_found [] c v i h = absurd h
with_write_found (w ∷ ws) c v zero h = first_of (w.0.number == c.number) (nat_lt c.number w.0.number) _ _ _ (eq-eqb w.0.number c.number h)
with_write_found (w ∷ ws) c v (suc i) h =
    third_of (w.0.number == c.number) (nat_lt c.number w.0.number) _ _ _ (apart w.0.number c.number h.0) (le-ltb c.number w.0.number (omega (arith, h.0))) ∙ ap (λ l. w ∷ l) (with_write_found ws c v i h.1)

pub with_write_missed : (ws : Writes) (c : CellId) (v : Value) (i : ℕ) → Finds (λ w. w.0.number) ws c.number (Err i) → with_write ws c v ≡ insert ws i (c, v)
with_write_missed [] c v i h = sym (ap (λ k. insert [] k (c, v)) h)
with_write_missed (w ∷ ws) c v zero h = second_of (w.0.number == c.number) (nat_lt c.number w.0.number) _ _ _ (apart_above w.0.number c.number h) (lt-ltb c.number w.0.number h)
with_write_missed (w ∷ ws) c v (suc i) h =
    third_of (w.0.number == c.number) (nat_lt c.number w.0.number) _ _ _ (apart w.0.number c.number h.0) (le-ltb c.number w.0.number (omega (arith, h.0))) ∙ ap (λ l. w ∷ l) (with_write_missed ws c v i h.1)

pub with_cell_found : (cs : List CellId) (c : CellId) (i : ℕ) → Finds (λ d. d.number) cs c.number (Ok i) → with_cell cs c ≡ cs
with_cell_found [] c i h = absurd h
with_cell_found (d ∷ ds) c zero h = first_of (d.number == c.number) (nat_lt c.number d.number) _ _ _ (eq-eqb d.number c.number h)
with_cell_found (d ∷ ds) c (suc i) h =
    third_of (d.number == c.number) (nat_lt c.number d.number) _ _ _ (apart d.number c.number h.0) (le-ltb c.number d.number (omega (arith, h.0))) ∙ ap (λ l. d ∷ l) (with_cell_found ds c i h.1)

pub with_cell_missed : (cs : List CellId) (c : CellId) (i : ℕ) → Finds (λ d. d.number) cs c.number (Err i) → with_cell cs c ≡ insert cs i c
with_cell_missed [] c i h = sym (ap (λ k. insert [] k c) h)
with_cell_missed (d ∷ ds) c zero h = second_of (d.number == c.number) (nat_lt c.number d.number) _ _ _ (apart_above d.number c.number h) (lt-ltb c.number d.number h)
with_cell_missed (d ∷ ds) c (suc i) h =
    third_of (d.number == c.number) (nat_lt c.number d.number) _ _ _ (apart d.number c.number h.0) (le-ltb c.number d.number (omega (arith, h.0))) ∙ ap (λ l. d ∷ l) (with_cell_missed ds c i h.1)

-- ---- two lists of values as one, one value more

pub merged_next : (now others : Writes) (i : ℕ) (x : CellId × Value) → i < length others → x ≡ get_or others i x → merged now (drop i others) ≡ merged (with_write now x.0 x.1) (drop (i + 1) others)
merged_next now others i x lt is = ap (λ l. merged now l) (drop_more others i x lt ∙ ap (λ y. y ∷ drop (i + 1) others) (sym is))
