-- Locals, stacks and instructions as lists.
use Rattle.std.proofs.Common.{◌≡◌, ℕ, zero, suc, ◌+◌, ◌<◌, List, [], ◌∷◌, ◌++◌, length, Option, Some, None, refl, sym, ap, ◌∙◌, subst, arith, ⊎_elim, inl, inr, ◌⊎◌}
use Rattle.txs_value_data.specs.Places.{nth}
use Rattle.txs_value_data.specs.declared.value.Value.{Value}
use Rattle.txs_code_meaning.specs.Machine.{PlainInstr, PlainBody, ThreadCode, Turned, locals_of, fetch, put, push_all, on_args}

pub append_nil : {A : Type 0} (xs : List A) → xs ++ [] ≡ xs
append_nil [] = refl
append_nil (x ∷ xs) = ap (λ l. x ∷ l) (append_nil xs)

-- the locals agree with these, as far as these go
abbrev pub Holds : List Value → List Value → Type 0
Holds env L = (i : ℕ) (v : Value) → nth env i ≡ Some v → nth L i ≡ Some v

abbrev IsNothing : Option Value → Type 0
IsNothing None = Unit {0}
IsNothing (Some v) = ⊥

pub nth_front : (xs ys : List Value) (i : ℕ) (v : Value) → nth xs i ≡ Some v → nth (xs ++ ys) i ≡ Some v
nth_front [] ys i v e = absurd (subst IsNothing e tt)
nth_front (x ∷ xs) ys zero v e = e
nth_front (x ∷ xs) ys (suc i) v e = nth_front xs ys i v e

-- the locals that a body begins with agree with the arguments
pub holds_opening : (o : Option PlainBody) (vs : List Value) → Holds vs (locals_of o vs)
holds_opening None vs i v e = e
holds_opening (Some body) vs i v e = nth_front vs _ i v e

pub holds_front : (env vs L : List Value) → Holds (env ++ vs) L → Holds env L
holds_front env vs L h i v e = h i v (nth_front env vs i v e)

-- what a store leaves
pub put_same : (L : List Value) (i : ℕ) (v : Value) → nth (put L i v) i ≡ Some v
put_same [] zero v = refl
put_same [] (suc i) v = put_same [] i v
put_same (x ∷ L) zero v = refl
put_same (x ∷ L) (suc i) v = put_same L i v

-- a local put behind those that are held
pub holds_put : (env L : List Value) (v : Value) → Holds env L → Holds (env ++ v ∷ []) (put L (length env) v)
holds_put [] L v h zero w e = put_same L 0 v ∙ e
holds_put [] L v h (suc i) w e = absurd (subst IsNothing e tt)
holds_put (x ∷ env) [] v h i w e = absurd (subst IsNothing (h 0 x refl) tt)
holds_put (x ∷ env) (y ∷ L) v h zero w e = h 0 w e
holds_put (x ∷ env) (y ∷ L) v h (suc i) w e = holds_put env L v (λ j u. h (suc j) u) i w e

-- these values written from the place i on, the last one first
abbrev pub write : ℕ → List Value → List Value → List Value
write i [] L = L
write i (v ∷ vs) L = put (write (i + 1) vs L) i v

pub put_other : (L : List Value) (i j : ℕ) (v : Value) → j < i → (w : Value) → nth L j ≡ Some w → nth (put L i v) j ≡ Some w
put_other [] i j v lt w e = absurd (subst IsNothing e tt)
put_other (x ∷ L) zero j v lt w e = absurd (omega (arith, lt))
put_other (x ∷ L) (suc i) zero v lt w e = e
put_other (x ∷ L) (suc i) (suc j) v lt w e = put_other L i j v (omega (arith, lt)) w e

pub put_behind : (L : List Value) (i j : ℕ) (v : Value) → i < j → (w : Value) → nth L j ≡ Some w → nth (put L i v) j ≡ Some w
put_behind [] i j v lt w e = absurd (subst IsNothing e tt)
put_behind (x ∷ L) zero zero v lt w e = absurd (omega (arith, lt))
put_behind (x ∷ L) zero (suc j) v lt w e = e
put_behind (x ∷ L) (suc i) zero v lt w e = absurd (omega (arith, lt))
put_behind (x ∷ L) (suc i) (suc j) v lt w e = put_behind L i j v (omega (arith, lt)) w e

pub write_below : (vs : List Value) (i : ℕ) (L : List Value) (j : ℕ) (w : Value) → j < i → nth L j ≡ Some w → nth (write i vs L) j ≡ Some w
write_below [] i L j w lt e = e
write_below (v ∷ vs) i L j w lt e = put_other (write (i + 1) vs L) i j v lt w (write_below vs (i + 1) L j w (omega (arith, lt)) e)

pub write_at : (vs : List Value) (i : ℕ) (L : List Value) (j : ℕ) (w : Value) → nth vs j ≡ Some w → nth (write i vs L) (i + j) ≡ Some w
write_at [] i L j w e = absurd (subst IsNothing e tt)
write_at (v ∷ vs) i L zero w e =
    let z : i + 0 ≡ i = omega arith in
    ap (λ m. nth (put (write (i + 1) vs L) i v) m) z ∙ put_same (write (i + 1) vs L) i v ∙ e
write_at (v ∷ vs) i L (suc j) w e =
    let z : i + 1 + j ≡ i + suc j = omega arith in
    let p = subst (λ m. nth (write (i + 1) vs L) m ≡ Some w) z (write_at vs (i + 1) L j w e) in
    put_behind (write (i + 1) vs L) i (i + suc j) v (omega arith) w p

-- a place of two lists lies in one of them
pub nth_cases : (xs ys : List Value) (i : ℕ) (w : Value) → nth (xs ++ ys) i ≡ Some w → ((i < length xs) × (nth xs i ≡ Some w)) ⊎ ((j : ℕ) × (i ≡ length xs + j) × (nth ys j ≡ Some w))
nth_cases [] ys i w e = inr (i, omega arith, e)
nth_cases (x ∷ xs) ys zero w e = inl (omega arith, e)
nth_cases (x ∷ xs) ys (suc i) w e =
    ⊎_elim (λ p. inl (omega (arith, p.0), p.1)) (λ p. inr (p.0, omega (arith, p.1), p.2)) (nth_cases xs ys i w e)

-- new values for the locals from a loop's on
pub holds_write : (base vs L : List Value) → Holds base L → Holds (base ++ vs) (write (length base) vs L)
holds_write base vs L h i w e =
    ⊎_elim
    (λ p. write_below vs (length base) L i w p.0 (h i w p.1))
    (λ p. subst (λ m. nth (write (length base) vs L) m ≡ Some w) (sym p.1) (write_at vs (length base) L p.0 w p.2))
    (nth_cases base vs i w e)

-- the topmost values are taken as they were pushed
pub args_back : {U : Type 0} (vs : List Value) (m : ℕ) (stack acc : List Value) (go : List Value → List Value → Turned U) → on_args (length vs + m) (push_all vs stack) acc go ≡ on_args m stack (vs ++ acc) go
args_back [] m stack acc go = ap (λ k. on_args k stack acc go) (omega arith)
args_back (v ∷ vs) m stack acc go =
    let e : length (v ∷ vs) + m ≡ length vs + suc m = omega arith in
    ap (λ k. on_args k (push_all vs (v ∷ stack)) acc go) e ∙ args_back vs (suc m) (v ∷ stack) acc go

pub args_taken : {U : Type 0} (vs : List Value) (n : ℕ) (stack : List Value) (go : List Value → List Value → Turned U) → length vs ≡ n → on_args n (push_all vs stack) [] go ≡ go vs stack
args_taken vs n stack go len =
    let e : n ≡ length vs + 0 = omega (arith, len) in
    ap (λ k. on_args k (push_all vs stack) [] go) e ∙ args_back vs 0 stack [] go ∙ ap (λ l. go l stack) (append_nil vs)

-- these instructions stand from one place up to another
abbrev pub Stands : ThreadCode → ℕ → ℕ → List PlainInstr → ℕ → Type 0
Stands code b pc [] stop = pc ≡ stop
Stands code b pc (i ∷ is) stop = (fetch code b pc ≡ Some i) × Stands code b (pc + 1) is stop

pub stands_front : (code : ThreadCode) (b pc : ℕ) (is js : List PlainInstr) (stop : ℕ) → Stands code b pc (is ++ js) stop → Stands code b pc is (pc + length is)
stands_front code b pc [] js stop h = omega arith
stands_front code b pc (i ∷ is) js stop h =
    let e : pc + 1 + length is ≡ pc + length (i ∷ is) = omega arith in
    (h.0, subst (λ m. Stands code b (pc + 1) is m) e (stands_front code b (pc + 1) is js stop h.1))

pub stands_back : (code : ThreadCode) (b pc : ℕ) (is js : List PlainInstr) (stop : ℕ) → Stands code b pc (is ++ js) stop → Stands code b (pc + length is) js stop
stands_back code b pc [] js stop h = let e : pc ≡ pc + 0 = omega arith in subst (λ m. Stands code b m js stop) e h
stands_back code b pc (i ∷ is) js stop h =
    let e : pc + 1 + length is ≡ pc + length (i ∷ is) = omega arith in
    subst (λ m. Stands code b m js stop) e (stands_back code b (pc + 1) is js stop h.1)

pub stands_length : (code : ThreadCode) (b pc : ℕ) (is : List PlainInstr) (stop : ℕ) → Stands code b pc is stop → pc + length is ≡ stop
stands_length code b pc [] stop h = let e : pc + 0 ≡ pc = omega arith in e ∙ h
stands_length code b pc (i ∷ is) stop h = let e : pc + length (i ∷ is) ≡ pc + 1 + length is = omega arith in e ∙ stands_length code b (pc + 1) is stop h.1
