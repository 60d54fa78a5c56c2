-- An operation takes a value; and the table's sum, step by step.
use Rattle.std.proofs.Common.{◌≡◌, ℕ, zero, suc, true, false, refl, ◌+◌, ◌<◌, ◌≤◌, ◌-◌, ◌∙◌, ap, List, [], ◌∷◌, length, get_or, drop, take, ℤ, Result, Ok, Err, sym, arith}
use Rattle.std.proofs.lemmas.List.{drop_more, take_all}
use Rattle.std.proofs.lemmas.Bool.{false≢true}
use Rattle.txs_value_apply.specs.Core.{number_of, from_left, arg, takes}
use Rattle.txs_value_data.specs.declared.op.Op.{Op}
use Rattle.txs_value_data.specs.declared.op.Op.TheVariants as op
use Rattle.txs_value_data.specs.declared.value.Value.{Value}
use Rattle.txs_value_data.specs.declared.value.Value.TheVariants.{Nil, Truth, Int, Key, Text, Vector, Cell}
use Rattle.txs_value_data.specs.declared.fault.FaultKind.{FaultKind}

-- no operation takes nothing
takes_none : (op : Op) → takes op 0 ≡ false
unfolding takes
takes_none op.Add = refl
takes_none op.Subtract = refl
takes_none op.Multiply = refl
takes_none op.Inc = refl
takes_none op.Dec = refl
takes_none op.Quot = refl
takes_none op.Rem = refl
takes_none op.Mod = refl
takes_none op.Equal = refl
takes_none op.NotEqual = refl
takes_none op.Less = refl
takes_none op.Greater = refl
takes_none op.LessOrEqual = refl
takes_none op.GreaterOrEqual = refl
takes_none op.Max = refl
takes_none op.Min = refl
takes_none op.Not = refl
takes_none op.IsNil = refl
takes_none op.IsZero = refl
takes_none op.IsPositive = refl
takes_none op.IsNegative = refl
takes_none op.Count = refl
takes_none op.Nth = refl
takes_none op.Conj = refl
takes_none op.Assoc = refl
takes_none op.Peek = refl
takes_none op.Pop = refl

-- so each takes a value
pub takes_some : (op : Op) (n : ℕ) → takes op n ≡ true → 0 < n
takes_some op zero t = absurd (false≢true (sym (takes_none op) ∙ t))
takes_some op (suc n) t = omega arith

-- a value whose number is known
number_int : (v : Value) (t : ℤ) → Ok t ≡ number_of v → v ≡ Int t
number_int Nil t e = cc
number_int (Truth b) t e = cc
number_int (Int z) t e = cc
number_int (Key bs) t e = cc
number_int (Text bs) t e = cc
number_int (Vector ds) t e = cc
number_int (Cell c) t e = cc

module _ (f : ℤ → ℤ → Result ℤ FaultKind) where
  -- one more number, and the rest of the list
  pub from_left-at : (t n u : ℤ) (x : Value) (xs : List Value) (i : ℕ) → i < length xs → x ≡ get_or xs i x → Ok n ≡ number_of x → Ok u ≡ f t n
      → from_left f (Int t) (drop i xs) ≡ from_left f (Int u) (drop (i + 1) xs)
  from_left-at t n u x xs i lt is is_n is_u = rw (drop_more xs i x lt, sym is) (rw (sym is_n, sym is_u))

  -- what is not a number ends the sum
  pub from_left-first : (vs : List Value) (v : Value) (k : FaultKind) → 2 ≤ length vs → v ≡ get_or vs 0 v → Err k ≡ number_of v → from_left f (arg 0 vs) (drop 1 vs) ≡ Err k
  from_left-first [] v k le is fault = absurd (omega arith)
  from_left-first (w ∷ []) v k le is fault = absurd (omega arith)
  from_left-first (w ∷ x ∷ xs) v k le is fault = rw (sym is, sym fault)

  -- what is not a number ends the rest of the sum
  pub from_left-not : (t : ℤ) (x : Value) (xs : List Value) (i : ℕ) (k : FaultKind) → i < length xs → x ≡ get_or xs i x → Err k ≡ number_of x → from_left f (Int t) (drop i xs) ≡ Err k
  from_left-not t x xs i k lt is fault = rw (drop_more xs i x lt, sym is) (rw (sym fault))

  -- and so does a step that faults
  pub from_left-over : (t n : ℤ) (x : Value) (xs : List Value) (i : ℕ) (k : FaultKind) → i < length xs → x ≡ get_or xs i x → Ok n ≡ number_of x → Err k ≡ f t n → from_left f (Int t) (drop i xs) ≡ Err k
  from_left-over t n x xs i k lt is is_n fault = rw (drop_more xs i x lt, sym is) (rw (sym is_n, sym fault))

  -- the sum begins with the first, and all the others are to come
  pub from_left-start : (vs : List Value) (x : Value) (t : ℤ) → 2 ≤ length vs → x ≡ get_or vs 0 x → Ok t ≡ number_of x → from_left f (arg 0 vs) (drop 1 vs) ≡ from_left f (Int t) (take (length vs - 1) (drop 1 vs))
  from_left-start [] x t le is is_t = absurd (omega arith)
  from_left-start (v ∷ vs) x t le is is_t = ap (λ a. from_left f a vs) (sym is ∙ number_int x t is_t) ∙ ap (from_left f (Int t)) (sym (take_all (length (v ∷ vs) - 1) vs (omega arith)))
