-- Each operation stands in the list of all at its number, and has a name of its own. A further operation is a row of `op_there` and one of `op_named`.
use Rattle.std.proofs.Common.{◌≡◌, ℕ, zero, suc, ◌+◌, ◌<◌, List, [], ◌∷◌, drop, get_or, length, map, Some, refl, sym, ap, ◌∙◌, arith}
use Rattle.txs_value_data.specs.Operations.{op_name, op_number, operations}
use Rattle.txs_value_data.specs.Places.{nth, numbers_from, with_name}
use Rattle.txs_value_data.specs.declared.op.Op.{Op}
use Rattle.txs_value_data.specs.declared.op.Op.TheVariants.{Add, Subtract, Multiply, Inc, Dec, Quot, Rem, Mod, Equal, NotEqual, Less, Greater, LessOrEqual, GreaterOrEqual, Max, Min, Not, IsNil, IsZero, IsPositive, IsNegative, Count, Nth, Conj, Assoc, Peek, Pop}

-- ---- any list

some_is : {A : Type 0} (x y : A) → Some x ≡ Some y → x ≡ y
some_is x y e = cc

-- what stands at a place stands below the length
pub there_below : {A : Type 0} (xs : List A) (i : ℕ) (x : A) → nth xs i ≡ Some x → i < length xs
there_below [] i x e = absurd cc
there_below (y ∷ ys) zero x e = omega arith
there_below (y ∷ ys) (suc i) x e = omega (arith, there_below ys i x e)

-- and is what a look at that place gives
pub there_got : {A : Type 0} (xs : List A) (i : ℕ) (x d : A) → nth xs i ≡ Some x → x ≡ get_or xs i d
there_got [] i x d e = absurd cc
there_got (y ∷ ys) zero x d e = some_is x y (sym e)
there_got (y ∷ ys) (suc i) x d e = there_got ys i x d e

-- where the items of a list have the numbers from one on, the item at a place has its number
pub numbered_at : {A : Type 0} (place : A → ℕ) (n : ℕ) (xs : List A) → map place xs ≡ numbers_from n (length xs) → (k : ℕ) (d : A) → k < length xs → place (get_or xs k d) ≡ n + k
numbered_at place n [] e k d lt = absurd (omega (arith, lt))
numbered_at place n (x ∷ xs) e zero d lt = ap (λ ns. get_or ns 0 n) e ∙ omega arith
numbered_at place n (x ∷ xs) e (suc k) d lt = numbered_at place (suc n) xs (ap (drop 1) e) k d (omega (arith, lt)) ∙ omega arith

-- ---- operations by their numbers

-- an operation stands at its number
pub op_there : (op : Op) → nth operations (op_number op) ≡ Some op
op_there Add = refl
op_there Subtract = refl
op_there Multiply = refl
op_there Inc = refl
op_there Dec = refl
op_there Quot = refl
op_there Rem = refl
op_there Mod = refl
op_there Equal = refl
op_there NotEqual = refl
op_there Less = refl
op_there Greater = refl
op_there LessOrEqual = refl
op_there GreaterOrEqual = refl
op_there Max = refl
op_there Min = refl
op_there Not = refl
op_there IsNil = refl
op_there IsZero = refl
op_there IsPositive = refl
op_there IsNegative = refl
op_there Count = refl
op_there Nth = refl
op_there Conj = refl
op_there Assoc = refl
op_there Peek = refl
op_there Pop = refl

-- which is below their count
pub op_number-below : (op : Op) → op_number op < 27
op_number-below op = there_below operations (op_number op) op (op_there op)

pub operations-at_number : (op d : Op) → op ≡ get_or operations (op_number op) d
operations-at_number op d = there_got operations (op_number op) op d (op_there op)

-- what stands at a number has that number
pub number-of_operation : (k : ℕ) (d : Op) → k < 27 → op_number (get_or operations k d) ≡ k
number-of_operation k d lt = numbered_at op_number 0 operations refl k d lt ∙ omega arith

-- so no two operations have one number
pub op_number-differs : (a b : Op) → op_number a ≡ op_number b → a ≡ b
op_number-differs a b e = some_is a b (sym (op_there a) ∙ ap (nth operations) e ∙ op_there b)

-- ---- operations by their names

-- an operation is found by its name
pub op_named : (op : Op) → with_name op_name (op_name op) operations ≡ Some op
op_named Add = refl
op_named Subtract = refl
op_named Multiply = refl
op_named Inc = refl
op_named Dec = refl
op_named Quot = refl
op_named Rem = refl
op_named Mod = refl
op_named Equal = refl
op_named NotEqual = refl
op_named Less = refl
op_named Greater = refl
op_named LessOrEqual = refl
op_named GreaterOrEqual = refl
op_named Max = refl
op_named Min = refl
op_named Not = refl
op_named IsNil = refl
op_named IsZero = refl
op_named IsPositive = refl
op_named IsNegative = refl
op_named Count = refl
op_named Nth = refl
op_named Conj = refl
op_named Assoc = refl
op_named Peek = refl
op_named Pop = refl

pub op_name-differs : (a b : Op) → op_name a ≡ op_name b → a ≡ b
op_name-differs a b e = some_is a b (sym (op_named a) ∙ ap (λ n. with_name op_name n operations) e ∙ op_named b)
