-- The core operations as a table from values to a value or a fault.
use Rattle.std.specs.Prelude.{◌≡◌, ℕ, zero, suc, ◌+◌, ◌^◌, ℤ, pos, negsuc, ◌+ℤ◌, ◌-ℤ◌, ◌*ℤ◌, neg_ℤ, ◌-◌, int_div, int_rem, int_lt, int_le, not, Bool, true, false, nat_lt, nat_le, ◌==◌, if◌then◌else◌, List, [], ◌∷◌, ◌++◌, length, drop, take, slice_get, slice_index_or, Option, Some, None, Result, Ok, Err, ⊤}
use Rattle.std.specs.Int.{int_rem_euclid, int_max, int_min}
use Rattle.std.specs.Ordering.{int_eq}
use Rattle.txs_value_data.specs.Limits.{most_items, most_depth}
use Rattle.txs_value_data.specs.PlainValue.{PlainValue, nil, depth, row_depth, plain_row}
use Rattle.txs_value_data.specs.Same.{same_plain}
use Rattle.txs_value_data.specs.View.{plain_of, plains_of, value_of}
use Rattle.txs_value_data.specs.declared.value.Value.{Value}
use Rattle.txs_value_data.specs.declared.value.Value.TheVariants.{Nil, Truth, Int, Vector}
use Rattle.txs_value_data.specs.declared.fault.FaultKind.{FaultKind}
use Rattle.txs_value_data.specs.declared.fault.FaultKind.TheVariants.{Overflow, DivideByZero, NotANumber, NotAVector, IndexOut, PopEmpty, TooDeep, TooLong}
use Rattle.txs_value_data.specs.declared.fault.Stop.{Stop}
use Rattle.txs_value_data.specs.declared.fault.Stop.TheVariants.{Fault, Memory}
use Rattle.txs_value_data.specs.declared.op.Op.{Op}
use Rattle.txs_value_data.specs.declared.op.Op.TheVariants.{Add, Subtract, Multiply, Inc, Dec, Quot, Rem, Mod, Equal, NotEqual, Less, Greater, LessOrEqual, GreaterOrEqual, Max, Min, Not, IsNil, IsZero, IsPositive, IsNegative, Count, Nth, Conj, Assoc, Peek, Pop}

-- a value or a fault
abbrev pub Answer : Type 0
Answer = Result Value FaultKind

-- the first fault is the answer
infixl 10 ◌>>=◌
abbrev pub ◌>>=◌ : {A B : Type 0} → Result A FaultKind → (A → Result B FaultKind) → Result B FaultKind
Ok x >>= f = f x
Err k >>= f = Err k

-- whether a number has 64 bits
abbrev pub fits : ℤ → Bool
fits (pos n) = nat_lt n (2 ^ 63)
fits (negsuc n) = nat_lt n (2 ^ 63)

-- a number of 64 bits, else an overflow
abbrev pub whole : ℤ → Result ℤ FaultKind
whole z = if fits z then Ok z else Err Overflow

-- the number that a value is
abbrev pub number_of : Value → Result ℤ FaultKind
number_of (Int z) = Ok z
number_of _ = Err NotANumber

-- the items of the vector that a value is
abbrev pub items_of : Value → Result (List PlainValue) FaultKind
items_of (Vector ds) = Ok ds
items_of _ = Err NotAVector

-- ---- arithmetic

-- what is made of one number
abbrev pub of_number : (ℤ → Result ℤ FaultKind) → Value → Answer
of_number f a = do
  x ← number_of a
  z ← f x
  Ok (Int z)

-- what is made of two numbers
abbrev pub of_numbers : (ℤ → ℤ → Result ℤ FaultKind) → Value → Value → Answer
of_numbers f a b = do
  x ← number_of a
  y ← number_of b
  z ← f x y
  Ok (Int z)

-- what is made of a value and those after it, two at a time from the left
abbrev pub from_left : (ℤ → ℤ → Result ℤ FaultKind) → Value → List Value → Answer
from_left f a [] = Ok a
from_left f a (b ∷ bs) = of_numbers f a b >>= λ c. from_left f c bs

-- the sum, where it has 64 bits
abbrev pub plus : ℤ → ℤ → Result ℤ FaultKind
plus x y = whole (x +ℤ y)

-- the difference, where it has 64 bits
abbrev pub minus : ℤ → ℤ → Result ℤ FaultKind
minus x y = whole (x -ℤ y)

-- the product, where it has 64 bits
abbrev pub times : ℤ → ℤ → Result ℤ FaultKind
times x y = whole (x *ℤ y)

-- the number with the other sign, where that has 64 bits
abbrev pub negated : ℤ → Result ℤ FaultKind
negated x = whole (neg_ℤ x)

-- a number alone is negated; from the first of several the others are taken away
abbrev pub difference_of : Value → List Value → Answer
difference_of a [] = of_number negated a
difference_of a (b ∷ bs) = from_left minus a (b ∷ bs)

-- rounded toward zero
abbrev pub quotient : ℤ → ℤ → Result ℤ FaultKind
quotient x (pos zero) = Err DivideByZero
quotient x (pos (suc n)) = whole (int_div x (pos (suc n)))
quotient x (negsuc n) = whole (int_div x (negsuc n))

-- what rounding toward zero leaves: it has the dividend's sign
abbrev pub remainder : ℤ → ℤ → Result ℤ FaultKind
remainder x (pos zero) = Err DivideByZero
remainder x (pos (suc n)) = Ok (int_rem x (pos (suc n)))
remainder x (negsuc n) = Ok (int_rem x (negsuc n))

-- what is left, brought down to the divisor's sign
abbrev pub below : ℤ → ℤ → ℤ
below (pos zero) y = pos 0
below r y = r +ℤ y

-- what rounding down leaves: it has the divisor's sign
abbrev pub modulo : ℤ → ℤ → Result ℤ FaultKind
modulo x (pos zero) = Err DivideByZero
modulo x (pos (suc n)) = Ok (int_rem_euclid x (pos (suc n)))
modulo x (negsuc n) = Ok (below (int_rem_euclid x (negsuc n)) (negsuc n))

-- ---- comparisons and tests

-- whether two numbers compare so
abbrev pub compared : (ℤ → ℤ → Bool) → Value → Value → Answer
compared f a b = do
  x ← number_of a
  y ← number_of b
  Ok (Truth (f x y))

-- whether a number is such a one
abbrev pub tested : (ℤ → Bool) → Value → Answer
tested f a = do
  x ← number_of a
  Ok (Truth (f x))

-- the greater of two numbers
abbrev pub greatest : ℤ → ℤ → Result ℤ FaultKind
greatest x y = Ok (int_max x y)

-- the lesser of two numbers
abbrev pub least : ℤ → ℤ → Result ℤ FaultKind
least x y = Ok (int_min x y)

-- whether two values are equal, all the way down
abbrev pub equals : Value → Value → Bool
equals a b = same_plain (plain_of a) (plain_of b)

-- only `nil` and `false` are logically false
abbrev pub is_false : Value → Bool
is_false Nil = true
is_false (Truth b) = not b
is_false _ = false

-- whether a value is `nil`
abbrev pub is_nil : Value → Bool
is_nil Nil = true
is_nil _ = false

-- ---- vectors

-- `nil` counts as empty
abbrev pub count_of : Value → Answer
count_of Nil = Ok (Int (pos 0))
count_of (Vector ds) = Ok (Int (pos (length ds)))
count_of _ = Err NotAVector

-- an item that has to be there
abbrev pub found : Option PlainValue → Answer
found None = Err IndexOut
found (Some d) = Ok (value_of d)

-- the item at an index
abbrev pub item_at : List PlainValue → ℤ → Answer
item_at ds (negsuc n) = Err IndexOut
item_at ds (pos n) = found (slice_get ds n)

-- `nth`: the vector is tested first, then the index
abbrev pub nth_of : Value → Value → Answer
nth_of a b = do
  ds ← items_of a
  i ← number_of b
  item_at ds i

-- one more item at the end
abbrev pub added : List PlainValue → PlainValue → Answer
added ds d = if nat_le most_items (length ds) then Err TooLong else (if nat_le most_depth (depth d) then Err TooDeep else Ok (Vector (ds ++ d ∷ [])))

-- `conj`: a vector with one more item
abbrev pub conj_of : Value → Value → Answer
conj_of a b = do
  ds ← items_of a
  added ds (plain_of b)

-- an index up to the end
abbrev pub place_in : List PlainValue → ℤ → Result ℕ FaultKind
place_in ds (negsuc n) = Err IndexOut
place_in ds (pos n) = if nat_le n (length ds) then Ok n else Err IndexOut

-- an item in the place of another, or one more at the end
abbrev pub replaced : List PlainValue → ℕ → PlainValue → Answer
replaced ds n d = if nat_le most_items n then Err TooLong else (if nat_le most_depth (depth d) then Err TooDeep else Ok (Vector (take n ds ++ d ∷ drop (n + 1) ds)))

-- `assoc`: the vector is tested first, then the index, then where it points
abbrev pub assoc_of : Value → Value → Value → Answer
assoc_of a b c = do
  ds ← items_of a
  i ← number_of b
  n ← place_in ds i
  replaced ds n (plain_of c)

-- the last item, `nil` where there is none
abbrev pub last_of : List PlainValue → Value
last_of ds = value_of (slice_index_or ds (length ds - 1) nil)

-- `peek`: the last item of a vector
abbrev pub peek_of : Value → Answer
peek_of a = do
  ds ← items_of a
  Ok (last_of ds)

-- all items but the last
abbrev pub shorter : List PlainValue → Answer
shorter ds = if length ds == 0 then Err PopEmpty else Ok (Vector (take (length ds - 1) ds))

-- `pop`: a vector without its last item
abbrev pub pop_of : Value → Answer
pop_of a = do
  ds ← items_of a
  shorter ds

-- the vector of these values
abbrev pub vector_of : List Value → Answer
vector_of vs = if nat_lt most_items (length vs) then Err TooLong else (if nat_le most_depth (row_depth (plain_row (plains_of vs))) then Err TooDeep else Ok (Vector (plains_of vs)))

-- ---- the table

-- an argument by its place, from 0
abbrev pub arg : ℕ → List Value → Value
arg i vs = slice_index_or vs i Nil

-- the answer of each operation
unfoldable pub core : Op → List Value → Answer
core Add vs = from_left plus (arg 0 vs) (drop 1 vs)
core Subtract vs = difference_of (arg 0 vs) (drop 1 vs)
core Multiply vs = from_left times (arg 0 vs) (drop 1 vs)
core Inc vs = of_number (λ x. plus x (pos 1)) (arg 0 vs)
core Dec vs = of_number (λ x. minus x (pos 1)) (arg 0 vs)
core Quot vs = of_numbers quotient (arg 0 vs) (arg 1 vs)
core Rem vs = of_numbers remainder (arg 0 vs) (arg 1 vs)
core Mod vs = of_numbers modulo (arg 0 vs) (arg 1 vs)
core Equal vs = Ok (Truth (equals (arg 0 vs) (arg 1 vs)))
core NotEqual vs = Ok (Truth (not (equals (arg 0 vs) (arg 1 vs))))
core Less vs = compared int_lt (arg 0 vs) (arg 1 vs)
core Greater vs = compared (λ x y. int_lt y x) (arg 0 vs) (arg 1 vs)
core LessOrEqual vs = compared int_le (arg 0 vs) (arg 1 vs)
core GreaterOrEqual vs = compared (λ x y. int_le y x) (arg 0 vs) (arg 1 vs)
core Max vs = of_numbers greatest (arg 0 vs) (arg 1 vs)
core Min vs = of_numbers least (arg 0 vs) (arg 1 vs)
core Not vs = Ok (Truth (is_false (arg 0 vs)))
core IsNil vs = Ok (Truth (is_nil (arg 0 vs)))
core IsZero vs = tested (λ x. int_eq x (pos 0)) (arg 0 vs)
core IsPositive vs = tested (λ x. int_lt (pos 0) x) (arg 0 vs)
core IsNegative vs = tested (λ x. int_lt x (pos 0)) (arg 0 vs)
core Count vs = count_of (arg 0 vs)
core Nth vs = nth_of (arg 0 vs) (arg 1 vs)
core Conj vs = conj_of (arg 0 vs) (arg 1 vs)
core Assoc vs = assoc_of (arg 0 vs) (arg 1 vs) (arg 2 vs)
core Peek vs = peek_of (arg 0 vs)
core Pop vs = pop_of (arg 0 vs)

-- whether an operation takes so many arguments
unfoldable pub takes : Op → ℕ → Bool
takes Add n = nat_le 2 n
takes Subtract n = nat_le 1 n
takes Multiply n = nat_le 2 n
takes Inc n = n == 1
takes Dec n = n == 1
takes Quot n = n == 2
takes Rem n = n == 2
takes Mod n = n == 2
takes Equal n = n == 2
takes NotEqual n = n == 2
takes Less n = n == 2
takes Greater n = n == 2
takes LessOrEqual n = n == 2
takes GreaterOrEqual n = n == 2
takes Max n = n == 2
takes Min n = n == 2
takes Not n = n == 1
takes IsNil n = n == 1
takes IsZero n = n == 1
takes IsPositive n = n == 1
takes IsNegative n = n == 1
takes Count n = n == 1
takes Nth n = n == 2
takes Conj n = n == 2
takes Assoc n = n == 3
takes Peek n = n == 1
takes Pop n = n == 1

-- the operations that may copy a value or make room for one, and so want memory
abbrev pub may_copy : Op → Bool
may_copy Nth = true
may_copy Conj = true
may_copy Assoc = true
may_copy Peek = true
may_copy Pop = true
may_copy _ = false

-- the result is the table's answer, or there was no memory for it
abbrev pub Answers : Result Value Stop → Answer → Type 0
Answers (Ok v) a = a ≡ Ok v
Answers (Err (Fault k)) a = a ≡ Err k
Answers (Err Memory) a = ⊤
