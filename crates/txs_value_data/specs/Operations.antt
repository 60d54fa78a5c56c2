-- The core operations, their names and their numbers.
use Rattle.std.specs.Prelude.{ℕ, List, [], ◌∷◌, codes}
use Rattle.txs_value_data.specs.declared.op.Op.{Op}
use Rattle.txs_value_data.specs.declared.op.Op.TheVariants.{Add, Subtract, Multiply, Inc, Dec, Quot, Rem, Mod, Equal, NotEqual, Less, Greater, LessOrEqual, GreaterOrEqual, Max, Min, Not, IsNil, IsZero, IsPositive, IsNegative, Count, Nth, Conj, Assoc, Peek, Pop}

-- the name in Clojure
abbrev pub op_name : Op → List ℕ
op_name Add = codes "+"
op_name Subtract = codes "-"
op_name Multiply = codes "*"
op_name Inc = codes "inc"
op_name Dec = codes "dec"
op_name Quot = codes "quot"
op_name Rem = codes "rem"
op_name Mod = codes "mod"
op_name Equal = codes "="
op_name NotEqual = codes "not="
op_name Less = codes "<"
op_name Greater = codes ">"
op_name LessOrEqual = codes "<="
op_name GreaterOrEqual = codes ">="
op_name Max = codes "max"
op_name Min = codes "min"
op_name Not = codes "not"
op_name IsNil = codes "nil?"
op_name IsZero = codes "zero?"
op_name IsPositive = codes "pos?"
op_name IsNegative = codes "neg?"
op_name Count = codes "count"
op_name Nth = codes "nth"
op_name Conj = codes "conj"
op_name Assoc = codes "assoc"
op_name Peek = codes "peek"
op_name Pop = codes "pop"

-- the number in the byte form of code
abbrev pub op_number : Op → ℕ
op_number Add = 0
op_number Subtract = 1
op_number Multiply = 2
op_number Inc = 3
op_number Dec = 4
op_number Quot = 5
op_number Rem = 6
op_number Mod = 7
op_number Equal = 8
op_number NotEqual = 9
op_number Less = 10
op_number Greater = 11
op_number LessOrEqual = 12
op_number GreaterOrEqual = 13
op_number Max = 14
op_number Min = 15
op_number Not = 16
op_number IsNil = 17
op_number IsZero = 18
op_number IsPositive = 19
op_number IsNegative = 20
op_number Count = 21
op_number Nth = 22
op_number Conj = 23
op_number Assoc = 24
op_number Peek = 25
op_number Pop = 26

-- all of them, each at the place that is its number
abbrev pub operations : List Op
operations =
    Add ∷ Subtract ∷ Multiply ∷ Inc ∷ Dec ∷ Quot ∷ Rem ∷ Mod ∷ Equal ∷ NotEqual ∷ Less ∷ Greater ∷ LessOrEqual ∷ GreaterOrEqual
    ∷ Max ∷ Min ∷ Not ∷ IsNil ∷ IsZero ∷ IsPositive ∷ IsNegative ∷ Count ∷ Nth ∷ Conj ∷ Assoc ∷ Peek ∷ Pop ∷ []
