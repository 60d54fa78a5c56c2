-- Each item of a vector has less inside than the vector, and so has each part by which it is stored.
use Rattle.std.specs.Prelude.{◌≡◌, ◌+◌, ◌≤◌, List, [], ◌∷◌, ◌++◌, max, Option, Some, None}
use Rattle.std.proofs.Common.{arith}
use denote.Param.Weighed.{most}
use Rattle.txs_value_data.specs.PlainValue.{PlainValue, plain_size, row_size, leaf_size, branch_size, rows_size, root_size, body_size, items_size}
use Rattle.txs_value_data.specs.Rows.{joined, stored}
use Rattle.txs_value_data.specs.View.{plains_of, plain_of}
use Rattle.txs_value_data.specs.declared.value.Value.{Value}
use Rattle.txs_value_data.specs.declared.value.Value.TheVariants.{Nil, Truth, Int, Key, Text, Vector, Cell}
use Rattle.txs_value_data.specs.declared.value.Body.TheDeep.{deep-Value, deep-Body}
use Rattle.txs_value_data.specs.declared.value.Body.TheInside.{Inside}

deep_le : (v : Value) → deep-Value v ≤ plain_size (plain_of v)
deep_le Nil = omega arith
deep_le (Truth b) = omega arith
deep_le (Int z) = omega arith
deep_le (Key bs) = omega arith
deep_le (Text bs) = omega arith
deep_le (Vector ds) = omega arith
deep_le (Cell c) = omega arith

-- no value of a list has more inside than the list
pub most_le : (vs : List Value) → most deep-Value vs ≤ row_size (plains_of vs)
most_le [] = omega arith
most_le (v ∷ vs) = omega (arith, deep_le v, most_le vs)

-- two lists put end to end have inside what each has
pub row_size-append : (ds es : List PlainValue) → row_size (ds ++ es) ≡ row_size ds + row_size es
row_size-append [] es = omega arith
row_size-append (d ∷ ds) es = omega (arith, row_size-append ds es)

-- the values of a list fall to it
pub items_fall : (vs : List Value) → max (most deep-Value vs) 0 ≤ row_size (plains_of vs)
items_fall vs = omega (arith, most_le vs)

-- the row behind a pointer falls to it
pub leaf_falls : (ds : List PlainValue) → max (row_size ds + 1) 0 ≤ leaf_size ds
leaf_falls ds = omega arith

most_leaf_le : (cs : List (List PlainValue)) → most (λ c. leaf_size c + 1) cs ≤ row_size (joined cs) + 2
most_leaf_le [] = omega arith
most_leaf_le (c ∷ cs) = omega (arith, row_size-append c (joined cs), most_leaf_le cs)

most_branch_le : (bs : List (List PlainValue)) → most (λ b. branch_size b + 1) bs ≤ row_size (joined bs) + 3
most_branch_le [] = omega arith
most_branch_le (b ∷ bs) = omega (arith, row_size-append b (joined bs), most_branch_le bs)

-- the leaves of a branch fall to it
pub leaves_fall : (cs : List (List PlainValue)) → max (most (λ c. leaf_size c + 1) cs) 0 ≤ branch_size (joined cs)
leaves_fall cs = omega (arith, most_leaf_le cs)

-- branches and leaves fall to the rows that they make
pub rows_fall : (bs cs : List (List PlainValue)) → max (most (λ b. branch_size b + 1) bs) (max (most (λ c. leaf_size c + 1) cs) 0) ≤ rows_size (joined bs ++ joined cs)
rows_fall bs cs = omega (arith, row_size-append (joined bs) (joined cs), most_branch_le bs, most_leaf_le cs)

-- the rows behind a pointer fall to it
pub root_falls : (ds : List PlainValue) → max (rows_size ds + 1) 0 ≤ root_size ds
root_falls ds = omega arith

-- with rows, and without
body_falls_by : (a : Inside) (r : Option (List PlainValue)) → deep-Body (record { root = r; tail = a.tail }) ≤ body_size (stored r ++ a.tail)
body_falls_by a None = omega arith
body_falls_by a (Some ds) = omega (arith, row_size-append ds a.tail)

-- the rows and the short list of a vector fall to its body
pub body_falls : (a : Inside) → deep-Body a ≤ body_size (stored a.root ++ a.tail)
body_falls a = body_falls_by a a.root

-- the body of a vector falls to the vector
pub items_fall_whole : (ds : List PlainValue) → max (max (body_size ds + 1) 0) 0 ≤ items_size ds
items_fall_whole ds = omega arith
