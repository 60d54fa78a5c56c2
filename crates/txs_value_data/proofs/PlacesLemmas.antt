-- What stands at a place of a list of plain values: it is less than the list and no deeper, and one more of a list.
use Rattle.std.proofs.Common.{◌≡◌, ℕ, zero, suc, ◌+◌, ◌-◌, ◌<◌, ◌≤◌, ◌++◌, List, [], ◌∷◌, take, sym, ap, Some, add-one, arith}
use Rattle.std.specs.List.{slice_get}
use Rattle.txs_value_data.specs.PlainValue.{PlainValue, plain_row, depth, row_depth, plain_size, row_size}
use Rattle.txs_value_data.proofs.ItemsLemmas.{row_depth-push}

some_one : {A : Type 0} → (x y : A) → Some x ≡ Some y → x ≡ y
some_one x y e = cc

take_suc : (ds : List PlainValue) (i : ℕ) (d : PlainValue) → slice_get ds i ≡ Some d → take (suc i) ds ≡ take i ds ++ d ∷ []
take_suc [] i d e = absurd cc
take_suc (c ∷ ds) zero d e = ap (λ x. x ∷ []) (some_one c d e)
take_suc (c ∷ ds) (suc i) d e = ap (λ xs. c ∷ xs) (take_suc ds i d e)

pub take_next : (ds : List PlainValue) (i : ℕ) (d : PlainValue) → slice_get ds i ≡ Some d → take (i + 1) ds ≡ take i ds ++ d ∷ []
take_next ds i d e = rw add-one (take_suc ds i d e)

pub item_less : (ds : List PlainValue) (i : ℕ) (d : PlainValue) → slice_get ds i ≡ Some d → plain_size d < row_size ds
item_less [] i d e = absurd cc
item_less (c ∷ ds) zero d e = rw (sym (some_one c d e)) (omega arith)
item_less (c ∷ ds) (suc i) d e = omega (arith, item_less ds i d e)

pub item_depth : (ds : List PlainValue) (i : ℕ) (d : PlainValue) → slice_get ds i ≡ Some d → depth d ≤ row_depth (plain_row ds)
item_depth [] i d e = absurd cc
item_depth (c ∷ ds) zero d e = rw (sym (some_one c d e)) (omega arith)
item_depth (c ∷ ds) (suc i) d e = omega (arith, item_depth ds i d e)

pub depth_next : (ds : List PlainValue) (i : ℕ) (d : PlainValue) (n : ℕ) → slice_get ds i ≡ Some d → depth d ≤ n → row_depth (plain_row (take i ds)) ≤ n → row_depth (plain_row (take (i + 1) ds)) ≤ n
depth_next ds i d n e one before = rw (take_next ds i d e) (omega (arith, row_depth-push (take i ds) d))
