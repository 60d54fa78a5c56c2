-- What `assoc` answers, from what its steps found, and the vector of some values.
use Rattle.std.proofs.Common.{◌≡◌, ℕ, ◌+◌, ◌<◌, ◌≤◌, ◌++◌, ◌∷◌, Bool, true, false, List, length, refl, take, drop, sym, ap, ◌∙◌, subst, Ok, Err, Result, ℤ, pos, negsuc, arith}
use Rattle.std.specs.Prelude.{nat_le, if◌then◌else◌}
use Rattle.std.proofs.lemmas.Bool.{leb-true, le-leb, lt-leb, lt-ltb, le-ltb}
use Rattle.txs_value_data.specs.Limits.{most_items, most_depth}
use Rattle.txs_value_data.specs.PlainValue.{PlainValue, depth, row_depth, plain_row}
use Rattle.txs_value_data.specs.View.{plain_of, plains_of}
use Rattle.txs_value_data.specs.declared.value.Value.{Value}
use Rattle.txs_value_data.specs.declared.value.Value.TheVariants.{Vector}
use Rattle.txs_value_data.specs.declared.fault.FaultKind.{FaultKind}
use Rattle.txs_value_data.specs.declared.fault.FaultKind.TheVariants.{IndexOut, TooDeep, TooLong}
use Rattle.txs_value_data.specs.declared.fault.Stop.{Stop}
use Rattle.txs_value_data.specs.declared.fault.Stop.TheVariants.{Fault, Memory}
use Rattle.txs_value_apply.specs.Core.{Answer, Answers, ◌>>=◌, number_of, items_of, assoc_of, place_in, replaced, vector_of}

-- a fault that is passed on is the answer
pub stopped : (r : Result Value Stop) (s : Stop) (k : FaultKind) (a : Answer) → r ≡ Err s → s ≡ Fault k → a ≡ Err k → Answers r a
stopped r s k a e f g = subst (λ q. Answers q a) (sym (e ∙ ap Err f)) g

-- where there is no memory, nothing is said
pub no_memory : (r : Result Value Stop) (s : Stop) (a : Answer) → r ≡ Err s → s ≡ Memory → Answers r a
no_memory r s a e f = subst (λ q. Answers q a) (sym (e ∙ ap Err f)) tt

-- the steps, each from what the one before it gave
abbrev from_place : List PlainValue → Value → Result ℕ FaultKind → Answer
from_place ds c r = r >>= λ n. replaced ds n (plain_of c)

abbrev from_index : List PlainValue → Value → Result ℤ FaultKind → Answer
from_index ds c r = r >>= λ i. from_place ds c (place_in ds i)

abbrev from_items : Value → Value → Result (List PlainValue) FaultKind → Answer
from_items b c r = r >>= λ ds. from_index ds c (number_of b)

module _ (a b c : Value) where
  pub assoc_of-no_items : (k : FaultKind) → items_of a ≡ Err k → assoc_of a b c ≡ Err k
  assoc_of-no_items k is_ds = ap (from_items b c) is_ds

  module _ (ds : List PlainValue) (is_ds : items_of a ≡ Ok ds) where
    pub assoc_of-no_index : (k : FaultKind) → Err k ≡ number_of b → assoc_of a b c ≡ Err k
    assoc_of-no_index k is_z = ap (from_items b c) is_ds ∙ ap (from_index ds c) (sym is_z)

    pub assoc_of-no_place : (z : ℤ) (k : FaultKind) → Ok z ≡ number_of b → Err k ≡ place_in ds z → assoc_of a b c ≡ Err k
    assoc_of-no_place z k is_z is_n = ap (from_items b c) is_ds ∙ ap (from_index ds c) (sym is_z) ∙ ap (from_place ds c) (sym is_n)

    pub assoc_of-placed : (z : ℤ) (n : ℕ) → Ok z ≡ number_of b → Ok n ≡ place_in ds z → assoc_of a b c ≡ replaced ds n (plain_of c)
    assoc_of-placed z n is_z is_n = ap (from_items b c) is_ds ∙ ap (from_index ds c) (sym is_z) ∙ ap (from_place ds c) (sym is_n)

module _ (ds : List PlainValue) (n : ℕ) (d : PlainValue) where
  abbrev put : Answer
  put = Ok (Vector (take n ds ++ d ∷ drop (n + 1) ds))

  abbrev by_depth : Bool → Answer
  by_depth deep = if deep then Err TooDeep else put

  abbrev by_place : Bool → Answer
  by_place long = if long then Err TooLong else by_depth (nat_le most_depth (depth d))

  pub replaced-long : most_items ≤ n → replaced ds n d ≡ Err TooLong
  replaced-long long = ap by_place (le-leb most_items n long)

  pub replaced-deep : n < most_items → most_depth ≤ depth d → replaced ds n d ≡ Err TooDeep
  replaced-deep short deep = ap by_place (lt-leb most_items n short) ∙ ap by_depth (le-leb most_depth (depth d) deep)

  pub replaced-put : n < most_items → depth d < most_depth → replaced ds n d ≡ Ok (Vector (take n ds ++ d ∷ drop (n + 1) ds))
  replaced-put short shallow = ap by_place (lt-leb most_items n short) ∙ ap by_depth (lt-leb most_depth (depth d) shallow)

abbrev up_to : ℕ → Bool → Result ℕ FaultKind
up_to m b = if b then Ok m else Err IndexOut

there : (m l n : ℕ) (b : Bool) → nat_le m l ≡ b → Ok n ≡ up_to m b → n ≤ l
there m l n true t e =
    let same : n ≡ m = cc in
    let le : m ≤ l = leb-true m l t in
    omega (arith, same, le)
there m l n false t e = absurd (cc)

-- a place that was found is at most the end
pub place_there : (ds : List PlainValue) (z : ℤ) (n : ℕ) → Ok n ≡ place_in ds z → n ≤ length ds
place_there ds (pos m) n e = there m (length ds) n (nat_le m (length ds)) refl e
place_there ds (negsuc m) n e = absurd (cc)

module _ (vs : List Value) where
  abbrev made_by_depth : Bool → Answer
  made_by_depth deep = if deep then Err TooDeep else Ok (Vector (plains_of vs))

  abbrev made_by_length : Bool → Answer
  made_by_length long = if long then Err TooLong else made_by_depth (nat_le most_depth (row_depth (plain_row (plains_of vs))))

  pub vector_of-long : most_items < length vs → vector_of vs ≡ Err TooLong
  vector_of-long long = ap made_by_length (lt-ltb most_items (length vs) long)

  pub vector_of-deep : length vs ≤ most_items → most_depth ≤ row_depth (plain_row (plains_of vs)) → vector_of vs ≡ Err TooDeep
  vector_of-deep short deep = ap made_by_length (le-ltb most_items (length vs) short) ∙ ap made_by_depth (le-leb most_depth _ deep)

  pub vector_of-made : length vs ≤ most_items → row_depth (plain_row (plains_of vs)) < most_depth → vector_of vs ≡ Ok (Vector (plains_of vs))
  vector_of-made short shallow = ap made_by_length (le-ltb most_items (length vs) short) ∙ ap made_by_depth (lt-leb most_depth _ shallow)
