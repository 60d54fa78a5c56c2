-- What `nth` and `peek` answer of a vector, from what stands at a place of its items.
use Rattle.std.proofs.Common.{◌≡◌, ℕ, ◌-◌, List, length, sym, ap, ◌∙◌, Some, Ok, ℤ, pos, negsuc}
use Rattle.std.specs.List.{slice_get}
use Rattle.std.specs.Int.{FitsUnsignedBits}
use Rattle.std.proofs.lemmas.Option.{get_or_from_slice_get}
use lib.IntN.{nat_abs}
use Rattle.txs_value_data.specs.PlainValue.{PlainValue, nil}
use Rattle.txs_value_data.specs.View.{plain_of, value_of}
use Rattle.txs_value_data.proofs.ItemsLemmas.{value_of-plain_of}
use Rattle.txs_value_data.specs.declared.value.Value.{Value}
use Rattle.txs_value_apply.specs.Core.{number_of, items_of, nth_of, peek_of}

pub nth_of-item : (a b : Value) (ds : List PlainValue) (z : ℤ) (i : ℕ) (v w : Value) → items_of a ≡ Ok ds → Ok z ≡ number_of b → FitsUnsignedBits 64 z × (i ≡ nat_abs z) → slice_get ds i ≡ Some (plain_of v) → w ≡ v → nth_of a b ≡ Ok w
nth_of-item a b ds (negsuc n) i v w is_ds is_z within at_i same = absurd within.0
nth_of-item a b ds (pos n) i v w is_ds is_z within at_i same = rw (is_ds, sym is_z, sym within.1, at_i) (ap Ok (value_of-plain_of v ∙ sym same))

pub peek_of-last : (a : Value) (ds : List PlainValue) (v w : Value) → items_of a ≡ Ok ds → slice_get ds (length ds - 1) ≡ Some (plain_of v) → w ≡ v → peek_of a ≡ Ok w
peek_of-last a ds v w is_ds at_end same =
    rw is_ds (ap Ok (ap value_of (get_or_from_slice_get ds (length ds - 1) (plain_of v) nil at_end) ∙ value_of-plain_of v ∙ sym same))
