use Rattle.std.proofs.Common.{◌≡◌, ◌-◌, length, Some, rules}
use Rattle.std.specs.List.{slice_get}
use Rattle.txs_value_data.specs.View.{plain_of}
use Rattle.txs_value_apply.proofs.VectorLemmas.{peek_of-last}
use Rattle.txs_value_apply.proofs.vectors.peek.Goals as goal

pub returns : goal.returns
returns c =
    let ds = c.in_ok-items.items.now in
    let at_end : slice_get ds (length ds - 1) ≡ Some (plain_of c.get.result.now) = search rules in
    peek_of-last c.args.value.now ds c.get.result.now c.in_ok-copy_value.field-0 c.in_ok-items.ensures at_end c.in_ok-copy_value.ensures
