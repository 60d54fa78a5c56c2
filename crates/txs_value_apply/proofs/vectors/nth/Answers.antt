use Rattle.std.proofs.Common.{rules}
use Rattle.std.proofs.lemmas.Int.{to_z-of_z}
use Rattle.std.specs.Int.{w64}
use Rattle.std.specs.Int.RustNames.{FitsSigned}
use Rattle.txs_value_apply.proofs.VectorLemmas.{nth_of-item}
use Rattle.txs_value_apply.proofs.vectors.nth.Goals as goal

pub returns : goal.returns
returns c =
    let z = c.in_ok-index.index in
    let z_fits : FitsSigned w64 z = search rules in
    let within = rw (to_z-of_z w64 z z_fits) at c.in-Ok.ensures in
    nth_of-item c.args.vector.now c.args.index.now c.in_ok-items.items.now z c.in-Ok.place c.get.result.now c.in_ok-copy_value.field-0
    c.in_ok-items.ensures c.in_ok-index.ensures within c.get.ensures c.in_ok-copy_value.ensures
