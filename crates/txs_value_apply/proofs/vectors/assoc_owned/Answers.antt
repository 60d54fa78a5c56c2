use Rattle.std.proofs.Common.{◌≡◌, ◌∙◌, ◌<◌, ◌≤◌, ap, arith, rules, sym, Ok, Err}
use Rattle.std.proofs.lemmas.Int.{to_z-of_z}
use Rattle.std.proofs.lemmas.Result.{err_from_is_err_and}
use Rattle.std.specs.Int.{w64}
use Rattle.std.specs.Int.RustNames.{FitsSigned}
use Rattle.txs_value_data.specs.Limits.{most_items, most_depth}
use Rattle.txs_value_data.specs.PlainValue.{depth}
use Rattle.txs_value_data.specs.View.{plain_of}
use Rattle.txs_value_data.specs.declared.value.Value.TheVariants.{Vector}
use Rattle.txs_value_apply.specs.Core.{place_in}
use Rattle.txs_value_apply.proofs.AssocLemmas.{stopped, assoc_of-no_items, assoc_of-no_index, assoc_of-no_place, assoc_of-placed, replaced-long, replaced-deep, replaced-put, place_there}
use Rattle.txs_value_apply.proofs.vectors.assoc_owned.Goals as goal

pub returns-in_err-items : goal.returns-in_err-items
returns-in_err-items c =
    let k = c.in_err-items.field-0.0 in
    let p = err_from_is_err_and c.from_residual.result c.from_residual.ensures.1 in
    stopped c.from_residual.result p.0 k _ p.1 p.2 (assoc_of-no_items c.args.vector c.args.index.now c.args.item k c.in_err-items.ensures)

pub returns-in_err-index : goal.returns-in_err-index
returns-in_err-index c =
    let k = c.in_err-index.field-0.0 in
    let p = err_from_is_err_and c.from_residual-in_err-index.result c.from_residual-in_err-index.ensures.1 in
    stopped c.from_residual-in_err-index.result p.0 k _ p.1 p.2 (assoc_of-no_index c.args.vector c.args.index.now c.args.item c.in_ok-items.items c.in_ok-items.ensures k c.in_err-index.ensures)

pub returns-in_err-place : goal.returns-in_err-place
returns-in_err-place c =
    let ds = c.in_ok-items.items in
    let z = c.in_ok-index.index in
    let k = c.in_err-place.field-0.0 in
    let z_fits : FitsSigned w64 z = search rules in
    let out : Err k ≡ place_in ds z = rw (to_z-of_z w64 z z_fits) at c.in_err-place.ensures in
    let p = err_from_is_err_and c.from_residual-in_err-place.result c.from_residual-in_err-place.ensures.1 in
    stopped c.from_residual-in_err-place.result p.0 k _ p.1 p.2 (assoc_of-no_place c.args.vector c.args.index.now c.args.item ds c.in_ok-items.ensures z k c.in_ok-index.ensures out)

pub returns-then-place-ge-MOST_ITEMS : goal.returns-then-place-ge-MOST_ITEMS
returns-then-place-ge-MOST_ITEMS c =
    let ds = c.in_ok-items.items in
    let z = c.in_ok-index.index in
    let n = c.in_ok-place.place in
    let z_fits : FitsSigned w64 z = search rules in
    let at : Ok n ≡ place_in ds z = rw (to_z-of_z w64 z z_fits) at c.in_ok-place.ensures in
    assoc_of-placed c.args.vector c.args.index.now c.args.item ds c.in_ok-items.ensures z n c.in_ok-index.ensures at ∙ replaced-long ds n (plain_of c.args.item) c.if-place-ge-MOST_ITEMS.true

pub returns-then-not-is_within : goal.returns-then-not-is_within
returns-then-not-is_within c =
    let ds = c.in_ok-items.items in
    let z = c.in_ok-index.index in
    let n = c.in_ok-place.place in
    let z_fits : FitsSigned w64 z = search rules in
    let at : Ok n ≡ place_in ds z = rw (to_z-of_z w64 z z_fits) at c.in_ok-place.ensures in
    let short : n < most_items = omega arith in
    let deep : most_depth ≤ depth (plain_of c.args.item) = search rules in
    assoc_of-placed c.args.vector c.args.index.now c.args.item ds c.in_ok-items.ensures z n c.in_ok-index.ensures at ∙ replaced-deep ds n (plain_of c.args.item) short deep

pub put_at-requires-clause-there : goal.put_at-requires-clause-there
put_at-requires-clause-there c =
    let ds = c.in_ok-items.items in
    let z = c.in_ok-index.index in
    let n = c.in_ok-place.place in
    let z_fits : FitsSigned w64 z = search rules in
    place_there ds z n (rw (to_z-of_z w64 z z_fits) at c.in_ok-place.ensures)

pub put_at-requires-clause-room : goal.put_at-requires-clause-room
put_at-requires-clause-room c = omega arith

pub returns : goal.returns
returns c =
    let ds = c.in_ok-items.items in
    let z = c.in_ok-index.index in
    let n = c.in_ok-place.place in
    let z_fits : FitsSigned w64 z = search rules in
    let at : Ok n ≡ place_in ds z = rw (to_z-of_z w64 z z_fits) at c.in_ok-place.ensures in
    let short : n < most_items = omega arith in
    let shallow : depth (plain_of c.args.item) < most_depth = search rules in
    assoc_of-placed c.args.vector c.args.index.now c.args.item ds c.in_ok-items.ensures z n c.in_ok-index.ensures at ∙ replaced-put ds n (plain_of c.args.item) short shallow ∙ ap (λ v. Ok (Vector v)) (sym c.in_ok-put_at.ensures)
