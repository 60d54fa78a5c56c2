use Rattle.std.proofs.Common.{◌≡◌, ◌-◌, length, drop, take, rules, arith, ap, sym, Ok, Err, ◌∙◌, to_z}
use Rattle.std.proofs.lemmas.Int.{to_z-of_z}
use Rattle.std.proofs.lemmas.List.{drop_all}
use Rattle.std.proofs.lemmas.Result.{err_from_is_err_and}
use Rattle.std.specs.Int.{w64}
use Rattle.std.specs.Int.RustNames.{FitsSigned}
use Rattle.txs_value_apply.specs.Core.{from_left, times, arg}
use Rattle.txs_value_data.specs.declared.value.Value.TheVariants.{Int}
use Rattle.txs_value_apply.proofs.CoreLemmas.{from_left-at, from_left-first, from_left-not, from_left-over, from_left-start}
use Rattle.txs_value_apply.proofs.numbers.product.Goals as goal

pub returns-in_err-total : goal.returns-in_err-total
returns-in_err-total c =
    let first = from_left-first times c.args.args.now c.index-args-0.result c.in_err-total.field-0.0 c.requires c.index-args-0.is c.in_err-total.ensures in
    let p = err_from_is_err_and c.from_residual.result c.from_residual.ensures.1 in
    p.1 ∙ ap Err p.2 ∙ sym first

pub loop-value-init : goal.loop-value-init
loop-value-init c =
    let t = c.in_ok-total.total in
    let fits : FitsSigned w64 t = search rules in
    rw (to_z-of_z w64 t fits) (from_left-start times c.args.args.now c.index-args-0.result t c.requires c.index-args-0.is c.in_ok-total.ensures)

pub returns-in_err-number : goal.returns-in_err-number
returns-in_err-number c =
    let t = to_z w64 c.loop-value.total-bits in
    let xs = take (length c.args.args.now - 1) (drop 1 c.args.args.now) in
    let p = err_from_is_err_and c.from_residual-in_err-number.result c.from_residual-in_err-number.ensures.1 in
    let ends = from_left-not times t c.value-item.result xs c.loop-value.value-index c.in_err-number.field-0.0 c.loop-value-test.true c.value-item.is c.in_err-number.ensures in
    p.1 ∙ ap Err p.2 ∙ sym (c.loop-value.invariant ∙ ends)

pub returns-in_err-total-2 : goal.returns-in_err-total-2
returns-in_err-total-2 c =
    let t = to_z w64 c.loop-value.total-bits in
    let n = c.in_ok-number.field-0 in
    let n_fits : FitsSigned w64 n = search rules in
    let xs = take (length c.args.args.now - 1) (drop 1 c.args.args.now) in
    let p = err_from_is_err_and c.from_residual-in_err-total-2.result c.from_residual-in_err-total-2.ensures.1 in
    let over : Err c.in_err-total-2.field-0.0 ≡ times t n = rw (to_z-of_z w64 n n_fits) at c.in_err-total-2.ensures in
    let ends = from_left-over times t n c.value-item.result xs c.loop-value.value-index c.in_err-total-2.field-0.0 c.loop-value-test.true c.value-item.is c.in_ok-number.ensures over in
    p.1 ∙ ap Err p.2 ∙ sym (c.loop-value.invariant ∙ ends)

pub loop-value-preserved : goal.loop-value-preserved
loop-value-preserved c =
    let t = to_z w64 c.loop-value.total-bits in
    let n = c.in_ok-number.field-0 in
    let u = c.in_ok-total-2.total in
    let n_fits : FitsSigned w64 n = search rules in
    let u_fits : FitsSigned w64 u = search rules in
    let xs = take (length c.args.args.now - 1) (drop 1 c.args.args.now) in
    let is_u : Ok u ≡ times t n = rw (to_z-of_z w64 n n_fits) at c.in_ok-total-2.ensures in
    let step = from_left-at times t n u c.value-item.result xs c.loop-value.value-index c.loop-value-test.true c.value-item.is c.in_ok-number.ensures is_u in
    let so_far : from_left times (arg 0 c.args.args.now) (drop 1 c.args.args.now) ≡ from_left times (Int t) (drop c.loop-value.value-index xs) = c.loop-value.invariant in
    rw (to_z-of_z w64 u u_fits) (so_far ∙ step)

pub returns : goal.returns
returns c =
    let t = to_z w64 c.loop-value.total-bits in
    let xs = take (length c.args.args.now - 1) (drop 1 c.args.args.now) in
    let out = c.loop-value-test.false in
    sym (c.loop-value.invariant ∙ ap (from_left times (Int t)) (drop_all c.loop-value.value-index xs (omega (arith, out))))
