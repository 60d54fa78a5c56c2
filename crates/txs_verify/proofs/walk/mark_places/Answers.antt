use Rattle.std.proofs.Common.{rules, arith, ◌≡◌, ◌+◌, ◌∷◌, [], ap, length, set, Some}
use Rattle.txs_code_meaning.specs.PlainCode.{parameters_of}
use Rattle.txs_verify.specs.Going.{no_marks}
use Rattle.txs_verify.proofs.Going.{closed_is, goes_from}
use Rattle.txs_verify.proofs.walk.mark_places.Goals as goal

pub look_at_each-requires-clause-goes : goal.look_at_each-requires-clause-goes
look_at_each-requires-clause-goes c =
    let is = c.args.instrs.now in
    let none : c.in_ok-marks.marks.items ≡ no_marks (length is + 1) = first_of (search rules, first_of (cc, grind arith)) in
    let one : c.in_ok-waiting.waiting.items ≡ 0 ∷ [] = first_of (search rules, cc) in
    goes_from (parameters_of c.args.functions.now) is _ c.in_ok-waiting.waiting.items (ap (λ ms. set ms 0 (Some (record { depth = 0; txs = 0 }))) none) one

pub returns-clause-many : goal.returns-clause-many
returns-clause-many c = c.in_ok-look_at_each.ensures.goes.many

pub returns-clause-closed : goal.returns-clause-closed
returns-clause-closed c = closed_is (parameters_of c.args.functions.now) c.args.instrs.now _ c.in_ok-look_at_each.ensures.goes

pub returns-clause-reached : goal.returns-clause-reached
returns-clause-reached c = c.in_ok-look_at_each.ensures.goes.reached

pub returns-clause-low : goal.returns-clause-low
returns-clause-low c = λ p m e. omega (arith, (c.in_ok-look_at_each.ensures.goes.low p m e).0)
