use Rattle.std.proofs.Common.{arith, ◌∷◌, [], length, ap, subst, length-append}
use Rattle.std.proofs.lemmas.Result.{err_from_is_err_and}
use Rattle.txs_code_meaning.specs.PlainCode.{parameters_of}
use Rattle.txs_verify.specs.Going.{Goes}
use Rattle.txs_verify.proofs.Going.{looked_on, stop_is, taken, taken_below}
use Rattle.txs_verify.proofs.walk.look_at_each.Goals as goal

pub look-requires : goal.look-requires
look-requires c =
    let ps = parameters_of c.args.functions.now in
    let is = c.args.instrs.now in
    let ms = c.loop-at.marks.items in
    let rest = c.pop.new.self.items in
    let at = c.in-Some.at in
    let goes = subst (λ w. Goes ps is ms w) c.in-Some.ensures.items c.loop-at.invariant in
    let going = taken ps is ms rest at goes in
    record {
      place = taken_below ps is ms rest at goes;
      many = going.many;
      jumps = c.requires.jumps;
      low = λ m e. (omega (arith, (going.low at m e).0, c.requires.few), omega (arith, (going.low at m e).1, c.requires.few));
    }

pub loop-at-preserved : goal.loop-at-preserved
loop-at-preserved c =
    let ps = parameters_of c.args.functions.now in
    let is = c.args.instrs.now in
    let ms = c.loop-at.marks.items in
    let rest = c.pop.new.self.items in
    let at = c.in-Some.at in
    let goes = subst (λ w. Goes ps is ms w) c.in-Some.ensures.items c.loop-at.invariant in
    (looked_on ps is c.requires.jumps at (ms, rest) (c.look.new.marks.items, c.look.new.waiting.items) (taken ps is ms rest at goes) c.in_ok-look.ensures).0

pub loop-at-smaller : goal.loop-at-smaller
loop-at-smaller c =
    let ps = parameters_of c.args.functions.now in
    let is = c.args.instrs.now in
    let ms = c.loop-at.marks.items in
    let rest = c.pop.new.self.items in
    let at = c.in-Some.at in
    let goes = subst (λ w. Goes ps is ms w) c.in-Some.ensures.items c.loop-at.invariant in
    let same = (looked_on ps is c.requires.jumps at (ms, rest) (c.look.new.marks.items, c.look.new.waiting.items) (taken ps is ms rest at goes) c.in_ok-look.ensures).1 in
    omega (arith, same, ap length c.in-Some.ensures.items, length-append rest (at ∷ []))

pub returns-in_err-look-clause-refused : goal.returns-in_err-look-clause-refused
returns-in_err-look-clause-refused c =
    let ps = parameters_of c.args.functions.now in
    let is = c.args.instrs.now in
    let ms = c.loop-at.marks.items in
    let rest = c.pop.new.self.items in
    let at = c.in-Some.at in
    let goes = subst (λ w. Goes ps is ms w) c.in-Some.ensures.items c.loop-at.invariant in
    let p = err_from_is_err_and c.from_residual.result c.from_residual.ensures.1 in
    rw (p.1, p.2) (stop_is ps is c.requires.jumps at (ms, rest) (c.look.new.marks.items, c.look.new.waiting.items) c.in_err-look.field-0.0 (taken ps is ms rest at goes) c.in_err-look.ensures)
