use Rattle.std.proofs.Common.{◌≡◌, ◌∙◌, sym, ap, subst, Some, None}
use Rattle.txs_code_meaning.specs.PlainCode.{parameters_of}
use Rattle.txs_verify.specs.Marks.{mark_at}
use Rattle.txs_verify.specs.Walk.{Gives, looked}
use Rattle.txs_verify.proofs.Lists.{mark_is}
use Rattle.txs_verify.proofs.walk.look.Goals as goal

pub pass-requires-clause-deep : goal.pass-requires-clause-deep
pass-requires-clause-deep c =
    let at = mark_is c.args.marks.now.items c.args.at c.index-here.result.now c.requires.place in
    (c.requires.low c.in-Some.mark (at ∙ sym c.index-here.ensures ∙ c.in-Some.is)).0

pub pass-requires-clause-nested : goal.pass-requires-clause-nested
pass-requires-clause-nested c =
    let at = mark_is c.args.marks.now.items c.args.at c.index-here.result.now c.requires.place in
    (c.requires.low c.in-Some.mark (at ∙ sym c.index-here.ensures ∙ c.in-Some.is)).1

pub returns-in-Some : goal.returns-in-Some
returns-in-Some c =
    let at = mark_is c.args.marks.now.items c.args.at c.index-here.result.now c.requires.place in
    let some : mark_at c.args.marks.now.items c.args.at ≡ Some c.in-Some.mark = at ∙ sym c.index-here.ensures ∙ c.in-Some.is in
    subst (λ x. Gives c.pass.result (c.pass.new.marks.items, c.pass.new.waiting.items) (looked (parameters_of c.args.functions.now) c.args.instrs.now c.args.at x (c.args.marks.now.items, c.args.waiting.now.items))) (sym some) c.pass.ensures

pub returns-in-None : goal.returns-in-None
returns-in-None c =
    let at = mark_is c.args.marks.now.items c.args.at c.index-here.result.now c.requires.place in
    let none : mark_at c.args.marks.now.items c.args.at ≡ None = at ∙ sym c.index-here.ensures ∙ c.in-None.is in
    ap (λ x. looked (parameters_of c.args.functions.now) c.args.instrs.now c.args.at x (c.args.marks.now.items, c.args.waiting.now.items)) none
