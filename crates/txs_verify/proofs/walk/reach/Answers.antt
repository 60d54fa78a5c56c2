use Rattle.std.proofs.Common.{rules, ◌≡◌, ◌∙◌, sym, subst, Some, None}
use Rattle.txs_verify.specs.Marks.{mark_at}
use Rattle.txs_verify.specs.Walk.{Gives, reached}
use Rattle.txs_verify.proofs.Lists.{mark_is}
use Rattle.txs_verify.proofs.Reached.{unmarked_is}
use Rattle.txs_verify.proofs.walk.reach.Goals as goal

pub returns-in_ok-push-in-None-clause-gives : goal.returns-in_ok-push-in-None-clause-gives
returns-in_ok-push-in-None-clause-gives c =
    let at = mark_is c.args.marks.now.items c.args.to None (search rules) in
    let none : mark_at c.args.marks.now.items c.args.to ≡ None = first_of (search (rules, at), cc) in
    unmarked_is c.args.marks.now.items c.args.waiting.now.items c.args.to c.args.mark c.push.new.self.items none (search rules)

pub returns-in-Some-clause-gives : goal.returns-in-Some-clause-gives
returns-in-Some-clause-gives c =
    let at = mark_is c.args.marks.now.items c.args.to c.index-here.result.now (search rules) in
    let some : mark_at c.args.marks.now.items c.args.to ≡ Some c.in-Some.earlier = at ∙ sym c.index-here.ensures ∙ c.in-Some.is in
    subst (λ x. Gives c.agree.result (c.args.marks.now.items, c.args.waiting.now.items) (reached x (c.args.marks.now.items, c.args.waiting.now.items) c.args.to c.args.mark)) (sym some) (c.agree.ensures.gives (c.args.marks.now.items, c.args.waiting.now.items))
