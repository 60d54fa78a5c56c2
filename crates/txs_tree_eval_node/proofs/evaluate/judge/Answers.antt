use Rattle.std.proofs.Common.{rules, ◌≡◌, true, false, ap, ◌∙◌, sym}
use Rattle.txs_value_apply.specs.Core.{is_false}
use Rattle.txs_tree_eval_node.proofs.Acting.{judged_if, judged_as}
use Rattle.txs_tree_eval_node.proofs.evaluate.judge.Goals as goal

pub returns-then-refused : goal.returns-then-refused
returns-then-refused c =
    let refused : true ≡ is_false c.args.answer = search rules in
    λ v. judged_as c.args.answer c.args.span v ∙ ap (λ b. judged_if b c.args.span v) (sym refused)

pub returns : goal.returns
returns c =
    let kept : false ≡ is_false c.args.answer = search rules in
    λ v. judged_as c.args.answer c.args.span v ∙ ap (λ b. judged_if b c.args.span v) (sym kept)
