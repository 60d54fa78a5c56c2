use Rattle.std.proofs.Common.{◌-◌, sym, ap, ◌∙◌, arith}
use Rattle.txs_tree_meaning.proofs.Soundness.{count-trees_of}
use Rattle.txs_tree_meaning.specs.View.{function_of, trees_of}
use Rattle.txs_opt.proofs.Calls.{not_arity, not_few, may}
use Rattle.txs_opt.proofs.call.budget_after.Goals as goal

pub returns-then-from-args : goal.returns-then-from-args
returns-then-from-args c = λ m.
    not_arity c.args.live (function_of c.args.function.now) (trees_of c.args.args.now) m c.args.budget (λ e. c.if-from-args.true (c.from.ensures ∙ e ∙ count-trees_of c.args.args.now))

pub returns-then-not-let_has_few : goal.returns-then-not-let_has_few
returns-then-not-let_has_few c = λ m. not_few c.args.live (function_of c.args.function.now) (trees_of c.args.args.now) m c.args.budget (sym (c.if-not-let_has_few.ensures m))

pub returns : goal.returns
returns c = λ m. (
  may c.args.live (function_of c.args.function.now) (trees_of c.args.args.now) m c.args.budget (omega (arith, c.in_ok-size.ensures)) (sym c.if-has_recur.ensures)
      (sym c.from.ensures ∙ c.if-from-args.false ∙ sym (count-trees_of c.args.args.now)) (omega (arith, c.in_ok-size.ensures, c.if-size-budget.false)) (sym (c.if-not-let_has_few.ensures m)),
  ap (λ n. c.args.budget - n) c.in_ok-size.ensures.0,
)
