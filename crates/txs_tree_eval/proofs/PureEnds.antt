-- What a pure function means, by what is told where it is applied.
use Rattle.std.proofs.Common.{◌≡◌, ℕ, false, List, length, None, Result, sym, subst, subst₂}
use Rattle.txs_value_cell.specs.declared.cell.CellDefinition.{CellDefinition}
use Rattle.txs_value_data.specs.declared.op.Callee.TheVariants.{Function}
use Rattle.txs_value_data.specs.declared.value.Value.{Value}
use Rattle.txs_tree_eval_node.specs.Evaluated.{applied}
use Rattle.txs_tree_eval_transaction.specs.Worked.{Told}
use Rattle.txs_tree_meaning.specs.Known.{known}
use Rattle.txs_tree_meaning.specs.Meaning.{apply}
use Rattle.txs_tree_meaning.specs.Pure.{nowhere, pure_calls, pure_meaning}
use Rattle.txs_tree_eval_node.specs.Setting.{Setting, callable}
use Rattle.txs_tree_meaning.specs.Sound.{SoundCallee, PureCall}
use Rattle.txs_tree_meaning.specs.View.{functions_of}
use Rattle.txs_tree_meaning.specs.declared.node.Function as function
use Rattle.txs_tree_eval_transaction.specs.declared.stop.ThreadStop.{ThreadStop}
use Rattle.txs_tree_eval_node.proofs.Called.{pure_everywhere}
use Rattle.txs_tree_meaning.proofs.Callable.{length-functions_of}
use Rattle.txs_tree_eval.proofs.Ends.{whole}

module _ (cells : List CellDefinition) (fs : List function.Function) (n f : ℕ) (vs ws : List Value) (setting : Setting) (same : setting ≡ whole cells fs n None) (copy : ws ≡ vs) where
  pub callable_here : PureCall (known (functions_of fs)) f (length vs) → SoundCallee (callable setting) (Function f) (length ws)
  callable_here pure = subst₂ (λ y us. SoundCallee (callable y) (Function f) (length us)) (sym same) (sym copy) (pure_everywhere cells fs n f (length vs) None pure)

  -- what is told of it there is told of the pure meaning
  pub told_pure : (r : Result Value ThreadStop) → Told r (applied setting (Function f) ws nowhere) → Told r (pure_meaning n (functions_of fs) (Function f) vs)
  told_pure r h =
      let here : Told r (applied (whole cells fs n None) (Function f) vs nowhere) = subst₂ (λ y us. Told r (applied y (Function f) us nowhere)) same copy h in
      subst (λ d. Told r (apply (pure_calls n (functions_of fs) d false) nowhere (Function f) vs tt)) (sym (length-functions_of fs)) here
