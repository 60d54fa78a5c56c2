-- Transactions and events, counted.
use Rattle.std.proofs.Common.{◌≡◌, ℕ, ◌-◌, map, List, [], ◌∷◌, length, drop, refl, sym, ap, ◌∙◌}
use Rattle.std.proofs.lemmas.List.{length-drop}
use Rattle.txs_tree_eval.specs.Told.{told_run, told_tx}
use Rattle.txs_tree_eval_node.specs.Evaluated.{tx_run}
use Rattle.txs_tree_eval_node.specs.Events.{seen_events}
use Rattle.txs_tree_eval_node.specs.declared.seen.Seen.{Seen}
use Rattle.txs_tree_eval_node.specs.declared.state.Transacted.{Transacted}
use Rattle.txs_tree_eval_node.proofs.Leaf.{length-seen}

pub told_each : (rs : List Transacted) → map told_run rs ≡ map told_tx (map tx_run rs)
told_each [] = refl
told_each (r ∷ rs) = ap (λ l. told_run r ∷ l) (told_each rs)

-- how many events are left
pub left_of : (es : List Seen) (i left : ℕ) → left ≡ length es - i → left ≡ length (drop i (seen_events es))
left_of es i left l = l ∙ sym (length-drop i (seen_events es) ∙ ap (λ k. k - i) (length-seen es))
