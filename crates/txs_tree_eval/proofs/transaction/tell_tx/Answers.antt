use Rattle.std.proofs.Common.{true, Err, ◌≡◌, ap, ◌∙◌, subst, refl}
use Rattle.txs_tree_eval_transaction.specs.Worked.{Gives, tx_state}
use Rattle.txs_tree_eval_transaction.specs.declared.stop.ThreadStop.TheVariants.{Fault, Turns}
use Rattle.txs_tree_eval.proofs.Ends.{tells_value, tells_fault, tells_turns}
use Rattle.txs_tree_eval.proofs.transaction.tell_tx.Goals as goal

pub returns-in-Ok : goal.returns-in-Ok
returns-in-Ok c = λ k h. tells_value c.meaning_of.result c.in-Ok.value c.args.work k (subst (λ g. Gives true g (tx_state c.args.work) k) c.in-Ok.is h) c.meaning_of.ensures

pub returns-in-Fault : goal.returns-in-Fault
returns-in-Fault c = λ k h.
    let is : c.args.gave ≡ Err (Fault c.in-Fault.fault) = c.in-Err.is ∙ ap Err c.in-Fault.is in
    tells_fault c.meaning_of-in-Fault.result (Fault c.in-Fault.fault) c.in-Fault.fault c.args.work k refl (subst (λ g. Gives true g (tx_state c.args.work) k) is h) c.meaning_of-in-Fault.ensures

pub returns-in-Turns : goal.returns-in-Turns
returns-in-Turns c = λ k h.
    let is : c.args.gave ≡ Err Turns = c.in-Err.is ∙ ap Err c.in-Turns.is in
    tells_turns Turns (tx_state c.args.work) k refl (subst (λ g. Gives true g (tx_state c.args.work) k) is h)
