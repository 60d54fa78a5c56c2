use Rattle.std.proofs.Common.{rules, ◌≡◌, Err, subst}
use Rattle.txs_tree_eval_transaction.specs.Worked.{Told}
use Rattle.txs_tree_eval_transaction.specs.declared.stop.ThreadStop.TheVariants.{Fault}
use Rattle.txs_tree_eval.proofs.pure_call.answer.Goals as goal

pub returns-in-Ok : goal.returns-in-Ok
returns-in-Ok c = λ k h. subst (λ g. Told g k) c.in-Ok.is h

pub returns-in-Err-Fault : goal.returns-in-Err-Fault
returns-in-Err-Fault c =
    let is : c.args.given ≡ Err (Fault c.in-Err-Fault.fault) = search rules in
    λ k h. subst (λ g. Told g k) is h

pub returns-in-Err-Memory : goal.returns-in-Err-Memory
returns-in-Err-Memory c = λ k h. tt

pub returns-in-Err-Turns : goal.returns-in-Err-Turns
returns-in-Err-Turns c = search rules
