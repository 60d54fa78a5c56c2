use Rattle.std.proofs.Common.{Err, sym, ap, ◌∙◌}
use Rattle.std.proofs.lemmas.Result.{err_from_is_err_and}
use Rattle.txs_tree_eval_transaction.specs.declared.stop.ThreadStop.TheVariants.{Memory}
use Rattle.txs_value_data.specs.Places.{fault_at}
use Rattle.txs_value_data.specs.declared.fault.FaultKind.TheVariants.{AgentFailed}
use Rattle.txs_tree_meaning.specs.Meaning.{Faults}
use Rattle.txs_tree_eval_node.proofs.Ending.{noted_more}
use Rattle.txs_tree_eval_node.proofs.Evaluation.{halts_answers}
use Rattle.txs_tree_eval_node.proofs.state.Progress.refuse.Goals as goal

pub returns-in_err-push-clause-value : goal.returns-in_err-push-clause-value
returns-in_err-push-clause-value c =
    let p = err_from_is_err_and c.from_residual.result c.from_residual.ensures.1 in
    halts_answers c.from_residual.result Memory _ _ (p.1 ∙ ap Err p.2) tt

pub returns-clause-value : goal.returns-clause-value
returns-clause-value c = ap (Faults (fault_at AgentFailed c.args.span)) (sym (noted_more c.args.self.now c.args.run c.push.new.self.items c.in_ok-push.ensures.items))
