use Rattle.std.proofs.Common.{◌≡◌, refl, ap, ◌∙◌}
use Rattle.std.proofs.lemmas.Result.{err_from_is_err_and}
use Rattle.txs_tree_eval_transaction.specs.declared.stop.ThreadStop.TheVariants.{Memory}
use Rattle.txs_tree_eval_node.specs.Evaluated.{thread_state, tx_run}
use Rattle.txs_tree_meaning.specs.Thread.{holding, with_tx}
use Rattle.txs_tree_eval_node.proofs.Ending.{noted_more, unmatched}
use Rattle.txs_tree_eval_node.proofs.state.Progress.note.Goals as goal

pub returns-in_default-clause-value : goal.returns-in_default-clause-value
returns-in_default-clause-value c = refl

pub returns-in_default-hold-clause-value : goal.returns-in_default-hold-clause-value
returns-in_default-hold-clause-value c = refl

pub returns-in_err-push-clause-value : goal.returns-in_err-push-clause-value
returns-in_err-push-clause-value c =
    let p = err_from_is_err_and c.from_residual.result c.from_residual.ensures.1 in
    unmatched _ (λ y. y ≡ Memory) c.from_residual.result p.0 p.1 p.2

pub returns-clause-value : goal.returns-clause-value
returns-clause-value c =
    let run = c.args.run in
    let held = c.in-Ok-hold.ensures.held ∙ ap (λ l. holding l (thread_state c.args.self.now)) c.sends.ensures in
    (c.in-Ok.ensures, noted_more c.hold.new.self run c.push.new.self.items c.in_ok-push.ensures.items ∙ ap (with_tx (tx_run run)) held)
