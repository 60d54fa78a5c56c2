use Rattle.std.proofs.Common.{Err, true, refl, sym, ap, ◌∙◌, subst, Vec, Global}
use Rattle.txs_frame.specs.Frame.{sends_of_commit}
use Rattle.txs_tree_eval_node.specs.Evaluated.{Closes, closing, thread_state, tx_run}
use Rattle.txs_tree_meaning.specs.Thread.{holding, with_tx}
use Rattle.txs_value_data.specs.declared.value.CellId.{CellId}
use Rattle.txs_value_data.specs.declared.value.Value.{Value}
use Rattle.txs_tree_eval_node.proofs.Ending.{noted}
use Rattle.txs_tree_eval_node.proofs.closing.close.Goals as goal

pub returns-in-Refused-clause-value : goal.returns-in-Refused-clause-value
returns-in-Refused-clause-value c =
    let whole = sym c.in-Refused.is ∙ c.closes_as.ensures ∙ ap (λ l. closing (λ (ws : Vec (CellId × Value) Global). ws.items) c.args.kind.now c.args.last l) (c.commits-sends.ensures ∙ ap (sends_of_commit (thread_state c.args.thread.now).held) c.sends.ensures) in
    subst (λ q. Closes q c.args.span (tx_run c.args.run) c.refuse.result (thread_state c.args.thread.now) (thread_state c.refuse.new.self)) whole c.refuse.ensures.value

pub returns-in-Committed-clause-value : goal.returns-in-Committed-clause-value
returns-in-Committed-clause-value c =
    let before = thread_state c.args.thread.now in
    let run = tx_run c.args.run in
    let whole = sym c.in-Committed.is ∙ c.closes_as.ensures ∙ ap (λ l. closing (λ (ws : Vec (CellId × Value) Global). ws.items) c.args.kind.now c.args.last l) (c.commits-sends.ensures ∙ ap (sends_of_commit (thread_state c.args.thread.now).held) c.sends.ensures) in
    subst (λ q. Closes q c.args.span run c.note.result before (thread_state c.note.new.self)) whole (noted true refl run.result (holding run.state.done.sends (with_tx run before)) (thread_state c.note.new.self) c.note.result c.note.ensures.value)

pub returns-in-Stopped-clause-value : goal.returns-in-Stopped-clause-value
returns-in-Stopped-clause-value c =
    let before = thread_state c.args.thread.now in
    let whole = sym c.in-Stopped.is ∙ c.closes_as.ensures ∙ ap (λ l. closing (λ (ws : Vec (CellId × Value) Global). ws.items) c.args.kind.now c.args.last l) (c.commits-sends.ensures ∙ ap (sends_of_commit (thread_state c.args.thread.now).held) c.sends.ensures) in
    subst (λ q. Closes q c.args.span (tx_run c.args.run) (Err c.in-Stopped.stop) before before) whole (refl, refl)
