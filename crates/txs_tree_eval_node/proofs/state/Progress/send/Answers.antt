use Rattle.std.proofs.Common.{false, ◌++◌, ◌∷◌, [], List, Err, refl, sym, ap, ◌∙◌, subst}
use Rattle.std.proofs.lemmas.Result.{err_from_is_err_and}
use Rattle.txs_tree_eval_node.specs.Evaluated.{after, thread_state}
use Rattle.txs_tree_eval_node.specs.Events.{seen_event}
use Rattle.txs_tree_eval_transaction.specs.Worked.{Gives}
use Rattle.txs_tree_eval_transaction.specs.declared.stop.ThreadStop.TheVariants.{Memory}
use Rattle.txs_tree_meaning.specs.Right.{up_to}
use Rattle.txs_tree_meaning.specs.Thread.{sends, sends_or_holds}
use Rattle.txs_value_cell.specs.declared.action.Action.{Action}
use Rattle.txs_value_data.specs.declared.value.Value.{Value}
use Rattle.txs_tree_eval_node.proofs.Evaluation.{stops_gives}
use Rattle.txs_tree_eval_node.proofs.Forms.{comes_none, gives_at, send_eaten, send_held}
use Rattle.txs_tree_eval_node.proofs.Leaf.{event_left}
use Rattle.txs_tree_eval_node.proofs.state.Progress.send.Goals as goal

pub returns-in_err-push-in-Some : goal.returns-in_err-push-in-Some
returns-in_err-push-in-Some c =
    let p = err_from_is_err_and c.from_residual-in_err-push-in-Some.result c.from_residual-in_err-push-in-Some.ensures.1 in
    stops_gives (λ v. v) false c.from_residual-in_err-push-in-Some.result Memory _ _ (p.1 ∙ ap Err p.2) tt

pub returns-in_ok-push-in-Some : goal.returns-in_ok-push-in-Some
returns-in_ok-push-in-Some c =
    let a : List Value → Action = λ l. record { agent = c.args.agent; callee = c.args.callee; args = l; span = c.args.span } in
    send_held c.args.self.now c.in-Some.held c.push.new.self (a c.args.args.items) c.args.span c.in-Some.is (c.in_ok-push-in-Some.ensures.items ∙ ap (λ l. c.in-Some.held.items ++ a l ∷ []) c.in_ok-args-in-Some.ensures)

pub returns-in_err-event-in-None : goal.returns-in_err-event-in-None
returns-in_err-event-in-None c =
    let p = c.args.self.now in
    let a : Action = record { agent = c.args.agent; callee = c.args.callee; args = c.args.args.items; span = c.args.span } in
    let y = c.in_err-event-in-None.field-0.0 in
    let q = err_from_is_err_and c.from_residual-in_err-event-in-None.result c.from_residual-in_err-event-in-None.ensures.1 in
    send_eaten p a c.args.span c.from_residual-in_err-event-in-None.result (thread_state c.next.new.self) c.in-None.is
    (stops_gives (λ v. v) false c.from_residual-in_err-event-in-None.result y _ _ (q.1 ∙ ap Err q.2) (comes_none 0 (λ e s. sends a c.args.span e.kind s) y (thread_state p) (thread_state c.next.new.self) c.in_err-event-in-None.ensures.comes))

pub eat-requires : goal.eat-requires
eat-requires c =
    let h = c.in_ok-event-in-None.ensures.comes in
    event_left c.next.new.self (seen_event c.in_ok-event-in-None.event.now) h.0 (ap (λ s. s.todo) c.in_ok-event-in-None.ensures.same ∙ h.1)

pub returns-in_ok-event-in-None : goal.returns-in_ok-event-in-None
returns-in_ok-event-in-None c =
    let p = c.args.self.now in
    let a : Action = record { agent = c.args.agent; callee = c.args.callee; args = c.args.args.items; span = c.args.span } in
    let e = c.in_ok-event-in-None.event.now in
    let h = c.in_ok-event-in-None.ensures.comes in
    let same = c.in_ok-event-in-None.ensures.same in
    let before = thread_state p in
    let later = thread_state c.eat.new.self in
    let eaten = gives_at 0 0 refl (λ b s. sends a c.args.span b.kind s) e before later h c.send_at.result (c.eat.ensures.eaten (seen_event e) h.0 (ap (λ s. s.todo) same ∙ h.1) ∙ ap (λ s. after c.send_at.result h.0 s) same) (c.send_at.ensures _) in
    subst (λ r. Gives false r later (up_to before (sends_or_holds before.held a c.args.span before))) (sym c.eat.ensures.same) (send_eaten p a c.args.span c.send_at.result later c.in-None.is eaten)
