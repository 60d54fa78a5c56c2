use Rattle.std.proofs.Common.{◌∙◌, ◌∷◌, ap, length, subst, suc, sym}
use Rattle.txs_tree_eval.specs.ActionTold.{TellsAction}
use Rattle.txs_tree_eval_node.specs.Events.{seen_events}
use Rattle.txs_tree_meaning.specs.Known.{known}
use Rattle.txs_tree_meaning.specs.Sound.{SentCallee}
use Rattle.txs_tree_meaning.specs.View.{Parts, functions_of, program_of}
use Rattle.txs_audit_evidence.proofs.ActionFound.{callee_of}
use Rattle.txs_audit_evidence.proofs.ThreadFound.{so}
use Rattle.txs_audit_evidence.proofs.acts.answered.Goals as goal

pub eval_action-requires : goal.eval_action-requires
eval_action-requires c =
    let b = c.args.books.now in
    let x = c.args.action.now in
    let values = c.as_slice-2.ensures.value ∙ c.in_ok-values.ensures ∙ ap (λ l. c.args.state.now ∷ l) c.as_slice.ensures in
    subst (λ vs. SentCallee (known (functions_of c.program.result.now.functions)) x.callee (length vs)) (sym values)
    (subst (λ (q : Parts). SentCallee (known (functions_of q.functions)) x.callee (suc (length x.args))) (sym c.program.ensures) (callee_of (known (functions_of b.program.functions)) x.callee (suc (length x.args)) c.requires))

pub returns : goal.returns
returns c =
    let b = c.args.books.now in
    let x = c.args.action.now in
    let values = c.as_slice-2.ensures.value ∙ c.in_ok-values.ensures ∙ ap (λ l. c.args.state.now ∷ l) c.as_slice.ensures in
    so c.eval_action.result c.eval_action.ensures
    (λ m tells. subst (λ vs. TellsAction m (program_of b.program) x.callee x.span vs c.args.turns (seen_events c.args.seen.now)) values
    (subst (λ (q : Parts). TellsAction m (program_of q) x.callee x.span c.as_slice-2.result.now c.args.turns (seen_events c.args.seen.now)) c.program.ensures tells))
