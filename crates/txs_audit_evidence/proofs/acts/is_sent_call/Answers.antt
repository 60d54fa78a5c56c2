use Rattle.std.proofs.Common.{subst, sym}
use Rattle.txs_tree_meaning.specs.Known.{known}
use Rattle.txs_tree_meaning.specs.Sound.{SentCallee}
use Rattle.txs_tree_meaning.specs.View.{Parts, functions_of}
use Rattle.txs_audit_evidence.proofs.ActionFound.{function_sent}
use Rattle.txs_audit_evidence.proofs.acts.is_sent_call.Goals as goal

pub returns-in-Function : goal.returns-in-Function
returns-in-Function c =
    let n = c.args.count in
    let f = c.args.callee in
    function_sent (known (functions_of c.args.books.now.program.functions)) f n c.in-Function.field-0 (sym c.in-Function.is) c.may_be_sent-sent.result
    (λ e. subst (λ (q : Parts). SentCallee (known (functions_of q.functions)) f n) c.functions.ensures (c.may_be_sent-sent.ensures.0 e))
    (λ s. c.may_be_sent-sent.ensures.1 (subst (λ (q : Parts). SentCallee (known (functions_of q.functions)) f n) (sym c.functions.ensures) s))
