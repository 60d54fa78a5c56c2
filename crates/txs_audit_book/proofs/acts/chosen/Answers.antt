use Rattle.std.proofs.Common.{Ok, Err, sym, ap, ◌∙◌}
use Rattle.txs_value_data.specs.Places.{fault_at}
use Rattle.txs_value_data.specs.declared.fault.FaultKind.TheVariants.{InvalidState}
use Rattle.txs_tree_eval.specs.declared.pure_call.EvalStop.TheVariants.{Fault as StopFault}
use Rattle.txs_audit_book.proofs.Validators.{accepts, refuses}
use Rattle.txs_audit_book.proofs.acts.chosen.Goals as goal

pub returns-then-is_false : goal.returns-then-is_false
returns-then-is_false c =
    ap (λ f. Err (StopFault f)) c.refusal.ensures
    ∙ sym (refuses c.args.answer.now (Ok c.args.value) (Err (StopFault (fault_at InvalidState c.args.span))) (sym c.is_false.ensures ∙ c.if-is_false.true))

pub returns : goal.returns
returns c = sym (accepts c.args.answer.now (Ok c.args.value) (Err (StopFault (fault_at InvalidState c.args.span))) (sym c.is_false.ensures ∙ c.if-is_false.false))
