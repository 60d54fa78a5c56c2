use Rattle.std.proofs.Common.{length, subst}
use Rattle.txs_tree_eval_node.specs.Setting.{callable}
use Rattle.txs_tree_meaning.specs.Sound.{SentCallee}
use Rattle.txs_tree_eval_node.proofs.Forms.{sent_call, outside_core, outside_call}
use Rattle.txs_tree_eval_node.proofs.evaluate.apply_outside.Goals as goal

pub call-requires : goal.call-requires
call-requires c =
    let x = c.args.context.now in
    sent_call x c.in-Function.number (length c.args.values.items) c.requires.world (subst (λ k. SentCallee (callable x) k (length c.args.values.items)) c.in-Function.is c.requires.callee)

pub returns-in-Core : goal.returns-in-Core
returns-in-Core c = outside_core c.args.context.now c.args.callee c.args.span c.args.values.items c.args.state.now c.in-Core.op c.operate.result c.in-Core.is c.operate.ensures

pub returns-in-Function : goal.returns-in-Function
returns-in-Function c = outside_call c.args.context.now c.args.callee c.args.span c.args.values.items c.args.state.now c.in-Function.number c.call.result c.call.new.state c.in-Function.is c.call.ensures
