use Rattle.txs_tree_meaning.proofs.Trees.{do_node, let_node, loop_node, recur_node, core_node, call_node, vector_node, println_node, update_node, send_node}
use Rattle.txs_tree_meaning.proofs.parts.view.Goals as goal

pub returns-in-Do : goal.returns-in-Do
returns-in-Do c = do_node c.args.node.now c.in-Do.items c.deref-in-Do.result.now c.in-Do.is c.deref-in-Do.ensures.value

pub returns-in-Recur : goal.returns-in-Recur
returns-in-Recur c = recur_node c.args.node.now c.in-Recur.values c.deref-in-Recur.result.now c.in-Recur.is c.deref-in-Recur.ensures.value

pub returns-in-Core : goal.returns-in-Core
returns-in-Core c = core_node c.args.node.now c.in-Core.op c.in-Core.args c.deref-in-Core.result.now c.in-Core.is c.deref-in-Core.ensures.value

pub returns-in-Call : goal.returns-in-Call
returns-in-Call c = call_node c.args.node.now c.in-Call.number c.in-Call.args c.deref-in-Call.result.now c.in-Call.is c.deref-in-Call.ensures.value

pub returns-in-Vector : goal.returns-in-Vector
returns-in-Vector c = vector_node c.args.node.now c.in-Vector.items c.deref-in-Vector.result.now c.in-Vector.is c.deref-in-Vector.ensures.value

pub returns-in-Println : goal.returns-in-Println
returns-in-Println c = println_node c.args.node.now c.in-Println.args c.deref-in-Println.result.now c.in-Println.is c.deref-in-Println.ensures.value

pub returns-in-Let : goal.returns-in-Let
returns-in-Let c = let_node c.args.node.now c.in-Let.values c.in-Let.body c.deref-in-Let.result.now c.deref-in-Let-2.result.now c.in-Let.is c.deref-in-Let.ensures.value c.deref-in-Let-2.ensures

pub returns-in-Loop : goal.returns-in-Loop
returns-in-Loop c = loop_node c.args.node.now c.in-Loop.values c.in-Loop.body c.deref-in-Loop.result.now c.deref-in-Loop-2.result.now c.in-Loop.is c.deref-in-Loop.ensures.value c.deref-in-Loop-2.ensures

pub returns-in-Update : goal.returns-in-Update
returns-in-Update c =
    update_node c.args.node.now c.in-Update.form c.in-Update.cell c.in-Update.callee c.in-Update.args c.deref-in-Update.result.now c.deref-in-Update-2.result.now c.in-Update.is c.deref-in-Update.ensures c.deref-in-Update-2.ensures.value

pub returns-in-Send : goal.returns-in-Send
returns-in-Send c =
    send_node c.args.node.now c.in-Send.cell c.in-Send.callee c.in-Send.args c.deref-in-Send.result.now c.deref-in-Send-2.result.now c.in-Send.is c.deref-in-Send.ensures c.deref-in-Send-2.ensures.value
