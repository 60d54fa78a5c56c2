use Rattle.txs_history_run.proofs.Sent.{hands_sent}
use Rattle.txs_history_run.proofs.actor.take.Goals as goal

pub answer-requires-clause-hands_out : goal.answer-requires-clause-hands_out
answer-requires-clause-hands_out c = hands_sent c.args.code.now c.args.served.reply (c.hands_out.ensures.0 c.if-not-hands_out.false)
