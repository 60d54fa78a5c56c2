use Rattle.std.proofs.Common.{sym, ◌∙◌}
use Rattle.txs_history_run.proofs.actor.ask_whole.Goals as goal

pub ask_for-requires-clause-ready : goal.ask_for-requires-clause-ready
ask_for-requires-clause-ready g c = c.requires.ready c.in-Asks.ask (sym c.replace.ensures.value ∙ c.in-Asks.is)
