use Rattle.txs_reader.proofs.OneAnswer.{one_reading, one_stop, not_both}
use Rattle.txs_reader.proofs.Decided.{decided}
use Rattle.txs_reader.proofs.one_answer.Goals as goal

pub returns : goal.returns
returns c = record { decided = decided; one_reading = one_reading; one_stop = one_stop; not_both = not_both }
