use Rattle.txs_code_meaning.proofs.Once as once
use Rattle.txs_code_meaning.proofs.law.turn_asks_once.Goals as goal

pub returns : goal.returns
returns c = once.turn_asks_once
