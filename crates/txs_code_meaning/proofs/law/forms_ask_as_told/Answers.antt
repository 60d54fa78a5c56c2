use Rattle.txs_code_meaning.proofs.FormAsks as asking
use Rattle.txs_code_meaning.proofs.law.forms_ask_as_told.Goals as goal

pub returns : goal.returns
returns c = asking.forms_ask_as_told
