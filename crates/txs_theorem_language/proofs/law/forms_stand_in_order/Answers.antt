use Rattle.txs_theorem_language.proofs.Reading.{forms_nest}
use Rattle.txs_theorem_language.proofs.law.forms_stand_in_order.Goals as goal

pub returns : goal.returns
returns c = forms_nest
