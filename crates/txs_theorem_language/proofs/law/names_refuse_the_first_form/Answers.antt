use Rattle.txs_theorem_language.proofs.FirstForm.{stops_at}
use Rattle.txs_theorem_language.proofs.law.names_refuse_the_first_form.Goals as goal

pub returns : goal.returns
returns c = stops_at
