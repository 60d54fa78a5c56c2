use Rattle.std.proofs.Common.{rules}
use Rattle.txs_gen.proofs.emit.open_form.Goals as goal

pub returns-in-Commute : goal.returns-in-Commute
returns-in-Commute c = search rules
