use Rattle.std.proofs.Common.{length, drop}
use Rattle.txs_reader.specs.Place.{line_before}
use Rattle.txs_reader.specs.Pointed.{line_shown, front, back}
use Rattle.txs_reader.proofs.Held.{held-few, held-whole, held-begins}
use Rattle.txs_reader.proofs.law.window_holds.Goals as goal

pub returns-clause-few : goal.returns-clause-few
returns-clause-few c text k = held-few (front text k) (back text k)

pub returns-clause-whole : goal.returns-clause-whole
returns-clause-whole c text k = held-whole (front text k) (back text k)

pub returns-clause-begins : goal.returns-clause-begins
returns-clause-begins c text k = held-begins (front text k) (drop (length (line_before text k)) (line_shown text k))
