use Rattle.txs_reader.proofs.Safety.{pointed-safe}
use Rattle.txs_reader.proofs.law.lines_are_safe.Goals as goal

pub returns : goal.returns
returns c = pointed-safe
