use Rattle.txs_reader.proofs.Plain.{pointed-plain}
use Rattle.txs_reader.proofs.law.plain_lines_stay.Goals as goal

pub returns : goal.returns
returns c = pointed-plain
