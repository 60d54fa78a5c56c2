use Rattle.std.proofs.Common.{rules}
use Rattle.txs_reader.proofs.line_bytes.begins_character.Goals as goal

pub returns : goal.returns
returns c = search rules
