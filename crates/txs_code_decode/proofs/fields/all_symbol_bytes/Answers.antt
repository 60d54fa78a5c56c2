use Rattle.txs_code_decode.proofs.TextLemmas.{symbols_of_name}
use Rattle.txs_code_decode.proofs.fields.all_symbol_bytes.Goals as goal

pub returns : goal.returns
returns c = symbols_of_name c.is_name.result c.args.bytes.now c.is_name.ensures c.requires.some c.requires.few
