use Rattle.txs_code_decode.proofs.FormLemmas.{code_small}
use Rattle.txs_code_encode.proofs.encoding.encode.Goals as goal

pub written-requires : goal.written-requires
written-requires c = code_small c.args.code.now c.requires
