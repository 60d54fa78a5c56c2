use Rattle.txs_reader.proofs.Signs.{Last-piece}
use Rattle.txs_reader.proofs.sign.last_sign.Goals as goal

pub returns : goal.returns
returns c = Last-piece c.args.bytes.now (record { char = c.decode_last.result.0; size = c.decode_last.result.1 }) (c.decode_last.ensures.last c.requires)
