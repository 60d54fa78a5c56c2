use Rattle.txs_code_decode.proofs.Decoded.{behind_magic}
use Rattle.txs_code_decode.proofs.decoding.code_at.Goals as goal

pub returns-in_err-cells-clause-magic : goal.returns-in_err-cells-clause-magic
returns-in_err-cells-clause-magic c = behind_magic _ c.args.bytes.now c.in_ok-validated.ensures.magic

pub returns-in-Ok-clause-magic : goal.returns-in-Ok-clause-magic
returns-in-Ok-clause-magic c = λ m. c.in_ok-validated.ensures.magic

pub returns-clause-magic : goal.returns-clause-magic
returns-clause-magic c = λ m. c.in_ok-validated.ensures.magic
