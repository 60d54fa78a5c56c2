use Rattle.txs_code_decode.specs.CellForm.{kinds_of}
use Rattle.txs_code_decode.proofs.CellLemmas.{constant_reads}
use Rattle.txs_code_decode.proofs.cells.constant_at.Goals as goal

pub returns : goal.returns
returns c = constant_reads c.args.cells (kinds_of c.args.defined.now) c.args.bytes.now c.value_at.result (λ b. b.now) c.value_at.ensures
