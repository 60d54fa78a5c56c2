use Rattle.txs_cli_advice_script.proofs.Tables.{said_in-seen}
use Rattle.txs_cli_advice_script.proofs.shapes.shape_at_top.Goals as goal

pub returns : goal.returns
returns c = said_in-seen (λ said. said.now) _ _ _ _ c.in_rows.ensures
