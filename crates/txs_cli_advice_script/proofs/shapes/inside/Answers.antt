use Rattle.txs_cli_advice_script.specs.Language.{form_shape}
use Rattle.txs_cli_advice_script.proofs.Tables.{said_in-seen}
use Rattle.txs_cli_advice_script.proofs.shapes.inside.Goals as goal

pub returns : goal.returns
unfolding form_shape
returns c = said_in-seen (λ said. said.now) _ _ _ _ c.in_rows.ensures
