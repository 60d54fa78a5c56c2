use Rattle.txs_cli_advice_script.specs.Language.{count_shown}
use Rattle.txs_cli_advice_script.proofs.Tables.{said_in-seen}
use Rattle.txs_cli_advice_script.proofs.shapes.takes.Goals as goal

pub returns : goal.returns
unfolding count_shown
returns c = record {
  count = said_in-seen (λ said. said.0) _ _ _ _ c.in_rows.ensures;
  shown = said_in-seen (λ said. said.1.now) _ _ _ _ c.in_rows.ensures;
  more = said_in-seen (λ said. said.2.now) _ _ _ _ c.in_rows.ensures;
}
