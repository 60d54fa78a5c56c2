use Rattle.txs_cli_advice_script.proofs.Tables.{said_in-five, said_in-seen}
use Rattle.txs_cli_advice_script.proofs.clojure.instead_of.Goals as goal

pub returns : goal.returns
returns c =
    said_in-five _ _ _ _ _ _ _ _ _ _ _
    (said_in-seen (λ said. said.now) _ _ _ _ c.in_rows-4.ensures)
    (said_in-seen (λ said. said.now) _ _ _ _ c.in_rows-3.ensures)
    (said_in-seen (λ said. said.now) _ _ _ _ c.in_rows-2.ensures)
    (said_in-seen (λ said. said.now) _ _ _ _ c.in_rows-rest.ensures)
    (said_in-seen (λ said. said.now) _ _ _ _ c.in_rows.ensures)
