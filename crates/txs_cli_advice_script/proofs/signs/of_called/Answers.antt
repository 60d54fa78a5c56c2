use Rattle.std.proofs.Common.{ap, ◌∙◌, map}
use Rattle.std.specs.Option.{option_copied}
use Rattle.txs_cli_advice_script.specs.declared.signs.TheConstants.{CALLED}
use Rattle.txs_cli_advice_script.specs.Rows.{said_of}
use Rattle.txs_cli_advice_script.specs.Shown.{front_of}
use Rattle.txs_cli_advice_script.proofs.Tables.{said_in-seen}
use Rattle.txs_cli_advice_script.proofs.Texts.{option_copied-either}
use Rattle.txs_cli_advice_script.proofs.signs.of_called.Goals as goal

pub returns : goal.returns
returns c =
    option_copied-either _ _ _ _ _ c.or.ensures
    (c.of_bytes.ensures ∙ ap (λ bytes. said_of (map (λ row. (row.0.now, row.1.now)) CALLED) bytes) (c.front_of.ensures ∙ ap (λ bytes. front_of 1 bytes) c.as_bytes.ensures.value))
    (said_in-seen option_copied _ _ _ _ c.in_rows.ensures)
