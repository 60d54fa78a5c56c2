use Rattle.std.proofs.Common.{ap, ◌∙◌, map, None}
use Rattle.std.specs.Option.{option_copied}
use Rattle.txs_cli_advice_script.specs.Shown.{text_of}
use Rattle.txs_cli_advice_script.specs.Rows.{said_in}
use Rattle.txs_cli_advice_script.proofs.Tables.{said_in-rows}
use Rattle.txs_cli_advice_script.proofs.signs.of_front.Goals as goal

pub returns : goal.returns
returns c =
    said_in-rows option_copied (λ row. (row.0.now, row.1)) c.args.rows.now _ _ _ c.in_rows.ensures
    ∙ ap (λ word. said_in (map (λ row. (row.0.now, option_copied row.1)) c.args.rows.now) word None) (c.text_of.ensures ∙ ap text_of c.front_of.ensures)
