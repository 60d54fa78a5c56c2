use Rattle.std.proofs.Common.{rules, ap, ◌∙◌}
use Rattle.txs_reader.proofs.Trees.{tree-Symbol}
use Rattle.txs_reader.specs.Tree.{tree}
use Rattle.txs_cli_advice_script.specs.Forms.{name_of}
use Rattle.txs_cli_advice_script.proofs.script.name_of.Goals as goal

pub returns-in-Symbol : goal.returns-in-Symbol
returns-in-Symbol c =
    let named = ap name_of (ap tree c.in-Symbol.is ∙ tree-Symbol c.in-Symbol.name c.in-Symbol.field-1) in
    search (rules, named)
