use Rattle.std.proofs.Common.{rules, ap, ◌∙◌}
use Rattle.txs_reader.proofs.Trees.{tree-Symbol}
use Rattle.txs_reader.specs.Tree.{tree}
use Rattle.txs_resolve_expand.specs.Expansions.{form_at}
use Rattle.txs_resolve_expand.proofs.parts.form_at.Goals as goal

pub returns-in-Symbol : goal.returns-in-Symbol
returns-in-Symbol c =
    let named = ap form_at (ap tree c.in-Symbol.is ∙ tree-Symbol c.in-Symbol.name c.in-Symbol.field-1) in
    search (rules, named)
