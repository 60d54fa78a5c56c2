use Rattle.std.proofs.Common.{sym, ap, ◌∙◌}
use Rattle.txs_reader.proofs.Trees.{tree-Symbol}
use Rattle.txs_reader.specs.Tree.{tree}
use Rattle.txs_resolve_expand.specs.Expressions.{is_symbol}
use Rattle.txs_resolve_expand.proofs.shapes.is_symbol.Goals as goal

pub returns-in-Symbol : goal.returns-in-Symbol
returns-in-Symbol c = sym (ap is_symbol (ap tree c.in-Symbol.is ∙ tree-Symbol c.in-Symbol.field-0 c.in-Symbol.field-1))
