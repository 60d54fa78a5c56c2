use Rattle.std.proofs.Common.{sym, ap, ◌∙◌}
use Rattle.txs_reader.specs.Tree.{tree}
use Rattle.txs_resolve_expand.specs.Expressions.{is_symbol}
use Rattle.txs_resolve_expand.proofs.Namespaces.{not_one_name, one_name}
use Rattle.txs_resolve_expand.proofs.namespace.is_name.Goals as goal

pub returns-then-parts-ne1 : goal.returns-then-parts-ne1
returns-then-parts-ne1 c = sym (not_one_name c.args.parts.now c.if-parts-ne1.true)

pub returns : goal.returns
returns c = c.is_symbol.ensures ∙ ap (λ f. is_symbol (tree f)) c.index-parts-0.is ∙ sym (one_name c.args.parts.now c.index-parts-0.result c.if-parts-ne1.false)
