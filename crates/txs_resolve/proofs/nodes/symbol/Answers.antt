use Rattle.std.proofs.Common.{Err, sym, ap, ◌∙◌}
use Rattle.txs_resolve_expand.specs.Viewed.{meant}
use Rattle.txs_resolve_expand.specs.declared.error.ResolveError.{ResolveError}
use Rattle.txs_resolve_expand.specs.Expressions.{symbol_node}
use Rattle.txs_resolve.specs.Made.{with_room}
use Rattle.txs_resolve.proofs.nodes.symbol.Goals as goal

pub returns-in-Local-clause-value : goal.returns-in-Local-clause-value
returns-in-Local-clause-value c = ap (λ z. symbol_node z (with_room c.args.spot)) (ap meant (sym c.in-Local.is) ∙ c.lookup.ensures)

pub returns-in-Unknown-clause-value : goal.returns-in-Unknown-clause-value
returns-in-Unknown-clause-value c =
    ap (λ (e : ResolveError). Err e) c.refusal.ensures ∙ ap (λ z. symbol_node z (with_room c.args.spot)) (ap meant (sym c.in-Unknown.is) ∙ c.lookup.ensures)
