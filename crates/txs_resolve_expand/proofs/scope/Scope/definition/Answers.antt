use Rattle.std.proofs.Common.{ap, ◌∙◌, bytes_eq}
use Rattle.std.specs.Map.{lookup}
use Rattle.txs_resolve_expand.specs.Scope.{Scope, definition_of}
use Rattle.txs_resolve_expand.proofs.Scopes.{looked_up, lent_copied}
use Rattle.txs_resolve_expand.proofs.scope.Scope.definition.Goals as goal

pub returns : goal.returns
returns c =
    let name = c.args.name.now in
    let entries = c.self.inside.defined.entries in
    lent_copied c.get.result
    ∙ c.get.ensures.value
    ∙ ap (λ n. lookup (λ k. bytes_eq n k.now) entries) c.as_bytes.ensures.value
    ∙ looked_up name entries
    ∙ ap (λ (s : Scope). definition_of name s.defined) c.self.view_is
