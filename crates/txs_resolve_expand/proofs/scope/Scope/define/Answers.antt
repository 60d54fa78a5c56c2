use Rattle.std.proofs.Common.{◌≡◌, ◌++◌, ◌∷◌, [], List, None, bytes_eq, map, reverse, take, ap, ◌∙◌}
use Rattle.std.specs.Map.{lookup}
use Rattle.indexmap.specs.IndexMap.{get}
use Rattle.indexmap.proofs.CallerLemmas.{insert_entry-new}
use Rattle.txs_resolve_expand.specs.Scope.{Scope, Entry, definition_of}
use Rattle.txs_resolve_expand.specs.Viewed.{entries_of, name_of}
use Rattle.txs_resolve_expand.proofs.Scopes.{entries_more, looked_up}
use Rattle.txs_resolve_expand.proofs.scope.Scope.define.Goals as goal

pub returns : goal.returns
returns c =
    let inside = c.self.inside in
    let name = c.args.name.now in
    let key = c.as_bytes.result in
    let entries = inside.defined.entries in
    let with : List Entry → Scope = λ es. record { locals = reverse (map (λ n. n.now) (take inside.count inside.locals)); defined = es; current = name_of inside.current } in
    let new : get (λ x y. bytes_eq x.now y.now) inside.defined key ≡ None =
    ap (λ n. lookup (λ k. bytes_eq n k.now) entries) c.as_bytes.ensures.value
    ∙ looked_up name entries
    ∙ ap (λ (s : Scope). definition_of name s.defined) c.self.view_is
    ∙ c.requires.new in
    ap (λ es. with (entries_of es)) (c.in_ok-insert.ensures.entries ∙ insert_entry-new (λ x y. bytes_eq x.now y.now) inside.defined key c.args.what new)
    ∙ ap with (entries_more entries key c.args.what)
    ∙ ap (λ n. with (entries_of entries ++ record { name = n; what = c.args.what } ∷ [])) c.as_bytes.ensures.value
    ∙ ap (λ (s : Scope). record { locals = s.locals; defined = s.defined ++ record { name = name; what = c.args.what } ∷ []; current = s.current }) c.self.view_is
