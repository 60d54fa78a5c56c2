use Rattle.std.proofs.Common.{◌-◌, drop, length, map, reverse, take, ap, ◌∙◌, arith}
use Rattle.txs_resolve_expand.specs.Scope.{Scope, with_locals}
use Rattle.txs_resolve_expand.specs.Viewed.{entries_of, name_of}
use Rattle.txs_resolve_expand.proofs.Scopes.{outermost}
use Rattle.txs_resolve_expand.proofs.scope.Scope.truncate.Goals as goal

pub returns : goal.returns
returns c =
    let s = c.self.inside in
    let whole : Scope = record { locals = reverse (map (λ n. n.now) (take s.count s.locals)); defined = entries_of s.defined.entries; current = name_of s.current } in
    ap (λ k. with_locals (reverse (map (λ n. n.now) (take k s.locals))) whole) c.min-self-inside.ensures
    ∙ ap (λ l. with_locals l whole) (outermost (λ n. n.now) s.count c.args.len s.locals (omega (arith, c.self.invariant.0, c.self.invariant.1)))
    ∙ ap (λ (x : Scope). with_locals (drop (length x.locals - c.args.len) x.locals) x) c.self.view_is
