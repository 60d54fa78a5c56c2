use Rattle.std.proofs.Common.{◌≡◌, ◌≤◌, ◌∙◌, length, sym, ap, arith}
use Rattle.std.proofs.lemmas.Grind.{common_steps}
use Rattle.std.proofs.lemmas.List.{length-set}
use Rattle.txs_resolve_expand.proofs.Scopes.{held}
use Rattle.txs_resolve_expand.proofs.scope.Scope.push.Goals as goal

pub bounds-self-inside-self-inside : goal.bounds-self-inside-self-inside
bounds-self-inside-self-inside c =
    let le : c.self.inside.count ≤ length c.self.inside.locals = omega (arith, c.self.invariant.0, c.self.invariant.1) in
    let is : length c.args.self.now.locals ≡ c.self.inside.count = ap (λ s. length s.locals) (sym c.self.view_is) ∙ held (λ n. n.now) c.self.inside.count c.self.inside.locals le in
    omega (arith, c.requires, is, c.self.invariant.1)

pub invariant_of-self : goal.invariant_of-self
invariant_of-self c =
    let le : c.self.inside.count ≤ length c.self.inside.locals = omega (arith, c.self.invariant.0, c.self.invariant.1) in
    let is : length c.args.self.now.locals ≡ c.self.inside.count = ap (λ s. length s.locals) (sym c.self.view_is) ∙ held (λ n. n.now) c.self.inside.count c.self.inside.locals le in
    (omega (arith, c.requires, is), length-set c.self.inside.locals c.self.inside.count c.args.name ∙ c.self.invariant.1)

pub returns : goal.returns
returns c = grind (arith, common_steps)
