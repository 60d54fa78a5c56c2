use Rattle.std.proofs.Common.{◌<◌, ◌^◌, sym, subst, arith}
use Rattle.txs_machine_actor.specs.PlainActor.{PlainActor}
use Rattle.txs_machine_actor.proofs.actor.Actor.count.Goals as goal

pub overflow_add-self : goal.overflow_add-self
overflow_add-self c =
    let x = c.self.inside in
    let lt : x.steps < x.limit = subst (λ (a : PlainActor). a.steps < a.limit) (sym c.self.view_is) c.requires.0 in
    let small : x.limit < 2 ^ 64 = subst (λ (a : PlainActor). a.limit < 2 ^ 64) (sym c.self.view_is) c.requires.1 in
    omega (arith, lt, small)
