use Rattle.std.proofs.Common.{◌≡◌, ◌+◌, ◌<◌, ◌^◌, ◌∙◌, refl, ap, sym, subst}
use Rattle.txs_machine_actor.specs.Paces.{MayStep}
use Rattle.txs_machine_actor.specs.PlainActor.{PlainActor}
use Rattle.txs_machine_actor.specs.Turns.{Turns, CanAttend, AttendsSo}
use Rattle.txs_machine_actor.specs.declared.outcome.Turn.{Turn}
use Rattle.txs_machine_actor.proofs.Attending.{attends_turn, attends_over}
use Rattle.txs_machine_turn.proofs.attend.attend.Goals as goal

pub returns-in-Some-clause-turns : goal.returns-in-Some-clause-turns
returns-in-Some-clause-turns c =
    let a = c.args.actor.now in
    subst (λ (t : Turn). Turns c.args.code.now a t c.over.new.self) (sym c.tell.ensures) (attends_over c.args.code.now a a.outcome c.in-Some.outcome c.over.new.self refl c.requires.lives c.requires.attending c.requires.answered c.in-Some.ensures.over).0

pub returns-in-Some-clause-lives : goal.returns-in-Some-clause-lives
returns-in-Some-clause-lives c =
    let a = c.args.actor.now in
    (attends_over c.args.code.now a a.outcome c.in-Some.outcome c.over.new.self refl c.requires.lives c.requires.attending c.requires.answered c.in-Some.ensures.over).1

pub count-requires : goal.count-requires
count-requires c =
    let o = c.in_default.ensures.more refl in
    let m : MayStep c.args.actor.now = o.0 in
    subst (λ (x : PlainActor). (x.steps < x.limit) × (x.limit < 2 ^ 64)) (sym o.1) (m.1, m.2)

pub attend_at-requires-clause-can : goal.attend_at-requires-clause-can
attend_at-requires-clause-can c =
    let a = c.args.actor.now in
    let d = c.args.code.now in
    let o = c.in_default.ensures.more refl in
    let v = attends_turn d a c.requires.lives c.requires.attending c.requires.answered o.0 in
    let e : c.count.new.self ≡ record a { steps = a.steps + 1 } = c.count.ensures ∙ ap (λ (x : PlainActor). record x { steps = x.steps + 1 }) o.1 in
    subst (λ (y : PlainActor). CanAttend d y y.place) (sym e) v.can

pub returns-clause-turns : goal.returns-clause-turns
returns-clause-turns c =
    let a = c.args.actor.now in
    let d = c.args.code.now in
    let o = c.in_default.ensures.more refl in
    let v = attends_turn d a c.requires.lives c.requires.attending c.requires.answered o.0 in
    let e : c.count.new.self ≡ record a { steps = a.steps + 1 } = c.count.ensures ∙ ap (λ (x : PlainActor). record x { steps = x.steps + 1 }) o.1 in
    let t = c.attend_at.new.turn in
    let z = c.attend_at.new.actor in
    (v.so t z (subst (λ (y : PlainActor). AttendsSo d y y.place t z) e c.attend_at.ensures)).0

pub returns-clause-lives : goal.returns-clause-lives
returns-clause-lives c =
    let a = c.args.actor.now in
    let d = c.args.code.now in
    let o = c.in_default.ensures.more refl in
    let v = attends_turn d a c.requires.lives c.requires.attending c.requires.answered o.0 in
    let e : c.count.new.self ≡ record a { steps = a.steps + 1 } = c.count.ensures ∙ ap (λ (x : PlainActor). record x { steps = x.steps + 1 }) o.1 in
    let t = c.attend_at.new.turn in
    let z = c.attend_at.new.actor in
    (v.so t z (subst (λ (y : PlainActor). AttendsSo d y y.place t z) e c.attend_at.ensures)).1
