use Rattle.std.proofs.Common.{◌≡◌, ◌∙◌, None, ap, subst, sym, refl}
use Rattle.txs_machine_transaction.specs.Transaction.{IsSwapping}
use Rattle.txs_machine_transaction.specs.declared.state.Transaction.TheVariants.{Running}
use Rattle.txs_machine_actor.specs.PlainActor.{PlainActor, end_again}
use Rattle.txs_machine_actor.specs.Turns.{HasJudged}
use Rattle.txs_machine_actor.proofs.Trying.{end_next, end_last}
use Rattle.txs_machine_actor.proofs.actor.Actor.end_again.Goals as goal

pub returns-then-opens_again : goal.returns-then-opens_again
returns-then-opens_again c = c.opens_again.ensures.open c.if-opens_again.true

pub next_try-requires : goal.next_try-requires
next_try-requires c = subst (λ (a : PlainActor). HasJudged a.role) (sym (c.opens_again.ensures.left c.if-opens_again.false)) c.requires

pub returns-in_default : goal.returns-in_default
returns-in_default c =
    let s = c.opens_again.new.self in
    subst (λ (a : PlainActor). c.next_try.new.self ≡ end_again a a.tx) (c.opens_again.ensures.left c.if-opens_again.false)
    (end_last s c.next_try.new.self s.tx (λ h. c.opens_again.ensures.no c.if-opens_again.false (subst (λ (a : PlainActor). IsSwapping a.tx) (c.opens_again.ensures.left c.if-opens_again.false) h)) (c.in_default.ensures.none refl))

pub returns : goal.returns
returns c =
    let s = c.opens_again.new.self in
    let o = c.in-Some.from in
    let n = c.in-Some.left in
    c.ends_anew.ensures
    ∙ ap (λ (a : PlainActor). record a { tx = Running n 0 o }) c.in-Some.ensures.taken
    ∙ subst (λ (a : PlainActor). record s { tx = Running n 0 o; pending = None } ≡ end_again a a.tx) (c.opens_again.ensures.left c.if-opens_again.false) (end_next s s.tx n o c.in-Some.ensures.some)
