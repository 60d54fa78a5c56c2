use Rattle.std.proofs.Common.{◌∷◌, ◌++◌, [], get_or, refl, subst, sym, take}
use Rattle.std.proofs.lemmas.List.{take_more}
use Rattle.txs_audit_order.specs.Going.{stands_in}
use Rattle.txs_audit_order.specs.Waiting.{IsWait}
use Rattle.txs_audit_order.specs.declared.links.Before.{Before}
use Rattle.txs_audit_order.proofs.Nearing.{near_more}
use Rattle.txs_audit_order.proofs.left.wait_of.Goals as goal

pub loop-link-preserved : goal.loop-link-preserved
loop-link-preserved c =
    let row = c.args.row.now in
    let cut = c.args.cut.now in
    let k = c.args.at in
    let i = c.loop-link.link-index in
    let no : Before = record { at = 0; book = 0; earlier = 0 } in
    let x : Before = get_or row i no in
    subst (λ l. IsWait l cut k c.nearer-wait.result) (sym (take_more row i no c.loop-link-test.true))
    (subst (λ o. IsWait (take i row ++ x ∷ []) cut k o) (sym c.nearer-wait.ensures) (near_more (take i row) cut k x c.loop-link.wait c.loop-link.invariant (stands_in cut k x) refl))
