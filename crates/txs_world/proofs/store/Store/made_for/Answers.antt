use Rattle.std.proofs.Common.{◌∙◌, ap, arith, refl, sym}
use Rattle.std.proofs.lemmas.List.{take_all}
use Rattle.txs_world_book.specs.Served.{cells_of}
use Rattle.txs_world.proofs.store.Store.made_for.Goals as goal

pub loop-i-init : goal.loop-i-init
loop-i-init c = refl

pub returns : goal.returns
returns c =
    let own = c.cells-own.result.now in
    let i = c.loop-i.i in
    (λ _. sym c.cells-own.ensures ∙ sym (take_all i own (omega arith)) ∙ c.loop-i.invariant ∙ ap cells_of (take_all i c.args.cells.now (omega arith)), λ _. refl)
