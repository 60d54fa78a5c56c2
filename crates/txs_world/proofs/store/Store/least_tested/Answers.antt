use Rattle.std.proofs.Common.{◌∙◌, ap, sym}
use Rattle.txs_world_book.specs.Book.{cells_in, least, least_written}
use Rattle.txs_world.proofs.Merging.{least_joined}
use Rattle.txs_world.proofs.store.Store.least_tested.Goals as goal

pub returns : goal.returns
returns c =
    let book = c.args.self.now.book in
    let at = c.args.at in
    let cs = cells_in c.args.sets.now in
    let ds = c.args.ensured.now in
    c.least.ensures ∙ ap (λ o. least o c.least_ensured.result) c.least_written-set.ensures ∙ ap (least (least_written book at cs)) c.least_ensured.ensures ∙ sym (least_joined book at cs ds)
