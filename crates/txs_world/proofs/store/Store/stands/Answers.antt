use Rattle.std.proofs.Common.{rules}
use Rattle.txs_world.proofs.Standing.{store_stands}
use Rattle.txs_world.proofs.store.Store.stands.Goals as goal

pub returns : goal.returns
returns c =
    let x = c.self.inside in
    store_stands c.args.self.now x.cells x.threads x.slots.items x.inboxes.items x.journal.views.items x.journal.tries.items x.journal.book.items c.self.view_is c.self.invariant (search rules)
