use Rattle.txs_world.proofs.Storing.{fault_read}
use Rattle.std.proofs.Common.{◌≡◌, arith, subst, sym, true}
use Rattle.txs_world_book.specs.Book.{has_agent}
use Rattle.txs_world.specs.Store.{PlainStore}
use Rattle.txs_world.proofs.Kept.{agent_in}
use Rattle.txs_world.proofs.Mailing.{many_inboxes}
use Rattle.txs_world.proofs.store.Store.failure.Goals as goal

pub returns : goal.returns
returns c =
    let x = c.self.inside in
    fault_read c.args.self.now x.cells x.threads x.slots.items x.inboxes.items x.journal.views.items x.journal.tries.items x.journal.book.items c.from.result c.index.result.now c.args.agent
    c.self.view_is c.self.invariant c.requires c.from.ensures c.index.ensures

pub index-requires : goal.index-requires
index-requires c =
    let x = c.self.inside in
    let in_cells = agent_in x.cells c.args.agent (subst (λ (s : PlainStore). has_agent s.cells c.args.agent ≡ true) (sym c.self.view_is) c.requires) in
    let many = many_inboxes x.cells x.threads x.slots.items x.inboxes.items x.journal.views.items x.journal.tries.items x.journal.book.items c.self.invariant in
    let is = c.from.ensures in
    let size = x.inboxes.ok.0 in
    omega (arith, in_cells, many, is, size)
