use Rattle.std.proofs.Common.{arith, ◌≡◌, subst, sym, true}
use Rattle.txs_world.proofs.Storing.{acts_read, next_fits, taken_stands}
use Rattle.txs_world_book.specs.Book.{has_agent}
use Rattle.txs_world.specs.Store.{PlainStore}
use Rattle.txs_world.proofs.Kept.{agent_in}
use Rattle.txs_world.proofs.Mailing.{many_inboxes}
use Rattle.txs_world.proofs.store.Store.number_taken.Goals as goal

pub overflow_add-result : goal.overflow_add-result
overflow_add-result c =
    let x = c.self.inside in
    next_fits c.args.self.now x.cells x.threads x.slots.items x.inboxes.items x.journal.views.items x.journal.tries.items x.journal.book.items c.from.result c.index-inbox.result.now c.args.agent
    c.self.view_is c.self.invariant c.requires.agent c.from.ensures c.index-inbox.ensures

pub returns-clause-number : goal.returns-clause-number
returns-clause-number c =
    let x = c.self.inside in
    let acts = acts_read c.args.self.now x.cells x.threads x.slots.items x.inboxes.items x.journal.views.items x.journal.tries.items x.journal.book.items c.from.result c.index-inbox.result.now c.args.agent
    c.self.view_is c.self.invariant c.requires.agent c.from.ensures c.index-inbox.ensures in
    omega (arith, acts)

pub returns-clause-runs : goal.returns-clause-runs
returns-clause-runs c =
    let x = c.self.inside in
    (taken_stands c.args.self.now x.cells x.threads x.slots.items x.inboxes.items x.journal.views.items x.journal.tries.items x.journal.book.items c.from.result c.index-inbox.result.now c.args.agent
    c.self.view_is c.self.invariant c.requires.agent c.from.ensures c.index-inbox.ensures c.is_taken.ensures.mailbox c.requires.taken).0

pub returns-clause-waits : goal.returns-clause-waits
returns-clause-waits c =
    let x = c.self.inside in
    (taken_stands c.args.self.now x.cells x.threads x.slots.items x.inboxes.items x.journal.views.items x.journal.tries.items x.journal.book.items c.from.result c.index-inbox.result.now c.args.agent
    c.self.view_is c.self.invariant c.requires.agent c.from.ensures c.index-inbox.ensures c.is_taken.ensures.mailbox c.requires.taken).1

pub index-inbox-requires : goal.index-inbox-requires
index-inbox-requires c =
    let x = c.self.inside in
    let in_cells = agent_in x.cells c.args.agent (subst (λ (s : PlainStore). has_agent s.cells c.args.agent ≡ true) (sym c.self.view_is) c.requires.agent) in
    let many = many_inboxes x.cells x.threads x.slots.items x.inboxes.items x.journal.views.items x.journal.tries.items x.journal.book.items c.self.invariant in
    let is = c.from.ensures in
    let size = x.inboxes.ok.0 in
    omega (arith, in_cells, many, is, size)
