use Rattle.std.proofs.Common.{◌≡◌, ◌∙◌, ap, arith, subst, sym, true}
use Rattle.txs_world_book.specs.Book.{has_agent}
use Rattle.txs_world.specs.Store.{PlainStore, span_of}
use Rattle.txs_world.proofs.Kept.{agent_in}
use Rattle.txs_world.proofs.Mailing.{many_inboxes}
use Rattle.txs_world.proofs.Storing.{actions_read, span_first, span_none}
use Rattle.txs_world.proofs.store.Store.first_span.Goals as goal

pub index-requires : goal.index-requires
index-requires c =
    let x = c.self.inside in
    let in_cells = agent_in x.cells c.args.agent (subst (λ (s : PlainStore). has_agent s.cells c.args.agent ≡ true) (sym c.self.view_is) c.requires) in
    let many = many_inboxes x.cells x.threads x.slots.items x.inboxes.items x.journal.views.items x.journal.tries.items x.journal.book.items c.self.invariant in
    let is = c.from.ensures in
    let size = x.inboxes.ok.0 in
    omega (arith, in_cells, many, is, size)

pub returns-in-Some : goal.returns-in-Some
returns-in-Some c =
    let x = c.self.inside in
    let b = c.index.result.now in
    let read = actions_read c.args.self.now x.cells x.threads x.slots.items x.inboxes.items x.journal.views.items x.journal.tries.items x.journal.book.items c.from.result b c.args.agent c.self.view_is c.self.invariant c.requires c.from.ensures c.index.ensures in
    span_first b.mailbox.plain.actions c.in-Some.action.now c.in-Some.ensures ∙ ap span_of read

pub returns-in-None : goal.returns-in-None
returns-in-None c =
    let x = c.self.inside in
    let b = c.index.result.now in
    let read = actions_read c.args.self.now x.cells x.threads x.slots.items x.inboxes.items x.journal.views.items x.journal.tries.items x.journal.book.items c.from.result b c.args.agent c.self.view_is c.self.invariant c.requires c.from.ensures c.index.ensures in
    span_none b.mailbox.plain.actions c.in-None.ensures ∙ ap span_of read
