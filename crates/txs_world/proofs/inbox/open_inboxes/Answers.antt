use Rattle.std.proofs.lemmas.List.{take_all}
use Rattle.std.proofs.Common.{◌∙◌, None, ap, length, arith}
use Rattle.txs_world.specs.Mailbox.{PlainMailbox}
use Rattle.txs_world.specs.Inboxes.{PlainInbox, empty_inbox, plain_inbox, plain_inboxes, open_inboxes}
use Rattle.txs_world_book.specs.declared.cell.StoreCell.{StoreCell}
use Rattle.txs_world.specs.declared.inbox.Inbox.{Inbox}
use Rattle.txs_world_book.proofs.Lists.{map_next, map_push, one_more}
use Rattle.txs_world.proofs.inbox.open_inboxes.Goals as goal

abbrev new_inbox : PlainMailbox → PlainInbox
new_inbox m = record { mailbox = m; fault = None; acts = 0 }

pub loop-cell-init : goal.loop-cell-init
loop-cell-init c = let h = c.in_ok-inboxes.ensures in record { many = ap length h.items; room = h.exact; built = ap plain_inboxes h.items }

pub loop-cell-preserved : goal.loop-cell-preserved
loop-cell-preserved c =
    let h = c.loop-cell in
    let put = c.push_reserved in
    let b : Inbox = record { mailbox = c.new.result; fault = None; acts = 0; promised = 0 } in
    record {
      many = one_more h.inboxes.items put.new.self.items b h.cell-index h.invariant.many put.ensures.items;
      room = put.ensures.capacity ∙ h.invariant.room;
      built = map_next (λ (s : StoreCell). empty_inbox s.goes_on) c.args.cells.now h.cell-index c.cell-item.result (plain_inboxes h.inboxes.items) (plain_inboxes put.new.self.items) (plain_inbox b) c.loop-cell-test.true c.cell-item.is h.invariant.built (ap plain_inboxes put.ensures.items ∙ map_push plain_inbox h.inboxes.items b) (ap new_inbox c.new.ensures);
    }

pub push_reserved-requires : goal.push_reserved-requires
push_reserved-requires c = omega (arith, c.loop-cell.inboxes.ok.0)

pub returns : goal.returns
returns c =
    let out = c.loop-cell-test.false in
    c.loop-cell.invariant.built ∙ ap open_inboxes (take_all c.loop-cell.cell-index c.args.cells.now (omega (arith, out)))
