use Rattle.std.proofs.lemmas.List.{take_all}
use Rattle.std.proofs.Common.{◌∙◌, None, List, ap, length, map, arith}
use Rattle.txs_value_cell.specs.declared.action.Action.{Action}
use Rattle.txs_audit_book.specs.Gone.{PlainInbox, no_inbox, plain_inbox, plain_inboxes}
use Rattle.txs_world_book.specs.declared.cell.StoreCell.{StoreCell}
use Rattle.txs_audit_book.specs.declared.inbox.Inbox.{Inbox}
use Rattle.txs_world_book.proofs.Lists.{map_next, map_push, one_more}
use Rattle.txs_audit_book.proofs.inbox.open_inboxes.Goals as goal

abbrev new_inbox : List Action → PlainInbox
new_inbox l = record { sent = l; acts = 0; fault = None; failed = 0 }

pub loop-cell-init : goal.loop-cell-init
loop-cell-init c = let h = c.in_ok-inboxes.ensures in record { many = ap length h.items; room = h.exact; built = ap plain_inboxes h.items }

pub loop-cell-preserved : goal.loop-cell-preserved
loop-cell-preserved c =
    let h = c.loop-cell in
    let put = c.push_reserved in
    let b : Inbox = record { sent = c.new.result; acts = 0; fault = None; failed = 0 } in
    record {
      many = one_more h.inboxes.items put.new.self.items b h.cell-index h.invariant.many put.ensures.items;
      room = put.ensures.capacity ∙ h.invariant.room;
      built = map_next (λ (s : StoreCell). no_inbox) c.args.cells.now h.cell-index c.cell-item.result (plain_inboxes h.inboxes.items) (plain_inboxes put.new.self.items) (plain_inbox b) c.loop-cell-test.true c.cell-item.is h.invariant.built (ap plain_inboxes put.ensures.items ∙ map_push plain_inbox h.inboxes.items b) (ap new_inbox c.new.ensures.items);
    }

pub push_reserved-requires : goal.push_reserved-requires
push_reserved-requires c = omega (arith, c.loop-cell.inboxes.ok.0)

pub returns : goal.returns
returns c =
    let out = c.loop-cell-test.false in
    c.loop-cell.invariant.built ∙ ap (map (λ (s : StoreCell). no_inbox)) (take_all c.loop-cell.cell-index c.args.cells.now (omega (arith, out)))
