use Rattle.std.proofs.Common.{◌≤◌, ◌<◌, ◌∙◌, ap, arith, length, subst, sym}
use Rattle.txs_world_book.specs.Book.{is_there}
use Rattle.txs_audit_book.specs.Replayed.{PlainReplay, mail_there}
use Rattle.txs_audit_book.proofs.Reading.{boxes_many, had_failed, none_failed, some_failed}
use Rattle.txs_audit_book.proofs.replay.Replay.has_failed.Goals as goal

pub index-inbox-requires : goal.index-inbox-requires
index-inbox-requires c =
    let x = c.self.inside in
    let p = x.parts in
    let in_cells : c.args.number < length p.cells = subst (λ (r : PlainReplay). c.args.number < length r.cells) (sym c.self.view_is) c.requires.there in
    let many = boxes_many p.cells p.histories.items p.inboxes.items p.views.items p.tries.items x.book.now c.self.invariant in
    let size = p.inboxes.ok.0 in
    omega (arith, in_cells, many, size, c.from.ensures)

pub returns-then-is_none : goal.returns-then-is_none
returns-then-is_none c =
    let x = c.self.inside in
    let p = x.parts in
    let b = c.index-inbox.result.now in
    let in_cells : c.args.number < length p.cells = subst (λ (r : PlainReplay). c.args.number < length r.cells) (sym c.self.view_is) c.requires.there in
    let within : c.args.events ≤ length x.book.now = subst (λ (r : PlainReplay). c.args.events ≤ length r.book) (sym c.self.view_is) c.requires.within in
    none_failed b.fault c.is_none.result _ _ c.is_none.ensures c.if-is_none.true
    (had_failed p.cells p.histories.items p.inboxes.items p.views.items p.tries.items x.book.now c.self.invariant c.args.number c.from.result c.args.events b in_cells within c.from.ensures c.index-inbox.ensures
    ∙ ap (λ (r : PlainReplay). is_there (mail_there r c.args.number c.args.events).fault) c.self.view_is)

pub returns : goal.returns
returns c =
    let x = c.self.inside in
    let p = x.parts in
    let b = c.index-inbox.result.now in
    let in_cells : c.args.number < length p.cells = subst (λ (r : PlainReplay). c.args.number < length r.cells) (sym c.self.view_is) c.requires.there in
    let within : c.args.events ≤ length x.book.now = subst (λ (r : PlainReplay). c.args.events ≤ length r.book) (sym c.self.view_is) c.requires.within in
    some_failed b.fault c.is_none.result _ _ c.is_none.ensures c.if-is_none.false
    (had_failed p.cells p.histories.items p.inboxes.items p.views.items p.tries.items x.book.now c.self.invariant c.args.number c.from.result c.args.events b in_cells within c.from.ensures c.index-inbox.ensures
    ∙ ap (λ (r : PlainReplay). is_there (mail_there r c.args.number c.args.events).fault) c.self.view_is)
