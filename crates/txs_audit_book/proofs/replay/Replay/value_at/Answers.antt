use Rattle.std.proofs.Common.{◌≤◌, ◌<◌, ◌∙◌, ap, arith, length}
use Rattle.txs_audit_book.specs.Gone.{plain_inboxes}
use Rattle.txs_audit_book.specs.Replayed.{PlainReplay, value_there}
use Rattle.txs_audit_book.proofs.Reading.{none_read, value_read}
use Rattle.txs_audit_book.proofs.replay.Replay.value_at.Goals as goal

pub returns-then-place-len : goal.returns-then-place-len
returns-then-place-len c =
    let x = c.self.inside in
    let p = x.parts in
    let size = p.histories.ok.0 in
    let le : length p.histories.items ≤ c.from-place.result = omega (arith, c.len.ensures, size, c.if-place-len.true) in
    none_read p.cells p.histories.items (plain_inboxes p.inboxes.items) p.views.items p.tries.items x.book.now c.self.invariant c.args.number c.from-place.result c.args.events c.from-place.ensures le
    ∙ ap (λ (r : PlainReplay). value_there r c.args.number c.args.events) c.self.view_is

pub returns : goal.returns
returns c =
    let x = c.self.inside in
    let p = x.parts in
    let size = p.histories.ok.0 in
    let lt : c.from-place.result < length p.histories.items = omega (arith, c.len.ensures, size, c.if-place-len.false) in
    c.value_in.ensures
    ∙ value_read p.cells p.histories.items (plain_inboxes p.inboxes.items) p.views.items p.tries.items x.book.now c.self.invariant c.args.number c.from-place.result c.args.events c.index.result.now c.from-place.ensures lt c.index.ensures
    ∙ ap (λ (r : PlainReplay). value_there r c.args.number c.args.events) c.self.view_is
