use Rattle.std.proofs.Common.{◌∙◌, ap, sym}
use Rattle.txs_world_book.specs.Book.{writes_to}
use Rattle.txs_world_protocol.specs.declared.event.Event.{Event}
use Rattle.txs_audit_event.proofs.Disturbed.{writer_beyond, writer_found, writer_passed}
use Rattle.txs_audit_event.proofs.disturbing.writer_of.Goals as goal

pub returns-then-writes_to : goal.returns-then-writes_to
returns-then-writes_to c =
    let l = c.loop-at in
    let x = c.index-book-at in
    let same = ap (λ (e : Event). writes_to e.kind c.args.number) x.is in
    sym (writer_found c.args.number l.at c.args.book.now x.result c.loop-at-test.true (sym x.is) (same ∙ sym c.writes_to.ensures ∙ c.if-writes_to.true)) ∙ l.invariant

pub loop-at-preserved : goal.loop-at-preserved
loop-at-preserved c =
    let l = c.loop-at in
    let x = c.index-book-at in
    let same = ap (λ (e : Event). writes_to e.kind c.args.number) x.is in
    writer_passed c.args.number l.at c.args.book.now x.result c.loop-at-test.true (sym x.is) (same ∙ sym c.writes_to.ensures ∙ c.if-writes_to.false) ∙ l.invariant

pub returns : goal.returns
returns c = let l = c.loop-at in sym (writer_beyond c.args.number l.at c.args.book.now c.loop-at-test.false) ∙ l.invariant
