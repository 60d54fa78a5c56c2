use Rattle.std.proofs.Common.{◌≡◌, ◌+◌, ◌&&◌, ap, get_or, subst, sym, take, true, false, ◌∙◌}
use Rattle.std.specs.Prelude.{option_copied}
use Rattle.txs_world_book.specs.Served.{cells_of}
use Rattle.txs_world_protocol.specs.declared.event.Place.{Place}
use Rattle.txs_theorem_audit.specs.Audited.{books_of}
use Rattle.txs_theorem_audit.specs.Evaluated.{calm_by}
use Rattle.txs_audit_evidence.proofs.Judging.{Left, left_covered, left_first, left_found, left_beside, left_here, not_false, not_true, off_here, there_is}
use Rattle.txs_audit_evidence.proofs.transactions.transactions_found.Goals.{in-Some+in_ok-judged+else-not-judged, in_default}
use Rattle.txs_audit_evidence.proofs.transactions.transactions_found.Goals as goal

pub loop-i-init : goal.loop-i-init
loop-i-init c = let b = c.args.books.now in left_first (cells_of b.program.cells) (books_of b.report) c.args.actor c.args.first c.args.trace.now c.args.txs.now

pub returns-then-next-txs-clause-found : goal.returns-then-next-txs-clause-found
returns-then-next-txs-clause-found c =
    let b = c.args.books.now in
    let l = c.loop-i in
    left_found (cells_of b.program.cells) (books_of b.report) c.args.actor c.args.first c.args.trace.now c.args.txs.now l.i l.next l.serial l.invariant c.if-next-txs.true

pub returns-then-next-txs-clause-serial : goal.returns-then-next-txs-clause-serial
returns-then-next-txs-clause-serial c = λ e.
    let b = c.args.books.now in
    let l = c.loop-i in
    left_covered (cells_of b.program.cells) (books_of b.report) c.args.actor c.args.first c.args.trace.now c.args.txs.now l.i l.next l.serial l.invariant c.if-next-txs.true

pub returns-then-not-judged-clause-found : goal.returns-then-not-judged-clause-found
returns-then-not-judged-clause-found c =
    let b = c.args.books.now in
    let cells = cells_of b.program.cells in
    let books = books_of b.report in
    let trace = c.args.trace.now in
    let l = c.loop-i in
    let none : Place = record { book = 0; at = 0 } in
    let p : Place = get_or trace l.i none in
    let is : p ≡ get_or trace l.i p = there_is trace l.i none c.loop-i-test.true in
    let m = c.index-txs-next.result in
    let d = c.in-Some.kind.now in
    let off : calm_by cells (take p.at (books p.book)) d m ≡ false =
    ap (λ n. calm_by cells (take p.at (books n)) d m) c.in-Some.ensures.home ∙ sym c.in_ok-judged.ensures.calm ∙ not_true c.in_ok-judged.judged.calm c.if-not-judged.true in
    off_here cells books c.args.actor c.args.first trace c.args.txs.now l.i l.next l.serial l.invariant p c.loop-i-test.true is d (sym c.in-Some.ensures.end) m c.if-next-txs.false c.index-txs-next.is off

pub loop-i-preserved : goal.loop-i-preserved
loop-i-preserved c =
    let b = c.args.books.now in
    let cells = cells_of b.program.cells in
    let books = books_of b.report in
    let a = c.args.actor in
    let trace = c.args.trace.now in
    let txs = c.args.txs.now in
    let l = c.loop-i in
    let none : Place = record { book = 0; at = 0 } in
    let p : Place = get_or trace l.i none in
    let is : p ≡ get_or trace l.i p = there_is trace l.i none c.loop-i-test.true in
    elim c.match-end_at.branch [
      | in-Some+in_ok-judged+else-not-judged w ↦
          let m = w.index-txs-next.result in
          let d = w.in-Some.kind.now in
          let calm : calm_by cells (take p.at (books p.book)) d m ≡ true =
          ap (λ n. calm_by cells (take p.at (books n)) d m) w.in-Some.ensures.home ∙ sym w.in_ok-judged.ensures.calm ∙ not_false w.in_ok-judged.judged.calm w.if-not-judged.false in
          let more = w.both-serial.ensures ∙ ap (λ x. l.serial && x) w.in_ok-judged.ensures.covered in
          subst (λ n. Left cells books a c.args.first trace txs (l.i + 1) n c.match-end_at.serial) (sym w.next-is)
          (subst (λ s. Left cells books a c.args.first trace txs (l.i + 1) (l.next + 1) s) (sym w.serial-is)
          (left_here cells books a c.args.first trace txs l.i l.next l.serial l.invariant p c.loop-i-test.true is d (sym w.in-Some.ensures.end) m c.if-next-txs.false w.index-txs-next.is calm w.both-serial.result more))
      | in_default w ↦
          subst (λ n. Left cells books a c.args.first trace txs (l.i + 1) n c.match-end_at.serial) (sym w.next-is)
          (subst (λ s. Left cells books a c.args.first trace txs (l.i + 1) l.next s) (sym w.serial-is)
          (left_beside cells books a c.args.first trace txs l.i l.next l.serial l.invariant p c.loop-i-test.true is (sym c.end_at.ensures.end ∙ ap option_copied w.in_default.is)))
    ]
