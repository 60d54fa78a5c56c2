use Rattle.std.proofs.Common.{ap, arith, length, sym}
use Rattle.std.proofs.lemmas.Bool.{le-ltb, lt-ltb}
use Rattle.std.proofs.lemmas.List.{take_all}
use Rattle.txs_world_book.specs.Book.{most_older, opening, times_written}
use Rattle.txs_world_book.proofs.Sizes.{fits_place}
use Rattle.txs_audit_book.proofs.Pasts.{times_more, times_none}
use Rattle.txs_audit_book.proofs.Reading.{history_is}
use Rattle.txs_world.proofs.Kept.{ref_in}
use Rattle.txs_audit_book.proofs.parts.Parts.is_outdated.Goals as goal

pub index-history-requires : goal.index-history-requires
index-history-requires c =
    let in_cells = ref_in c.args.self.now.cells c.args.cell c.requires.there in
    let many = c.requires.gone.many in
    let is = c.from.ensures in
    omega (arith, in_cells, many, is)

pub overflow_cast-place : goal.overflow_cast-place
overflow_cast-place c = fits_place (length c.args.done.now) c.requires.gone.few

pub loop-init : goal.loop-init
loop-init c =
    let done = c.args.done.now in
    let all = ap (times_written c.args.cell.number c.args.since) (take_all (length done) done (omega arith)) in
    record { within = omega arith; times = omega (arith, all) }

pub returns-then-index-since : goal.returns-then-index-since
returns-then-index-since c =
    let p = c.args.self.now in
    let done = c.args.done.now in
    let k = c.args.cell.number in
    let l = c.loop in
    let is = history_is p.cells p.histories.items p.inboxes.items p.views.items p.tries.items done c.requires.gone k c.from.result c.index-history.result.now (ref_in p.cells c.args.cell c.requires.there) c.from.ensures c.index-history.ensures in
    let at = c.index_in-index.ensures in
    let le = c.if-index-since.true in
    let none = times_none (opening p.cells) done k c.index-history.result.now is l.place c.args.since l.invariant.within (omega (arith, at, le)) in
    let times = l.invariant.times in
    let round = c.loop-test.true in
    sym (le-ltb most_older (times_written k c.args.since done) (omega (arith, times, none, round)))

pub loop-preserved : goal.loop-preserved
loop-preserved c =
    let p = c.args.self.now in
    let done = c.args.done.now in
    let k = c.args.cell.number in
    let l = c.loop in
    let is = history_is p.cells p.histories.items p.inboxes.items p.views.items p.tries.items done c.requires.gone k c.from.result c.index-history.result.now (ref_in p.cells c.args.cell c.requires.there) c.from.ensures c.index-history.ensures in
    let more = times_more (opening p.cells) done k c.index-history.result.now is l.place c.args.since c.index_in-index.result l.invariant.within c.index_in-index.ensures c.if-index-since.false in
    let so_far = l.invariant.times in
    let times = more.times in
    record { within = more.within; times = omega (arith, so_far, times) }

pub returns : goal.returns
returns c =
    let times = c.loop.invariant.times in
    let rounds = c.loop-test.false in
    sym (lt-ltb most_older (times_written c.args.cell.number c.args.since c.args.done.now) (omega (arith, times, rounds)))
