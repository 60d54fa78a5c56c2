use Rattle.std.proofs.Common.{◌≤◌, ◌+◌, drop, length, rules, sym, ap, subst, ◌∙◌, arith}
use Rattle.txs_world_protocol.specs.declared.event.Event.{Event}
use Rattle.txs_world_book.specs.Book.{times_written, writes_to}
use Rattle.txs_explore.proofs.Tests.{times_begun, times_counted, times_done, times_more}
use Rattle.txs_explore.proofs.asks.times_written.Goals as goal

pub loop-i-init : goal.loop-i-init
loop-i-init c = record { counted = times_begun c.args.number c.args.at c.args.book.now; few = omega arith }

pub one_more-times-requires : goal.one_more-times-requires
one_more-times-requires c =
    let few = c.loop-i.invariant.few in
    let within = c.loop-i-test.true in
    search (rules, few, within)

pub loop-i-preserved : goal.loop-i-preserved
loop-i-preserved c =
    let book = c.args.book.now in
    let k = c.args.number in
    let i = c.loop-i.i in
    let t = c.loop-i.times in
    let e = c.index-book-i.result in
    let so = c.writes_to.result in
    record {
      counted =
          ap (λ n. n + times_written k 0 (drop (i + 1) book)) c.one_more-times.ensures
          ∙ times_more k i t e book c.loop-i-test.true c.index-book-i.is so (c.writes_to.ensures ∙ ap (λ (v : Event). writes_to v.kind k) (sym c.index-book-i.is))
          ∙ c.loop-i.invariant.counted;
      few = subst (λ n. n ≤ i + 1) (sym c.one_more-times.ensures) (times_counted t i so c.loop-i.invariant.few);
    }

pub returns : goal.returns
returns c =
    let past : length c.args.book.now ≤ c.loop-i.i = search rules in
    sym (times_done c.args.number c.loop-i.i c.loop-i.times c.args.book.now past) ∙ c.loop-i.invariant.counted
