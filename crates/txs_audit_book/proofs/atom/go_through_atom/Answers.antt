use Rattle.std.proofs.Common.{◌≡◌, ◌<◌, ◌∷◌, [], ◌++◌, ap, arith, subst, sym, take, true, ◌∙◌}
use Rattle.txs_value_data.specs.Limits.{most_events}
use Rattle.txs_audit_book.specs.Swapped.{GoneSwaps, atom_test}
use Rattle.txs_audit_book.proofs.Found.{found_full, found_next, found_off, one_more}
use Rattle.txs_audit_book.proofs.atom.go_through_atom.Goals as goal

pub returns-then-i-ge-MOST_EVENTS : goal.returns-then-i-ge-MOST_EVENTS
unfolding most_events
returns-then-i-ge-MOST_EVENTS c = found_full (atom_test c.args.cell c.args.actors) c.args.book.now c.loop-i.i c.index-book-i.result c.loop-i-test.true c.index-book-i.is c.if-i-ge-MOST_EVENTS.true c.loop-i.invariant.rest

pub returns-then-not-is_legal : goal.returns-then-not-is_legal
returns-then-not-is_legal c =
    let e = c.index-book-i.result in
    let test = atom_test c.args.cell c.args.actors in
    found_off test c.args.book.now c.loop-i.i e c.loop-i-test.true c.index-book-i.is (ap (λ l. test l e) (sym c.split_at.ensures.front) ∙ sym c.is_legal.ensures ∙ c.if-not-is_legal.true) c.loop-i.invariant.rest

pub put-requires-clause-few : goal.put-requires-clause-few
unfolding most_events
put-requires-clause-few c = let n = c.split_at.ensures.front_len in let lt = c.if-i-ge-MOST_EVENTS.false in omega (arith, n, lt)

pub loop-i-preserved : goal.loop-i-preserved
unfolding most_events
loop-i-preserved c =
    let e = c.index-book-i.result in
    let book = c.args.book.now in
    let i = c.loop-i.i in
    let test = atom_test c.args.cell c.args.actors in
    let now = c.put.new.swaps in
    let front = c.split_at.ensures.front in
    let holds : test (take i book) e ≡ true = ap (λ l. test l e) (sym front) ∙ sym c.is_legal.ensures ∙ c.if-not-is_legal.false in
    let few : i < 1000000 = c.if-i-ge-MOST_EVENTS.false in
    record {
      gone = subst (GoneSwaps now.swaps now.views.items) (ap (λ l. l ++ e ∷ []) front ∙ sym (one_more test book i e c.loop-i-test.true c.index-book-i.is)) c.in_ok-put.ensures;
      rest = λ index. sym (found_next test book i e c.loop-i-test.true c.index-book-i.is few holds index) ∙ c.loop-i.invariant.rest index;
    }
