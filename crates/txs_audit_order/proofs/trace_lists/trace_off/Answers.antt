use Rattle.std.proofs.Common.{◌≡◌, ◌≤◌, ◌&&◌, ◌∙◌, List, [], None, Some, ap, arith, get_or, length, nat_lt, rules, sym}
use Rattle.std.proofs.lemmas.Bool.{ltb-true}
use Rattle.std.proofs.lemmas.List.{get_or_default}
use Rattle.txs_theorem_audit.specs.Audited.{check}
use Rattle.txs_audit_order.specs.Named.{all_named, is_this, plain_trace}
use Rattle.txs_audit_order.proofs.Tracing.{begun_here, begun_none, counted_few, counted_none, end_here, named_here, off_here}
use Rattle.txs_value_data.specs.Places.{nth}
use Rattle.txs_world_book.proofs.Outcomes.{both}
use Rattle.txs_world_protocol.specs.declared.event.Place.{Place}
use Rattle.txs_audit_order.proofs.trace_lists.trace_off.Goals as goal

pub loop-i-init : goal.loop-i-init
loop-i-init c = record {
  counted = counted_none (length c.args.all.now) c.in_ok-named.named.items c.in_ok-named.ensures.many c.in_ok-named.ensures.each;
  begun = λ actors. begun_none actors c.args.all.now c.args.actor (plain_trace c.args.trace.now);
}

pub returns-then-not-is_next : goal.returns-then-not-is_next
returns-then-not-is_next c =
    let all = c.args.all.now in
    let trace : List Place = c.args.trace.now in
    let a = c.args.actor in
    let i = c.loop-i.i in
    let none : Place = record { book = 0; at = 0 } in
    let p : Place = get_or trace i none in
    let named = c.loop-i.named.items in
    let lt = c.loop-i-test.true in
    let is = get_or_default trace i none p lt in
    let counted = c.loop-i.invariant.counted in
    let test : (nat_lt p.book (length all) && is_this p.at (nth (get_or (get_or all p.book []) a []) (get_or named p.book 0))) ≡ c.is_next.result = ap (λ l. nat_lt p.book (length all) && is_this p.at (nth (get_or (get_or all p.book []) a []) (get_or l p.book 0))) (sym c.as_slice.ensures.value) ∙ sym c.is_next.ensures in
    off_here all a trace i p lt is named counted (test ∙ c.if-not-is_next.true) c.loop-i.invariant.begun

pub name_one-requires-clause-few : goal.name_one-requires-clause-few
name_one-requires-clause-few c =
    let all = c.args.all.now in
    let trace : List Place = c.args.trace.now in
    let a = c.args.actor in
    let i = c.loop-i.i in
    let none : Place = record { book = 0; at = 0 } in
    let p : Place = get_or trace i none in
    let named = c.loop-i.named.items in
    let lt = c.loop-i-test.true in
    let is = get_or_default trace i none p lt in
    let counted = c.loop-i.invariant.counted in
    let test : (nat_lt p.book (length all) && is_this p.at (nth (get_or (get_or all p.book []) a []) (get_or named p.book 0))) ≡ c.is_next.result = ap (λ l. nat_lt p.book (length all) && is_this p.at (nth (get_or (get_or all p.book []) a []) (get_or l p.book 0))) (sym c.as_slice.ensures.value) ∙ sym c.is_next.ensures in
    let low = ltb-true p.book (length all) (both (nat_lt p.book (length all)) (is_this p.at (nth (get_or (get_or all p.book []) a []) (get_or named p.book 0))) (test ∙ c.if-not-is_next.false)).0 in
    let few = counted_few (length all) i trace named p.book low (omega (arith, lt)) counted in
    let fits : length trace ≤ 18446744073709551615 = search rules in
    omega (arith, few, lt, fits)

pub loop-i-preserved : goal.loop-i-preserved
loop-i-preserved c =
    let all = c.args.all.now in
    let trace : List Place = c.args.trace.now in
    let a = c.args.actor in
    let i = c.loop-i.i in
    let none : Place = record { book = 0; at = 0 } in
    let p : Place = get_or trace i none in
    let named = c.loop-i.named.items in
    let lt = c.loop-i-test.true in
    let is = get_or_default trace i none p lt in
    let counted = c.loop-i.invariant.counted in
    let test : (nat_lt p.book (length all) && is_this p.at (nth (get_or (get_or all p.book []) a []) (get_or named p.book 0))) ≡ c.is_next.result = ap (λ l. nat_lt p.book (length all) && is_this p.at (nth (get_or (get_or all p.book []) a []) (get_or l p.book 0))) (sym c.as_slice.ensures.value) ∙ sym c.is_next.ensures in
    let good = test ∙ c.if-not-is_next.false in
    record {
      counted = named_here all a trace i p lt is named counted c.name_one.new.named.items good c.name_one.ensures;
      begun = λ actors. begun_here all a trace i p lt is named counted good actors (c.loop-i.invariant.begun actors);
    }

pub returns-then-are_named : goal.returns-then-are_named
returns-then-are_named c =
    let trace = c.args.trace.now in
    let a = c.args.actor in
    end_here c.args.all.now a trace c.loop-i.i c.loop-i.named.items c.are_named.result None c.loop-i-test.false c.loop-i.invariant.counted c.loop-i.invariant.begun
    (c.are_named.ensures ∙ ap (all_named a c.args.all.now) c.as_slice-2.ensures.value) (sym (ap (λ b. check b a (length trace)) c.if-are_named.true))

pub returns : goal.returns
returns c =
    let trace = c.args.trace.now in
    let a = c.args.actor in
    end_here c.args.all.now a trace c.loop-i.i c.loop-i.named.items c.are_named.result (Some (length trace)) c.loop-i-test.false c.loop-i.invariant.counted c.loop-i.invariant.begun
    (c.are_named.ensures ∙ ap (all_named a c.args.all.now) c.as_slice-2.ensures.value) (sym (ap (λ b. check b a (length trace)) c.if-are_named.false))
