use Rattle.std.proofs.Common.{rules, ◌≡◌, ◌∙◌, ◌-◌, None, ap, arith, length, option_copied, subst, sym}
use Rattle.std.proofs.lemmas.List.{length-map}
use Rattle.txs_value_data.specs.Places.{nth}
use Rattle.txs_tree_meaning.specs.View.{program_of}
use Rattle.txs_theorem_audit.specs.Audited.{books_of, place_of, ran_as}
use Rattle.txs_theorem_audit.specs.Pieces.{part_of}
use Rattle.txs_audit_evidence.specs.Acted.{NamesAct}
use Rattle.txs_audit_order.specs.Named.{plain_trace}
use Rattle.txs_audit_evidence.proofs.Printing.{got_no_place, got_place, no_later, part_least, there_below}
use Rattle.txs_audit_order.proofs.Lending.{got}
use Rattle.txs_audit_evidence.proofs.ThreadFound.{so}
use Rattle.txs_audit_event.specs.declared.what.What.TheVariants as what
use Rattle.txs_audit_difference.specs.Pieces.{at_event}
use Rattle.txs_audit_difference.proofs.Acting.{act_here, no_act}
use Rattle.txs_audit_difference.proofs.Piecing.{entry_there, no_entry}
use Rattle.txs_audit_difference.proofs.pieces.act_at.Goals as goal

pub returns-in_default : goal.returns-in_default
returns-in_default c =
    let b = c.args.books.now in
    let p = program_of b.program in
    let at = c.args.at in
    let spot = c.args.spot in
    let ran = ran_as c.args.ran.now in
    let none = ap (λ l. nth (plain_trace l) at) (sym c.as_slice-trace.ensures.value) ∙ got_no_place c.as_slice-trace.result.now at (sym (ap option_copied c.in_default.is) ∙ got c.as_slice-trace.result.now at c.get.result c.get.ensures.lookup.3) in
    c.at_event.ensures ∙ ap (λ w. at_event w spot.actor spot.event) c.unknown.ensures ∙ no_entry p b.report c.args.turns spot.actor spot.event c.args.from at ran (nth ran.trace at) none

pub returns-in_default-act_of : goal.returns-in_default-act_of
returns-in_default-act_of c =
    let b = c.args.books.now in
    let p = program_of b.program in
    let at = c.args.at in
    let spot = c.args.spot in
    let ran = ran_as c.args.ran.now in
    let q = place_of c.in-Some.place.now in
    let here = ap (λ l. nth (plain_trace l) at) (sym c.as_slice-trace.ensures.value) ∙ got_place c.as_slice-trace.result.now at c.in-Some.place.now (sym (ap option_copied c.in-Some.is) ∙ got c.as_slice-trace.result.now at c.get.result c.get.ensures.lookup.3) in
    let d = at_event (what.Event None) spot.actor spot.event in
    c.at_event-in_default-act_of.ensures ∙ ap (λ w. at_event w spot.actor spot.event) c.unknown-in_default-act_of.ensures
    ∙ entry_there p b.report c.args.turns spot.actor spot.event c.args.from at ran (nth ran.trace at) q here d
    (no_act p b.report c.args.turns spot.actor spot.event (part_of c.args.from at ran.trace) at q (nth (books_of b.report q.book) q.at) (subst (NamesAct b q) c.in_default-act_of.is c.act_of.ensures))

pub part_of-since-requires-clause-within : goal.part_of-since-requires-clause-within
part_of-since-requires-clause-within c =
    let trace = c.as_slice-trace.result.now in
    let at = c.args.at in
    let lt = there_below (plain_trace trace) at (place_of c.in-Some.place.now) (got_place trace at c.in-Some.place.now (sym (ap option_copied c.in-Some.is) ∙ got trace at c.get.result c.get.ensures.lookup.3)) in
    let long = length-map trace place_of in
    omega (arith, lt, long)

pub part_of-since-requires-clause-order : goal.part_of-since-requires-clause-order
part_of-since-requires-clause-order c = no_later c.args.from c.least.result c.args.at c.least.ensures.first c.least.ensures.second

pub over_what-requires : goal.over_what-requires
over_what-requires c = (subst (NamesAct c.args.books.now (place_of c.in-Some.place.now)) c.in-Some-act_of.is c.act_of.ensures).2

pub returns : goal.returns
returns c =
    let b = c.args.books.now in
    let p = program_of b.program in
    let at = c.args.at in
    let from = c.args.from in
    let spot = c.args.spot in
    let ran = ran_as c.args.ran.now in
    let trace = c.as_slice-trace.result.now in
    let q = place_of c.in-Some.place.now in
    let same = ap plain_trace c.as_slice-trace.ensures.value in
    let got_it = got_place trace at c.in-Some.place.now (sym (ap option_copied c.in-Some.is) ∙ got trace at c.get.result c.get.ensures.lookup.3) in
    let here = ap (λ l. nth (plain_trace l) at) (sym c.as_slice-trace.ensures.value) ∙ got_it in
    let lt = there_below (plain_trace trace) at q got_it in
    let first = c.least.result in
    let part = c.part_of-since.ensures.part ∙ part_least (plain_trace trace) from first at (omega (arith, lt)) c.least.ensures.first c.least.ensures.second in
    let all = part ∙ ap (part_of from at) same in
    let names = subst (NamesAct b q) c.in-Some-act_of.is c.act_of.ensures in
    let few : c.saturating_sub-first.result ≡ at - length c.part_of-since.result.now = search rules in
    let index : c.saturating_sub-index.result ≡ spot.event - c.saturating_sub-first.result = search rules in
    let many = sym (length-map c.part_of-since.result.now place_of) ∙ ap length all in
    so c.over_what.result c.over_what.ensures
    (λ d is. entry_there p b.report c.args.turns spot.actor spot.event from at ran (nth ran.trace at) q here d
    (act_here b c.args.turns q c.in-Some-act_of.act names spot.actor spot.event at c.saturating_sub-index.result (plain_trace c.part_of-since.result.now) (part_of from at ran.trace) all (index ∙ ap (λ m. spot.event - m) (few ∙ ap (λ m. at - m) many)) d is))
