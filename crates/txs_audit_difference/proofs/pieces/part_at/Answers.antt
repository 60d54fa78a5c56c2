use Rattle.std.proofs.Common.{◌∙◌, ap, arith, option_copied, sym}
use Rattle.txs_value_data.specs.Places.{nth}
use Rattle.txs_tree_meaning.specs.View.{program_of}
use Rattle.txs_theorem_audit.specs.Audited.{place_of}
use Rattle.txs_audit_order.specs.Named.{plain_trace}
use Rattle.txs_audit_evidence.proofs.Printing.{got_place, got_no_place, there_below}
use Rattle.txs_audit_order.proofs.Lending.{got}
use Rattle.txs_audit_event.specs.Meant.{doer_means, held_by}
use Rattle.txs_audit_difference.proofs.Piecing.{at_end, at_no_place, at_place}
use Rattle.txs_audit_difference.proofs.pieces.part_at.Goals as goal

pub returns-in_default : goal.returns-in_default
returns-in_default c = λ behind.
    let b = c.args.books.now in
    let p = program_of b.program in
    let xs = c.args.seen.now in
    let i = c.args.at in
    let none = sym (sym (ap option_copied c.in_default.is) ∙ got xs i c.get.result c.get.ensures.lookup.3) in
    at_end p b.report c.args.turns (doer_means p c.args.turns c.args.doer) (held_by c.args.doer) xs i (nth (plain_trace c.args.since.now) i) behind none

pub returns-in_default-get : goal.returns-in_default-get
returns-in_default-get c = λ behind.
    let b = c.args.books.now in
    let p = program_of b.program in
    let xs = c.args.seen.now in
    let i = c.args.at in
    let some = sym (sym (ap option_copied c.in-Some.is) ∙ got xs i c.get.result c.get.ensures.lookup.3) in
    let none = got_no_place c.args.since.now i (sym (ap option_copied c.in_default-get.is) ∙ got c.args.since.now i c.get-2.result c.get-2.ensures.lookup.3) in
    c.unknown.ensures ∙ at_no_place p b.report c.args.turns (doer_means p c.args.turns c.args.doer) (held_by c.args.doer) xs i c.in-Some.event.now (nth (plain_trace c.args.since.now) i) behind some none

pub split_at-requires : goal.split_at-requires
split_at-requires c =
    let xs = c.args.seen.now in
    let i = c.args.at in
    let some = sym (sym (ap option_copied c.in-Some.is) ∙ got xs i c.get.result c.get.ensures.lookup.3) in
    (let lt = there_below xs i c.in-Some.event.now some in omega (arith, lt))

pub returns : goal.returns
returns c = λ behind.
    let b = c.args.books.now in
    let p = program_of b.program in
    let xs = c.args.seen.now in
    let i = c.args.at in
    let some = sym (sym (ap option_copied c.in-Some.is) ∙ got xs i c.get.result c.get.ensures.lookup.3) in
    let q = c.in-Some-get.place.now in
    let there = got_place c.args.since.now i q (sym (ap option_copied c.in-Some-get.is) ∙ got c.args.since.now i c.get-2.result c.get-2.ensures.lookup.3) in
    at_place p b.report c.args.turns (doer_means p c.args.turns c.args.doer) (held_by c.args.doer) xs i c.in-Some.event.now (place_of q) (nth (plain_trace c.args.since.now) i) behind c.in_ok-what.what c.split_at.result.0.now some there c.split_at.ensures.front c.in_ok-what.ensures
