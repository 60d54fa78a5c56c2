use Rattle.std.proofs.Common.{◌∙◌, ap, option_copied, sym}
use Rattle.txs_value_data.specs.Places.{nth}
use Rattle.txs_tree_meaning.specs.View.{program_of}
use Rattle.txs_theorem_audit.specs.Audited.{books_of, place_of, ran_as}
use Rattle.txs_theorem_audit.specs.Pieces.{act_finding, act_finding_at, event_serial, part_of, serial_at}
use Rattle.txs_audit_order.specs.Named.{plain_trace}
use Rattle.txs_audit_evidence.proofs.Printing.{got_place, got_no_place}
use Rattle.txs_audit_order.proofs.Lending.{got}
use Rattle.txs_audit_evidence.proofs.ThreadFound.{so}
use Rattle.txs_audit_evidence.proofs.acts.act_at.Goals as goal

pub place_found-requires : goal.place_found-requires
place_found-requires c = got_place c.as_slice-trace.result.now c.args.at c.in-Some.place.now (sym (ap option_copied c.in-Some.is) ∙ got c.as_slice-trace.result.now c.args.at c.get.result c.get.ensures.lookup.3)

pub returns-in-Some-clause-finding : goal.returns-in-Some-clause-finding
returns-in-Some-clause-finding c =
    let b = c.args.books.now in
    let p = program_of b.program in
    let r = b.report in
    let n = c.args.turns in
    let at = c.args.at in
    let q = c.in-Some.place.now in
    let same = c.as_slice-trace.ensures.value in
    let here = ap (λ l. nth (plain_trace l) at) (sym same) ∙ got_place c.as_slice-trace.result.now at q (sym (ap option_copied c.in-Some.is) ∙ got c.as_slice-trace.result.now at c.get.result c.get.ensures.lookup.3) in
    so c.place_found.result c.place_found.ensures.finding
    (λ f is.
    is ∙ ap (λ l. act_finding p r n c.args.actor (part_of c.args.from at (plain_trace l)) at (place_of q) (nth (books_of r q.book) q.at)) same
    ∙ sym (ap (act_finding_at p r n c.args.actor c.args.from at (ran_as c.args.ran.now)) here))

pub returns-in-Some-clause-serial : goal.returns-in-Some-clause-serial
returns-in-Some-clause-serial c =
    let b = c.args.books.now in
    let p = program_of b.program in
    let r = b.report in
    let n = c.args.turns in
    let at = c.args.at in
    let q = c.in-Some.place.now in
    let same = c.as_slice-trace.ensures.value in
    let here = ap (λ l. nth (plain_trace l) at) (sym same) ∙ got_place c.as_slice-trace.result.now at q (sym (ap option_copied c.in-Some.is) ∙ got c.as_slice-trace.result.now at c.get.result c.get.ensures.lookup.3) in
    so c.place_found.result c.place_found.ensures.serial
    (λ f is fine.
    is fine ∙ ap (λ l. event_serial p r n (place_of q) (part_of c.args.from at (plain_trace l)) (nth (books_of r q.book) q.at)) same
    ∙ sym (ap (serial_at p r n (part_of c.args.from at (plain_trace c.args.ran.now.trace.items))) here))

pub returns-in-None : goal.returns-in-None
returns-in-None c =
    let b = c.args.books.now in
    let p = program_of b.program in
    let r = b.report in
    let n = c.args.turns in
    let at = c.args.at in
    let none = ap (λ l. nth (plain_trace l) at) (sym c.as_slice-trace.ensures.value) ∙ got_no_place c.as_slice-trace.result.now at (sym (ap option_copied c.in-None.is) ∙ got c.as_slice-trace.result.now at c.get.result c.get.ensures.lookup.3) in
    record {
      finding = c.fine.ensures.finding ∙ sym (ap (act_finding_at p r n c.args.actor c.args.from at (ran_as c.args.ran.now)) none);
      serial = λ nothing. c.fine.ensures.serial ∙ sym (ap (serial_at p r n (part_of c.args.from at (plain_trace c.args.ran.now.trace.items))) none);
    }
