use Rattle.std.proofs.Common.{◌∙◌, arith, subst, sym}
use Rattle.std.proofs.lemmas.List.{length-map}
use Rattle.txs_tree_meaning.specs.View.{program_of}
use Rattle.txs_value_data.specs.Places.{nth}
use Rattle.txs_theorem_audit.specs.Audited.{books_of, place_of}
use Rattle.txs_theorem_audit.specs.Pieces.{part_of}
use Rattle.txs_audit_book.specs.Judged.{as_found}
use Rattle.txs_audit_evidence.specs.Acted.{NamesAct}
use Rattle.txs_audit_order.specs.Named.{plain_trace}
use Rattle.txs_audit_evidence.proofs.Printing.{act_here, begins_at, covered_here, no_later, nothing_found, part_least, there_below}
use Rattle.txs_audit_evidence.proofs.ThreadFound.{so}
use Rattle.txs_audit_evidence.proofs.acts.place_found.Goals as goal

pub returns-in-None : goal.returns-in-None
returns-in-None c =
    let b = c.args.books.now in
    let q = c.args.place in
    let nothing = nothing_found (program_of b.program) b.report c.args.turns c.args.actor c.args.at (place_of q) (part_of c.args.from c.args.at (plain_trace c.args.trace.now)) (nth (books_of b.report q.book) q.at) (subst (NamesAct b (place_of q)) c.in-None.is c.act_of.ensures) in
    record {
      finding = c.fine.ensures.finding ∙ sym nothing.0;
      serial = λ is. c.fine.ensures.serial ∙ sym nothing.1;
    }

pub part_of-since-requires-clause-within : goal.part_of-since-requires-clause-within
part_of-since-requires-clause-within c =
    let lt = there_below (plain_trace c.args.trace.now) c.args.at (place_of c.args.place) c.requires in
    let long = length-map c.args.trace.now place_of in
    omega (arith, lt, long)

pub part_of-since-requires-clause-order : goal.part_of-since-requires-clause-order
part_of-since-requires-clause-order c = no_later c.args.from c.least-first.result c.args.at c.least-first.ensures.first c.least-first.ensures.second

pub ran_found-requires-clause-there : goal.ran_found-requires-clause-there
ran_found-requires-clause-there c = (subst (NamesAct c.args.books.now (place_of c.args.place)) c.in-Some.is c.act_of.ensures).2

pub ran_found-requires-clause-fits : goal.ran_found-requires-clause-fits
ran_found-requires-clause-fits c =
    let le = no_later c.args.from c.least-first.result c.args.at c.least-first.ensures.first c.least-first.ensures.second in
    omega (arith, le, c.part_of-since.ensures.many)

pub returns-in-Some-clause-finding : goal.returns-in-Some-clause-finding
returns-in-Some-clause-finding c =
    let b = c.args.books.now in
    let at = c.args.at in
    let first = c.least-first.result in
    let q = c.args.place in
    let trace = plain_trace c.args.trace.now in
    let lt = there_below trace at (place_of q) c.requires in
    let part = c.part_of-since.ensures.part ∙ part_least trace c.args.from first at (omega (arith, lt)) c.least-first.ensures.first c.least-first.ensures.second in
    let begin = begins_at c.part_of-since.result.now (part_of c.args.from at trace) first at (no_later c.args.from first at c.least-first.ensures.first c.least-first.ensures.second) c.part_of-since.ensures.many part in
    let names = subst (NamesAct b (place_of q)) c.in-Some.is c.act_of.ensures in
    so c.ran_found.result c.ran_found.ensures.finding
    (λ f is. act_here b c.args.turns (place_of q) c.in-Some.act names c.args.actor at first (plain_trace c.part_of-since.result.now) (part_of c.args.from at trace) part begin (as_found f.finding) is)

pub returns-in-Some-clause-serial : goal.returns-in-Some-clause-serial
returns-in-Some-clause-serial c =
    let b = c.args.books.now in
    let at = c.args.at in
    let first = c.least-first.result in
    let q = c.args.place in
    let trace = plain_trace c.args.trace.now in
    let lt = there_below trace at (place_of q) c.requires in
    let part = c.part_of-since.ensures.part ∙ part_least trace c.args.from first at (omega (arith, lt)) c.least-first.ensures.first c.least-first.ensures.second in
    let names = subst (NamesAct b (place_of q)) c.in-Some.is c.act_of.ensures in
    so c.ran_found.result c.ran_found.ensures.serial
    (λ f is fine. covered_here b c.args.turns (place_of q) c.in-Some.act names (plain_trace c.part_of-since.result.now) (part_of c.args.from at trace) part f.serial (is fine))
