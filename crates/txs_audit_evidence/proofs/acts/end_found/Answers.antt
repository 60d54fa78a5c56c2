use Rattle.std.proofs.Common.{◌∙◌, ap, arith, length, List, sym, take}
use Rattle.std.proofs.lemmas.List.{length-map}
use Rattle.txs_world_book.specs.Served.{cells_of}
use Rattle.txs_world_protocol.specs.SeenEvent.{SeenEvent}
use Rattle.txs_tree_meaning.specs.View.{program_of}
use Rattle.txs_theorem_audit.specs.Audited.{books_of, place_of}
use Rattle.txs_theorem_audit.specs.Verdict.{act_ends, rest_ends}
use Rattle.txs_theorem_audit.specs.Evaluated.{means_on}
use Rattle.txs_audit_evidence.specs.Acted.{end_by}
use Rattle.txs_audit_order.specs.Named.{plain_trace}
use Rattle.txs_audit_evidence.proofs.ActionFound.{seen_few}
use Rattle.txs_audit_evidence.proofs.ThreadFound.{many_seen, so}
use Rattle.txs_audit_evidence.proofs.acts.end_found.Goals as goal

pub over_ends-requires-clause-fits : goal.over_ends-requires-clause-fits
over_ends-requires-clause-fits c =
    let b = c.args.books.now in
    let all = many_seen c.args.seen.now in
    let same = ap (λ (es : List SeenEvent). length es) c.requires.events in
    let few = seen_few b.program.cells (books_of b.report) (plain_trace c.args.since.now) in
    let long = length-map c.args.since.now place_of in
    omega (arith, all, same, few, long, c.requires.fits)

pub rest_ends-requires-clause-fits : goal.rest_ends-requires-clause-fits
rest_ends-requires-clause-fits c =
    let b = c.args.books.now in
    let all = many_seen c.args.seen.now in
    let same = ap (λ (es : List SeenEvent). length es) c.requires.events in
    let few = seen_few b.program.cells (books_of b.report) (plain_trace c.args.since.now) in
    let long = length-map c.args.since.now place_of in
    omega (arith, all, same, few, long, c.requires.fits)

pub returns-in-Act : goal.returns-in-Act
returns-in-Act c =
    let b = c.args.books.now in
    let p = program_of b.program in
    let r = b.report in
    let n = c.args.turns in
    let s = c.args.stretch in
    let x = c.args.action.now in
    let v = c.args.state.now in
    let act = c.in-Act.act in
    let m = means_on p n x v in
    so c.over_ends.result c.over_ends.ensures
    (λ f is.
    is ∙ ap (λ es. act_ends (cells_of p.cells) (take act.at r.book) x.span s.actor s.first s.index m es act.new.now act.sends.now (m es)) c.requires.events
    ∙ sym (ap (end_by p r n s.actor s.first s.index x v (plain_trace c.args.since.now)) c.in-Act.is))

pub returns-in-Waits : goal.returns-in-Waits
returns-in-Waits c =
    let b = c.args.books.now in
    let p = program_of b.program in
    let r = b.report in
    let n = c.args.turns in
    let s = c.args.stretch in
    let x = c.args.action.now in
    let v = c.args.state.now in
    let m = means_on p n x v in
    so c.rest_ends.result c.rest_ends.ensures
    (λ f is.
    is ∙ ap (λ es. rest_ends (books_of r) c.in-Waits.full s.actor s.first s.index m es c.in-Waits.out.now (m es)) c.requires.events
    ∙ sym (ap (end_by p r n s.actor s.first s.index x v (plain_trace c.args.since.now)) c.in-Waits.is))
