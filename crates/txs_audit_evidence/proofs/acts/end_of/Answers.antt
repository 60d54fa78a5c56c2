use Rattle.std.proofs.Common.{◌≡◌, ◌+◌, ◌∙◌, [], Some, ap, arith, drop, length, sym}
use Rattle.std.proofs.lemmas.List.{length-map}
use Rattle.txs_world.specs.Store.{next_action}
use Rattle.txs_world_book.specs.Served.{cells_of}
use Rattle.txs_tree_meaning.specs.View.{program_of}
use Rattle.txs_theorem_audit.specs.Audited.{place_of, ran_as}
use Rattle.txs_theorem_audit.specs.Pieces.{acts_print, end_finding, end_serial}
use Rattle.txs_theorem_audit.specs.Verdict.{action_covered, agent_end}
use Rattle.txs_audit_book.proofs.Numbering.{agent_inside}
use Rattle.txs_audit_evidence.proofs.Printing.{drop_least, no_later, there_below}
use Rattle.txs_audit_evidence.proofs.ThreadFound.{so}
use Rattle.txs_audit_evidence.proofs.acts.end_of.Goals as goal

pub actor_of-actor-requires : goal.actor_of-actor-requires
actor_of-actor-requires c = there_below c.args.books.now.report.agents c.args.agent (ran_as c.args.ran.now) c.requires

pub ended-requires-clause-there : goal.ended-requires-clause-there
ended-requires-clause-there c = agent_inside c.args.books.now.program.cells c.args.agent c.in-Some.cell (sym c.in_ok-cell.ensures ∙ c.in-Some.is)

pub ended-requires-clause-within : goal.ended-requires-clause-within
ended-requires-clause-within c = (let le = no_later c.args.from c.least-start.result c.len.result c.least-start.ensures.first c.least-start.ensures.second in let long = c.len.ensures in omega (arith, le, long))

pub returns-in-Some-clause-finding : goal.returns-in-Some-clause-finding
returns-in-Some-clause-finding c =
    let b = c.args.books.now in
    let p = program_of b.program in
    let r = b.report in
    let n = c.args.turns in
    let ran = ran_as c.args.ran.now in
    let g = c.in-Some.cell in
    let cell = sym c.in_ok-cell.ensures ∙ c.in-Some.is in
    let long = length-map c.args.ran.now.trace.items place_of in
    let size = c.args.ran.now.trace.ok.0 in
    let many : c.len.result ≡ length c.args.ran.now.trace.items = omega (arith, size, c.len.ensures) in
    let left = drop_least ran.trace c.args.from c.least-start.result (λ le. c.least-start.ensures.first (omega (arith, le, long, many))) (λ le. c.least-start.ensures.second (omega (arith, le, long, many)) ∙ many ∙ sym long) in
    so c.ended.result c.ended.ensures.finding
    (λ f is.
    is ∙ ap (λ a. agent_end p r n a g (drop c.least-start.result ran.trace) (acts_print p r n [] ran.trace) ran) c.actor_of-actor.ensures
    ∙ ap (λ l. agent_end p r n (length p.threads + c.args.agent) g l (acts_print p r n [] ran.trace) ran) left
    ∙ sym (ap (λ o. end_finding p r n (length p.threads + c.args.agent) c.args.from o (Some ran)) cell))

pub returns-in-Some-clause-serial : goal.returns-in-Some-clause-serial
returns-in-Some-clause-serial c =
    let b = c.args.books.now in
    let p = program_of b.program in
    let r = b.report in
    let n = c.args.turns in
    let ran = ran_as c.args.ran.now in
    let g = c.in-Some.cell in
    let cell = sym c.in_ok-cell.ensures ∙ c.in-Some.is in
    let long = length-map c.args.ran.now.trace.items place_of in
    let size = c.args.ran.now.trace.ok.0 in
    let many : c.len.result ≡ length c.args.ran.now.trace.items = omega (arith, size, c.len.ensures) in
    let left = drop_least ran.trace c.args.from c.least-start.result (λ le. c.least-start.ensures.first (omega (arith, le, long, many))) (λ le. c.least-start.ensures.second (omega (arith, le, long, many)) ∙ many ∙ sym long) in
    so c.ended.result c.ended.ensures.serial
    (λ f is fine. is fine ∙ ap (λ l. action_covered p r n r.book g l (next_action (cells_of b.program.cells) r.book g)) left ∙ sym (ap (λ o. end_serial p r n c.args.from o (Some ran)) cell))

pub returns-in-None : goal.returns-in-None
returns-in-None c =
    let b = c.args.books.now in
    let p = program_of b.program in
    let r = b.report in
    let n = c.args.turns in
    let ran = ran_as c.args.ran.now in
    let cell = sym c.in_ok-cell.ensures ∙ c.in-None.is in
    record {
      finding = c.fine.ensures.finding ∙ sym (ap (λ o. end_finding p r n (length p.threads + c.args.agent) c.args.from o (Some ran)) cell);
      serial = λ nothing. c.fine.ensures.serial ∙ sym (ap (λ o. end_serial p r n c.args.from o (Some ran)) cell);
    }
