use Rattle.std.proofs.Common.{rules, ◌≡◌, ◌≤◌, ◌∙◌, ◌-◌, [], ap, arith, drop, length, sym}
use Rattle.std.proofs.lemmas.List.{length-map}
use Rattle.txs_world.specs.Store.{next_action}
use Rattle.txs_world_book.specs.Served.{cells_of}
use Rattle.txs_tree_meaning.specs.View.{program_of}
use Rattle.txs_theorem_audit.specs.Audited.{place_of, ran_as}
use Rattle.txs_theorem_audit.specs.Pieces.{acts_print}
use Rattle.txs_theorem_audit.specs.Verdict.{begins, is_full_stop}
use Rattle.txs_audit_order.specs.Named.{plain_trace}
use Rattle.txs_audit_evidence.proofs.Printing.{drop_least, map_drop, no_later}
use Rattle.txs_audit_evidence.proofs.ThreadFound.{so}
use Rattle.txs_audit_event.specs.Lines.{printed_what}
use Rattle.txs_audit_difference.specs.Pieces.{at_event}
use Rattle.txs_audit_difference.proofs.Piecing.{begun, not_begun, not_stopped, still_so}
use Rattle.txs_audit_difference.proofs.pieces.end_of.Goals as goal

pub returns-then-not-is_stopped : goal.returns-then-not-is_stopped
returns-then-not-is_stopped c =
    let b = c.args.books.now in
    let p = program_of b.program in
    let ran = ran_as c.args.ran.now in
    let spot = c.args.spot in
    let outs = acts_print p b.report c.args.turns [] ran.trace in
    c.at_event.ensures ∙ not_stopped p b.report c.args.turns spot.actor spot.event c.args.agent (drop c.args.from ran.trace) outs ran (sym c.is_stopped.ensures ∙ c.if-not-is_stopped.true)

pub returns-then-not-begins : goal.returns-then-not-begins
returns-then-not-begins c =
    let b = c.args.books.now in
    let p = program_of b.program in
    let ran = ran_as c.args.ran.now in
    let spot = c.args.spot in
    let outs = acts_print p b.report c.args.turns [] ran.trace in
    let acted : c.as_slice.result.now ≡ outs = c.as_slice.ensures.value ∙ c.in_ok-outs.ensures ∙ ap (λ l. acts_print p b.report c.args.turns [] (plain_trace l)) c.as_slice-trace.ensures.value in
    let out : c.as_slice-2.result.now ≡ ran.printed = c.as_slice-2.ensures.value in
    let begun = sym (ap (begins c.as_slice.result.now) out ∙ ap (λ l. begins l ran.printed) acted) ∙ sym c.begins.ensures ∙ c.if-not-begins.true in
    c.at_event-then-not-begins.ensures ∙ ap (λ w. at_event w spot.actor spot.event) (c.in_ok-what.ensures ∙ ap (printed_what c.as_slice.result.now) out ∙ ap (λ l. printed_what l ran.printed) acted)
    ∙ not_begun p b.report c.args.turns spot.actor spot.event c.args.agent (drop c.args.from ran.trace) outs ran (sym c.is_stopped.ensures ∙ c.if-not-is_stopped.false) begun

pub split_at-requires : goal.split_at-requires
split_at-requires c = let le = no_later c.args.from c.least.result (length c.as_slice-trace.result.now) c.least.ensures.first c.least.ensures.second in omega (arith, le)

pub returns : goal.returns
returns c =
    let b = c.args.books.now in
    let p = program_of b.program in
    let n = c.args.turns in
    let ran = ran_as c.args.ran.now in
    let spot = c.args.spot in
    let trace = c.as_slice-trace.result.now in
    let here = c.split_at.result.1.now in
    let outs = acts_print p b.report n [] ran.trace in
    let since = drop c.args.from ran.trace in
    let same = ap plain_trace c.as_slice-trace.ensures.value in
    let acted : c.as_slice.result.now ≡ outs = c.as_slice.ensures.value ∙ c.in_ok-outs.ensures ∙ ap (acts_print p b.report n []) same in
    let out : c.as_slice-2.result.now ≡ ran.printed = c.as_slice-2.ensures.value in
    let begin = sym (ap (begins c.as_slice.result.now) out ∙ ap (λ l. begins l ran.printed) acted) ∙ sym c.begins.ensures ∙ c.if-not-begins.false in
    let long = length-map trace place_of in
    let first : c.args.from ≤ length (plain_trace trace) → c.least.result ≡ c.args.from = λ le. c.least.ensures.first (omega (arith, le, long)) in
    let second : length (plain_trace trace) ≤ c.args.from → c.least.result ≡ length (plain_trace trace) = λ le. c.least.ensures.second (omega (arith, le, long)) ∙ sym long in
    let part = ap plain_trace c.split_at.ensures.back ∙ map_drop c.least.result trace ∙ drop_least (plain_trace trace) c.args.from c.least.result first second ∙ ap (drop c.args.from) same in
    let few : c.saturating_sub-first.result ≡ length trace - length here = search rules in
    let index : c.saturating_sub-index.result ≡ spot.event - c.saturating_sub-first.result = search rules in
    let at = index ∙ ap (λ m. spot.event - m) (few ∙ ap (λ m. m - length here) (sym long ∙ ap length same) ∙ ap (λ m. length ran.trace - m) (sym (length-map here place_of) ∙ ap length part)) in
    so c.still_what.result c.still_what.ensures
    (λ d is. is ∙ still_so p b.report n c.is_full_stop.result (is_full_stop ran.outcome) spot.actor spot.event c.saturating_sub-index.result (spot.event - (length ran.trace - length since)) c.args.agent (plain_trace here) since
    c.as_slice.result.now outs c.as_slice-2.result.now ran.printed (next_action (cells_of p.cells) b.report.book c.args.agent) c.is_full_stop.ensures at part acted out
    ∙ begun p b.report n spot.actor spot.event c.args.agent since outs ran (sym c.is_stopped.ensures ∙ c.if-not-is_stopped.false) begin)
