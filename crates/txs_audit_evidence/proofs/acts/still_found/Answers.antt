use Rattle.std.proofs.Common.{◌≡◌, ◌≤◌, ◌∙◌, ap, arith, length, refl, sym}
use Rattle.std.specs.Prelude.{option_copied}
use Rattle.txs_value_data.specs.Limits.{most_events}
use Rattle.txs_world.specs.Store.{next_action}
use Rattle.txs_world_book.specs.Served.{cells_of}
use Rattle.txs_tree_meaning.specs.View.{program_of}
use Rattle.txs_theorem_audit.proofs.Findings.{off_fine}
use Rattle.txs_audit_book.specs.Tests.{store_test}
use Rattle.txs_audit_order.specs.Named.{plain_trace}
use Rattle.txs_audit_evidence.proofs.Acting.{last_state}
use Rattle.txs_audit_evidence.proofs.Bookwise.{legal_few}
use Rattle.txs_audit_evidence.proofs.ActionFound.{none_still, sent_covered, sent_still, unsent_still}
use Rattle.txs_audit_evidence.proofs.ThreadFound.{so}
use Rattle.txs_audit_evidence.proofs.acts.still_found.Goals as goal

pub overflow_cast-events : goal.overflow_cast-events
unfolding most_events
overflow_cast-events c =
    let b = c.args.books.now in
    let few : length b.report.book ≤ 1000000 = legal_few (store_test (cells_of b.program.cells) (length b.program.threads)) b.report.book c.are_legal.ensures.store in
    let size = c.report.result.now.book.ok.0 in
    let same : length c.report.result.now.book.items ≡ length b.report.book = ap (λ x. length x.book) c.report.ensures in
    omega (arith, few, size, same, c.len-events.ensures)

pub returns-in_default : goal.returns-in_default
returns-in_default c =
    let b = c.args.books.now in
    let p = program_of b.program in
    let r = b.report in
    let n = c.args.turns in
    let g = c.args.agent in
    let since = plain_trace c.args.since.now in
    let next = next_action (cells_of b.program.cells) r.book g in
    let its = c.next_action.ensures g refl in
    record {
      finding = c.off.ensures ∙ none_still p r n c.args.full c.args.stretch.actor c.args.stretch.first c.args.stretch.index g since c.args.out.now next (sym (ap option_copied c.in_default.is) ∙ its);
      serial = λ fine. off_fine c.args.stretch.actor c.args.stretch.first (sym c.off.ensures ∙ fine);
    }

pub returns-then-not-is_sent : goal.returns-then-not-is_sent
returns-then-not-is_sent c =
    let b = c.args.books.now in
    let p = program_of b.program in
    let r = b.report in
    let n = c.args.turns in
    let g = c.args.agent in
    let since = plain_trace c.args.since.now in
    let next = next_action (cells_of b.program.cells) r.book g in
    let its = c.next_action.ensures g refl in
    record {
      finding = c.off-then-not-is_sent.ensures ∙ unsent_still p r n c.args.full c.args.stretch.actor c.args.stretch.first c.args.stretch.index g since c.args.out.now next c.in-Some.action.now (sym (ap option_copied c.in-Some.is) ∙ its) (sym c.is_sent.ensures ∙ c.if-not-is_sent.true);
      serial = λ fine. off_fine c.args.stretch.actor c.args.stretch.first (sym c.off-then-not-is_sent.ensures ∙ fine);
    }

pub judged-requires-clause-sent : goal.judged-requires-clause-sent
judged-requires-clause-sent c = sym c.is_sent.ensures ∙ c.if-not-is_sent.false

pub returns-clause-finding : goal.returns-clause-finding
returns-clause-finding c =
    let b = c.args.books.now in
    let p = program_of b.program in
    let r = b.report in
    let n = c.args.turns in
    let g = c.args.agent in
    let since = plain_trace c.args.since.now in
    let next = next_action (cells_of b.program.cells) r.book g in
    let its = c.next_action.ensures g refl in
    let size = c.report.result.now.book.ok.0 in
    let same : length c.report.result.now.book.items ≡ length r.book = ap (λ x. length x.book) c.report.ensures in
    let all : c.len-events.result ≡ length r.book = omega (arith, size, same, c.len-events.ensures) in
    let state = last_state b g c.requires.there c.len-events.result all (option_copied c.value_at.result) c.value_at.ensures in
    so c.judged.result c.judged.ensures.finding
    (λ f is. is ∙ sent_still p r n c.args.full c.args.stretch.actor c.args.stretch.first c.args.stretch.index g since c.args.out.now next c.in-Some.action.now (sym (ap option_copied c.in-Some.is) ∙ its) c.in-Some-value_at.state.now (sym (ap option_copied c.in-Some-value_at.is) ∙ state) (sym c.is_sent.ensures ∙ c.if-not-is_sent.false))

pub returns-clause-serial : goal.returns-clause-serial
returns-clause-serial c =
    let b = c.args.books.now in
    let p = program_of b.program in
    let r = b.report in
    let n = c.args.turns in
    let g = c.args.agent in
    let since = plain_trace c.args.since.now in
    let next = next_action (cells_of b.program.cells) r.book g in
    let its = c.next_action.ensures g refl in
    let size = c.report.result.now.book.ok.0 in
    let same : length c.report.result.now.book.items ≡ length r.book = ap (λ x. length x.book) c.report.ensures in
    let all : c.len-events.result ≡ length r.book = omega (arith, size, same, c.len-events.ensures) in
    let state = last_state b g c.requires.there c.len-events.result all (option_copied c.value_at.result) c.value_at.ensures in
    so c.judged.result c.judged.ensures.serial
    (λ f is fine. is fine ∙ sent_covered p r n r.book g since next c.in-Some.action.now (sym (ap option_copied c.in-Some.is) ∙ its) c.in-Some-value_at.state.now (sym (ap option_copied c.in-Some-value_at.is) ∙ state))
