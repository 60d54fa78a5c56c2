use Rattle.std.proofs.Common.{◌∙◌, ap, sym, take}
use Rattle.std.specs.Prelude.{option_copied}
use Rattle.txs_world.specs.Store.{next_action}
use Rattle.txs_world_book.specs.Served.{cells_of}
use Rattle.txs_tree_meaning.specs.View.{program_of}
use Rattle.txs_theorem_audit.proofs.Findings.{off_fine}
use Rattle.txs_audit_order.specs.Named.{plain_trace}
use Rattle.txs_audit_evidence.proofs.ActionFound.{none_found, sent_covered, sent_found, unsent_found}
use Rattle.txs_audit_evidence.proofs.ThreadFound.{so}
use Rattle.txs_audit_evidence.proofs.acts.ran_with.Goals as goal

pub returns-in_default : goal.returns-in_default
returns-in_default c =
    let b = c.args.books.now in
    let p = program_of b.program in
    let r = b.report in
    let n = c.args.turns in
    let act = c.args.act in
    let done = take act.at r.book in
    let since = plain_trace c.args.since.now in
    let next = next_action (cells_of b.program.cells) done act.agent in
    let its = c.action_of.ensures in
    record {
      finding = c.off.ensures ∙ none_found p r n c.args.stretch.actor c.args.stretch.first c.args.stretch.index done act.agent since act.new.now act.sends.now next (sym (ap option_copied c.in_default.is) ∙ its);
      serial = λ fine. off_fine c.args.stretch.actor c.args.stretch.index (sym c.off.ensures ∙ fine);
    }

pub returns-then-not-is_sent : goal.returns-then-not-is_sent
returns-then-not-is_sent c =
    let b = c.args.books.now in
    let p = program_of b.program in
    let r = b.report in
    let n = c.args.turns in
    let act = c.args.act in
    let done = take act.at r.book in
    let since = plain_trace c.args.since.now in
    let next = next_action (cells_of b.program.cells) done act.agent in
    let its = c.action_of.ensures in
    record {
      finding = c.off-then-not-is_sent.ensures ∙ unsent_found p r n c.args.stretch.actor c.args.stretch.first c.args.stretch.index done act.agent since act.new.now act.sends.now next c.in-Some.action.now (sym (ap option_copied c.in-Some.is) ∙ its) (sym c.is_sent.ensures ∙ c.if-not-is_sent.true);
      serial = λ fine. off_fine c.args.stretch.actor c.args.stretch.index (sym c.off-then-not-is_sent.ensures ∙ fine);
    }

pub judged-requires-clause-sent : goal.judged-requires-clause-sent
judged-requires-clause-sent c = sym c.is_sent.ensures ∙ c.if-not-is_sent.false

pub returns-clause-finding : goal.returns-clause-finding
returns-clause-finding c =
    let b = c.args.books.now in
    let p = program_of b.program in
    let r = b.report in
    let n = c.args.turns in
    let act = c.args.act in
    let done = take act.at r.book in
    let since = plain_trace c.args.since.now in
    let next = next_action (cells_of b.program.cells) done act.agent in
    let its = c.action_of.ensures in
    let state = c.state_of.ensures in
    so c.judged.result c.judged.ensures.finding
    (λ f is. is ∙ sent_found p r n c.args.stretch.actor c.args.stretch.first c.args.stretch.index done act.agent since act.new.now act.sends.now next c.in-Some.action.now (sym (ap option_copied c.in-Some.is) ∙ its) c.in-Some-state_of.state.now (sym (ap option_copied c.in-Some-state_of.is) ∙ state) (sym c.is_sent.ensures ∙ c.if-not-is_sent.false))

pub returns-clause-serial : goal.returns-clause-serial
returns-clause-serial c =
    let b = c.args.books.now in
    let p = program_of b.program in
    let r = b.report in
    let n = c.args.turns in
    let act = c.args.act in
    let done = take act.at r.book in
    let since = plain_trace c.args.since.now in
    let next = next_action (cells_of b.program.cells) done act.agent in
    let its = c.action_of.ensures in
    let state = c.state_of.ensures in
    so c.judged.result c.judged.ensures.serial
    (λ f is fine. is fine ∙ sent_covered p r n done act.agent since next c.in-Some.action.now (sym (ap option_copied c.in-Some.is) ∙ its) c.in-Some-state_of.state.now (sym (ap option_copied c.in-Some-state_of.is) ∙ state))
