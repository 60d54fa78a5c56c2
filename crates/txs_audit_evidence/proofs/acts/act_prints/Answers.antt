use Rattle.std.proofs.Common.{◌∙◌, ap, sym, take}
use Rattle.std.specs.Prelude.{option_copied}
use Rattle.txs_world.specs.Store.{next_action}
use Rattle.txs_world_book.specs.Served.{cells_of}
use Rattle.txs_tree_meaning.specs.View.{program_of}
use Rattle.txs_audit_order.specs.Named.{plain_trace}
use Rattle.txs_audit_evidence.proofs.ActionFound.{none_prints, sent_prints, unsent_prints}
use Rattle.txs_audit_evidence.proofs.ThreadFound.{so}
use Rattle.txs_audit_evidence.proofs.acts.act_prints.Goals as goal

pub returns-in_default : goal.returns-in_default
returns-in_default c =
    let b = c.args.books.now in
    let p = program_of b.program in
    let r = b.report in
    let n = c.args.turns in
    let act = c.args.act in
    let done = take act.at r.book in
    let since = plain_trace c.args.since.now in
    let next = next_action (cells_of b.program.cells) done act.agent in
    let its = c.action_of.ensures in
    c.from_vec.ensures ∙ c.new.ensures.items ∙ none_prints p r n done act.agent since next (sym (ap option_copied c.in_default.is) ∙ its)

pub returns-then-not-is_sent : goal.returns-then-not-is_sent
returns-then-not-is_sent c =
    let b = c.args.books.now in
    let p = program_of b.program in
    let r = b.report in
    let n = c.args.turns in
    let act = c.args.act in
    let done = take act.at r.book in
    let since = plain_trace c.args.since.now in
    let next = next_action (cells_of b.program.cells) done act.agent in
    let its = c.action_of.ensures in
    c.from_vec-then-not-is_sent.ensures ∙ c.new-then-not-is_sent.ensures.items ∙ unsent_prints p r n done act.agent since next c.in-Some.action.now (sym (ap option_copied c.in-Some.is) ∙ its) (sym c.is_sent.ensures ∙ c.if-not-is_sent.true)

pub action_prints-requires : goal.action_prints-requires
action_prints-requires c = sym c.is_sent.ensures ∙ c.if-not-is_sent.false

pub returns : goal.returns
returns c =
    let b = c.args.books.now in
    let p = program_of b.program in
    let r = b.report in
    let n = c.args.turns in
    let act = c.args.act in
    let done = take act.at r.book in
    let since = plain_trace c.args.since.now in
    let next = next_action (cells_of b.program.cells) done act.agent in
    let its = c.action_of.ensures in
    let state = c.state_of.ensures in
    so c.action_prints.result c.action_prints.ensures
    (λ o is. is ∙ sent_prints p r n done act.agent since next c.in-Some.action.now (sym (ap option_copied c.in-Some.is) ∙ its) c.in-Some-state_of.state.now (sym (ap option_copied c.in-Some-state_of.is) ∙ state) (sym c.is_sent.ensures ∙ c.if-not-is_sent.false))
