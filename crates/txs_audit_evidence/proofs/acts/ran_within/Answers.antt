use Rattle.std.proofs.Common.{ℕ, refl, subst, take}
use Rattle.txs_world.specs.Store.{next_action}
use Rattle.txs_world_book.specs.Served.{cells_of}
use Rattle.txs_tree_meaning.specs.Sound.{Sound}
use Rattle.txs_tree_meaning.specs.View.{Parts, program_of}
use Rattle.txs_theorem_audit.specs.Verdict.{action_covered, action_found}
use Rattle.txs_audit_book.specs.Judged.{as_found}
use Rattle.txs_audit_order.specs.Named.{plain_trace}
use Rattle.txs_audit_evidence.proofs.Bounded.{act_stays, bounded_finding, bounded_serial}
use Rattle.txs_audit_evidence.proofs.acts.ran_within.Goals as goal

pub returns-then-not-is_short-clause-finding : goal.returns-then-not-is_short-clause-finding
returns-then-not-is_short-clause-finding c =
    let b = c.args.books.now in
    let p = program_of b.program in
    let r = b.report in
    let act = c.args.act in
    let done = take act.at r.book in
    let since = plain_trace c.args.since.now in
    let next = next_action (cells_of p.cells) done act.agent in
    let sound = subst (λ (q : Parts). Sound (program_of q)) c.program.ensures c.is_sound.ensures in
    bounded_finding (λ (n : ℕ). action_found p r n c.args.stretch.actor c.args.stretch.first c.args.stretch.index done act.agent since act.new.now act.sends.now next) (λ (n : ℕ). action_covered p r n done act.agent since next)
    (act_stays c.action_stays.ensures p r sound c.args.stretch.actor c.args.stretch.first c.args.stretch.index done act.agent since act.new.now act.sends.now next)
    c.loop-found.bound c.args.turns c.loop-found.invariant (as_found c.in_ok-found.found.finding) (c.if-not-is_short.ensures.enough refl) c.in_ok-found.ensures.finding

pub returns-then-not-is_short-clause-serial : goal.returns-then-not-is_short-clause-serial
returns-then-not-is_short-clause-serial c =
    let b = c.args.books.now in
    let p = program_of b.program in
    let r = b.report in
    let act = c.args.act in
    let done = take act.at r.book in
    let since = plain_trace c.args.since.now in
    let next = next_action (cells_of p.cells) done act.agent in
    let sound = subst (λ (q : Parts). Sound (program_of q)) c.program.ensures c.is_sound.ensures in
    bounded_serial (λ (n : ℕ). action_found p r n c.args.stretch.actor c.args.stretch.first c.args.stretch.index done act.agent since act.new.now act.sends.now next) (λ (n : ℕ). action_covered p r n done act.agent since next)
    (act_stays c.action_stays.ensures p r sound c.args.stretch.actor c.args.stretch.first c.args.stretch.index done act.agent since act.new.now act.sends.now next)
    c.loop-found.bound c.args.turns c.loop-found.invariant (as_found c.in_ok-found.found.finding) (c.if-not-is_short.ensures.enough refl) c.in_ok-found.ensures.finding c.in_ok-found.found.serial c.in_ok-found.ensures.serial
