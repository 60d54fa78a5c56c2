use Rattle.std.proofs.Common.{ℕ, refl, subst}
use Rattle.txs_world.specs.Store.{next_action}
use Rattle.txs_world_book.specs.Served.{cells_of}
use Rattle.txs_tree_meaning.specs.Sound.{Sound}
use Rattle.txs_tree_meaning.specs.View.{Parts, program_of}
use Rattle.txs_theorem_audit.specs.Verdict.{action_covered, rest_found}
use Rattle.txs_audit_book.specs.Judged.{as_found}
use Rattle.txs_audit_order.specs.Named.{plain_trace}
use Rattle.txs_audit_evidence.proofs.Bounded.{bounded_finding, bounded_serial, still_stays}
use Rattle.txs_audit_evidence.proofs.acts.rest_within.Goals as goal

pub returns-then-not-is_short-clause-finding : goal.returns-then-not-is_short-clause-finding
returns-then-not-is_short-clause-finding c =
    let p = program_of c.args.books.now.program in
    let r = c.args.books.now.report in
    let g = c.args.agent in
    let since = plain_trace c.args.since.now in
    let sound = subst (λ (q : Parts). Sound (program_of q)) c.program.ensures c.is_sound.ensures in
    bounded_finding (λ (n : ℕ). rest_found p r n c.args.full c.args.stretch.actor c.args.stretch.first c.args.stretch.index g since c.args.out.now) (λ (n : ℕ). action_covered p r n r.book g since (next_action (cells_of p.cells) r.book g))
    (still_stays c.rest_stays.ensures p r sound c.args.full c.args.stretch.actor c.args.stretch.first c.args.stretch.index g since c.args.out.now)
    c.loop-found.bound c.args.turns c.loop-found.invariant (as_found c.in_ok-found.found.finding) (c.if-not-is_short.ensures.enough refl) c.in_ok-found.ensures.finding

pub returns-then-not-is_short-clause-serial : goal.returns-then-not-is_short-clause-serial
returns-then-not-is_short-clause-serial c =
    let p = program_of c.args.books.now.program in
    let r = c.args.books.now.report in
    let g = c.args.agent in
    let since = plain_trace c.args.since.now in
    let sound = subst (λ (q : Parts). Sound (program_of q)) c.program.ensures c.is_sound.ensures in
    bounded_serial (λ (n : ℕ). rest_found p r n c.args.full c.args.stretch.actor c.args.stretch.first c.args.stretch.index g since c.args.out.now) (λ (n : ℕ). action_covered p r n r.book g since (next_action (cells_of p.cells) r.book g))
    (still_stays c.rest_stays.ensures p r sound c.args.full c.args.stretch.actor c.args.stretch.first c.args.stretch.index g since c.args.out.now)
    c.loop-found.bound c.args.turns c.loop-found.invariant (as_found c.in_ok-found.found.finding) (c.if-not-is_short.ensures.enough refl) c.in_ok-found.ensures.finding c.in_ok-found.found.serial c.in_ok-found.ensures.serial
