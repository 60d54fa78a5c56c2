use Rattle.std.proofs.Common.{ℕ, refl, subst}
use Rattle.txs_tree_meaning.specs.Sound.{Sound}
use Rattle.txs_tree_meaning.specs.View.{Parts, program_of}
use Rattle.txs_theorem_audit.specs.Pieces.{OfThread, piece_finding, piece_serial}
use Rattle.txs_audit_book.specs.Judged.{as_found}
use Rattle.txs_audit_evidence.proofs.Bounded.{bounded_finding, bounded_serial, piece_stays}
use Rattle.txs_audit_evidence.proofs.threads.thread_within.Goals as goal

pub returns-then-not-is_short-clause-finding : goal.returns-then-not-is_short-clause-finding
returns-then-not-is_short-clause-finding c =
    let b = c.args.books.now in
    let p = program_of b.program in
    let a = c.args.thread in
    let sound = subst (λ (q : Parts). Sound (program_of q)) c.program.ensures c.is_sound.ensures in
    bounded_finding (λ (n : ℕ). piece_finding p b.report n (OfThread a)) (λ (n : ℕ). piece_serial p b.report n (OfThread a)) (piece_stays c.thread_stays.ensures p b.report sound a)
    c.loop-found.bound c.args.turns c.loop-found.invariant (as_found c.in_ok-found.found.finding) (c.if-not-is_short.ensures.enough refl) c.in_ok-found.ensures.finding

pub returns-then-not-is_short-clause-serial : goal.returns-then-not-is_short-clause-serial
returns-then-not-is_short-clause-serial c =
    let b = c.args.books.now in
    let p = program_of b.program in
    let a = c.args.thread in
    let sound = subst (λ (q : Parts). Sound (program_of q)) c.program.ensures c.is_sound.ensures in
    bounded_serial (λ (n : ℕ). piece_finding p b.report n (OfThread a)) (λ (n : ℕ). piece_serial p b.report n (OfThread a)) (piece_stays c.thread_stays.ensures p b.report sound a)
    c.loop-found.bound c.args.turns c.loop-found.invariant (as_found c.in_ok-found.found.finding) (c.if-not-is_short.ensures.enough refl) c.in_ok-found.ensures.finding c.in_ok-found.found.serial c.in_ok-found.ensures.serial
