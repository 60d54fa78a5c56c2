use Rattle.std.proofs.Common.{◌<◌, ◌≤◌, ◌∙◌, ap, arith, length, refl, subst, sym}
use Rattle.txs_tree_meaning.specs.Sound.{Sound}
use Rattle.txs_tree_meaning.specs.View.{program_of}
use Rattle.txs_audit_difference.proofs.Walks.{few_threads, rans_many, thread_end, thread_on, thread_open, thread_so}
use Rattle.txs_audit_difference.proofs.walking.threads_told.Goals as goal

pub loop-i-init : goal.loop-i-init
loop-i-init c = refl

pub overflow_cast-i : goal.overflow_cast-i
overflow_cast-i c =
    let b = c.args.books.now in
    let r = c.report.result.now in
    let sound = subst (λ p. Sound (program_of p)) c.program.ensures c.is_sound.ensures in
    let few = few_threads b c.are_legal.ensures sound r.threads.items (ap (λ x. x.threads) c.report.ensures) in
    let size = r.threads.ok.0 in
    omega (arith, few, size, c.len-i-end.ensures, c.loop-i-test.true)

pub returns-in-Open : goal.returns-in-Open
returns-in-Open c =
    let b = c.args.books.now in
    let r = c.report.result.now in
    let size = r.threads.ok.0 in
    let many = rans_many r.threads.items b.report.threads (ap (λ x. x.threads) c.report.ensures) in
    let lt : c.loop-i.i < length b.report.threads = omega (arith, many, size, c.len-i-end.ensures, c.loop-i-test.true) in
    thread_open (program_of b.program) b.report c.args.turns b.report.threads c.loop-i.i lt (sym c.in-Open.is ∙ c.in_ok-thread_told.ensures) ∙ c.loop-i.invariant

pub returns-in-So : goal.returns-in-So
returns-in-So c =
    let b = c.args.books.now in
    let r = c.report.result.now in
    let size = r.threads.ok.0 in
    let many = rans_many r.threads.items b.report.threads (ap (λ x. x.threads) c.report.ensures) in
    let lt : c.loop-i.i < length b.report.threads = omega (arith, many, size, c.len-i-end.ensures, c.loop-i-test.true) in
    thread_so (program_of b.program) b.report c.args.turns b.report.threads c.loop-i.i c.in-So.differs lt (sym c.in-So.is ∙ c.in_ok-thread_told.ensures) ∙ c.loop-i.invariant

pub loop-i-preserved : goal.loop-i-preserved
loop-i-preserved c =
    let b = c.args.books.now in
    let r = c.report.result.now in
    let size = r.threads.ok.0 in
    let many = rans_many r.threads.items b.report.threads (ap (λ x. x.threads) c.report.ensures) in
    let lt : c.loop-i.i < length b.report.threads = omega (arith, many, size, c.len-i-end.ensures, c.loop-i-test.true) in
    thread_on (program_of b.program) b.report c.args.turns b.report.threads c.loop-i.i lt (sym c.in-Clear.is ∙ c.in_ok-thread_told.ensures) ∙ c.loop-i.invariant

pub returns : goal.returns
returns c =
    let b = c.args.books.now in
    let r = c.report.result.now in
    let size = r.threads.ok.0 in
    let many = rans_many r.threads.items b.report.threads (ap (λ x. x.threads) c.report.ensures) in
    let le : length b.report.threads ≤ c.loop-i.i = omega (arith, many, size, c.len-i-end.ensures, c.loop-i-test.false) in
    thread_end (program_of b.program) b.report c.args.turns b.report.threads c.loop-i.i le ∙ c.loop-i.invariant
