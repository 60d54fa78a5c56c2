use Rattle.std.proofs.Common.{◌<◌, length, subst, sym}
use Rattle.txs_tree_eval_node.specs.Events.{seen_events}
use Rattle.txs_tree_meaning.specs.View.{Parts}
use Rattle.txs_theorem_audit.specs.Audited.{ran_as}
use Rattle.txs_audit_book.specs.Judged.{as_found}
use Rattle.txs_audit_evidence.specs.declared.transactions.Found.{Found}
use Rattle.txs_audit_evidence.proofs.ThreadFound.{finding_so, serial_so, tells_so, thread_below}
use Rattle.txs_audit_evidence.proofs.threads.thread_with.Goals as goal

pub eval_thread-requires : goal.eval_thread-requires
eval_thread-requires c =
    let b = c.args.books.now in
    let below = thread_below b.program b.report c.are_legal.ensures.fits c.args.thread (ran_as c.args.ran.now) c.requires.here in
    subst (λ (p : Parts). c.from-number.result < length p.threads) (sym c.program.ensures) (subst (λ k. k < length b.program.threads) (sym c.from-number.ensures) below)

pub judge-requires-clause-there : goal.judge-requires-clause-there
judge-requires-clause-there c = let b = c.args.books.now in thread_below b.program b.report c.are_legal.ensures.fits c.args.thread (ran_as c.args.ran.now) c.requires.here

pub returns-clause-finding : goal.returns-clause-finding
returns-clause-finding c =
    let b = c.args.books.now in
    let below = thread_below b.program b.report c.are_legal.ensures.fits c.args.thread (ran_as c.args.ran.now) c.requires.here in
    let tells = tells_so c.program.result.now b.program c.program.ensures c.from-number.result c.args.thread c.from-number.ensures c.args.bound c.in_ok-meaning.meaning (seen_events c.args.seen.now) c.in_ok-meaning.ensures in
    finding_so (λ (f : Found). as_found f.finding) b.program b.report c.args.bound c.args.thread (ran_as c.args.ran.now) c.in_ok-meaning.meaning (seen_events c.args.seen.now) c.judge.result below c.requires.here tells c.judge.ensures.finding

pub returns-clause-serial : goal.returns-clause-serial
returns-clause-serial c =
    let b = c.args.books.now in
    let below = thread_below b.program b.report c.are_legal.ensures.fits c.args.thread (ran_as c.args.ran.now) c.requires.here in
    let tells = tells_so c.program.result.now b.program c.program.ensures c.from-number.result c.args.thread c.from-number.ensures c.args.bound c.in_ok-meaning.meaning (seen_events c.args.seen.now) c.in_ok-meaning.ensures in
    serial_so (λ (f : Found). as_found f.finding) (λ (f : Found). f.serial) b.program b.report c.args.bound c.args.thread (ran_as c.args.ran.now) c.in_ok-meaning.meaning (seen_events c.args.seen.now) c.judge.result below c.requires.here tells c.judge.ensures.serial
