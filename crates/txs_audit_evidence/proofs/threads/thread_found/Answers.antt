use Rattle.txs_audit_evidence.proofs.ThreadFound.{entry_there}
use Rattle.txs_audit_evidence.proofs.threads.thread_found.Goals as goal

pub thread_within-requires-clause-here : goal.thread_within-requires-clause-here
thread_within-requires-clause-here c =
    entry_there c.report.result.now c.args.books.now.report c.report.ensures c.deref.result.now c.deref.ensures.value c.from.result c.args.thread c.from.ensures c.in-Some.ran.now c.in-Some.ensures.lookup.0 c.in-Some.ensures.lookup.1
