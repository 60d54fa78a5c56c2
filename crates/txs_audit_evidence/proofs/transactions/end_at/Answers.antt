use Rattle.std.proofs.Common.{ap, ◌∙◌}
use Rattle.txs_audit_evidence.specs.Transacted.{end_in}
use Rattle.txs_audit_evidence.proofs.Judging.{home_of}
use Rattle.txs_audit_evidence.proofs.transactions.end_at.Goals as goal

pub returns-in-Some-clause-home : goal.returns-in-Some-clause-home
returns-in-Some-clause-home c = home_of c.args.books.now c.are_legal.ensures c.args.place.book c.args.place.at c.end_of.result (c.end_of.ensures ∙ ap end_in c.in-Some.ensures)
