use Rattle.std.proofs.Common.{subst}
use Rattle.txs_audit_evidence.specs.Evidence.{AreLegal}
use Rattle.txs_audit_evidence.proofs.books.Books.are_legal.Goals as goal

pub returns : goal.returns
returns c = subst AreLegal c.self.view_is c.self.invariant.legal
