use Rattle.std.proofs.Common.{◌∙◌, ap, subst}
use Rattle.txs_audit_book.specs.Replayed.{PlainReplay, WorldsAre}
use Rattle.txs_audit_evidence.specs.Evidence.{replay_in}
use Rattle.txs_audit_evidence.proofs.books.Books.histories.Goals as goal

pub returns : goal.returns
returns c = subst (λ (q : PlainReplay). WorldsAre q c.histories.result.now) (c.self.invariant.replayed ∙ ap replay_in c.self.view_is) c.histories.ensures
