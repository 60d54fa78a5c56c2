use Rattle.std.proofs.Common.{◌≡◌, IfOk, subst}
use Rattle.txs_audit_book.proofs.Numbering.{kind_agents}
use Rattle.txs_audit_book.proofs.numbers.agents_of.Goals as goal

pub returns : goal.returns
returns c = subst (λ l. IfOk c.of_kind.result (λ found. found.items ≡ l)) (kind_agents 0 c.args.cells.now) c.of_kind.ensures
