use Rattle.std.proofs.Common.{rules}
use Rattle.txs_world_book.proofs.atom.AtomBook.events.Goals as goal

pub returns-clause-value : goal.returns-clause-value
returns-clause-value c = search rules
