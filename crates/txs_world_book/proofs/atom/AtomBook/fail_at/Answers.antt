use Rattle.std.proofs.Common.{rules}
use Rattle.txs_world_book.proofs.atom.AtomBook.fail_at.Goals as goal

pub returns-in-Ok : goal.returns-in-Ok
returns-in-Ok c = search rules
