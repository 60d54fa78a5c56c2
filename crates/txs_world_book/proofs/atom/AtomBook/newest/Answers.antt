use Rattle.std.proofs.Common.{rules}
use Rattle.txs_world_book.proofs.atom.AtomBook.newest.Goals as goal

pub returns-in-Some : goal.returns-in-Some
returns-in-Some c = search rules
