use Rattle.std.proofs.Common.{rules}
use Rattle.txs_world_book.proofs.atom.AtomBook.open_at.Goals as goal

pub returns-in-Ok : goal.returns-in-Ok
returns-in-Ok c = λ a. search rules
