use Rattle.std.proofs.Common.{rules}
use Rattle.txs_world_book.proofs.atom.AtomBook.lawful.Goals as goal

pub returns-then-place-events : goal.returns-then-place-events
returns-then-place-events c = search rules
