use Rattle.std.proofs.Common.{rules}
use Rattle.txs_world_book.proofs.journal.stand_of.Goals as goal

pub returns-then-actor-stands : goal.returns-then-actor-stands
returns-then-actor-stands c = search rules
