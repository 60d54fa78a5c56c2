use Rattle.txs_world_book.proofs.Older.{after_unwritten}
use Rattle.txs_world_book.proofs.law.unwritten_stays.Goals as goal

pub returns : goal.returns
returns c = after_unwritten
