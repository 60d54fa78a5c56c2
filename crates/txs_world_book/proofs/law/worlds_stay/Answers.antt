use Rattle.txs_world_book.proofs.Growth.{after_front}
use Rattle.txs_world_book.proofs.law.worlds_stay.Goals as goal

pub returns : goal.returns
returns c = after_front
