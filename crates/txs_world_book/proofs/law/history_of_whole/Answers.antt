use Rattle.std.proofs.Common.{[]}
use Rattle.txs_world_book.proofs.Older.{whole_history}
use Rattle.txs_world_book.proofs.law.history_of_whole.Goals as goal

pub returns : goal.returns
returns c = λ cells threads w a book h. whole_history cells w a [] book h.each
