use Rattle.std.proofs.Common.{[]}
use Rattle.txs_world_book.proofs.Growth.{history_more}
use Rattle.txs_world_book.proofs.law.history_grows.Goals as goal

pub returns : goal.returns
returns c = λ w a book e. history_more w a [] book e
