use Rattle.std.proofs.Common.{◌≡◌, drop}
use Rattle.txs_world_book.specs.Book.{are_sends}
use Rattle.txs_world_book.proofs.named.are_sends.Given as goal

abbrev pub invariant-loop-action : goal.invariant-loop-action
invariant-loop-action l = are_sends l.cells (drop l.action-index l.sends) ≡ are_sends l.cells l.sends
