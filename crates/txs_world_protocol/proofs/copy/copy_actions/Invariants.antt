use Rattle.std.proofs.Common.{◌≡◌, take, length, vec_capacity}
use Rattle.txs_world_protocol.proofs.copy.copy_actions.Given as goal

abbrev pub invariant-loop-action : goal.invariant-loop-action
invariant-loop-action l = record { items : l.copies.items ≡ take l.action-index l.actions; capacity : vec_capacity l.copies ≡ length l.actions }
