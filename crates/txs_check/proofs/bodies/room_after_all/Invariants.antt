use Rattle.std.proofs.Common.{◌≡◌, drop}
use Rattle.txs_tree_meaning.specs.View.{functions_of, threads_of}
use Rattle.txs_check.specs.Refused.{in_order, room}
use Rattle.txs_check.proofs.bodies.room_after_all.Given as goal

abbrev pub invariant-loop-function : goal.invariant-loop-function
invariant-loop-function l = room l.left (in_order (functions_of (drop l.function-index l.functions)) (threads_of l.rest)) ≡ room l.fn.left (in_order (functions_of l.functions) (threads_of l.threads))
