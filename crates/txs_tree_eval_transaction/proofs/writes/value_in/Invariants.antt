use Rattle.std.proofs.Common.{◌≡◌, drop}
use Rattle.txs_world_protocol.specs.Ask.{buffered}
use Rattle.txs_tree_eval_transaction.proofs.writes.value_in.Given as goal

abbrev pub invariant-loop-write : goal.invariant-loop-write
invariant-loop-write l = buffered (drop l.write-index l.writes) l.number ≡ buffered l.writes l.number
