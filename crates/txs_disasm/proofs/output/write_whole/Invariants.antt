use Rattle.std.proofs.Common.{◌+◌, length}
use Rattle.txs_disasm.specs.Sent.{Sent}
use Rattle.txs_disasm.proofs.output.write_whole.Given as goal

abbrev pub invariant-loop-rest : goal.invariant-loop-rest
invariant-loop-rest g l = Sent (g.W.Write.contents l.fn.writer) (g.W.Write.contents l.writer) l.bytes l.rest

abbrev pub decreases-loop-rest : goal.decreases-loop-rest
decreases-loop-rest g l = length l.rest + l.patience
