use Rattle.std.proofs.Common.{drop}
use Rattle.txs_disasm.specs.Sent.{Sent}
use Rattle.txs_cli_report.specs.Lines.{all_printed}
use Rattle.txs_cli_report.proofs.output.write_printed.Given as goal

-- left of all is what the actors to come printed
abbrev pub invariant-loop-actor : goal.invariant-loop-actor
invariant-loop-actor g l = Sent (g.W.Write.contents l.fn.writer) (g.W.Write.contents l.writer) (all_printed l.actors) (all_printed (drop l.actor-index l.actors))
