use Rattle.std.proofs.Common.{◌≡◌, ◌++◌, drop}
use Rattle.txs_cli_report.specs.Lines.{all_printed}
use Rattle.txs_cli_explore.proofs.ways.add_printed.Given as goal

-- with what the actors to come printed this is all
abbrev pub invariant-loop-actor : goal.invariant-loop-actor
invariant-loop-actor l = l.lines.items ++ all_printed (drop l.actor-index l.actors) ≡ l.fn.lines.items ++ all_printed l.actors
