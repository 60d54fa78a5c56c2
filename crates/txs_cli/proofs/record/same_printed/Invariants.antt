use Rattle.std.proofs.Common.{◌≡◌, drop}
use Rattle.txs_cli_report.specs.Lines.{all_printed}
use Rattle.txs_cli.proofs.record.same_printed.Given as goal

-- where the actors to come printed the same, all did
abbrev pub invariant-loop-i : goal.invariant-loop-i
invariant-loop-i l = all_printed (drop l.i l.a) ≡ all_printed (drop l.i l.b) → all_printed l.a ≡ all_printed l.b
