use Rattle.std.proofs.Common.{◌≡◌}
use Rattle.txs_history_run.specs.Back.{AtomsLeft}
use Rattle.txs_history_run.proofs.ending.count_atoms.Given as goal

abbrev pub invariant-loop-i : goal.invariant-loop-i
invariant-loop-i g l = (l.past ≡ l.fn.past) × AtomsLeft g.J.Run.code.cells l.past l.i l.atoms l.sum
