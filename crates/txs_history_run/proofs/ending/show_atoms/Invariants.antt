use mathlib.Core.List.{IsPrefix}
use Rattle.txs_history_run.specs.Back.{AtomsSeen}
use Rattle.txs_history_run.proofs.ending.show_atoms.Given as goal

abbrev pub invariant-loop-i : goal.invariant-loop-i
invariant-loop-i g l = IsPrefix l.fn.past l.past × AtomsSeen l.i l.atoms l.past
