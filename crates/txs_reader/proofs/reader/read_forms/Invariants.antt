use Rattle.std.proofs.Common.{◌≤◌, ◌-◌, length}
use Rattle.txs_reader.specs.Reached.{Reached}
use Rattle.txs_reader.proofs.reader.read_forms.Given as goal

abbrev pub invariant-loop-at : goal.invariant-loop-at
invariant-loop-at l = record {
  within : l.at ≤ length l.script;
  reached : Reached l.script l.state l.at;
}

abbrev pub decreases-loop-at : goal.decreases-loop-at
decreases-loop-at l = length l.script - l.at
