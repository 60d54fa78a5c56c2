use Rattle.std.proofs.Common.{List, ℕ, length}
use Rattle.txs_reader.specs.Completes.{Completes}
use Rattle.txs_reader.specs.OpenForms.{opens, inner}
use Rattle.txs_reader.specs.Tree.{tree}
use Rattle.txs_reader.proofs.open_forms.OpenForms.add.Given as goal

abbrev pub invariant-loop-alloc : goal.invariant-loop-alloc
invariant-loop-alloc l = (bytes rest : List ℕ) → Completes bytes (opens l.initial.self) (inner l.initial.self) (tree l.initial.form) rest → Completes bytes (opens l.self) (inner l.self) (tree l.form) rest

abbrev pub decreases-loop-alloc : goal.decreases-loop-alloc
decreases-loop-alloc l = length l.self.open.items
