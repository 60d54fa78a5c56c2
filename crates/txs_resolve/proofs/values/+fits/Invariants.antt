use Rattle.std.proofs.Common.{◌≡◌, drop}
use Rattle.txs_reader.specs.Tree.{trees, trees_of}
use Rattle.txs_resolve.specs.BodyGiven.{refusal_of}
use Rattle.txs_resolve.specs.Literals.{literals}
use Rattle.txs_resolve.proofs.values.+fits.Given as goal

abbrev pub invariant-all_fit-loop-form : goal.invariant-all_fit-loop-form
invariant-all_fit-loop-form l = record {
  same : refusal_of (literals l.room (trees_of (trees l.forms))) ≡ refusal_of (literals l.room (trees_of (trees (drop l.form-index l.forms))));
}
