use Rattle.std.proofs.Common.{◌≡◌, drop}
use Rattle.txs_reader.specs.Tree.{trees}
use Rattle.txs_resolve.specs.Memory.{FirstResolves}
use Rattle.txs_resolve.specs.Names.{steps}
use Rattle.txs_resolve.specs.Scripts.{IsScript, state_of}
use Rattle.txs_resolve.proofs.resolver.steps.Given as goal

abbrev pub invariant-loop-form : goal.invariant-loop-form
invariant-loop-form l = record {
  state : steps (state_of l.fn.script) (trees l.forms) ≡ steps (state_of l.script) (trees (drop l.form-index l.forms));
  kept : IsScript l.script;
  wants : FirstResolves (state_of l.script) (trees (drop l.form-index l.forms)) → FirstResolves (state_of l.fn.script) (trees l.forms);
}
