use Rattle.std.proofs.Common.{◌≡◌, ◌≤◌, [], length, drop}
use Rattle.txs_reader.specs.Tree.{trees, trees_of}
use Rattle.txs_resolve.specs.Names.{parameters}
use Rattle.txs_resolve_expand.specs.Scope.{with_locals}
use Rattle.txs_resolve.proofs.script.bind_parameters.Given as goal

abbrev pub invariant-loop-form : goal.invariant-loop-form
invariant-loop-form l = record {
  names : parameters [] (trees_of (trees l.forms)) ≡ parameters l.scope.locals (trees_of (trees (drop l.form-index l.forms)));
  kept : l.scope ≡ with_locals l.scope.locals l.fn.scope;
  few : length l.scope.locals ≤ 20;
}
