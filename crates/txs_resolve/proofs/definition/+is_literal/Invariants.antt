use Rattle.std.proofs.Common.{◌≡◌, drop}
use Rattle.txs_reader.specs.Tree.{trees, trees_of}
use Rattle.txs_resolve.specs.Literals.{are_literals}
use Rattle.txs_resolve.proofs.definition.+is_literal.Given as goal

abbrev pub invariant-are_literals-loop-form : goal.invariant-are_literals-loop-form
invariant-are_literals-loop-form l = are_literals (trees_of (trees l.forms)) ≡ are_literals (trees_of (trees (drop l.form-index l.forms)))
