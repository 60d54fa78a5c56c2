use Rattle.std.proofs.Common.{◌≡◌, drop}
use Rattle.txs_tree_meaning.specs.Known.{known, known_from}
use Rattle.txs_tree_meaning.specs.View.{functions_of}
use Rattle.txs_check.specs.Signatures.{bare, known_as}
use Rattle.txs_check.proofs.class.signatures_of.Given as goal

abbrev pub invariant-loop-function : goal.invariant-loop-function
invariant-loop-function l = bare (known_from (known_as l.signatures.items) (functions_of (drop l.function-index l.functions))) ≡ bare (known (functions_of l.functions))
