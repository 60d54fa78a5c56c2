use Rattle.std.proofs.Common.{◌≡◌, drop}
use Rattle.txs_tree_meaning.specs.View.{functions_of, threads_of}
use Rattle.txs_check.specs.Refused.{in_order}
use Rattle.txs_check.specs.Signatures.{known_as}
use Rattle.txs_check.specs.Walked.{left, walked}
use Rattle.txs_check.proofs.bodies.check_bodies.Given as goal

abbrev pub invariant-loop-function : goal.invariant-loop-function
invariant-loop-function l = walked (known_as l.signatures) (in_order (functions_of (drop l.function-index l.functions)) (threads_of l.rest)) (left l.validators) ≡ walked (known_as l.signatures) (in_order (functions_of l.functions) (threads_of l.threads)) (left l.fn.validators)
