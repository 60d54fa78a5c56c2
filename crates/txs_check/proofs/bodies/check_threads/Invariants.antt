use Rattle.std.proofs.Common.{◌≡◌, drop, map}
use Rattle.txs_tree_meaning.specs.View.{threads_of}
use Rattle.txs_check.specs.Refused.{thread_body}
use Rattle.txs_check.specs.Signatures.{known_as}
use Rattle.txs_check.specs.Walked.{left, passed}
use Rattle.txs_check.proofs.bodies.check_threads.Given as goal

abbrev pub invariant-loop-thread : goal.invariant-loop-thread
invariant-loop-thread l = passed (known_as l.signatures) (map thread_body (threads_of (drop l.thread-index l.threads))) (left l.rest) ≡ passed (known_as l.signatures) (map thread_body (threads_of l.threads)) (left l.fn.validators)
