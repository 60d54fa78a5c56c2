use Rattle.std.proofs.Common.{◌≡◌, length}
use Rattle.txs_check.specs.Signatures.{known_as}
use Rattle.txs_check.specs.Walked.{behind, left}
use Rattle.txs_check.proofs.validators.check_before.Given as goal

abbrev pub invariant-loop-next : goal.invariant-loop-next
invariant-loop-next l = behind (known_as l.signatures) l.from (left l.rest) ≡ behind (known_as l.signatures) l.from (left l.fn.validators)

abbrev pub decreases-loop-next : goal.decreases-loop-next
decreases-loop-next l = length (left l.rest)
