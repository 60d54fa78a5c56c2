use Rattle.std.proofs.Common.{◌≡◌, map, length}
use Rattle.txs_check.specs.Refused.{checked_each, of_validator}
use Rattle.txs_check.specs.Signatures.{known_as}
use Rattle.txs_check.specs.Walked.{left}
use Rattle.txs_check.proofs.validators.check_all.Given as goal

abbrev pub invariant-loop-next : goal.invariant-loop-next
invariant-loop-next l = checked_each (known_as l.signatures) (map of_validator (left l.rest)) ≡ checked_each (known_as l.signatures) (map of_validator (left l.fn.validators))

abbrev pub decreases-loop-next : goal.decreases-loop-next
decreases-loop-next l = length (left l.rest)
