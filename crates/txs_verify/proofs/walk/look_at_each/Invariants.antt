use Rattle.std.proofs.Common.{◌+◌, length}
use Rattle.txs_code_meaning.specs.PlainCode.{parameters_of}
use Rattle.txs_verify.specs.Going.{Goes, unmarked}
use Rattle.txs_verify.proofs.walk.look_at_each.Given as goal

abbrev pub invariant-loop-at : goal.invariant-loop-at
invariant-loop-at l = Goes (parameters_of l.functions) l.instrs l.marks.items l.waiting.items

-- each place without a mark, and each that waits, is looked at once
abbrev pub decreases-loop-at : goal.decreases-loop-at
decreases-loop-at l = unmarked l.marks.items + length l.waiting.items
