use Rattle.std.proofs.Common.{ap, arith}
use Rattle.std.proofs.lemmas.Bool.Decides.{nat_tests}
use Rattle.txs_reader.specs.Sign.{room}
use Rattle.txs_reader.specs.Window.{total}
use Rattle.txs_reader.proofs.Signs.{signs-empty}
use Rattle.txs_reader.proofs.window.room_within.Goals as goal
use Rattle.txs_reader.proofs.window.room_within.Goals.{then-loop-left-test+else-not-is_empty, else-loop-left-test}

pub returns : goal.returns
returns c =
    elim c.loop-left-test.branch [
      | then-loop-left-test+else-not-is_empty w ↦
          (let none = ap (total room) (signs-empty c.loop-left.rest.now (grind (arith, nat_tests))) in
          omega (arith, none, c.loop-left.invariant.rest, c.loop-left.invariant.few))
      | else-loop-left-test w ↦ omega (arith, w.loop-left-test.false, c.loop-left.invariant.rest, c.loop-left.invariant.few)
    ]
