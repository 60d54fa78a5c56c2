use Rattle.std.proofs.Common.{◌≡◌, ◌<◌, ◌≤◌, ℕ, Some}
use Rattle.txs_verify.specs.Marks.{mark_at}
use Rattle.txs_verify.specs.Verdict.{IsLeastRoom}
use Rattle.txs_verify.specs.declared.walk.Mark.{Mark}
use Rattle.txs_verify.proofs.bodies.room_for.Given as goal

abbrev pub invariant-loop-at : goal.invariant-loop-at
invariant-loop-at l =
    record {
      roomy : (p : ℕ) (m : Mark) → p < l.at → mark_at l.marks p ≡ Some m → m.depth ≤ l.room;
      least : IsLeastRoom l.marks l.room;
    }
