use Rattle.std.proofs.Common.{drop}
use Rattle.txs_world_shared.proofs.Apart.{OpenedLike}
use Rattle.txs_world_shared.proofs.joining.open_like.Given as goal

abbrev pub invariant-loop-i : goal.invariant-loop-i
invariant-loop-i l =
    record {
      on : OpenedLike l.atoms l.others → OpenedLike (drop l.i l.atoms) (drop l.i l.others);
      back : OpenedLike (drop l.i l.atoms) (drop l.i l.others) → OpenedLike l.atoms l.others;
    }
