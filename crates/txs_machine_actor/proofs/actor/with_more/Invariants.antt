use Rattle.std.proofs.Common.{◌≡◌, ◌∷◌, suc, length, take, vec_capacity}
use Rattle.txs_machine_actor.proofs.actor.with_more.Given as goal

abbrev pub invariant-loop-value : goal.invariant-loop-value
invariant-loop-value l =
    record {
      many : length l.all.items ≡ suc l.value-index;
      room : vec_capacity l.all ≡ suc (length l.more);
      same : l.all.items ≡ l.fn.first ∷ take l.value-index l.more;
    }
