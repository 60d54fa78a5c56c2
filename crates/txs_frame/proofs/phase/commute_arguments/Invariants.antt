use Rattle.std.proofs.Common.{◌≡◌, ◌++◌, suc, length, take, vec_capacity}
use Rattle.txs_frame.proofs.phase.commute_arguments.Given as goal

-- the ref's value, which is there when the loop begins, and behind it those copied so far
abbrev pub invariant-loop-value : goal.invariant-loop-value
invariant-loop-value l =
    record {
      many : length l.all.items ≡ suc l.value-index;
      room : vec_capacity l.all ≡ suc (length l.args);
      same : l.all.items ≡ l.initial.all.items ++ take l.value-index l.args;
    }
