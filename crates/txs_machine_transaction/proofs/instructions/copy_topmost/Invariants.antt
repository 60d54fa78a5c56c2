use Rattle.std.proofs.Common.{◌≡◌, take, vec_len, vec_capacity}
use Rattle.txs_machine_loop.specs.Values.{topmost}
use Rattle.txs_machine_transaction.proofs.instructions.copy_topmost.Given as goal

-- those so far stand in the copy, which has room for all
abbrev pub invariant-loop-i : goal.invariant-loop-i
invariant-loop-i l =
    record {
      copied : l.copies.items ≡ take l.i (topmost l.n l.stack.values);
      many : vec_len l.copies ≡ l.i;
      room : vec_capacity l.copies ≡ l.n;
    }
