use Rattle.std.proofs.Common.{◌≡◌, length, take, vec_len, vec_capacity}
use Rattle.txs_machine_transaction.proofs.asks.copy_actions.Given as goal

-- those so far stand in the copy, which has room for all
abbrev pub invariant-loop-send : goal.invariant-loop-send
invariant-loop-send l =
    record {
      copied : l.copies.items ≡ take l.send-index l.sends;
      many : vec_len l.copies ≡ l.send-index;
      room : vec_capacity l.copies ≡ length l.sends;
    }
