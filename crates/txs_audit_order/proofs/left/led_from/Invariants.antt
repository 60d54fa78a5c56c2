use Rattle.std.proofs.Common.{◌≡◌, ◌-◌, ℕ, Bool, length, true}
use Rattle.txs_audit_order.specs.Waiting.{NeverEnds, led_in}
use Rattle.txs_audit_order.proofs.left.led_from.Given as goal

abbrev pub invariant-loop-i : goal.invariant-loop-i
invariant-loop-i l =
    record {
      same : led_in l.waits (length l.waits - l._i) l.book ≡ led_in l.waits (length l.waits) l.fn.book;
      on : (left : ℕ → Bool) → NeverEnds l.waits left → left l.fn.book ≡ true → left l.book ≡ true;
    }
