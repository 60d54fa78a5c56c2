use Rattle.std.proofs.Common.{◌≡◌, ◌++◌, ◌∷◌, take}
use Rattle.txs_value_data.specs.PlainValue.{plain_row, plain_size}
use Rattle.txs_value_data.specs.View.{plain_of}
use Rattle.txs_cli_events.specs.Shown.{items_shown}
use Rattle.txs_cli_events.proofs.shown.+write_shown.Given as goal

abbrev pub decreases-write_shown : goal.decreases-write_shown
decreases-write_shown l = plain_size (plain_of l.value.now)

abbrev pub invariant-loop-i : goal.invariant-loop-i
invariant-loop-i l = l.out.items ≡ l.fn.out.items ++ 91 ∷ items_shown (plain_row (take l.i l.items))
