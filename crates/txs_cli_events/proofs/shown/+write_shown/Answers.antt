use Rattle.std.proofs.Common.{◌<◌, ◌++◌, ◌∷◌, take, length, ap, ◌∙◌, sym, rules, arith}
use Rattle.txs_value_data.specs.PlainValue.{plain_row}
use Rattle.txs_value_data.specs.Printed.{gap}
use Rattle.txs_value_data.specs.View.{plain_of}
use Rattle.txs_value_data.proofs.PlacesLemmas.{item_less}
use Rattle.txs_value_data.proofs.PrintedLemmas.{appended}
use Rattle.txs_cli_events.specs.Shown.{shown, items_shown}
use Rattle.txs_cli_events.proofs.Pieces.{items_next}
use Rattle.txs_cli_events.proofs.shown.+write_shown.Goals as goal

pub write_shown-requires : goal.write_shown-requires
write_shown-requires t c =
    let less = item_less c.in-Vector.items c.loop-i.i (plain_of c.get.result.now) c.get.ensures in
    search (rules, less)

pub loop-i-preserved : goal.loop-i-preserved
loop-i-preserved t c =
    let ds = c.in-Vector.items in
    let i = c.loop-i.i in
    let d = plain_of c.get.result.now in
    let so_far = 91 ∷ items_shown (plain_row (take i ds)) in
    let lt : i < length ds = omega arith in
    let more = items_next ds i d lt c.get.ensures in
    let all = appended c.args.out.now.items so_far (gap i) (shown d) c.loop-i.out.items c.write_gap.new.out.items c.write_shown.new.out.items c.loop-i.invariant c.in_ok-write_gap.ensures c.in_ok-write_shown.ensures in
    all ∙ ap (λ xs. c.args.out.now.items ++ 91 ∷ xs) (sym more)
