use Rattle.std.proofs.Common.{◌<◌, ◌++◌, ◌∷◌, [], take, length, ap, ◌∙◌, sym, rules, arith}
use Rattle.txs_value_data.specs.PlainValue.{plain_row}
use Rattle.txs_value_data.specs.View.{plain_of}
use Rattle.txs_value_data.specs.Printed.{printed, items_printed, gap}
use Rattle.txs_value_data.proofs.PlacesLemmas.{item_less}
use Rattle.txs_value_data.proofs.PrintedLemmas.{items_printed-next, appended, Extends-appended}
use Rattle.txs_value_data.proofs.print.+print.Goals as goal

pub print-requires : goal.print-requires
print-requires t c =
    let less = item_less c.in-Vector.items c.loop-i.i (plain_of c.get.result.now) c.get.ensures in
    search (rules, less)

pub returns-in_default-print-clause-kept : goal.returns-in_default-print-clause-kept
returns-in_default-print-clause-kept t c =
    Extends-appended c.args.out.now.items _ (gap c.loop-i.i) [] c.loop-i.out.items c.separate.new.out.items c.print.new.out.items c.loop-i.invariant c.in-Ok.ensures.ok c.print.ensures.kept

pub loop-i-preserved : goal.loop-i-preserved
loop-i-preserved t c =
    let ds = c.in-Vector.items in
    let i = c.loop-i.i in
    let d = plain_of c.get.result.now in
    let so_far = 91 ∷ items_printed (plain_row (take i ds)) in
    let lt : i < length ds = omega arith in
    let more = items_printed-next ds i d lt c.get.ensures in
    let all = appended c.args.out.now.items so_far (gap i) (printed d) c.loop-i.out.items c.separate.new.out.items c.print.new.out.items c.loop-i.invariant c.in-Ok.ensures.ok c.in-Ok-print.ensures.ok in
    all ∙ ap (λ xs. c.args.out.now.items ++ 91 ∷ xs) (sym more)
