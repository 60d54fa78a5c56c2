use Rattle.std.proofs.lemmas.List.{append-nil, length-map, take_all}
use Rattle.std.proofs.Common.{◌≡◌, ◌<◌, ◌++◌, ◌∷◌, [], take, length, refl, ap, ◌∙◌, sym, arith}
use Rattle.txs_value_data.specs.PlainValue.{plain_row}
use Rattle.txs_value_data.specs.View.{plain_of, plains_of}
use Rattle.txs_value_data.specs.Printed.{printed, items_printed, gap}
use Rattle.txs_value_data.proofs.PrintedLemmas.{items_printed-more, appended, Extends-appended, Extends-after, Extends-by, ended_by}
use Rattle.txs_value_data.proofs.print.print_line.Goals as goal

pub returns-in_default-print-clause-kept : goal.returns-in_default-print-clause-kept
returns-in_default-print-clause-kept c =
    Extends-appended c.args.out.now.items _ (gap c.loop-i.i) [] c.loop-i.out.items c.separate.new.out.items c.print.new.out.items c.loop-i.invariant c.in-Ok.ensures.ok c.print.ensures.kept

pub loop-i-preserved : goal.loop-i-preserved
loop-i-preserved c =
    let vs = c.args.values.now in
    let ds = plains_of vs in
    let i = c.loop-i.i in
    let v = c.index-values-i.result in
    let so_far = items_printed (plain_row (take i ds)) in
    let lt : i < length vs = omega arith in
    let more = items_printed-more ds vs v i refl lt c.index-values-i.is in
    let all = appended c.args.out.now.items so_far (gap i) (printed (plain_of v)) c.loop-i.out.items c.separate.new.out.items c.print.new.out.items c.loop-i.invariant c.in-Ok.ensures.ok c.in-Ok-print.ensures.ok in
    all ∙ ap (λ xs. c.args.out.now.items ++ xs) (sym more)

pub loop-i-init : goal.loop-i-init
loop-i-init c = sym (append-nil c.args.out.now.items)

pub returns-in_default-clause-kept : goal.returns-in_default-clause-kept
returns-in_default-clause-kept c = Extends-after c.args.out.now.items _ c.loop-i.out.items c.separate.new.out.items c.loop-i.invariant c.separate.ensures.kept

pub returns-clause-ok : goal.returns-clause-ok
returns-clause-ok c =
    let old = c.args.out.now.items in
    let vs = c.args.values.now in
    let mid = c.loop-i.out.items in
    let put = c.extend_from_slice in
    let many = length-map vs plain_of in
    let all : mid ≡ old ++ items_printed (plain_row (plains_of vs)) =
    c.loop-i.invariant ∙ ap (λ ds. old ++ items_printed (plain_row ds)) (take_all c.loop-i.i (plains_of vs) (omega (arith, many))) in
    ended_by put.result old (items_printed (plain_row (plains_of vs))) mid (10 ∷ []) put.new.self.items all put.ensures.items

pub returns-clause-kept : goal.returns-clause-kept
returns-clause-kept c =
    let mid = c.loop-i.out.items in
    let put = c.extend_from_slice in
    Extends-after c.args.out.now.items _ mid put.new.self.items c.loop-i.invariant (Extends-by put.result mid _ put.new.self.items put.ensures.items)
