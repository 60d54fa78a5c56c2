use Rattle.std.proofs.Common.{◌+◌, nat_le, drop, sym, ap, ◌∙◌, arith}
use Rattle.std.proofs.lemmas.List.{drop_all}
use Rattle.txs_value_data.specs.Limits.{most_locals}
use Rattle.txs_tree_meaning.proofs.Soundness.{trees_from, count-trees_of}
use Rattle.txs_tree_meaning.specs.View.{tree_of, trees_of}
use Rattle.txs_tree_meaning.specs.Locals.{reach, reach_let}
use Rattle.txs_opt.specs.Inline.{bound}
use Rattle.txs_opt.proofs.Calls.{le_true, le_false}
use Rattle.txs_opt.proofs.Reach.{bound_reach, args_reach, args_above, over_max}
use Rattle.txs_opt.proofs.locals.values_have_few.Goals as goal

pub returns-then-args-live : goal.returns-then-args-live
returns-then-args-live c =
    let es = trees_of c.args.args.now in
    let d = c.args.live in
    sym (le_false (reach_let d (bound d 0 es)) most_locals (omega (arith, bound_reach es d, args_above es d 0, count-trees_of c.args.args.now, c.if-args-live.true)))

pub returns-then-not-has_few : goal.returns-then-not-has_few
returns-then-not-has_few c =
    let ns = c.args.args.now in
    let d = c.args.live in
    let i = c.loop-at.at in
    let n = c.index-args-at.result in
    let from = ap (λ es. nat_le (args_reach d i es) most_locals) (trees_from ns i n c.loop-at-test.true c.index-args-at.is) in
    sym (ap (λ x. nat_le x most_locals) (bound_reach (trees_of ns) d) ∙ sym c.loop-at.invariant ∙ from ∙ over_max (reach d (tree_of n) + i) (args_reach d (i + 1) (trees_of (drop (i + 1) ns))) most_locals (sym c.if-not-has_few.ensures))

pub returns : goal.returns
returns c =
    let ns = c.args.args.now in
    let d = c.args.live in
    let i = c.loop-at.at in
    let none_left = ap (λ l. nat_le (args_reach d i (trees_of l)) most_locals) (drop_all i ns c.loop-at-test.false) in
    sym (ap (λ x. nat_le x most_locals) (bound_reach (trees_of ns) d) ∙ sym c.loop-at.invariant ∙ none_left ∙ le_true (d + i) most_locals (omega (arith, c.if-args-live.false, c.loop-at-test.false, c.loop-at.auto.at-end, c.requires)))
