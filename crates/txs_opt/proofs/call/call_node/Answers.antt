use Rattle.std.proofs.Common.{get_or, ap, ◌∙◌, arith}
use Rattle.txs_tree_meaning.specs.View.{function_of, mark_of, trees_of}
use Rattle.txs_opt.proofs.Calls.{call_missing, call_stays, call_opens, opened_reach}
use Rattle.txs_opt.proofs.call.call_node.Goals as goal

pub returns-then-at-done : goal.returns-then-at-done
returns-then-at-done c =
    let m = mark_of c.args.spot.span c.args.spot.wanted in
    call_missing c.args.done.now c.args.number c.args.live c.args.budget.now c.args.args.items m c.row_node.result (omega (arith, c.if-at-done.true, c.from-at.ensures)) c.row_node.ensures

pub let_of-requires : goal.let_of-requires
let_of-requires c =
    let m = mark_of c.args.spot.span c.args.spot.wanted in
    opened_reach c.args.live c.args.budget.now (function_of c.index-done-at.result) (trees_of c.as_slice-values.result.now) m (c.in-Some.ensures {u = tt} m).0

pub returns-in_ok-opened-in-Some : goal.returns-in_ok-opened-in-Some
returns-in_ok-opened-in-Some c =
    let m = mark_of c.args.spot.span c.args.spot.wanted in
    let f = c.index-done-at.result in
    let at = c.index-done-at.is ∙ ap (λ j. get_or c.args.done.now j f) c.from-at.ensures in
    let known = c.in-Some.ensures {u = tt} m in
    call_opens c.args.done.now c.args.number c.args.live c.args.budget.now c.args.args.items m c.in_ok-opened-in-Some.opened f (omega (arith, c.if-at-done.false, c.from-at.ensures)) at c.as_slice-values.result.now c.as_slice-values.ensures.value c.in-Some.left known.0 known.1 c.in_ok-opened-in-Some.ensures

pub returns-in-None : goal.returns-in-None
returns-in-None c =
    let m = mark_of c.args.spot.span c.args.spot.wanted in
    let f = c.index-done-at.result in
    let at = c.index-done-at.is ∙ ap (λ j. get_or c.args.done.now j f) c.from-at.ensures in
    call_stays c.args.done.now c.args.number c.args.live c.args.budget.now c.args.args.items m c.row_node-in-None.result f (omega (arith, c.if-at-done.false, c.from-at.ensures)) at c.as_slice-values.result.now c.as_slice-values.ensures.value (c.in-None.ensures {u = tt} m) c.row_node-in-None.ensures
