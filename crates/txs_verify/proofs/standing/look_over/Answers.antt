use Rattle.std.proofs.Common.{rules, sym, subst, None}
use Rattle.std.proofs.lemmas.Result.{err_from_is_err_and}
use Rattle.txs_code_meaning.specs.declared.instr.Instr.TheVariants.{Halt}
use Rattle.txs_verify.specs.Standing.{IsSeen}
use Rattle.txs_verify.proofs.Lists.{mark_is, nth_is}
use Rattle.txs_verify.proofs.Seen.{seen_first, seen_on, wrong_on}
use Rattle.txs_verify.proofs.standing.look_over.Goals as goal

pub loop-at-init : goal.loop-at-init
loop-at-init c = subst (λ k. IsSeen c.args.kinds.now c.args.thread c.args.instrs.now c.args.marks.now 0 k) (sym c.pure_kind-kind.ensures) (seen_first c.args.kinds.now c.args.thread c.args.instrs.now c.args.marks.now)

pub loop-at-preserved : goal.loop-at-preserved
loop-at-preserved c =
    let ms = c.args.marks.now in
    let is = c.args.instrs.now in
    let at = c.loop-at.at in
    let marked = mark_is ms at None (search rules) in
    seen_on c.args.kinds.now c.args.thread is ms at c.loop-at.kind c.in_ok-kind.kind _ _ c.loop-at.invariant marked (nth_is is at Halt (search rules)) (sym (c.in_ok-kind.ensures Halt))

pub returns-in_err-kind-clause-wrong : goal.returns-in_err-kind-clause-wrong
returns-in_err-kind-clause-wrong c =
    let ms = c.args.marks.now in
    let is = c.args.instrs.now in
    let at = c.loop-at.at in
    let marked = mark_is ms at None (search rules) in
    let p = err_from_is_err_and c.from_residual.result c.from_residual.ensures.1 in
    rw (p.1, p.2) (wrong_on c.args.kinds.now c.args.thread is ms at c.loop-at.kind c.in_err-kind.field-0.0 _ _ marked (nth_is is at Halt (search rules)) (sym (c.in_err-kind.ensures Halt)))
