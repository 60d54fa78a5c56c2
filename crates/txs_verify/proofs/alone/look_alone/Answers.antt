use Rattle.std.proofs.Common.{rules, arith}
use Rattle.std.proofs.lemmas.Result.{err_from_is_err_and}
use Rattle.txs_code_meaning.specs.PlainCode.{parameters_of}
use Rattle.txs_verify.proofs.Lawfulness.{all_right, right_body}
use Rattle.txs_verify.proofs.alone.look_alone.Goals as goal

pub returns-in_err-look_alone_at-clause-first : goal.returns-in_err-look_alone_at-clause-first
returns-in_err-look_alone_at-clause-first c =
    let p = err_from_is_err_and c.from_residual.result c.from_residual.ensures.1 in
    rw (p.1, p.2) (λ at i below stands. c.loop-at.invariant at i (omega (arith, below, c.in_err-look_alone_at.ensures.place)) stands)

pub loop-at-preserved : goal.loop-at-preserved
loop-at-preserved c = all_right c.args.callable (parameters_of c.args.functions.now) c.args.body.now c.loop-at.at c.loop-at.invariant c.in_ok-look_alone_at.ensures.right

pub returns-clause-right : goal.returns-clause-right
returns-clause-right c =
    let le = c.loop-at-test.false in
    let end = c.instrs-at-end.ensures in
    right_body c.args.callable (parameters_of c.args.functions.now) c.args.body.now c.loop-at.at (omega (arith, c.if-locals-parameters.false, c.locals.ensures, c.parameters.ensures)) (first_of (search rules, grind arith)) c.loop-at.invariant
