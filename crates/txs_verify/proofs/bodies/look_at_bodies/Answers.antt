use Rattle.std.proofs.Common.{rules, []}
use Rattle.std.proofs.lemmas.Result.{err_from_is_err_and}
use Rattle.txs_code_meaning.specs.PlainCode.{CodeBody}
use Rattle.txs_verify.proofs.Lists.{nth_is}
use Rattle.txs_verify.proofs.Roomy.{right_more, right_whole}
use Rattle.txs_verify.proofs.bodies.look_at_bodies.Goals as goal

no_body : CodeBody
no_body = record { parameters = 0; locals = 0; instrs = []; spans = [] }

pub returns-in_err-look_at_body-clause-wrong : goal.returns-in_err-look_at_body-clause-wrong
returns-in_err-look_at_body-clause-wrong c =
    let p = err_from_is_err_and c.from_residual.result c.from_residual.ensures.1 in
    let stands = nth_is c.args.bodies.now c.loop-n.n no_body (search rules) in
    rw (p.1, p.2) (record { number = c.loop-n.n; body = _; name = c.in_err-look_at_body.ensures.name; stands = stands; wrong = c.in_err-look_at_body.ensures.wrong _ stands; first = c.in_err-look_at_body.ensures.first _ stands; before = c.loop-n.invariant })

pub loop-n-preserved : goal.loop-n-preserved
loop-n-preserved c = right_more c.args.thread c.args.functions.now c.args.bodies.now c.loop-n.n c.loop-n.invariant c.in_ok-look_at_body.ensures.right

pub returns-clause-right : goal.returns-clause-right
returns-clause-right c = right_whole c.args.thread c.args.functions.now c.args.bodies.now c.loop-n.n c.loop-n.invariant (search rules)
