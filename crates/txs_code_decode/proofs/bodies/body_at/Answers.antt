use Rattle.txs_code_decode.proofs.Lists.{body_reads}
use Rattle.txs_code_decode.proofs.bodies.body_at.Goals as goal

pub returns-in-Ok : goal.returns-in-Ok
returns-in-Ok c =
    let r = body_reads c.args.thread c.args.constants c.args.functions c.args.left c.args.bytes.now c.in_ok-parameters.rest.now c.in_ok-locals.rest.now c.in-Ok.rest.now c.in_ok-parameters.parameters c.in_ok-locals.locals c.in-Ok.body.instrs.items c.in-Ok.body.spans.items c.in_ok-parameters.ensures c.in_ok-locals.ensures c.in-Ok.ensures.value c.in-Ok.ensures.as_many in
    rw c.new.ensures r
