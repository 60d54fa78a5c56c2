use Rattle.std.proofs.Common.{rules, sym}
use Rattle.txs_verify.proofs.Lists.{parameters_at, parameters_past}
use Rattle.txs_verify.proofs.effect.parameters.Goals as goal

pub returns-then-f-functions : goal.returns-then-f-functions
returns-then-f-functions c =
    let at = parameters_at c.args.functions.now c.args.f c.index-functions-f.result (search rules) in
    first_of (search (rules, at), cc)

pub returns : goal.returns
returns c = sym (parameters_past c.args.functions.now c.args.f (search rules))
