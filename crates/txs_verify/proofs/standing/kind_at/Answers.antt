use Rattle.std.proofs.Common.{rules}
use Rattle.txs_verify.specs.Standing.{pure_kind}
use Rattle.txs_verify.proofs.Lists.{kind_there, kind_not_there}
use Rattle.txs_verify.proofs.standing.kind_at.Goals as goal

pub returns-then-f-kinds : goal.returns-then-f-kinds
returns-then-f-kinds c =
    let at = kind_there c.args.kinds.now c.args.f pure_kind (search rules) in
    first_of (search (rules, at), cc)

pub returns : goal.returns
returns c =
    let past = kind_not_there c.args.kinds.now c.args.f (search rules) in
    first_of (search (rules, past), cc)
