use Rattle.std.proofs.Common.{rules, sym}
use Rattle.txs_verify.proofs.Lists.{before_is, before_none}
use Rattle.txs_verify.proofs.alone.before.Goals as goal

pub returns-then-at-lt1 : goal.returns-then-at-lt1
returns-then-at-lt1 c = sym (before_none c.args.instrs.now c.args.at (search rules))

pub returns : goal.returns
returns c =
    let is = before_is c.args.instrs.now c.args.at (search rules) in
    first_of (search (rules, is), cc)
