use Rattle.std.proofs.Common.{rules, sym}
use Rattle.txs_verify.proofs.Lists.{before_that_is, before_that_none}
use Rattle.txs_verify.proofs.alone.before_that.Goals as goal

pub returns-then-at-lt2 : goal.returns-then-at-lt2
returns-then-at-lt2 c = sym (before_that_none c.args.instrs.now c.args.at (search rules))

pub returns : goal.returns
returns c =
    let is = before_that_is c.args.instrs.now c.args.at (search rules) in
    first_of (search (rules, is), cc)
