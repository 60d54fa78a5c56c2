use Rattle.std.proofs.Common.{rules}
use Rattle.txs_code_meaning.specs.declared.instr.Instr.TheVariants.{Const}
use Rattle.txs_verify.proofs.Lists.{nth_is, nth_past}
use Rattle.txs_verify.proofs.alone.instr_at.Goals as goal

pub returns-then-at-instrs : goal.returns-then-at-instrs
returns-then-at-instrs c =
    let at = nth_is c.args.instrs.now c.args.at (Const 0) (search rules) in
    first_of (search (rules, at), cc)

pub returns : goal.returns
returns c =
    let past = nth_past c.args.instrs.now c.args.at (search rules) in
    first_of (search (rules, past), cc)
