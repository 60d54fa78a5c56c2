use Rattle.std.proofs.Common.{rules, arith, get_or, length}
use Rattle.txs_code_meaning.specs.PlainCode.{parameters_of}
use Rattle.txs_code_meaning.specs.declared.instr.Instr.TheVariants.{Const}
use Rattle.txs_value_data.specs.Places.{nth}
use Rattle.txs_verify.proofs.Going.{jumps_further, may_end}
use Rattle.txs_verify.proofs.Lists.{nth_is}
use Rattle.txs_verify.proofs.Reached.{gives_passed, passed_end, passed_low}
use Rattle.txs_verify.proofs.walk.pass.Goals as goal

pub reach_next-requires-clause-jump : goal.reach_next-requires-clause-jump
reach_next-requires-clause-jump c =
    let is = c.args.instrs.now in
    let stands = nth_is is c.args.at (Const 0) (search rules) in
    jumps_further (length is) (length c.args.marks.now.items) _ (omega (arith, c.requires.many)) (c.requires.jumps c.args.at _ stands)

pub returns : goal.returns
returns c =
    let is = c.args.instrs.now in
    let stands = nth_is is c.args.at (Const 0) (search rules) in
    gives_passed (parameters_of c.args.functions.now) c.args.at c.args.mark (c.args.marks.now.items, c.args.waiting.now.items) (nth is c.args.at) _ (record { depth = c.depth_behind.result; txs = c.txs_behind.result }) c.reach_next.result (c.reach_next.new.marks.items, c.reach_next.new.waiting.items) stands (search rules) (search rules) (search rules) (search rules) c.reach_next.ensures

pub returns-then-mark-wants : goal.returns-then-mark-wants
returns-then-mark-wants c =
    let is = c.args.instrs.now in
    let stands = nth_is is c.args.at (Const 0) (search rules) in
    passed_low (parameters_of c.args.functions.now) c.args.at c.args.mark (c.args.marks.now.items, c.args.waiting.now.items) (nth is c.args.at) (get_or is c.args.at (Const 0)) stands (search rules)

pub returns-then-ends_nothing : goal.returns-then-ends_nothing
returns-then-ends_nothing c =
    let is = c.args.instrs.now in
    let stands = nth_is is c.args.at (Const 0) (search rules) in
    passed_end (parameters_of c.args.functions.now) c.args.at c.args.mark (c.args.marks.now.items, c.args.waiting.now.items) (nth is c.args.at) (get_or is c.args.at (Const 0)) stands (search rules) (search rules)

pub txs_behind-requires-clause-end : goal.txs_behind-requires-clause-end
txs_behind-requires-clause-end c = may_end (get_or c.args.instrs.now c.args.at (Const 0)) c.args.mark.txs (search rules)
