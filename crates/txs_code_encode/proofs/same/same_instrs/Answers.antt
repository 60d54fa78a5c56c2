use Rattle.std.proofs.Common.{ap}
use Rattle.std.specs.Prelude.{slice_index_or}
use Rattle.std.proofs.lemmas.Bool.{both_ways}
use Rattle.txs_code_meaning.specs.declared.instr.Instr.TheVariants.{Const}
use Rattle.txs_code_encode.proofs.SameLemmas.{agree, all_same, copy_more, differ}
use Rattle.txs_code_encode.proofs.same.same_instrs.Goals as goal

pub returns-then-not-same_instr : goal.returns-then-not-same_instr
returns-then-not-same_instr c =
    differ (λ e. both_ways c.same_instr.result c.if-not-same_instr.true (c.same_instr.ensures.1 (ap (λ zs. slice_index_or zs c.loop-i.i (Const 0)) e)))

pub loop-i-preserved : goal.loop-i-preserved
loop-i-preserved c =
    copy_more c.args.a.now c.args.b.now c.if-a-b.false c.loop-i.i (Const 0) c.loop-i-test.true c.loop-i.invariant (c.same_instr.ensures.0 c.if-not-same_instr.false)

pub returns : goal.returns
returns c = agree (all_same c.args.a.now c.args.b.now c.if-a-b.false c.loop-i.i c.loop-i-test.false c.loop-i.invariant)
