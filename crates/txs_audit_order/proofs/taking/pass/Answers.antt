use Rattle.std.proofs.Common.{◌∙◌, sym}
use Rattle.txs_audit_order.proofs.Passing.{free_before, free_past, pass_more}
use Rattle.txs_audit_order.proofs.taking.pass.Goals as goal

pub returns-then-link-at : goal.returns-then-link-at
returns-then-link-at c = record {
  past = c.loop-passed.invariant;
  free = free_before c.args.row.now c.args.cut.now c.loop-passed.passed c.args.at c.loop-passed-test.true c.loop-passed.invariant c.requires.ascends c.if-link-at.true;
}

pub loop-passed-preserved : goal.loop-passed-preserved
loop-passed-preserved c = pass_more c.args.row.now c.args.cut.now c.loop-passed.passed c.loop-passed-test.true c.loop-passed.invariant (sym c.is_taken.ensures ∙ c.if-not-is_taken.false)

pub returns : goal.returns
returns c = record {
  past = c.loop-passed.invariant;
  free = free_past c.args.row.now c.args.cut.now c.loop-passed.passed c.args.at c.loop-passed-test.false c.loop-passed.invariant;
}
