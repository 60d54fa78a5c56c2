use Rattle.std.proofs.Common.{ℕ, List, [], arith}
use Rattle.std.specs.Borrow.{Bor}
use Rattle.txs_cli_explore.proofs.Lines.{first_more}
use Rattle.txs_cli_explore.proofs.changes.same_first.Goals as goal

abbrev nowhere : Bor (List ℕ)
nowhere = record { ref_ptr = (0, 0); now = [] }

pub loop-i-preserved : goal.loop-i-preserved
loop-i-preserved c = first_more c.args.a.now c.args.b.now c.loop-i.i nowhere nowhere (omega arith) (omega arith) (c.same_line.ensures c.if-not-same_line.false) c.loop-i.invariant
