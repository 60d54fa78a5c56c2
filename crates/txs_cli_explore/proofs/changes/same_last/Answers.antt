use Rattle.std.proofs.Common.{◌-◌, ℕ, List, [], arith, length, refl}
use Rattle.std.specs.Borrow.{Bor}
use Rattle.txs_cli_explore.proofs.Lines.{last_more}
use Rattle.txs_cli_explore.proofs.changes.same_last.Goals as goal

abbrev nowhere : Bor (List ℕ)
nowhere = record { ref_ptr = (0, 0); now = [] }

pub loop-i-preserved : goal.loop-i-preserved
loop-i-preserved c =
    let a = c.args.a.now in
    let b = c.args.b.now in
    let i = c.loop-i.i in
    last_more a b i (length a - i - 1) (length b - i - 1) nowhere nowhere (omega arith) (omega arith) refl refl (c.same_line.ensures c.if-not-same_line.false) c.loop-i.invariant
