use Rattle.std.proofs.Common.{◌++◌, drop}
use Rattle.txs_disasm.specs.Listing.{instr_lines}
use Rattle.txs_disasm.specs.Sent.{Sent}
use Rattle.txs_disasm.proofs.disasm.list_instrs.Given as goal

abbrev pub invariant-loop-i : goal.invariant-loop-i
invariant-loop-i g l =
    Sent (g.W.Write.contents l.fn.writer) (g.W.Write.contents l.writer) (l.fn.page.bytes.items ++ instr_lines 0 l.instrs l.spans) (l.page.bytes.items ++ instr_lines l.i (drop l.i l.instrs) (drop l.i l.spans))
