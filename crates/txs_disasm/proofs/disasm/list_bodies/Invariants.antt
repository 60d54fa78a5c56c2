use Rattle.std.proofs.Common.{◌++◌, drop}
use Rattle.txs_disasm.specs.Listing.{body_lines, numbered}
use Rattle.txs_disasm.specs.Sent.{Sent}
use Rattle.txs_disasm.proofs.disasm.list_bodies.Given as goal

abbrev pub invariant-loop-i : goal.invariant-loop-i
invariant-loop-i g l =
    Sent (g.W.Write.contents l.fn.writer) (g.W.Write.contents l.writer) (l.fn.page.bytes.items ++ numbered (body_lines l.kind) 0 l.bodies) (l.page.bytes.items ++ numbered (body_lines l.kind) l.i (drop l.i l.bodies))
