use Rattle.std.proofs.Common.{◌++◌, ◌∙◌, append_assoc}
use Rattle.std.specs.Prelude.{codes, decimal}
use Rattle.txs_disasm.specs.Listing.{at_span, instr_name, operands, word}
use Rattle.txs_disasm.proofs.LineLemmas.{last_put, two_put}
use Rattle.txs_disasm.proofs.lines.put_instr.Goals as goal

pub returns : goal.returns
returns c =
    let old = c.args.out.now.items in
    let m1 = c.put_number.new.out.items in
    let m2 = c.put_word.new.out.items in
    let m3 = c.put_operands.new.out.items in
    let m4 = c.put_span.new.out.items in
    let l1 = codes "  " ++ decimal c.args.place in
    let l2 = l1 ++ word (instr_name c.args.instr) in
    let l3 = l2 ++ operands c.args.instr in
    let l4 = l3 ++ at_span c.args.span in
    let e1 = c.in_ok-put_number.ensures ∙ append_assoc old (codes "  ") (decimal c.args.place) in
    let e2 = two_put old l1 m1 (word (instr_name c.args.instr)) m2 e1 (rw c.instr_name.ensures at c.in_ok-put_word.ensures) in
    let e3 = two_put old l2 m2 (operands c.args.instr) m3 e2 c.in_ok-put_operands.ensures in
    let e4 = two_put old l3 m3 (at_span c.args.span) m4 e3 c.in_ok-put_span.ensures in
    last_put c.extend_from_slice.result old l4 m4 (codes "\n") c.extend_from_slice.new.self.items e4 c.extend_from_slice.ensures.items
