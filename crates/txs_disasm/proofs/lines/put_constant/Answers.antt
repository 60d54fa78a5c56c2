use Rattle.std.proofs.Common.{◌++◌, ◌∙◌, append_assoc}
use Rattle.std.specs.Prelude.{codes, decimal}
use Rattle.txs_value_data.specs.Printed.{printed}
use Rattle.txs_value_data.specs.View.{plain_of}
use Rattle.txs_disasm.specs.Listing.{word}
use Rattle.txs_disasm.proofs.LineLemmas.{last_put, two_put}
use Rattle.txs_disasm.proofs.lines.put_constant.Goals as goal

pub returns : goal.returns
returns c =
    let old = c.args.out.now.items in
    let m1 = c.put_number.new.out.items in
    let m2 = c.write_text.new.out.items in
    let value = printed (plain_of c.args.value.now) in
    let l1 = codes "const " ++ decimal c.args.number in
    let e1 = c.in_ok-put_number.ensures ∙ append_assoc old (codes "const ") (decimal c.args.number) in
    let put = two_put m1 (codes " ") c.push.new.self.items value m2 c.in_ok-push.ensures.items c.in_ok-write_text.ensures.ok in
    let e2 = two_put old l1 m1 (word value) m2 e1 put in
    last_put c.extend_from_slice.result old (l1 ++ word value) m2 (codes "\n") c.extend_from_slice.new.self.items e2 c.extend_from_slice.ensures.items
