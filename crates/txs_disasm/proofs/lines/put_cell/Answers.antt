use Rattle.std.proofs.Common.{◌++◌, ◌∙◌, append_assoc}
use Rattle.std.specs.Prelude.{codes, decimal}
use Rattle.txs_value_data.specs.Printed.{printed}
use Rattle.txs_value_data.specs.View.{plain_of}
use Rattle.txs_disasm.specs.Listing.{kind_name, mode_words, validator_words, word}
use Rattle.txs_disasm.proofs.LineLemmas.{last_put, two_put}
use Rattle.txs_disasm.proofs.lines.put_cell.Goals as goal

pub returns : goal.returns
returns c =
    let cell = c.args.cell.now in
    let old = c.args.out.now.items in
    let m1 = c.put_number.new.out.items in
    let m2 = c.put_word.new.out.items in
    let m3 = c.put_word-2.new.out.items in
    let m4 = c.write_text.new.out.items in
    let m5 = c.extend_from_slice.new.self.items in
    let m6 = c.put_validator.new.out.items in
    let value = printed (plain_of cell.opening) in
    let l1 = codes "cell " ++ decimal c.args.number in
    let l2 = l1 ++ word (kind_name cell.kind) in
    let l3 = l2 ++ word cell.name in
    let l4 = l3 ++ word value in
    let l5 = l4 ++ mode_words cell.error_mode in
    let l6 = l5 ++ validator_words cell.validator in
    let e1 = c.in_ok-put_number.ensures ∙ append_assoc old (codes "cell ") (decimal c.args.number) in
    let e2 = two_put old l1 m1 (word (kind_name cell.kind)) m2 e1 (rw c.kind_name.ensures at c.in_ok-put_word.ensures) in
    let e3 = two_put old l2 m2 (word cell.name) m3 e2 (rw c.as_bytes.ensures.value at c.in_ok-put_word-2.ensures) in
    let put = two_put m3 (codes " ") c.push.new.self.items value m4 c.in_ok-push.ensures.items c.in_ok-write_text.ensures.ok in
    let e4 = two_put old l3 m3 (word value) m4 e3 put in
    let e5 = two_put old l4 m4 (mode_words cell.error_mode) m5 e4 (rw c.mode_words.ensures at c.in_ok-extend_from_slice.ensures.items) in
    let e6 = two_put old l5 m5 (validator_words cell.validator) m6 e5 c.in_ok-put_validator.ensures in
    last_put c.extend_from_slice-2.result old l6 m6 (codes "\n") c.extend_from_slice-2.new.self.items e6 c.extend_from_slice-2.ensures.items
