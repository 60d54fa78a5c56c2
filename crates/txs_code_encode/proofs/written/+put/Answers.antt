use Rattle.std.proofs.Common.{rules, ◌≡◌, ◌≤◌, [], ◌∷◌, ◌++◌, length, sym, ap, ◌∙◌, subst}
use Rattle.std.specs.Int.{w16, to_be_bytes}
use Rattle.std.specs.Prelude.{OnOk}
use Rattle.std.proofs.lemmas.List.{append-nil, take_all}
use Rattle.txs_value_data.specs.PlainValue.{plain_row}
use Rattle.txs_code_decode.specs.ValueForm.{name_bytes, row_bytes, text_bytes}
use Rattle.txs_value_data.specs.View.{plain_of}
use Rattle.txs_code_encode.proofs.WrittenLemmas.{item_less, item_writable, on_ok, row_next, last_put, two_put, vector_put}
use Rattle.txs_code_encode.proofs.written.+put.Goals as goal

pub put_items-put_value-requires : goal.put_items-put_value-requires
put_items-put_value-requires t c =
    let less = item_less c.args.items.now c.loop-i.i (plain_of c.get.result.now) c.get.ensures in
    let writable = item_writable c.args.items.now c.loop-i.i (plain_of c.get.result.now) c.get.ensures c.requires in
    (search (rules, less), writable)

pub put_items-loop-i-preserved : goal.put_items-loop-i-preserved
put_items-loop-i-preserved t c =
    row_next c.args.items.now c.loop-i.i (plain_of c.get.result.now) c.args.out.now.items c.loop-i.out.items c.put_value.new.out.items c.get.ensures c.loop-i.invariant c.in_ok-put_value.ensures

pub put_value-returns-in_ok-put_behind-in-Vector : goal.put_value-returns-in_ok-put_behind-in-Vector
put_value-returns-in_ok-put_behind-in-Vector t c =
    let old = c.args.out.now.items in
    let front = c.in_ok-put_behind-in-Vector.ensures ∙ ap (λ bs. old ++ 6 ∷ bs) (c.to_be_bytes-in-Vector.ensures ∙ ap (to_be_bytes w16) c.len.ensures.value) in
    rw c.in-Vector.is (on_ok c.put_items.result (λ h. vector_put old c.put_behind-in-Vector.new.out.items c.put_items.new.out.items c.in-Vector.items front h) c.put_items.ensures)

pub put_items-loop-i-init : goal.put_items-loop-i-init
put_items-loop-i-init t c = sym (append-nil c.args.out.now.items)

pub put_items-returns : goal.put_items-returns
put_items-returns t c =
    let all = subst (λ n. n ≤ c.loop-i.i) c.len-i-end.ensures.value c.loop-i-test.false in
    c.loop-i.invariant ∙ ap (λ ds. c.args.out.now.items ++ row_bytes (plain_row ds)) (take_all c.loop-i.i c.args.items.now all)

pub put_value-returns-in-Nil : goal.put_value-returns-in-Nil
put_value-returns-in-Nil t c = rw c.in-Nil.is c.put_behind.ensures

pub put_value-returns-in_ok-put_behind-in-Key : goal.put_value-returns-in_ok-put_behind-in-Key
put_value-returns-in_ok-put_behind-in-Key t c =
    let put = c.put_name in
    rw c.in-Key.is (on_ok put.result (λ h. two_put c.args.out.now.items (4 ∷ []) c.put_behind-in-Key.new.out.items (name_bytes c.in-Key.name) put.new.out.items c.in_ok-put_behind-in-Key.ensures h) put.ensures)

pub put_value-returns-in_ok-put_behind-in-Text : goal.put_value-returns-in_ok-put_behind-in-Text
put_value-returns-in_ok-put_behind-in-Text t c =
    let old = c.args.out.now.items in
    let put = c.extend_from_slice in
    let bytes = c.as_bytes-bytes.result.now in
    let front = c.in_ok-put_behind-in-Text.ensures ∙ ap (λ bs. old ++ 5 ∷ bs) c.to_be_bytes-in-Text.ensures in
    let last = last_put put.result old (5 ∷ to_be_bytes w16 (length bytes)) c.put_behind-in-Text.new.out.items bytes put.new.self.items front put.ensures.items in
    rw c.in-Text.is (subst (λ bs. OnOk put.result (put.new.self.items ≡ old ++ 5 ∷ text_bytes bs)) (c.as_bytes-bytes.ensures.value ∙ c.as_str.ensures) last)

pub put_value-returns-in-Cell : goal.put_value-returns-in-Cell
put_value-returns-in-Cell t c =
    let put = c.put_behind-in-Cell in
    rw c.in-Cell.is (subst (λ bs. OnOk put.result (put.new.out.items ≡ c.args.out.now.items ++ 7 ∷ bs)) c.to_be_bytes-in-Cell.ensures put.ensures)
