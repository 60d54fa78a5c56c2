use Rattle.std.proofs.Common.{◌+◌, ◌∙◌, ◌++◌, ◌∷◌, [], List, ap, append_assoc, arith, sym, length, length-append, take}
use Rattle.std.proofs.lemmas.List.{append-nil, take_all}
use Rattle.txs_value_data.specs.declared.value.Value.{Value}
use Rattle.txs_frame.proofs.Turns.{one_more}
use Rattle.txs_frame.proofs.phase.commute_arguments.Goals as goal

pub loop-value-init : goal.loop-value-init
loop-value-init c =
    let put = c.push_reserved.ensures in
    let v : Value = c.in_ok-viewed.field-0 in
    let items = put.items ∙ ap (λ (xs : List Value). xs ++ v ∷ []) c.in_ok-all.ensures.items in
    let room = put.capacity ∙ c.in_ok-all.ensures.exact in
    record { many = ap length items; room = omega (arith, room); same = sym (append-nil c.push_reserved.new.self.items) }

pub loop-value-preserved : goal.loop-value-preserved
loop-value-preserved c =
    let h = c.loop-value in
    let vs : List Value = c.as_slice-args.result.now in
    let i = h.value-index in
    let first : List Value = c.push_reserved.new.self.items in
    let v : Value = c.in_ok-copy_value.field-0 in
    let put = c.push_reserved-in-loop-value.ensures in
    let before = h.invariant.many in
    let many = ap length put.items ∙ length-append h.all.items (v ∷ []) in
    record {
      many = omega (arith, before, many);
      room = put.capacity ∙ h.invariant.room;
      same = put.items ∙ ap (λ (xs : List Value). xs ++ v ∷ []) h.invariant.same ∙ append_assoc first (take i vs) (v ∷ []) ∙ ap (λ (x : Value). first ++ (take i vs ++ x ∷ [])) c.in_ok-copy_value.ensures
          ∙ ap (λ (xs : List Value). first ++ xs) (sym (one_more vs i c.value-item.result c.loop-value-test.true c.value-item.is));
    }

pub returns : goal.returns
returns c =
    let l = c.loop-value in
    let v : Value = c.in_ok-viewed.field-0 in
    let first = c.push_reserved.ensures.items ∙ ap (λ (xs : List Value). xs ++ v ∷ []) c.in_ok-all.ensures.items ∙ ap (λ (x : Value). x ∷ []) c.in_ok-viewed.ensures in
    l.invariant.same
    ∙ ap (λ (xs : List Value). c.push_reserved.new.self.items ++ xs) (take_all l.value-index c.as_slice-args.result.now c.loop-value-test.false ∙ c.as_slice-args.ensures)
    ∙ ap (λ (xs : List Value). xs ++ c.args.commute.now.args) first
