use Rattle.std.proofs.Common.{◌≡◌, ◌<◌, ◌+◌, ◌∙◌, ◌∷◌, ◌++◌, [], ℕ, List, length, take, get_or, ap, sym}
use Rattle.std.proofs.lemmas.List.{take_more}
use Rattle.txs_value_cell.specs.declared.action.Action.{Action}
use Rattle.txs_machine_transaction.proofs.asks.copy_actions.Goals as goal

-- one more is copied
one_more : (sends before after : List Action) (i : ℕ) (x copy : Action) → after ≡ before ++ copy ∷ [] → before ≡ take i sends → copy ≡ x → x ≡ get_or sends i x → i < length sends → after ≡ take (i + 1) sends
one_more sends before after i x copy pushed kept same is lt =
    pushed ∙ ap (λ (xs : List Action). xs ++ copy ∷ []) kept ∙ ap (λ (y : Action). take i sends ++ y ∷ []) (same ∙ is) ∙ sym (take_more sends i x lt)

pub loop-send-preserved : goal.loop-send-preserved
loop-send-preserved c =
    let i = c.loop-send.invariant in
    let p = c.push_reserved.ensures in
    let many = i.many in
    record {
      copied = one_more c.args.sends.now c.loop-send.copies.items c.push_reserved.new.self.items c.loop-send.send-index c.send-item.result c.in_ok-copy_action.field-0 p.items i.copied c.in_ok-copy_action.ensures c.send-item.is c.loop-send-test.true;
      many = p.len ∙ ap (λ (n : ℕ). n + 1) many;
      room = p.capacity ∙ i.room;
    }
