use Rattle.std.proofs.Common.{◌≡◌, ℕ, ◌+◌, ◌<◌, [], ◌∷◌, ◌++◌, length, get_or, take, ap, sym, ◌∙◌, rules}
use Rattle.std.proofs.lemmas.List.{take_more}
use Rattle.txs_value_data.specs.declared.value.CellId.{CellId}
use Rattle.txs_value_data.specs.declared.value.Value.{Value}
use Rattle.txs_world_protocol.specs.Ask.{Writes}
use Rattle.txs_world_protocol.proofs.copy.copy_writes.Goals as goal

-- one more cell is copied with its value
one_more : (new so_far ws : Writes) (i : ℕ) (w : CellId × Value) (v : Value) → new ≡ so_far ++ (w.0, v) ∷ [] → so_far ≡ take i ws → i < length ws → w ≡ get_or ws i w → v ≡ w.1 → new ≡ take (i + 1) ws
one_more new so_far ws i w v is copied lt at same =
    let item : (w.0, v) ≡ get_or ws i w = ap (λ (u : Value). (w.0, u)) same ∙ at in
    is ∙ ap (λ (xs : Writes). xs ++ (w.0, v) ∷ []) copied ∙ ap (λ (u : CellId × Value). take i ws ++ u ∷ []) item ∙ sym (take_more ws i w lt)

pub loop-write-preserved : goal.loop-write-preserved
loop-write-preserved c =
    record {
      items = one_more c.push_reserved.new.self.items c.loop-write.copies.items c.as_slice-writes.result.now c.loop-write.write-index c.write-item.result _ c.push_reserved.ensures.items c.loop-write.invariant.items c.loop-write-test.true c.write-item.is (search rules);
      capacity = c.push_reserved.ensures.capacity ∙ c.loop-write.invariant.capacity;
    }
