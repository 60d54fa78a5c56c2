use Rattle.std.proofs.Common.{refl, subst, sym, ◌∙◌}
use Rattle.txs_world_protocol.specs.Ask.{Writes}
use Rattle.txs_frame.specs.Kept.{IsPlaceOf}
use Rattle.txs_frame.specs.Phase.{write_number}
use Rattle.txs_frame.proofs.Phasing.{write_joins}
use Rattle.txs_frame.proofs.phase.put_value.Goals as goal

pub returns-in-Ok : goal.returns-in-Ok
returns-in-Ok c =
    let ws : Writes = c.args.values.now.items in
    let k = c.args.cell.number in
    let p = subst (λ (x : Writes). IsPlaceOf write_number x k c.find_write.result) c.as_slice.ensures.value c.find_write.ensures in
    let q = subst (IsPlaceOf write_number ws k) c.in-Ok.is p in
    sym (write_joins ws c.args.cell c.args.value ∙ q.puts (c.args.cell, c.args.value) refl)
