use Rattle.std.proofs.Common.{◌≡◌, ap, sym, ◌∙◌, subst, length, true, get_or}
use Rattle.std.proofs.lemmas.List.{length-set}
use Rattle.txs_value_data.specs.declared.value.CellId.{CellId}
use Rattle.txs_value_data.specs.declared.value.Value.{Value}
use Rattle.txs_world.specs.Kept.{all_below, put_all, put_version, no_slot}
use Rattle.txs_world.proofs.Kept.{put_back, below_back}
use Rattle.txs_world.proofs.slot.put_all.Goals as goal

pub put_one-requires : goal.put_one-requires
put_one-requires c =
    let slots = c.loop-cell.slots.items in
    (below_back (length slots) c.pop.new.self.items (c.in-Some.cell, c.in-Some.value) (subst (λ l. all_below (length slots) l ≡ true) c.in-Some.ensures.items c.loop-cell.invariant.places)).0

pub loop-cell-preserved : goal.loop-cell-preserved
loop-cell-preserved c =
    let slots = c.loop-cell.slots.items in
    let rest = c.pop.new.self.items in
    let w : CellId × Value = (c.in-Some.cell, c.in-Some.value) in
    let is = c.in-Some.ensures.items in
    let below = (below_back (length slots) rest w (subst (λ l. all_below (length slots) l ≡ true) is c.loop-cell.invariant.places)).1 in
    let many = ap length c.put_one.ensures ∙ length-set slots w.0.number (put_version w.1 c.args.events (get_or slots w.0.number no_slot)) in
    record {
      places = subst (λ n. all_below n rest ≡ true) (sym many) below;
      whole = ap (λ l. put_all c.args.events l rest) c.put_one.ensures ∙ sym (put_back c.args.events slots rest w) ∙ ap (put_all c.args.events slots) (sym is) ∙ c.loop-cell.invariant.whole;
    }
