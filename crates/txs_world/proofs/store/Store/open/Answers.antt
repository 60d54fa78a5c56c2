use Rattle.std.proofs.Common.{ap, ◌∙◌}
use Rattle.txs_world.specs.Inboxes.{open_inboxes}
use Rattle.txs_world.specs.Kept.{open_slots}
use Rattle.txs_world.proofs.Kept.{opened_kept}
use Rattle.txs_world.proofs.Storing.{opened_store}
use Rattle.txs_world.proofs.store.Store.open.Goals as goal

pub invariant_of-result : goal.invariant_of-result
invariant_of-result c = opened_kept _ _ _ _ _ _ _ (c.in_ok-slots.ensures ∙ ap open_slots c.as_slice.ensures) (c.in_ok-inboxes.ensures ∙ ap open_inboxes c.as_slice-2.ensures) c.new.ensures.views c.new.ensures.tries c.new.ensures.book

pub returns : goal.returns
returns c = opened_store _ _ _ _ _ c.in_ok-cells.ensures c.new.ensures.book (c.in_ok-inboxes.ensures ∙ ap open_inboxes c.as_slice-2.ensures)
