use Rattle.std.proofs.Common.{subst, sym}
use Rattle.txs_audit_book.specs.Gone.{plain_inboxes}
use Rattle.txs_audit_book.specs.Replayed.{PlainReplay, WorldsAre, plain_replay}
use Rattle.txs_audit_book.proofs.Reading.{store_world, atom_world}
use Rattle.txs_audit_book.proofs.replay.Replay.histories.Goals as goal

pub returns : goal.returns
returns c =
    let x = c.self.inside in
    let p = x.parts in
    let r : PlainReplay = plain_replay p.cells p.threads x.book.now in
    subst (λ (q : PlainReplay). WorldsAre q c.as_slice.result.now) c.self.view_is
    (subst (WorldsAre r) (sym c.as_slice.ensures.value)
    (record {
      store = store_world p.cells p.histories.items (plain_inboxes p.inboxes.items) p.views.items p.tries.items x.book.now c.self.invariant;
      atoms = atom_world p.cells p.histories.items (plain_inboxes p.inboxes.items) p.views.items p.tries.items x.book.now c.self.invariant;
    }))
