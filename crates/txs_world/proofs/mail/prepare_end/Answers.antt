use Rattle.std.proofs.Common.{◌≡◌, ◌∙◌, length, Result, Ok, Err, subst, sym, true}
use Rattle.std.specs.Prelude.{OnOk}
use Rattle.txs_world_book.specs.Book.{state_of}
use Rattle.txs_world_book.proofs.Outcomes.{on_ok}
use Rattle.txs_world.specs.Inboxes.{all_sent_below, rooms, HaveRoom}
use Rattle.txs_world.proofs.mail.prepare_end.Goals as goal

-- what holds anyhow holds where there is none
anyhow : {T E : Type 0} (r : Result T E) (P : Type 0) → P → OnOk r P
anyhow (Ok v) P p = p
anyhow (Err e) P p = tt

pub make_room_for-requires : goal.make_room_for-requires
make_room_for-requires c = subst (λ l. all_sent_below (length c.args.inboxes.now.items) l ≡ true) (sym c.as_slice-2.ensures) c.requires

pub returns-clause-same : goal.returns-clause-same
returns-clause-same c = c.make_room_for.ensures.same

pub returns-clause-copies : goal.returns-clause-copies
returns-clause-copies c = anyhow c.make_room_for.result (c.fill_state.new.copies.items ≡ state_of c.args.agent c.args.new.now) c.in_ok-fill_state.ensures

pub returns-clause-queue : goal.returns-clause-queue
returns-clause-queue c = anyhow c.make_room_for.result (c.fill_queue.new.queue.items ≡ c.args.sends.now) (c.in_ok-fill_queue.ensures ∙ c.as_slice.ensures)

pub returns-clause-room : goal.returns-clause-room
returns-clause-room c = on_ok c.make_room_for.result _ _ (λ h. subst (HaveRoom (rooms c.make_room_for.new.inboxes.items)) c.as_slice-2.ensures h) c.make_room_for.ensures.room
