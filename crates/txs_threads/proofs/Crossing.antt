-- What goes to other threads, or is lent to them: what actors and the state that they share hold, down to values.
use denote.RattleType.{RattleType}
use denote.Ref.{NamedLft}
use denote.Builtin
use denote.Param.Send.{IsSend, IsSync, sendable, plain_send, plain_sync, recorded_send, recorded_sync, struct_send, struct_sync, enum_send, view_send, view_sync, shr_send, shr_slice_send}
use denote.Struct.Declared as S
use denote.Enum.Declared as E
use Rattle.std.proofs.Crossing.{crosses}
use Rattle.std.proofs.option.Option.TheSendSync as option
use Rattle.std.proofs.vec.Vec.TheSendSync as vec
use Rattle.std.proofs.alloc.Global.TheSendSync as global
use Rattle.txs_value_data.proofs.listed.Listed.TheSendSync as listed
use Rattle.txs_world_protocol.proofs.event.Outcome.TheSendSync as outcome
use Rattle.txs_world_protocol.proofs.event.Cause.TheSendSync as cause_sent
use Rattle.txs_value_data.proofs.value.Body.TheLaws.TheKnot as knot
use Rattle.txs_code_meaning.proofs.code.Body.TheSendSync as body_sent
use Rattle.txs_code_meaning.specs.contracts.code.Code as code_is
use Rattle.txs_code_meaning.specs.contracts.code.Code.TheInside as code_in
use Rattle.txs_code_meaning.specs.contracts.verified.Verified as verified_is
use Rattle.txs_code_meaning.specs.contracts.verified.Verified.TheInside as verified_in
use Rattle.txs_code_meaning.proofs.fusing.Fused.TheSendSync as fused_sent
use Rattle.std.below.std_heap.proofs.GlobalAllocator.TheSendSync as heap
use Rattle.txs_value_data.specs.contracts.value.Value as value
use Rattle.txs_value_cell.proofs.Crossing.{action_send, action_field_send}
use Rattle.txs_value_data.proofs.value.CellId.TheSendSync as cell_id_sent
use Rattle.txs_value_data.proofs.value.Name.TheSendSync as name_sent
use Rattle.txs_value_data.proofs.fault.Fault.TheSendSync as fault_sent
use Rattle.txs_value_data.proofs.fault.Span.TheSendSync as span_sent
use Rattle.txs_value_data.proofs.op.Callee.TheSendSync as callee_sent
use Rattle.txs_value_cell.proofs.cell.ErrorMode.TheSendSync as error_mode_sent
use Rattle.txs_world_protocol.specs.contracts.ask.Ask as ask_is
use Rattle.txs_world_protocol.specs.contracts.event.EventKind as event_kind_is
use Rattle.txs_world_protocol.specs.contracts.event.Event as event_is
use Rattle.txs_frame.specs.contracts.frame.Commute as commute_is
use Rattle.txs_frame.specs.contracts.frame.TxFrame as tx_frame_is
use Rattle.txs_frame.specs.contracts.frame.TxFrame.TheInside as tx_frame_in
use Rattle.txs_frame.specs.contracts.phase.Phase as phase_is
use Rattle.txs_frame.specs.contracts.phase.Phase.TheInside as phase_in
use Rattle.txs_frame.specs.contracts.phase.Task as task_is
use Rattle.txs_machine_stack.specs.contracts.stack.Stack as stack_is
use Rattle.txs_machine_stack.specs.contracts.stack.Stack.TheInside as stack_in
use Rattle.txs_machine_transaction.specs.contracts.state.Savepoint as savepoint_is
use Rattle.txs_machine_transaction.specs.contracts.state.Transaction as transaction_is
use Rattle.txs_machine_transaction.specs.contracts.state.Pending as pending_is
use Rattle.txs_machine_transaction.specs.contracts.kept.KeptTransaction as kept_transaction_is
use Rattle.txs_machine_transaction.specs.contracts.kept.KeptTransaction.TheInside as kept_transaction_in
use Rattle.txs_machine_transaction.specs.contracts.kept.KeptPending as kept_pending_is
use Rattle.txs_machine_transaction.specs.contracts.kept.KeptPending.TheInside as kept_pending_in
use Rattle.txs_machine_transaction.proofs.kept.Standing.TheSendSync as standing_sent
use Rattle.txs_machine_transaction.proofs.kept.Wanted.TheSendSync as wanted_sent
use Rattle.txs_machine_transaction.specs.contracts.role.InHand as in_hand_is
use Rattle.txs_machine_transaction.specs.contracts.role.InHand.TheInside as in_hand_in
use Rattle.txs_machine_transaction.specs.contracts.role.Role as role_is
use Rattle.txs_machine_actor.specs.contracts.actor.Actor as actor_is
use Rattle.txs_machine_actor.specs.contracts.actor.Actor.TheInside as actor_in
use Rattle.txs_value_cell.specs.contracts.cell.CellDefinition as cell_definition_is
use Rattle.txs_world_book.specs.contracts.cell.StoreCell as store_cell_is
use Rattle.txs_world_book.specs.contracts.cell.Cells as cells_is
use Rattle.txs_world_book.specs.contracts.cell.Cells.TheInside as cells_in
use Rattle.txs_world.specs.contracts.mailbox.Mailbox as mailbox_is
use Rattle.txs_world.specs.contracts.mailbox.Mailbox.TheInside as mailbox_in
use Rattle.txs_world_book.specs.contracts.atom.AtomBook as atom_book_is
use Rattle.txs_world_book.specs.contracts.atom.AtomBook.TheInside as atom_book_in
use Rattle.circular_buffer.proofs.heap.HeapCircularBuffer.TheSendSync as ring
use Rattle.txs_world.specs.contracts.slot.Version as version_is
use Rattle.txs_world.specs.contracts.slot.Slot as slot_is
use Rattle.txs_world.specs.contracts.store.Store as store_is
use Rattle.txs_world.specs.contracts.store.Store.TheInside as store_in
use Rattle.txs_world_protocol.proofs.event.Place.TheSendSync as place_sent
use Rattle.txs_machine.specs.contracts.player.Player as player_is
use Rattle.txs_history.proofs.log.Log.TheSendSync as log_sent
use Rattle.txs_history.proofs.log.Past.TheSendSync as past_sent
use Rattle.txs_history.specs.declared.log.Naming as naming_is
use Rattle.txs_history.specs.declared.run.Run as run_is
use Rattle.txs_history.specs.contracts.store.LoggedStore as logged_store_is
use Rattle.txs_history.specs.contracts.store.LoggedStore.TheInside as logged_store_in
use Rattle.txs_history.specs.contracts.atom.LoggedAtom as logged_atom_is
use Rattle.txs_history.specs.contracts.atom.LoggedAtom.TheInside as logged_atom_in
use Rattle.txs_machine_actor.specs.contracts.outcome.Turn as turn_is
use Rattle.txs_history_run.specs.contracts.actor.LoggedActor as logged_actor_is
use Rattle.txs_history_run.specs.contracts.actor.LoggedActor.TheInside as logged_actor_in

pub value_send : IsSend value.the_row
value_send = search (crosses, knot.crosses, sendable) depth 60 fits 20000

pub value_field_send : IsSend (value.the_field).row
value_field_send = search (crosses, knot.crosses, sendable) depth 60 fits 20000

pub value_sync : IsSync value.the_row
value_sync = search (crosses, knot.crosses, sendable) depth 60 fits 20000

pub ask_field_send : IsSend (ask_is.the_field).row
ask_field_send = enum_send (E.shape ask_is.the_type) (tt, ((cell_id_sent.the_field_send, (plain_send _ _ _ _ _, tt)), (((search (listed.the_send, cell_id_sent.the_send, crosses, sendable) depth 60 fits 20000), tt), ((plain_send _ _ _ _ _, ((search (value_send, vec.the_send, listed.the_send, cell_id_sent.the_send, crosses, sendable) depth 60 fits 20000), ((search (listed.the_send, cell_id_sent.the_send, crosses, sendable) depth 60 fits 20000), (plain_send _ _ _ _ _, ((search (value_send, vec.the_send, listed.the_send, cell_id_sent.the_send, crosses, sendable) depth 60 fits 20000), ((search (action_send, listed.the_send, crosses, sendable) depth 60 fits 20000), tt)))))), ((plain_send _ _ _ _ _, (plain_send _ _ _ _ _, tt)), ((cell_id_sent.the_field_send, tt), ((action_field_send, tt), ((cell_id_sent.the_field_send, tt), ((cell_id_sent.the_field_send, ((search (value_send, fault_sent.the_send, crosses, sendable) depth 60 fits 20000), ((search (action_send, listed.the_send, crosses, sendable) depth 60 fits 20000), tt))), ((cell_id_sent.the_field_send, tt), ((cell_id_sent.the_field_send, ((search (plain_send, option.the_field_send, crosses, sendable) depth 60 fits 20000), (value_field_send, tt))), ((cell_id_sent.the_field_send, (plain_send _ _ _ _ _, tt)), tt))))))))))))

pub event_kind_field_send : IsSend (event_kind_is.the_field).row
event_kind_field_send = enum_send (E.shape event_kind_is.the_type) ((cell_id_sent.the_field_send, tt), ((plain_send _ _ _ _ _, (plain_send _ _ _ _ _, ((search (value_send, vec.the_send, listed.the_send, cell_id_sent.the_send, crosses, sendable) depth 60 fits 20000), ((search (action_send, listed.the_send, crosses, sendable) depth 60 fits 20000), tt)))), ((plain_send _ _ _ _ _, (cell_id_sent.the_field_send, (cause_sent.the_field_send, tt))), ((plain_send _ _ _ _ _, (plain_send _ _ _ _ _, tt)), ((plain_send _ _ _ _ _, (plain_send _ _ _ _ _, (cell_id_sent.the_field_send, tt))), ((action_field_send, tt), ((cell_id_sent.the_field_send, tt), ((cell_id_sent.the_field_send, (plain_send _ _ _ _ _, ((search (value_send, fault_sent.the_send, crosses, sendable) depth 60 fits 20000), ((search (action_send, listed.the_send, crosses, sendable) depth 60 fits 20000), tt)))), ((value_field_send, tt), ((plain_send _ _ _ _ _, tt), tt))))))))))

pub event_field_send : IsSend (event_is.the_field).row
event_field_send = struct_send (S.shape event_is.the_type) (plain_send _ _ _ _ _, ((search (event_kind_field_send, crosses, sendable) depth 60 fits 20000), tt))

pub event_send : IsSend event_is.the_row
event_send = recorded_send (event_is.the_field).row _ _ (event_is.the_type).to_one event_field_send

pub commute_field_send : IsSend (commute_is.the_field).row
commute_field_send = struct_send (S.shape commute_is.the_type) (cell_id_sent.the_field_send, ((search (callee_sent.the_field_send, crosses, sendable) depth 60 fits 20000), ((search (value_send, listed.the_send, crosses, sendable) depth 60 fits 20000), tt)))

pub commute_send : IsSend commute_is.the_row
commute_send = recorded_send (commute_is.the_field).row _ _ (commute_is.the_type).to_one commute_field_send

pub tx_frame_send : IsSend tx_frame_is.the_row
tx_frame_send = view_send tx_frame_in.the_row _ _ _ _ (recorded_send (tx_frame_in.the_field).row _ _ (tx_frame_in.the_type).to_one (struct_send (S.shape tx_frame_in.the_type) ((search (global.the_field_send, crosses, sendable) depth 60 fits 20000), ((search (value_field_send, plain_send, vec.the_send, crosses, sendable) depth 60 fits 20000), ((search (vec.the_send, cell_id_sent.the_send, crosses, sendable) depth 60 fits 20000), ((search (commute_send, vec.the_send, crosses, sendable) depth 60 fits 20000), ((search (action_send, vec.the_send, crosses, sendable) depth 60 fits 20000), tt)))))))

pub task_field_send : IsSend (task_is.the_field).row
task_field_send = enum_send (E.shape task_is.the_type) (((search (commute_field_send, crosses, sendable) depth 60 fits 20000), tt), ((cell_id_sent.the_field_send, ((search (callee_sent.the_field_send, crosses, sendable) depth 60 fits 20000), tt)), tt))

pub task_send : IsSend task_is.the_row
task_send = recorded_send (task_is.the_field).row _ _ (task_is.the_type).to_one task_field_send

pub phase_send : IsSend phase_is.the_row
phase_send = view_send phase_in.the_row _ _ _ _ (recorded_send (phase_in.the_field).row _ _ (phase_in.the_type).to_one (struct_send (S.shape phase_in.the_type) ((search (global.the_field_send, crosses, sendable) depth 60 fits 20000), ((search (value_send, vec.the_send, cell_id_sent.the_send, crosses, sendable) depth 60 fits 20000), ((search (task_send, vec.the_send, crosses, sendable) depth 60 fits 20000), (plain_send _ _ _ _ _, tt))))))

pub stack_send : IsSend stack_is.the_row
stack_send = view_send stack_in.the_row _ _ _ _ (recorded_send (stack_in.the_field).row _ _ (stack_in.the_type).to_one (struct_send (S.shape stack_in.the_type) ((search (plain_send, crosses, sendable) depth 60 fits 20000), ((search (plain_send, vec.the_send, crosses, sendable) depth 60 fits 20000), ((search (value_send, vec.the_send, crosses, sendable) depth 60 fits 20000), tt)))))

pub origin_field_send : IsSend (savepoint_is.the_field).row
origin_field_send = struct_send (S.shape savepoint_is.the_type) ((search (span_sent.the_field_send, crosses, sendable) depth 60 fits 20000), ((search (stack_send, crosses, sendable) depth 60 fits 20000), tt))

pub transaction_field_send : IsSend (transaction_is.the_field).row
transaction_field_send = enum_send (E.shape transaction_is.the_type) (tt, (((search (plain_send, crosses, sendable) depth 60 fits 20000), tt), (((search (plain_send, crosses, sendable) depth 60 fits 20000), ((search (plain_send, crosses, sendable) depth 60 fits 20000), ((search (origin_field_send, crosses, sendable) depth 60 fits 20000), tt))), (((search (plain_send, crosses, sendable) depth 60 fits 20000), ((search (origin_field_send, crosses, sendable) depth 60 fits 20000), ((search (phase_send, crosses, sendable) depth 60 fits 20000), tt))), (((search (plain_send, crosses, sendable) depth 60 fits 20000), ((search (origin_field_send, crosses, sendable) depth 60 fits 20000), ((search (phase_send, crosses, sendable) depth 60 fits 20000), ((search (stack_send, crosses, sendable) depth 60 fits 20000), tt)))), ((cell_id_sent.the_field_send, ((search (plain_send, crosses, sendable) depth 60 fits 20000), ((search (origin_field_send, crosses, sendable) depth 60 fits 20000), tt))), (((search (stack_send, crosses, sendable) depth 60 fits 20000), tt), ((cell_id_sent.the_field_send, ((search (plain_send, crosses, sendable) depth 60 fits 20000), ((search (origin_field_send, crosses, sendable) depth 60 fits 20000), ((search (stack_send, crosses, sendable) depth 60 fits 20000), tt)))), tt))))))))

pub pending_field_send : IsSend (pending_is.the_field).row
pending_field_send = enum_send (E.shape pending_is.the_type) (((search (plain_send, crosses, sendable) depth 60 fits 20000), ((search (origin_field_send, crosses, sendable) depth 60 fits 20000), tt)), ((cell_id_sent.the_field_send, tt), ((cell_id_sent.the_field_send, ((search (listed.the_send, cell_id_sent.the_send, crosses, sendable) depth 60 fits 20000), tt)), ((cell_id_sent.the_field_send, ((search (plain_send, crosses, sendable) depth 60 fits 20000), ((search (commute_send, option.the_field_send, crosses, sendable) depth 60 fits 20000), tt))), (((search (phase_send, crosses, sendable) depth 60 fits 20000), tt), ((cell_id_sent.the_field_send, (value_field_send, tt)), ((action_field_send, ((search (plain_send, crosses, sendable) depth 60 fits 20000), tt)), ((cell_id_sent.the_field_send, ((search (plain_send, crosses, sendable) depth 60 fits 20000), ((search (origin_field_send, crosses, sendable) depth 60 fits 20000), tt))), ((cell_id_sent.the_field_send, ((search (plain_send, crosses, sendable) depth 60 fits 20000), (value_field_send, tt))), (tt, (((search (action_send, listed.the_send, crosses, sendable) depth 60 fits 20000), tt), (((search (fault_sent.the_field_send, crosses, sendable) depth 60 fits 20000), tt), ((cell_id_sent.the_field_send, ((search (plain_send, crosses, sendable) depth 60 fits 20000), ((search (fault_sent.the_field_send, crosses, sendable) depth 60 fits 20000), tt))), ((cell_id_sent.the_field_send, tt), ((cell_id_sent.the_field_send, ((search (value_send, action_send, listed.the_send, fault_sent.the_send, crosses, sendable) depth 60 fits 20000), tt)), tt)))))))))))))))

pub pending_send : IsSend pending_is.the_row
pending_send = recorded_send (pending_is.the_field).row _ _ (pending_is.the_type).to_one pending_field_send

pub kept_transaction_send : IsSend kept_transaction_is.the_row
kept_transaction_send = view_send kept_transaction_in.the_row _ _ _ _ (recorded_send (kept_transaction_in.the_field).row _ _ (kept_transaction_in.the_type).to_one (struct_send (S.shape kept_transaction_in.the_type) ((search (global.the_field_send, crosses, sendable) depth 60 fits 20000), ((search (standing_sent.the_send, option.the_field_send, crosses, sendable) depth 60 fits 20000), ((search (origin_field_send, crosses, sendable) depth 60 fits 20000), ((search (transaction_field_send, crosses, sendable) depth 60 fits 20000), tt))))))

pub kept_pending_send : IsSend kept_pending_is.the_row
kept_pending_send = view_send kept_pending_in.the_row _ _ _ _ (recorded_send (kept_pending_in.the_field).row _ _ (kept_pending_in.the_type).to_one (struct_send (S.shape kept_pending_in.the_type) ((search (global.the_field_send, crosses, sendable) depth 60 fits 20000), ((search (wanted_sent.the_field_send, crosses, sendable) depth 60 fits 20000), ((search (origin_field_send, crosses, sendable) depth 60 fits 20000), (value_field_send, ((search (pending_send, option.the_field_send, crosses, sendable) depth 60 fits 20000), tt)))))))

pub in_hand_send : IsSend in_hand_is.the_row
in_hand_send = view_send in_hand_in.the_row _ _ _ _ (recorded_send (in_hand_in.the_field).row _ _ (in_hand_in.the_type).to_one (struct_send (S.shape in_hand_in.the_type) (cell_id_sent.the_field_send, (action_field_send, ((search (action_send, vec.the_send, crosses, sendable) depth 60 fits 20000), ((search (fault_sent.the_send, option.the_field_send, crosses, sendable) depth 60 fits 20000), tt))))))

pub role_field_send : IsSend (role_is.the_field).row
role_field_send = enum_send (E.shape role_is.the_type) (tt, ((cell_id_sent.the_field_send, ((search (in_hand_send, option.the_field_send, crosses, sendable) depth 60 fits 20000), tt)), (((search (in_hand_send, crosses, sendable) depth 60 fits 20000), ((search (plain_send, crosses, sendable) depth 60 fits 20000), ((search (stack_send, crosses, sendable) depth 60 fits 20000), tt))), tt)))

pub actor_send : IsSend actor_is.the_row
actor_send = view_send actor_in.the_row _ _ _ _ (recorded_send (actor_in.the_field).row _ _ (actor_in.the_type).to_one (struct_send (S.shape actor_in.the_type) ((search (global.the_field_send, crosses, sendable) depth 60 fits 20000), ((search (plain_send, crosses, sendable) depth 60 fits 20000), ((search (role_field_send, crosses, sendable) depth 60 fits 20000), ((search (stack_send, crosses, sendable) depth 60 fits 20000), ((search (plain_send, vec.the_send, crosses, sendable) depth 60 fits 20000), ((search (plain_send, crosses, sendable) depth 60 fits 20000), ((search (plain_send, crosses, sendable) depth 60 fits 20000), ((search (tx_frame_send, crosses, sendable) depth 60 fits 20000), ((search (commute_send, option.the_field_send, crosses, sendable) depth 60 fits 20000), ((search (plain_send, option.the_field_send, crosses, sendable) depth 60 fits 20000), ((search (kept_transaction_send, crosses, sendable) depth 60 fits 20000), ((search (kept_pending_send, crosses, sendable) depth 60 fits 20000), ((search (outcome.the_send, option.the_field_send, crosses, sendable) depth 60 fits 20000), ((search (plain_send, crosses, sendable) depth 60 fits 20000), ((search (plain_send, crosses, sendable) depth 60 fits 20000), tt)))))))))))))))))

pub store_cell_field_send : IsSend (store_cell_is.the_field).row
store_cell_field_send = struct_send (S.shape store_cell_is.the_type)
    (search (value_field_send, plain_send, crosses, sendable) depth 60 fits 20000)

pub store_cell_send : IsSend store_cell_is.the_row
store_cell_send = recorded_send (store_cell_is.the_field).row _ _ (store_cell_is.the_type).to_one store_cell_field_send

pub mailbox_send : IsSend mailbox_is.the_row
mailbox_send = view_send mailbox_in.the_row _ _ _ _ (recorded_send (mailbox_in.the_field).row _ _ (mailbox_in.the_type).to_one (struct_send (S.shape mailbox_in.the_type) ((search (action_send, crosses, sendable) depth 60 fits 20000), ((search (plain_send, crosses, sendable) depth 60 fits 20000), ((search (plain_send, crosses, sendable) depth 60 fits 20000), ((search (plain_send, crosses, sendable) depth 60 fits 20000), tt))))))

pub atom_book_send : IsSend atom_book_is.the_row
atom_book_send = view_send atom_book_in.the_row _ _ _ _ (recorded_send (atom_book_in.the_field).row _ _ (atom_book_in.the_type).to_one (struct_send (S.shape atom_book_in.the_type) (cell_id_sent.the_field_send, (value_field_send, ((search (value_send, option.the_field_send, crosses, sendable) depth 60 fits 20000), ((search (plain_send, crosses, sendable) depth 60 fits 20000), ((search (event_send, plain_send, vec.the_send, crosses, sendable) depth 60 fits 20000), tt)))))))

pub cells_send : IsSend cells_is.the_row
cells_send = view_send cells_in.the_row _ _ _ _ (recorded_send (cells_in.the_field).row _ _ (cells_in.the_type).to_one (struct_send (S.shape cells_in.the_type) ((search (store_cell_send, vec.the_send, crosses, sendable) depth 60 fits 20000), ((search (plain_send, vec.the_send, crosses, sendable) depth 60 fits 20000), (plain_send _ _ _ _ _, tt)))))

pub version_field_send : IsSend (version_is.the_field).row
version_field_send = struct_send (S.shape version_is.the_type) (value_field_send, (plain_send _ _ _ _ _, tt))

pub version_send : IsSend version_is.the_row
version_send = recorded_send (version_is.the_field).row _ _ (version_is.the_type).to_one version_field_send

pub slot_field_send : IsSend (slot_is.the_field).row
slot_field_send = struct_send (S.shape slot_is.the_type) ((search (ring.the_send, version_send, global.the_send, heap.the_frees, crosses, sendable) depth 60 fits 20000), tt)

pub slot_send : IsSend slot_is.the_row
slot_send = recorded_send (slot_is.the_field).row _ _ (slot_is.the_type).to_one slot_field_send

pub store_send : IsSend store_is.the_row
store_send = view_send store_in.the_row _ _ _ _ (recorded_send (store_in.the_field).row _ _ (store_in.the_type).to_one (struct_send (S.shape store_in.the_type) ((search (global.the_field_send, crosses, sendable) depth 60 fits 20000), ((search (cells_send, crosses, sendable) depth 60 fits 20000), ((search (plain_send, crosses, sendable) depth 60 fits 20000), ((search (slot_send, vec.the_send, crosses, sendable) depth 60 fits 20000), ((search (mailbox_send, plain_send, option.the_field_send, vec.the_send, fault_sent.the_send, crosses, sendable) depth 60 fits 20000), ((search (event_send, plain_send, vec.the_send, crosses, sendable) depth 60 fits 20000), ((search (value_send, vec.the_send, cell_id_sent.the_send, crosses, sendable) depth 60 fits 20000), ((search (action_send, crosses, sendable) depth 60 fits 20000), tt))))))))))

-- ---- what is lent to other threads

pub value_field_sync : IsSync (value.the_field).row
value_field_sync = search (crosses, knot.crosses, sendable) depth 60 fits 20000

pub cell_definition_sync : IsSync cell_definition_is.the_row
cell_definition_sync = recorded_sync (cell_definition_is.the_field).row _ _ (cell_definition_is.the_type).to_one (struct_sync (S.shape cell_definition_is.the_type) (search (value_field_sync, name_sent.the_sync, error_mode_sent.the_field_sync, callee_sent.the_sync, option.the_field_sync, crosses, sendable) depth 60 fits 20000))

pub code_sync : IsSync code_is.the_row
code_sync = view_sync code_in.the_row _ _ _ _ (recorded_sync (code_in.the_field).row _ _ (code_in.the_type).to_one (struct_sync (S.shape code_in.the_type) (search (vec.the_sync, cell_definition_sync, crosses, sendable) depth 60 fits 20000, (search (value_sync, vec.the_sync, crosses, sendable) depth 60 fits 20000, (search (vec.the_sync, body_sent.the_sync, crosses, sendable) depth 60 fits 20000, (search (vec.the_sync, body_sent.the_sync, crosses, sendable) depth 60 fits 20000, tt))))))

pub verified_sync : IsSync verified_is.the_row
verified_sync = view_sync verified_in.the_row _ _ _ _ (recorded_sync (verified_in.the_field).row _ _ (verified_in.the_type).to_one (struct_sync (S.shape verified_in.the_type) (code_sync, (search (plain_sync, vec.the_sync, crosses, sendable) depth 60 fits 20000, (search (plain_sync, vec.the_sync, crosses, sendable) depth 60 fits 20000, (search (vec.the_sync, listed.the_sync, fused_sent.the_sync, crosses, sendable) depth 60 fits 20000, (search (vec.the_sync, listed.the_sync, fused_sent.the_sync, crosses, sendable) depth 60 fits 20000, (plain_sync _ _ _ _ _, tt))))))))

-- ---- actors, and what is under the locks

pub player_field_send : IsSend (player_is.the_field).row
player_field_send = struct_send (S.shape player_is.the_type) ((search (actor_send, crosses, sendable) depth 60 fits 20000), ((search (place_sent.the_send, vec.the_send, crosses, sendable) depth 60 fits 20000), tt))

pub turn_field_send : IsSend (turn_is.the_field).row
turn_field_send = enum_send (E.shape turn_is.the_type) (tt, (((search (ask_field_send, crosses, sendable) depth 60 fits 20000), tt), (((search (outcome.the_field_send, crosses, sendable) depth 60 fits 20000), tt), tt)))

-- of a run
module _ (J : RattleType) (run : run_is.Ghosts J.Denot) (name : naming_is.Ghosts J.Denot) where
  pub logged_store_send : IsSend (logged_store_is.the_row J run name)
  logged_store_send = view_send (logged_store_in.the_row J run name) _ _ _ _ (recorded_send (logged_store_in.the_field J run name).row _ _ (logged_store_in.the_type J run name).to_one (struct_send (S.shape (logged_store_in.the_type J run name)) ((search (store_send, crosses, sendable) depth 60 fits 20000), ((search (log_sent.the_send, crosses, sendable) depth 60 fits 20000), (plain_send _ _ _ _ _, tt)))))

  pub logged_atom_send : IsSend (logged_atom_is.the_row J run name)
  logged_atom_send = view_send (logged_atom_in.the_row J run name) _ _ _ _ (recorded_send (logged_atom_in.the_field J run name).row _ _ (logged_atom_in.the_type J run name).to_one (struct_send (S.shape (logged_atom_in.the_type J run name)) ((search (atom_book_send, crosses, sendable) depth 60 fits 20000), (plain_send _ _ _ _ _, ((search (log_sent.the_send, crosses, sendable) depth 60 fits 20000), (plain_send _ _ _ _ _, tt))))))

  module _ (a : NamedLft) where
    pub logged_actor_send : IsSend (logged_actor_is.the_row a J run name)
    logged_actor_send = view_send (logged_actor_in.the_row a J run name) _ _ _ _ (recorded_send (logged_actor_in.the_field a J run name).row _ _ (logged_actor_in.the_type a J run name).to_one (struct_send (S.shape (logged_actor_in.the_type a J run name)) (shr_send _ _ verified_is.the_row verified_sync, (shr_slice_send _ _ Builtin.bool (plain_sync _ _ _ _ _), ((search (player_field_send, crosses, sendable) depth 60 fits 20000), (plain_send _ _ _ _ _, ((search (past_sent.the_send, crosses, sendable) depth 60 fits 20000), ((search (turn_field_send, crosses, sendable) depth 60 fits 20000), (plain_send _ _ _ _ _, tt)))))))))
