-- What is lent to the workers of an audit: the books of a report, the program and the report, down to values.
use denote.Builtin
use denote.Ref.{NamedLft}
use denote.Param.Send.{IsSync, sendable, plain_sync, recorded_sync, struct_sync, enum_sync, view_sync, shr_sync, shr_slice_sync}
use denote.Struct.Declared as S
use denote.Enum.Declared as E
use Rattle.std.proofs.Crossing.{crosses}
use Rattle.std.proofs.option.Option.TheSendSync as option
use Rattle.std.proofs.vec.Vec.TheSendSync as vec
use Rattle.txs_value_data.proofs.fault.Fault.TheSendSync as fault_sent
use Rattle.txs_value_data.proofs.fault.Span.TheSendSync as span_sent
use Rattle.txs_value_data.proofs.op.Callee.TheSendSync as callee_sent
use Rattle.txs_value_data.proofs.op.Op.TheSendSync as op_sent
use Rattle.txs_value_data.proofs.listed.Listed.TheSendSync as listed
use Rattle.txs_value_data.proofs.value.Body.TheLaws.TheKnot as knot
use Rattle.txs_value_data.proofs.value.CellId.TheSendSync as cell_id_sent
use Rattle.txs_value_data.proofs.value.Name.TheSendSync as name_sent
use Rattle.txs_value_data.specs.contracts.value.Value as value
use Rattle.txs_value_cell.proofs.cell.ErrorMode.TheSendSync as error_mode_sent
use Rattle.txs_value_cell.proofs.form.LookForm.TheSendSync as look_sent
use Rattle.txs_value_cell.proofs.form.PutForm.TheSendSync as put_sent
use Rattle.txs_value_cell.proofs.form.UpdateForm.TheSendSync as update_sent
use Rattle.txs_value_cell.proofs.Crossing.{action_field_sync, action_sync}
use Rattle.txs_value_cell.specs.contracts.cell.CellDefinition as cell_definition_is
use Rattle.txs_world_protocol.proofs.event.Cause.TheSendSync as cause_sent
use Rattle.txs_world_protocol.proofs.event.Outcome.TheSendSync as outcome_sent
use Rattle.txs_world_protocol.proofs.event.Place.TheSendSync as place_sent
use Rattle.txs_world_protocol.specs.contracts.event.Event as event_is
use Rattle.txs_world_protocol.specs.contracts.event.EventKind as event_kind_is
use Rattle.txs_world_protocol.specs.contracts.report.ActorReport as ran_is
use Rattle.txs_world_protocol.specs.contracts.report.Report as report_is
use Rattle.txs_world_book.specs.contracts.cell.Cells as cells_is
use Rattle.txs_world_book.specs.contracts.cell.Cells.TheInside as cells_in
use Rattle.txs_world_book.specs.contracts.cell.StoreCell as store_cell_is
use Rattle.txs_tree_meaning.proofs.node.NodeKind.TheLaws.TheKnot as tree
use Rattle.txs_tree_meaning.specs.contracts.node.Function as function_is
use Rattle.txs_tree_meaning.specs.contracts.node.Node as node_is
use Rattle.txs_tree_meaning.specs.contracts.node.Thread as thread_is
use Rattle.txs_tree_meaning.specs.contracts.program.Program as program_is
use Rattle.txs_tree_meaning.specs.contracts.program.Program.TheInside as program_in
use Rattle.txs_tree_meaning.specs.contracts.raw.Raw as raw_is
use Rattle.txs_tree_meaning.specs.contracts.raw.Raw.TheInside as raw_in
use Rattle.txs_tree_eval_transaction.specs.contracts.past.History as history_is
use Rattle.txs_tree_eval_transaction.specs.contracts.past.History.TheInside as history_in
use Rattle.txs_check.proofs.class.Signature.TheSendSync as signature_sent
use Rattle.txs_check.specs.contracts.callee.FunctionTable as table_is
use Rattle.txs_check.specs.contracts.callee.FunctionTable.TheInside as table_in
use Rattle.txs_audit_book.specs.contracts.inbox.Inbox as inbox_is
use Rattle.txs_audit_book.specs.contracts.parts.Parts as parts_is
use Rattle.txs_audit_book.specs.contracts.replay.Replay as replay_is
use Rattle.txs_audit_book.specs.contracts.replay.Replay.TheInside as replay_in
use Rattle.txs_audit_evidence.specs.contracts.books.Books as books_is
use Rattle.txs_audit_evidence.specs.contracts.books.Books.TheInside as books_in

pub value_sync : IsSync value.the_row
value_sync = search (crosses, knot.crosses, sendable) depth 60 fits 20000

pub value_field_sync : IsSync (value.the_field).row
value_field_sync = search (crosses, knot.crosses, sendable) depth 60 fits 20000

pub cell_definition_sync : IsSync cell_definition_is.the_row
cell_definition_sync = recorded_sync (cell_definition_is.the_field).row _ _ (cell_definition_is.the_type).to_one (struct_sync (S.shape cell_definition_is.the_type) (search (value_field_sync, name_sent.the_sync, error_mode_sent.the_field_sync, callee_sent.the_sync, option.the_field_sync, crosses, sendable) depth 60 fits 20000))

pub node_field_sync : IsSync (node_is.the_field).row
node_field_sync = search (crosses, tree.crosses, value_field_sync, op_sent.the_field_sync, look_sent.the_field_sync, put_sent.the_field_sync, update_sent.the_field_sync, callee_sent.the_field_sync, span_sent.the_field_sync, sendable) depth 60 fits 20000

pub function_sync : IsSync function_is.the_row
function_sync = recorded_sync (function_is.the_field).row _ _ (function_is.the_type).to_one (struct_sync (S.shape function_is.the_type) (search (node_field_sync, span_sent.the_field_sync, plain_sync, crosses, sendable) depth 60 fits 20000))

pub thread_sync : IsSync thread_is.the_row
thread_sync = recorded_sync (thread_is.the_field).row _ _ (thread_is.the_type).to_one (struct_sync (S.shape thread_is.the_type) (search (node_field_sync, span_sent.the_field_sync, crosses, sendable) depth 60 fits 20000))

pub raw_sync : IsSync raw_is.the_row
raw_sync = view_sync raw_in.the_row _ _ _ _ (recorded_sync (raw_in.the_field).row _ _ (raw_in.the_type).to_one (struct_sync (S.shape raw_in.the_type) (search (vec.the_sync, cell_definition_sync, crosses, sendable) depth 60 fits 20000, (search (vec.the_sync, span_sent.the_sync, crosses, sendable) depth 60 fits 20000, (search (vec.the_sync, function_sync, crosses, sendable) depth 60 fits 20000, (search (vec.the_sync, thread_sync, crosses, sendable) depth 60 fits 20000, tt))))))

-- a program
pub program_sync : IsSync program_is.the_row
program_sync = view_sync program_in.the_row _ _ _ _ (recorded_sync (program_in.the_field).row _ _ (program_in.the_type).to_one (struct_sync (S.shape program_in.the_type) (raw_sync, tt)))

-- ---- events

event_kind_field_sync : IsSync (event_kind_is.the_field).row
event_kind_field_sync = enum_sync (E.shape event_kind_is.the_type) ((cell_id_sent.the_field_sync, tt), ((plain_sync _ _ _ _ _, (plain_sync _ _ _ _ _, ((search (value_sync, vec.the_sync, listed.the_sync, cell_id_sent.the_sync, crosses, sendable) depth 60 fits 20000), ((search (action_sync, listed.the_sync, crosses, sendable) depth 60 fits 20000), tt)))), ((plain_sync _ _ _ _ _, (cell_id_sent.the_field_sync, (cause_sent.the_field_sync, tt))), ((plain_sync _ _ _ _ _, (plain_sync _ _ _ _ _, tt)), ((plain_sync _ _ _ _ _, (plain_sync _ _ _ _ _, (cell_id_sent.the_field_sync, tt))), ((action_field_sync, tt), ((cell_id_sent.the_field_sync, tt), ((cell_id_sent.the_field_sync, (plain_sync _ _ _ _ _, ((search (value_sync, fault_sent.the_sync, crosses, sendable) depth 60 fits 20000), ((search (action_sync, listed.the_sync, crosses, sendable) depth 60 fits 20000), tt)))), ((value_field_sync, tt), ((plain_sync _ _ _ _ _, tt), tt))))))))))

event_field_sync : IsSync (event_is.the_field).row
event_field_sync = struct_sync (S.shape event_is.the_type) (plain_sync _ _ _ _ _, ((search (event_kind_field_sync, crosses, sendable) depth 60 fits 20000), tt))

event_sync : IsSync event_is.the_row
event_sync = recorded_sync (event_is.the_field).row _ _ (event_is.the_type).to_one event_field_sync

-- ---- a report

ran_sync : IsSync ran_is.the_row
ran_sync = recorded_sync (ran_is.the_field).row _ _ (ran_is.the_type).to_one (struct_sync (S.shape ran_is.the_type) ((search (outcome_sent.the_sync, option.the_field_sync, crosses, sendable) depth 60 fits 20000), ((search (plain_sync, vec.the_sync, crosses, sendable) depth 60 fits 20000), ((search (place_sent.the_sync, vec.the_sync, crosses, sendable) depth 60 fits 20000), (plain_sync _ _ _ _ _, ((search (span_sent.the_sync, option.the_field_sync, crosses, sendable) depth 60 fits 20000), tt))))))

pub report_sync : IsSync report_is.the_row
report_sync = recorded_sync (report_is.the_field).row _ _ (report_is.the_type).to_one (struct_sync (S.shape report_is.the_type) ((search (ran_sync, vec.the_sync, crosses, sendable) depth 60 fits 20000), ((search (ran_sync, vec.the_sync, crosses, sendable) depth 60 fits 20000), ((search (event_sync, vec.the_sync, crosses, sendable) depth 60 fits 20000), ((search (event_sync, vec.the_sync, listed.the_sync, crosses, sendable) depth 60 fits 20000), ((search (value_sync, vec.the_sync, crosses, sendable) depth 60 fits 20000), ((search (fault_sent.the_sync, option.the_sync, vec.the_sync, crosses, sendable) depth 60 fits 20000), tt)))))))

-- ---- books that were gone through

history_sync : IsSync history_is.the_row
history_sync = view_sync history_in.the_row _ _ _ _ (recorded_sync (history_in.the_field).row _ _ (history_in.the_type).to_one (struct_sync (S.shape history_in.the_type) ((search (value_sync, plain_sync, vec.the_sync, crosses, sendable) depth 60 fits 20000), tt)))

inbox_sync : IsSync inbox_is.the_row
inbox_sync = recorded_sync (inbox_is.the_field).row _ _ (inbox_is.the_type).to_one (struct_sync (S.shape inbox_is.the_type) ((search (action_sync, vec.the_sync, crosses, sendable) depth 60 fits 20000), (plain_sync _ _ _ _ _, ((search (fault_sent.the_sync, option.the_field_sync, crosses, sendable) depth 60 fits 20000), (plain_sync _ _ _ _ _, tt)))))

store_cell_sync : IsSync store_cell_is.the_row
store_cell_sync = recorded_sync (store_cell_is.the_field).row _ _ (store_cell_is.the_type).to_one (struct_sync (S.shape store_cell_is.the_type) (search (value_field_sync, plain_sync, crosses, sendable) depth 60 fits 20000))

cells_sync : IsSync cells_is.the_row
cells_sync = view_sync cells_in.the_row _ _ _ _ (recorded_sync (cells_in.the_field).row _ _ (cells_in.the_type).to_one (struct_sync (S.shape cells_in.the_type) ((search (store_cell_sync, vec.the_sync, crosses, sendable) depth 60 fits 20000), ((search (plain_sync, vec.the_sync, crosses, sendable) depth 60 fits 20000), (plain_sync _ _ _ _ _, tt)))))

parts_field_sync : IsSync (parts_is.the_field).row
parts_field_sync = struct_sync (S.shape parts_is.the_type) ((search (cells_sync, crosses, sendable) depth 60 fits 20000), (plain_sync _ _ _ _ _, ((search (history_sync, vec.the_sync, crosses, sendable) depth 60 fits 20000), ((search (inbox_sync, vec.the_sync, crosses, sendable) depth 60 fits 20000), ((search (plain_sync, vec.the_sync, crosses, sendable) depth 60 fits 20000), ((search (plain_sync, vec.the_sync, crosses, sendable) depth 60 fits 20000), tt))))))

module _ (a : NamedLft) where
  replay_sync : IsSync (replay_is.the_row a)
  replay_sync = view_sync (replay_in.the_row a) _ _ _ _ (recorded_sync (replay_in.the_field a).row _ _ (replay_in.the_type a).to_one (struct_sync (S.shape (replay_in.the_type a)) (parts_field_sync, (shr_slice_sync _ _ event_is.the_row event_sync, tt))))

  table_sync : IsSync (table_is.the_row a)
  table_sync = view_sync (table_in.the_row a) _ _ _ _ (recorded_sync (table_in.the_field a).row _ _ (table_in.the_type a).to_one (struct_sync (S.shape (table_in.the_type a)) (shr_sync _ _ program_is.the_row program_sync, ((search (signature_sent.the_sync, vec.the_sync, crosses, sendable) depth 60 fits 20000), tt))))

  -- the books
  pub books_sync : IsSync (books_is.the_row a)
  books_sync = view_sync (books_in.the_row a) _ _ _ _ (recorded_sync (books_in.the_field a).row _ _ (books_in.the_type a).to_one (struct_sync (S.shape (books_in.the_type a)) (shr_sync _ _ program_is.the_row program_sync, (shr_sync _ _ report_is.the_row report_sync, (replay_sync, ((search (history_sync, vec.the_sync, crosses, sendable) depth 60 fits 20000), (table_sync, tt)))))))
