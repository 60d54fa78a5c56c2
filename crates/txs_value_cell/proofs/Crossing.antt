-- Actions go to other threads, and are lent to them. How their arguments are kept is known here alone.
use denote.Param.Send.{IsSend, IsSync, sendable, struct_send, struct_sync, enum_send, enum_sync, recorded_send, recorded_sync, view_send, view_sync}
use denote.Struct.Declared as S
use denote.Enum.Declared as E
use Rattle.std.proofs.Crossing.{crosses}
use Rattle.txs_value_data.proofs.value.Body.TheLaws.TheKnot as knot
use Rattle.txs_value_data.specs.contracts.value.Value as value
use Rattle.txs_value_cell.specs.contracts.arguments.Arguments as arguments_is
use Rattle.txs_value_cell.specs.contracts.arguments.Arguments.TheInside as arguments_in
use Rattle.txs_value_cell.specs.contracts.arguments.Kept as kept_is
use Rattle.txs_value_cell.specs.contracts.action.Action as action_is
use Rattle.txs_value_data.proofs.value.CellId.TheSendSync as cell_id_sent
use Rattle.txs_value_data.proofs.fault.Span.TheSendSync as span_sent
use Rattle.txs_value_data.proofs.op.Callee.TheSendSync as callee_sent

value_send : IsSend value.the_row
value_send = search (crosses, knot.crosses, sendable) depth 60 fits 20000

value_sync : IsSync value.the_row
value_sync = search (crosses, knot.crosses, sendable) depth 60 fits 20000

value_field_send : IsSend (value.the_field).row
value_field_send = search (crosses, knot.crosses, sendable) depth 60 fits 20000

value_field_sync : IsSync (value.the_field).row
value_field_sync = search (crosses, knot.crosses, sendable) depth 60 fits 20000

kept_send : IsSend (kept_is.the_field).row
kept_send = enum_send (E.shape kept_is.the_type) (tt, ((value_field_send, tt), ((search (value_send, value_sync, crosses, sendable) depth 60 fits 20000, tt), tt)))

kept_sync : IsSync (kept_is.the_field).row
kept_sync = enum_sync (E.shape kept_is.the_type) (tt, ((value_field_sync, tt), ((search (value_send, value_sync, crosses, sendable) depth 60 fits 20000, tt), tt)))

arguments_send : IsSend arguments_is.the_row
arguments_send = view_send arguments_in.the_row _ _ _ _ (recorded_send (arguments_in.the_field).row _ _ (arguments_in.the_type).to_one (struct_send (S.shape arguments_in.the_type) (search (kept_send, crosses, sendable) depth 60 fits 20000, tt)))

arguments_sync : IsSync arguments_is.the_row
arguments_sync = view_sync arguments_in.the_row _ _ _ _ (recorded_sync (arguments_in.the_field).row _ _ (arguments_in.the_type).to_one (struct_sync (S.shape arguments_in.the_type) (search (kept_sync, crosses, sendable) depth 60 fits 20000, tt)))

pub action_send : IsSend action_is.the_row
action_send = search (arguments_send, crosses, sendable) depth 60 fits 20000

pub action_field_send : IsSend (action_is.the_field).row
action_field_send = search (arguments_send, crosses, sendable) depth 60 fits 20000

pub action_field_sync : IsSync (action_is.the_field).row
action_field_sync = struct_sync (S.shape action_is.the_type) (search (arguments_sync, cell_id_sent.the_field_sync, callee_sent.the_field_sync, span_sent.the_field_sync, crosses, sendable) depth 60 fits 20000)

pub action_sync : IsSync action_is.the_row
action_sync = recorded_sync (action_is.the_field).row _ _ (action_is.the_type).to_one action_field_sync
