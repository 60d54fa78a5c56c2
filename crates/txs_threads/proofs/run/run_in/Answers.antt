use denote.Exit
use denote.Param.{param}
use denote.Param.Send.{arg_send, param_send}
use mir.Syntax.{erased}
use Rattle.txs_threads.proofs.Crossing.{logged_actor_send, logged_atom_send, logged_store_send}
use Rattle.txs_threads.proofs.run.run_in.Goals as goal

pub run_scheduler-ran-requires-send-S : goal.run_scheduler-ran-requires-send-S
run_scheduler-ran-requires-send-S g c κs within = param_send 1 _ (arg_send _ Exit.no _ (logged_store_send (param 0 g.row.J) g.J.Run g.J.Naming))

pub run_scheduler-ran-requires-send-A : goal.run_scheduler-ran-requires-send-A
run_scheduler-ran-requires-send-A g c κs within = param_send 2 _ (arg_send _ Exit.no _ (logged_atom_send (param 0 g.row.J) g.J.Run g.J.Naming))

pub run_scheduler-ran-requires-send-P : goal.run_scheduler-ran-requires-send-P
run_scheduler-ran-requires-send-P g c κs within = param_send 3 _ (arg_send _ Exit.no _ (logged_actor_send (param 0 g.row.J) g.J.Run g.J.Naming (record { mir = erased; lft = _ })))
