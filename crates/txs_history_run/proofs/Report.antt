-- The report of actors that are back is that of a run by turns.
use Rattle.std.proofs.Common.{◌≡◌, ◌≤◌, ℕ, List, length, map, Result, Ok, Err, IfOk, sym, subst}
use Rattle.txs_code_meaning.specs.PlainCode.{PlainCode}
use Rattle.txs_code_meaning.specs.WellTyped.{WellTyped}
use Rattle.txs_theorem_runs.specs.Invariant.{SharedStands}
use Rattle.txs_theorem_runs.specs.Report.{TypedAreStaged}
use Rattle.txs_history.specs.Asked.{History}
use Rattle.txs_world_shared.specs.Apart.{ArePartsOf}
use Rattle.txs_world_shared.specs.Kept.{state_of}
use Rattle.txs_world_shared.specs.SharedState.{PlainShared, shared_of}
use Rattle.txs_machine.specs.Agents.{actors_of}
use Rattle.txs_machine.specs.Playing.{AreReported}
use Rattle.txs_machine.specs.Running.{attendants}
use Rattle.txs_machine.specs.declared.player.Players.{Players}
use Rattle.txs_machine.specs.declared.schedule.Entries.{Entries}
use Rattle.txs_history.specs.Logged.{PlainLoggedStore, PlainLoggedAtom}
use Rattle.txs_history_run.specs.Actor.{PlainLogged}
use Rattle.txs_history_run.specs.Back.{AreBack, IsReportOf, book_of}
use Rattle.txs_history_run.specs.Settled.{AreSettled, ArePlayersOf, IsRunReport, SettledIsRun}
use Rattle.txs_history_run.proofs.Left.{settled_so}

-- where there is one, a report is of the actors that were handed to it
pub report_of : {E : Type 0} (code : PlainCode) (actors : List PlainLogged) (all : Players) (r : Result Entries E) → ArePlayersOf code actors all → IfOk r (λ report. AreReported code all.threads.items report.threads.items) → IfOk r (λ report. AreReported code (attendants all.agents.items) report.agents.items)
    → IfOk r (λ report. IsReportOf code actors report)
report_of code actors all (Ok report) players threads agents = record { all = all; players = players; threads = threads; agents = agents }
report_of code actors all (Err e) players threads agents = tt

-- what is found and reported is that of a run by turns
pub run_report : SettledIsRun → TypedAreStaged → (code own : PlainCode) (limit : ℕ) (function_rooms thread_rooms : List ℕ) (s : PlainShared) (store : PlainLoggedStore) (atoms : List PlainLoggedAtom) (actors : List PlainLogged) (report : Entries) → WellTyped code function_rooms thread_rooms
    → code ≡ own → length code.cells ≤ 65535 → length actors ≡ actors_of code → (h : History) × AreBack own limit h store atoms actors → s ≡ state_of code.cells store.store (map book_of atoms) → ArePartsOf code.cells store.store (map book_of atoms)
    → SharedStands s.cells s.threads (shared_of s) → IsReportOf code actors report → IsRunReport code limit s report
run_report law typed code own limit function_rooms thread_rooms s store atoms actors report well same few one_each back is parts stands rep =
    let staged = typed code function_rooms thread_rooms well in
    let h = back.0 in
    let settled : AreSettled code limit s h actors = subst (λ (t : PlainShared). AreSettled code limit t h actors) (sym is) (settled_so code limit h store atoms actors (subst (λ (c : PlainCode). AreBack c limit h store atoms actors) (sym same) back.1) few parts one_each) in
    law code limit s h actors rep.all report staged.0 staged.1 stands settled rep.players rep.threads rep.agents
