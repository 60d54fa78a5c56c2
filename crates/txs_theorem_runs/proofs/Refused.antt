-- A commit that was refused was undisturbed.
use Rattle.std.proofs.Common.{◌≡◌, ℕ, false, List, [], ◌∷◌, take, sym}
use Rattle.txs_world_protocol.specs.declared.ask.Ask.{Ask}
use Rattle.txs_world_protocol.specs.declared.ask.Ask.TheVariants as ask
use Rattle.txs_world_protocol.specs.declared.ask.Reply.{Reply}
use Rattle.txs_world_protocol.specs.declared.ask.Reply.TheVariants as reply
use Rattle.txs_world_protocol.specs.declared.event.Event.{Event}
use Rattle.txs_value_cell.specs.declared.cell.CellDefinition.{CellDefinition}
use Rattle.txs_code_meaning.specs.Machine.{ThreadCode}
use Rattle.txs_world.specs.Laws.{ServeKeeps, RefusedIsUndisturbed}
use Rattle.txs_world_book.specs.Served.{cells_of}
use Rattle.txs_world.specs.Store.{serve}
use Rattle.txs_theorem_runs.specs.Told.{Entry, EntryHolds, AllHold}
use Rattle.txs_theorem_runs.specs.Refused.{RefusalUndisturbed, RefusalsUndisturbed, RunRefusals}
use Rattle.txs_theorem_runs.specs.Invariant.{RunInvariant}
use Rattle.txs_theorem_runs.specs.Run.{State, Play, opens, play, plays_from}
use Rattle.txs_theorem_runs.proofs.Steps as steps
use Rattle.txs_theorem_runs.proofs.Whole.{FreshStands, opening_holds}

refusal : RefusedIsUndisturbed → (cells : List CellDefinition) (a : ℕ) (q : Ask) (r : Reply) (book : List Event) → r ≡ (serve (cells_of cells) a q book).reply → RefusalUndisturbed cells book q r
refusal by cells a (ask.Commit at sets ensured view commuted sends) (reply.AgentIsFailed g) book e = by (cells_of cells) a at view sets commuted ensured sends book g (sym e)
refusal by cells a (ask.Commit at sets ensured view commuted sends) (reply.At p) book e = tt
refusal by cells a (ask.Commit at sets ensured view commuted sends) (reply.Is v) book e = tt
refusal by cells a (ask.Commit at sets ensured view commuted sends) (reply.Views p vs) book e = tt
refusal by cells a (ask.Commit at sets ensured view commuted sends) reply.Done book e = tt
refusal by cells a (ask.Commit at sets ensured view commuted sends) (reply.Retry c) book e = tt
refusal by cells a (ask.Commit at sets ensured view commuted sends) (reply.Changed c) book e = tt
refusal by cells a (ask.Commit at sets ensured view commuted sends) (reply.Action n x v) book e = tt
refusal by cells a (ask.Commit at sets ensured view commuted sends) reply.Idle book e = tt
refusal by cells a (ask.Commit at sets ensured view commuted sends) (reply.Opened p v) book e = tt
refusal by cells a (ask.Commit at sets ensured view commuted sends) reply.Full book e = tt
refusal by cells a (ask.Commit at sets ensured view commuted sends) reply.Memory book e = tt
refusal by cells a ask.Begin r book e = tt
refusal by cells a (ask.Look c p) r book e = tt
refusal by cells a (ask.View cs) r book e = tt
refusal by cells a (ask.Fail p q) r book e = tt
refusal by cells a (ask.Peek c) r book e = tt
refusal by cells a (ask.Send x) r book e = tt
refusal by cells a (ask.Take g) r book e = tt
refusal by cells a (ask.Finish g new sends) r book e = tt
refusal by cells a (ask.OpenAt c) r book e = tt
refusal by cells a (ask.CloseAt c p v) r book e = tt
refusal by cells a (ask.Broke c p) r book e = tt

entry_refused : RefusedIsUndisturbed → (cells : List CellDefinition) (threads : ℕ) (books : ℕ → List Event) (a : ℕ) (q : Ask) (r : Reply) (k : ℕ) → EntryHolds cells threads books a (record { ask = q; reply = r; at = k }) → RefusalUndisturbed cells (take k (books 0)) q r
entry_refused by cells threads books a (ask.Commit at sets ensured view commuted sends) r k h = refusal by cells a (ask.Commit at sets ensured view commuted sends) r (take k (books 0)) h.replied
entry_refused by cells threads books a ask.Begin r k h = tt
entry_refused by cells threads books a (ask.Look c p) r k h = tt
entry_refused by cells threads books a (ask.View cs) r k h = tt
entry_refused by cells threads books a (ask.Fail p q) r k h = tt
entry_refused by cells threads books a (ask.Peek c) r k h = tt
entry_refused by cells threads books a (ask.Send x) r k h = tt
entry_refused by cells threads books a (ask.Take g) r k h = tt
entry_refused by cells threads books a (ask.Finish g new sends) r k h = tt
entry_refused by cells threads books a (ask.OpenAt c) r k h = tt
entry_refused by cells threads books a (ask.CloseAt c p v) r k h = tt
entry_refused by cells threads books a (ask.Broke c p) r k h = tt

pub all_refused : RefusedIsUndisturbed → (cells : List CellDefinition) (threads : ℕ) (books : ℕ → List Event) (a : ℕ) (es : List Entry) → AllHold cells threads books a es → RefusalsUndisturbed cells books es
all_refused by cells threads books a [] h = tt
all_refused by cells threads books a (e ∷ es) h = (entry_refused by cells threads books a e.ask e.reply e.at h.0, all_refused by cells threads books a es h.1)

all_hold : ServeKeeps → (cells : List CellDefinition) (threads : ℕ) (codes : ℕ → ThreadCode) (ys : List Play) (st : State) → RunInvariant cells threads codes st → RunInvariant cells threads codes (plays_from cells threads codes ys st)
all_hold keeps cells threads codes [] st h = h
all_hold keeps cells threads codes (y ∷ ys) st h = all_hold keeps cells threads codes ys (play cells threads codes y st) (steps.play_holds keeps cells threads codes y st h)

pub run_refusals : RefusedIsUndisturbed → ServeKeeps → FreshStands → RunRefusals
run_refusals by keeps fresh cells threads codes ys a staged =
    all_refused by cells threads _ a _ ((all_hold keeps cells threads codes ys (opens cells codes) (opening_holds fresh cells threads codes)).actors false a staged).told.hold
