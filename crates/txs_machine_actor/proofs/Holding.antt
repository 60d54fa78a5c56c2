-- The commit of a transaction whose sends an action holds, and the end of such an action.
use Rattle.std.proofs.Common.{◌≡◌, ◌<◌, List, [], ◌∷◌, length, Option, Some, None, refl, sym, subst}
use Rattle.txs_code_meaning.specs.ActorState.{InHand}
use Rattle.txs_code_meaning.specs.PlainCode.{PlainCode}
use Rattle.txs_value_data.specs.declared.fault.Fault.{Fault}
use Rattle.txs_value_cell.specs.Cells.{validators_of}
use Rattle.txs_value_cell.specs.declared.action.Action.{Action}
use Rattle.txs_machine_loop.specs.Values.{last_of}
use Rattle.txs_machine_transaction.specs.Asks.{AskWantsMemory}
use Rattle.txs_machine_transaction.specs.declared.state.Pending.{Pending}
use Rattle.txs_machine_transaction.specs.declared.state.Pending.TheVariants as pending
use Rattle.txs_machine_actor.specs.PlainActor.{PlainActor, wanted_in}
use Rattle.txs_machine_transaction.specs.Roles.{acting_of, commit_in}
use Rattle.txs_machine_actor.specs.Turns.{AsksFor, CanCheck, CanHandIn, GivesFault, Hands, HandsInBy, agent_in, finish_check, taken}
use Rattle.txs_machine_actor.specs.declared.outcome.Turn.{Turn}

-- such a commit may want memory
pub commit_wants : (xs : List Action) (o : Option InHand) → AskWantsMemory (commit_in xs o)
commit_wants [] o = tt
commit_wants (x ∷ xs) None = tt
commit_wants (x ∷ xs) (Some h) = tt

-- any other ask is as it is
wanted_other : (xs : List Action) (o : Option InHand) (p : Pending) → (p ≡ pending.Commit → ⊥) → wanted_in xs o p ≡ p
wanted_other xs o (pending.Begin left from) n = refl
wanted_other xs o (pending.Read c) n = refl
wanted_other xs o (pending.Ensure c es) n = refl
wanted_other xs o (pending.Open c m kept) n = refl
wanted_other xs o (pending.View phase) n = refl
wanted_other xs o (pending.Reset c v) n = refl
wanted_other xs o (pending.Send x m) n = refl
wanted_other xs o (pending.Swap c m from) n = refl
wanted_other xs o (pending.Close c q v) n = refl
wanted_other xs o pending.Commit n = absurd (n refl)
wanted_other xs o (pending.Hold ys) n = refl
wanted_other xs o (pending.Fail f) n = refl
wanted_other xs o (pending.Broke c q f) n = refl
wanted_other xs o (pending.Take g) n = refl
wanted_other xs o (pending.Finish g new) n = refl

pub asks_other : (a : PlainActor) (p : Pending) (r : Turn) (b : PlainActor) → (p ≡ pending.Commit → ⊥) → AsksFor a p r b → AsksFor a (wanted_in a.done.sends (acting_of a.role) p) r b
asks_other a p r b n h = subst (λ (x : Pending). AsksFor a x r b) (sym (wanted_other a.done.sends (acting_of a.role) p n)) h

pub asks_commit : (a : PlainActor) (p : Pending) (r : Turn) (b : PlainActor) → p ≡ pending.Commit → AsksFor a (commit_in a.done.sends (acting_of a.role)) r b → AsksFor a (wanted_in a.done.sends (acting_of a.role) p) r b
asks_commit a p r b e h = subst (λ (x : Pending). AsksFor a (wanted_in a.done.sends (acting_of a.role) x) r b) (sym e) h

-- an action that met no fault has a value, at which its agent's validator may look
pub hands_value : (code : PlainCode) (a : PlainActor) (o : Option Fault) → CanHandIn code a o → o ≡ None → 0 < length a.values
hands_value code a None can e = can.0
hands_value code a (Some f) can e = cc

pub checks_value : (code : PlainCode) (a : PlainActor) (o : Option Fault) → CanHandIn code a o → o ≡ None → CanCheck code (finish_check (validators_of code.cells) (taken a.role) (last_of a.values))
checks_value code a None can e = can.1
checks_value code a (Some f) can e = cc

-- which is handed in
pub value_handed : (code : PlainCode) (a : PlainActor) (o : Option Fault) (r : Turn) (b : PlainActor) → o ≡ None → Hands code a (finish_check (validators_of code.cells) (taken a.role) (last_of a.values)) r b → HandsInBy code a o r b
value_handed code a o r b e h = subst (λ (x : Option Fault). HandsInBy code a x r b) (sym e) h

-- and so is the fault of one that met some
pub fault_handed : (code : PlainCode) (a : PlainActor) (o : Option Fault) (f : Fault) (r : Turn) (b : PlainActor) → o ≡ Some f → GivesFault a f (agent_in a.role) r b → HandsInBy code a o r b
fault_handed code a o f r b e h = subst (λ (x : Option Fault). HandsInBy code a x r b) (sym e) h
