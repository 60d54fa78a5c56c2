-- What is answered of a thread or an action on some events.
use Rattle.std.specs.Prelude.{◌≡◌, ◌<◌, ◌-◌, ℕ, suc, Bool, true, false, ◌⊎◌, List, [], ◌∷◌, length, map, Option, Some, None, Result, Ok, Err}
use Rattle.txs_value_data.specs.Places.{nth}
use Rattle.txs_value_data.specs.declared.fault.Fault.{Fault}
use Rattle.txs_value_cell.specs.declared.action.Action.{Action}
use Rattle.txs_value_data.specs.declared.value.Value.{Value}
use Rattle.txs_world_protocol.specs.SeenEvent.{SeenEvent}
use Rattle.txs_world_protocol.specs.declared.event.Outcome.{Outcome}
use Rattle.txs_world_protocol.specs.declared.event.Outcome.TheVariants.{Done, Failed}
use Rattle.txs_tree_meaning.specs.Known.{known}
use Rattle.txs_tree_meaning.specs.Meaning.{Completion, Completes, Recurs, Faults, Retries, Waits, OutOfTurns, Invalid}
use Rattle.txs_tree_meaning.specs.Thread.{ThreadState, action_in, around_action, thread_meaning}
use Rattle.txs_tree_meaning.specs.Tree.{PlainProgram, PlainThread}
use Rattle.txs_theorem_threads.specs.FollowsAll.{source_of}
use Rattle.txs_tree_eval.specs.Told.{asked, told_tx}
use Rattle.txs_tree_eval.specs.declared.action.ActionMeaning.{ActionMeaning}
use Rattle.txs_tree_eval.specs.declared.meaning.Needs.{Needs}
use Rattle.txs_tree_eval.specs.declared.meaning.Needs.TheVariants.{Nothing, Event, Turns, Wrong}
use Rattle.txs_tree_eval.specs.declared.meaning.ThreadMeaning.{ThreadMeaning}
use Rattle.txs_theorem_audit.specs.Verdict.{is_sent_call}
use Rattle.txs_audit_event.specs.declared.meant.Doer.{Doer}
use Rattle.txs_audit_event.specs.declared.meant.Doer.TheVariants as doer
use Rattle.txs_audit_event.specs.declared.meant.Meant.{Meant}

-- what a thread means, if there is one
abbrev pub thread_means : PlainProgram → ℕ → Option PlainThread → List SeenEvent → Completion ThreadState Value
thread_means p n None es = Invalid
thread_means p n (Some t) es = thread_meaning (source_of p t) n es

-- what a thread or an action means, where each loop makes at most n turns
abbrev pub doer_means : PlainProgram → ℕ → Doer → List SeenEvent → Completion ThreadState Value
doer_means p n (doer.Thread i) es = thread_means p n (nth p.threads i) es
doer_means p n (doer.Action x v) es = action_in (around_action p.cells p.functions n) x.now.callee x.now.span (v.now ∷ x.now.args) es

-- the sends that it holds before it has done anything: none of a thread's
abbrev pub held_by : Doer → Option (List Action)
held_by (doer.Thread i) = None
held_by (doer.Action x v) = Some []

-- there is such a thread, or the action may be sent
abbrev pub MayDo : PlainProgram → Doer → Type 0
MayDo p (doer.Thread i) = i < length p.threads
MayDo p (doer.Action x v) = is_sent_call (known p.functions) x.now.callee (suc (length x.now.args)) ≡ true

-- what is answered of a thread
abbrev pub of_thread : ThreadMeaning → Meant
of_thread m = record { printed = m.printed; needs = m.needs; asks = m.asks; ended = m.outcome; eaten = m.eaten; txs = m.txs }

-- how an action ends that came to this
abbrev pub ended_by : Option (Result Value Fault) → Option Outcome
ended_by None = None
ended_by (Some (Ok v)) = Some Done
ended_by (Some (Err f)) = Some (Failed f)

-- what is answered of an action
abbrev pub of_action : ActionMeaning → Meant
of_action m = record { printed = m.printed; needs = m.needs; asks = m.asks; ended = ended_by m.result; eaten = m.eaten; txs = m.txs }

-- what was printed, how many events were eaten, the transactions, what is needed and of which book, and how it ended
pub record MeantSo (m : Meant) (ate : ℕ) (t : ThreadState) (lack : Needs) (end : Option Outcome) : Type 0 where
  pub printed : m.printed ≡ t.printed
  pub eaten : m.eaten ≡ ate
  pub txs : m.txs ≡ map told_tx t.txs
  pub needs : m.needs ≡ lack
  pub asks : m.asks ≡ asked lack t.asks
  pub ended : m.ended ≡ end

-- some event isn't allowed
pub record MeantWrong (m : Meant) : Type 0 where
  pub needs : m.needs ≡ Wrong
  pub asks : m.asks ≡ None
  pub ended : m.ended ≡ None

-- The answer on k events for something that means this. Nothing ends in a recur or runs again as a whole.
abbrev pub TellsMeant : Meant → ℕ → Completion ThreadState Value → Type 0
TellsMeant m k (Completes v t) = MeantSo m (k - length t.todo) t Nothing (Some Done)
TellsMeant m k (Recurs vs t) = ⊥
TellsMeant m k (Faults f t) = MeantSo m (k - length t.todo) t Nothing (Some (Failed f))
TellsMeant m k (Retries t) = ⊥
TellsMeant m k (Waits t) = MeantSo m (k - length t.todo) t Event None
TellsMeant m k (OutOfTurns t) = MeantSo m (k - length t.todo) t Turns None
TellsMeant m k Invalid = MeantWrong m

-- whether no event was one that isn't allowed
abbrev pub is_right : Needs → Bool
is_right Nothing = true
is_right Event = true
is_right Turns = true
is_right Wrong = false

-- Whether it is known by an answer with a bound of turns, of most that there may be, that all of k events are allowed, or that one isn't.
abbrev pub Known : Meant → ℕ → ℕ → ℕ → Bool → Type 0
Known m k bound most true = (m.eaten ≡ k) ⊎ ((bound ≡ most) ⊎ (m.needs ≡ Turns → ⊥))
Known m k bound most false = bound < most
