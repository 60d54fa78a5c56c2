-- Whose an actor is, the action that it runs, and what that holds.
use Rattle.std.specs.Prelude.{List, [], ◌∷◌, ◌++◌, Option, Some, None}
use Rattle.txs_value_cell.specs.declared.action.Action.{Action}
use Rattle.txs_value_data.specs.declared.value.CellId.{CellId}
use Rattle.txs_code_meaning.specs.ActorState.{InHand, now_holding}
use Rattle.txs_machine_transaction.specs.declared.role.Role.{Role}
use Rattle.txs_machine_transaction.specs.declared.role.Role.TheVariants.{Thread, Attending, Acting}
use Rattle.txs_machine_transaction.specs.declared.state.Pending.{Pending}
use Rattle.txs_machine_transaction.specs.declared.state.Pending.TheVariants.{Commit, Hold}

-- the action that an agent runs, if it runs one
abbrev pub acting_of : Role → Option InHand
acting_of Thread = None
acting_of (Attending g o) = o
acting_of (Acting h judges aside) = Some h

-- the agent of an action that is run, if one is
abbrev pub agent_of : Option InHand → Option CellId
agent_of None = None
agent_of (Some h) = Some h.agent

-- the action that is run, if one is, holds this send too
abbrev pub holding : Action → Role → Role
holding x Thread = Thread
holding x (Attending g o) = Attending g (now_holding (x ∷ []) o)
holding x (Acting h judges aside) = Acting (record h { sends = h.sends ++ x ∷ [] }) judges aside

-- the action that is run, if one is, holds these sends and no others
abbrev pub holds_all : List Action → Role → Role
holds_all xs Thread = Thread
holds_all xs (Attending g None) = Attending g None
holds_all xs (Attending g (Some h)) = Attending g (Some (record h { sends = xs }))
holds_all xs (Acting h judges aside) = Acting (record h { sends = xs }) judges aside

-- the sends that the action holds that is run, if one is
abbrev pub sends_in : Option InHand → List Action
sends_in None = []
sends_in (Some h) = h.sends

-- what is asked for at the end of a transaction with these sends: a thread commits them, and an action holds them behind its others
abbrev pub commit_in : List Action → Option InHand → Pending
commit_in [] o = Commit
commit_in (x ∷ xs) None = Commit
commit_in (x ∷ xs) (Some h) = Hold (h.sends ++ x ∷ xs)

-- an action that this agent has taken, and that holds no send
abbrev pub in_hand : CellId → Action → InHand
in_hand g x = record { agent = g; action = x; sends = []; fault = None }
