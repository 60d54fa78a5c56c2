-- Mailboxes: the actions that wait for an agent. An agent runs one action at a time, in the order of the sends; after a fault it
-- runs no more, unless its `:error-mode` is `:continue` (clojure.org/reference/agents).
use Rattle.std.specs.Prelude.{◌≡◌, ◌<◌, ℕ, Bool, true, false, not, ◌&&◌, ◌||◌, List, [], ◌∷◌, ◌++◌, length, drop, Option, Some, None, is_some, if◌then◌else◌}
use Rattle.txs_value_cell.specs.declared.action.Action.{Action}

-- a mailbox: the actions in order, whether the first is taken to be run, whether the agent has failed, and whether it continues after a fault
pub record PlainMailbox : Type 0 where
  pub actions : List Action
  pub is_taken : Bool
  pub has_failed : Bool
  pub goes_on : Bool

-- the mailbox of these
abbrev pub mailbox_of : List Action → Bool → Bool → Bool → PlainMailbox
mailbox_of actions is_taken has_failed goes_on = record { actions = actions; is_taken = is_taken; has_failed = has_failed; goes_on = goes_on }

-- what holds of each mailbox: an action that is taken is there, and its agent hasn't failed; an agent that goes on never fails
pub record IsMailbox (m : PlainMailbox) : Type 0 where
  pub waits : m.is_taken ≡ true → 0 < length m.actions
  pub runs : m.is_taken ≡ true → m.has_failed ≡ false
  pub goes_on : m.goes_on ≡ true → m.has_failed ≡ false

-- the mailbox of a new agent
abbrev pub empty : Bool → PlainMailbox
empty goes_on = mailbox_of [] false false goes_on

-- an action enters behind the others
abbrev pub put : Action → PlainMailbox → PlainMailbox
put a m = mailbox_of (m.actions ++ a ∷ []) m.is_taken m.has_failed m.goes_on

-- the first of these actions, if there is one
abbrev pub first : List Action → Option Action
first [] = None
first (a ∷ as1) = Some a

-- what an agent may run next: the first action, unless the agent has failed
abbrev pub next : PlainMailbox → Option Action
next m = if m.has_failed then None else first m.actions

-- what the agent may run next is taken, if there is such an action
abbrev pub take : PlainMailbox → PlainMailbox
take m = mailbox_of m.actions (is_some (next m)) m.has_failed m.goes_on

-- the action that was taken is over, and has gone: where it faulted the agent has failed, unless it continues
abbrev pub finish : Bool → PlainMailbox → PlainMailbox
finish faulted m = mailbox_of (drop 1 m.actions) false (m.has_failed || (faulted && not m.goes_on)) m.goes_on

-- the action that was taken is taken no longer, and stays the first
abbrev pub give_back : PlainMailbox → PlainMailbox
give_back m = mailbox_of m.actions false m.has_failed m.goes_on

-- a mailbox as contracts see it: beside the plain one, how many more actions there is room for
pub record RoomedMailbox : Type 0 where
  pub plain : PlainMailbox
  pub room : ℕ

-- the plain mailbox with this room
abbrev pub with_room : PlainMailbox → ℕ → RoomedMailbox
with_room m n = record { plain = m; room = n }
