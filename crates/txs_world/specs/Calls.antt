-- Calls of a mailbox in a row, the actions that an agent runs by them, and what holds of these.
use Rattle.std.specs.Prelude.{◌≡◌, Bool, true, not, ◌&&◌, List, [], ◌∷◌, ◌++◌, Option, None}
use Rattle.std.specs.Option.{option_to_list}
use Rattle.txs_world.specs.Mailbox.{PlainMailbox, IsMailbox, empty, put, next, take, finish, give_back}
use Rattle.txs_value_cell.specs.declared.action.Action.{Action}

-- a call that changes a mailbox
pub data Call : Type 0 where
  Put : (action : Action) → Call
  Take : Call
  Finish : (failed : Bool) → Call
  Give_back : Call

-- whether the call may come: taking where none is taken, the end of an action and its return where one is
abbrev pub may_call : Call → PlainMailbox → Bool
may_call (Put a) m = true
may_call Take m = not m.is_taken
may_call (Finish failed) m = m.is_taken
may_call Give_back m = m.is_taken

-- the mailbox after a call
abbrev pub called : Call → PlainMailbox → PlainMailbox
called (Put a) m = put a m
called Take m = take m
called (Finish failed) m = finish failed m
called Give_back m = give_back m

-- whether these calls may come, in order
abbrev pub may_call_all : List Call → PlainMailbox → Bool
may_call_all [] m = true
may_call_all (c ∷ cs) m = may_call c m && may_call_all cs (called c m)

-- the mailbox after these calls, in order
abbrev pub called_all : List Call → PlainMailbox → PlainMailbox
called_all [] m = m
called_all (c ∷ cs) m = called_all cs (called c m)

-- the actions that are put in, in order
abbrev pub all_put : List Call → List Action
all_put [] = []
all_put (Put a ∷ cs) = a ∷ all_put cs
all_put (Take ∷ cs) = all_put cs
all_put (Finish failed ∷ cs) = all_put cs
all_put (Give_back ∷ cs) = all_put cs

-- the actions that the agent runs, in order: of each that a take handed out, and that was then finished. At first it has this one in hand
abbrev pub all_run : List Call → Option Action → PlainMailbox → List Action
all_run [] hand m = []
all_run (Put a ∷ cs) hand m = all_run cs hand (put a m)
all_run (Take ∷ cs) hand m = all_run cs (next m) (take m)
all_run (Finish failed ∷ cs) hand m = option_to_list hand ++ all_run cs None (finish failed m)
all_run (Give_back ∷ cs) hand m = all_run cs None (give_back m)

-- of a new agent's mailbox: what was run, and behind it what waits, is what was put in, each action once, in order
abbrev pub EachOnceInOrder : Type 0
EachOnceInOrder =
    (goes_on : Bool) (cs : List Call) → may_call_all cs (empty goes_on) ≡ true →
    all_run cs None (empty goes_on) ++ (called_all cs (empty goes_on)).actions ≡ all_put cs

-- an agent that has failed runs nothing more, stays failed, and what waits stays
pub record RunsNothing (m : PlainMailbox) (cs : List Call) : Type 0 where
  pub run : all_run cs None m ≡ []
  pub failed : (called_all cs m).has_failed ≡ true
  pub actions : (called_all cs m).actions ≡ m.actions ++ all_put cs

-- so it is of each mailbox that has failed, by any calls that may come
abbrev pub FailedRunsNothing : Type 0
FailedRunsNothing = (m : PlainMailbox) (cs : List Call) → IsMailbox m → m.has_failed ≡ true → may_call_all cs m ≡ true → RunsNothing m cs
