-- Where an actor begins, and where its code comes to.
use Rattle.std.specs.Prelude.{ℕ, List, [], ◌++◌, Some, None}
use Rattle.txs_world_protocol.specs.Ask.{Exchange}
use Rattle.txs_frame.specs.Frame.{empty_frame}
use Rattle.txs_value_data.specs.declared.value.CellId.{CellId}
use Rattle.txs_code_meaning.specs.ActorState.{ActorState}
use Rattle.txs_code_meaning.specs.Machine.{ThreadCode, locals_of, agent_code, Configuration, first_place, Outcome, exec, Library}

-- an actor's state before its first turn, with the exchanges to come
abbrev pub fresh : List Exchange → ActorState
fresh todo = record { todo = todo; printed = []; at = 0; view = 0; done = empty_frame; commuting = None; acting = None; accepted = None; wants = None }

-- where an actor begins
abbrev pub opening : ThreadCode → List Exchange → Configuration
opening code todo = first_place (locals_of (Some code.main) []) (fresh todo)

-- the machine on these exchanges, after at most m turns
abbrev pub target : ThreadCode → ℕ → List Exchange → Outcome
target code m todo = exec code m (opening code todo)

-- an agent on these exchanges, after at most m turns
abbrev pub agent_target : Library → CellId → ℕ → List Exchange → Outcome
agent_target shared g m todo = target (agent_code shared g) m todo

-- a configuration to which more exchanges come at the end
abbrev pub given : List Exchange → Configuration → Configuration
given xs c = record c { state = record c.state { todo = c.state.todo ++ xs } }
