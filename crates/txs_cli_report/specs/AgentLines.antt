-- What is told of agents.
use Rattle.std.specs.Prelude.{◌≡◌, ℕ, suc, max, List, [], ◌∷◌, ◌++◌, Option, Some, None}
use Rattle.txs_world_protocol.specs.declared.event.Outcome.{Outcome}
use Rattle.txs_world_protocol.specs.declared.event.Outcome.TheVariants.{Failed}
use Rattle.txs_world_protocol.specs.declared.report.ActorReport.{ActorReport}
use Rattle.txs_world_shared.specs.SharedState.{PlainShared, numbered_book}
use Rattle.txs_world_book.specs.Book.{mail_after}
use Rattle.txs_world_book.specs.Served.{cells_of}
use Rattle.txs_cli_report.specs.Lines.{Script, IsLesson, agent_front, end_line, end_place, status_of}
use Rattle.txs_value_cell.specs.declared.cell.CellDefinition.{CellDefinition}
use Rattle.txs_value_data.specs.declared.fault.Fault.{Fault}
use Rattle.txs_value_data.specs.declared.fault.Span.{Span}
use Rattle.txs_value_data.specs.declared.value.CellId.{CellId}
use Rattle.txs_value_data.specs.declared.value.CellKind.{CellKind}
use Rattle.txs_value_data.specs.declared.value.CellKind.TheVariants.{Ref, Atom, Agent}

-- ---- one agent

-- how an agent ended that has failed by this fault, if it has
abbrev pub failed_by : Option Fault → Option Outcome
failed_by None = None
failed_by (Some f) = Some (Failed f)

-- what is told of one whose line begins so: how it ended, if it has, and where, if it was stopped
abbrev pub EndTold : Script → List ℕ → Option Outcome → Option Span → List ℕ → Type 0
EndTold script front None at line = line ≡ []
EndTold script front (Some o) at line = IsLesson script (end_line front o) (end_place o at) line

-- the status of one that ended so, if it has
abbrev pub end_status : Option Outcome → ℕ
end_status None = 0
end_status (Some o) = status_of o

-- What is told of an agent: that it has failed, if it has, and behind that how its actor ended, if it has, which is that it was stopped.
pub record AgentTold (script : Script) (name : List ℕ) (failure : Option Fault) (outcome : Option Outcome) (place : Option Span) (lines : List ℕ) : Type 0 where
  pub failed : List ℕ
  pub stopped : List ℕ
  pub first : EndTold script (agent_front name) (failed_by failure) None failed
  pub behind : EndTold script (agent_front name) outcome place stopped
  pub is : lines ≡ failed ++ stopped

-- ---- all agents

-- the fault by which an agent has failed after all events of the store's book, if it has
abbrev pub failure_of : PlainShared → CellId → Option Fault
failure_of s g = (mail_after (cells_of s.cells) (numbered_book s 0) g.number).fault

-- a cell with its name before others, where it is an agent
abbrev pub with_named : CellKind → ℕ → List ℕ → List (CellId × List ℕ) → List (CellId × List ℕ)
with_named Ref n name gs = gs
with_named Atom n name gs = gs
with_named Agent n name gs = (record { kind = Agent; number = n }, name) ∷ gs

-- the agents among the cells from the n-th on, in their order, with their names
abbrev pub named_from : ℕ → List CellDefinition → List (CellId × List ℕ)
named_from n [] = []
named_from n (d ∷ ds) = with_named d.kind n d.name (named_from (suc n) ds)

-- what is told of these agents, one after the other, each of which has its entry in the report
abbrev pub AreAgentsTold : Script → (CellId → Option Fault) → List (CellId × List ℕ) → List ActorReport → List ℕ → Type 0
AreAgentsTold script failure [] rs lines = lines ≡ []
AreAgentsTold script failure (g ∷ gs) [] lines = ⊥
AreAgentsTold script failure (g ∷ gs) (r ∷ rs) lines =
    (one : List ℕ) × (rest : List ℕ) × AgentTold script g.1 (failure g.0) r.outcome r.place one × AreAgentsTold script failure gs rs rest × (lines ≡ one ++ rest)

-- the highest of a status and those of these agents
abbrev pub status_of_agents : ℕ → (CellId → Option Fault) → List (CellId × List ℕ) → List ActorReport → ℕ
status_of_agents m failure [] rs = m
status_of_agents m failure (g ∷ gs) [] = m
status_of_agents m failure (g ∷ gs) (r ∷ rs) = status_of_agents (max (max m (end_status (failed_by (failure g.0)))) (end_status r.outcome)) failure gs rs
