-- What is told of agents, one cell after the other: with one more cell told, what is told so far and of those to come is what is told of all.
use Rattle.std.proofs.Common.{◌≡◌, ◌<◌, ◌≤◌, ◌+◌, ◌-◌, ℕ, suc, max, List, [], ◌∷◌, ◌++◌, length, get_or, drop, Option, refl, sym, ap, ◌∙◌, subst, subst₂, append_assoc, arith, length-drop}
use Rattle.std.proofs.lemmas.List.{append-nil, drop_more}
use Rattle.txs_world_protocol.specs.declared.report.ActorReport.{ActorReport}
use Rattle.txs_value_cell.specs.Agents.{agents_from, with_agent}
use Rattle.txs_cli_report.specs.Lines.{Script}
use Rattle.txs_cli_report.specs.AgentLines.{AgentTold, AreAgentsTold, end_status, failed_by, named_from, status_of_agents, with_named}
use Rattle.txs_value_cell.specs.declared.cell.CellDefinition.{CellDefinition}
use Rattle.txs_value_data.specs.declared.fault.Fault.{Fault}
use Rattle.txs_value_data.specs.declared.value.CellId.{CellId}
use Rattle.txs_value_data.specs.declared.value.CellKind.{CellKind}
use Rattle.txs_value_data.specs.declared.value.CellKind.TheVariants.{Ref, Atom, Agent}

-- a cell alone
abbrev pub alone : CellKind → ℕ → List ℕ → List (CellId × List ℕ)
alone k n name = with_named k n name []

-- how many of the cells are told of
pub as_many : (k : CellKind) (n : ℕ) (name : List ℕ) (gs : List (CellId × List ℕ)) → length (with_named k n name gs) ≡ length (alone k n name) + length gs
as_many Ref n name gs = omega arith
as_many Atom n name gs = omega arith
as_many Agent n name gs = omega arith

-- the lines of one cell before those of others
pub told_more : (script : Script) (failure : CellId → Option Fault) (k : CellKind) (n : ℕ) (name : List ℕ) (gs : List (CellId × List ℕ)) (rs : List ActorReport) (lines more : List ℕ)
    → AreAgentsTold script failure (alone k n name) rs lines → AreAgentsTold script failure gs (drop (length (alone k n name)) rs) more
    → AreAgentsTold script failure (with_named k n name gs) rs (lines ++ more)
told_more script failure Ref n name gs rs lines more h t = subst (λ (l : List ℕ). AreAgentsTold script failure gs rs (l ++ more)) (sym h) t
told_more script failure Atom n name gs rs lines more h t = subst (λ (l : List ℕ). AreAgentsTold script failure gs rs (l ++ more)) (sym h) t
told_more script failure Agent n name gs [] lines more h t = absurd h
told_more script failure Agent n name gs (r ∷ rs) lines more h t = (h.0, more, h.2, t, ap (λ (l : List ℕ). l ++ more) (h.4 ∙ ap (λ (l : List ℕ). h.0 ++ l) h.3 ∙ append-nil h.0))

-- the status of one cell before that of others
pub status_more : (m : ℕ) (failure : CellId → Option Fault) (k : CellKind) (n : ℕ) (name : List ℕ) (gs : List (CellId × List ℕ)) (rs : List ActorReport)
    → status_of_agents (status_of_agents m failure (alone k n name) rs) failure gs (drop (length (alone k n name)) rs) ≡ status_of_agents m failure (with_named k n name gs) rs
status_more m failure Ref n name gs rs = refl
status_more m failure Atom n name gs rs = refl
status_more m failure Agent n name [] [] = refl
status_more m failure Agent n name (g ∷ gs) [] = refl
status_more m failure Agent n name gs (r ∷ rs) = refl

-- the cells from the n-th on begin with the n-th
pub named_more : (ds : List CellDefinition) (n : ℕ) (d : CellDefinition) → n < length ds → d ≡ get_or ds n d → named_from n (drop n ds) ≡ with_named d.kind n d.name (named_from (n + 1) (drop (n + 1) ds))
named_more ds n d l e =
    let next : suc n ≡ n + 1 = omega arith in
    ap (named_from n) (drop_more ds n d l ∙ ap (λ (x : CellDefinition). x ∷ drop (n + 1) ds) (sym e)) ∙ ap (λ (i : ℕ). with_named d.kind n d.name (named_from i (drop (n + 1) ds))) next

-- ---- one more cell

-- the entries that are left
pub left_more : (ds : List CellDefinition) (n : ℕ) (d : CellDefinition) (rs rest : List ActorReport) → n < length ds → d ≡ get_or ds n d → rest ≡ drop (length (alone d.kind n d.name)) rs
    → length rs ≡ length (named_from n (drop n ds)) → length rest ≡ length (named_from (n + 1) (drop (n + 1) ds))
left_more ds n d rs rest l e behind h =
    let later = named_from (n + 1) (drop (n + 1) ds) in
    let k = length (alone d.kind n d.name) in
    let all : length rs ≡ k + length later = h ∙ ap (λ (gs : List (CellId × List ℕ)). length gs) (named_more ds n d l e) ∙ as_many d.kind n d.name later in
    let cut : length rest ≡ length rs - k = ap (λ (xs : List ActorReport). length xs) behind ∙ length-drop k rs in
    omega arith

-- the lines of the agents to come, behind one more cell
pub lines_more : (script : Script) (failure : CellId → Option Fault) (ds : List CellDefinition) (n : ℕ) (d : CellDefinition) (entries rs rest : List ActorReport) (before one : List ℕ)
    → n < length ds → d ≡ get_or ds n d → rest ≡ drop (length (alone d.kind n d.name)) rs
    → ((more : List ℕ) → AreAgentsTold script failure (named_from n (drop n ds)) rs more → AreAgentsTold script failure (named_from 0 ds) entries (before ++ more))
    → AreAgentsTold script failure (alone d.kind n d.name) rs one
    → (more : List ℕ) → AreAgentsTold script failure (named_from (n + 1) (drop (n + 1) ds)) rest more → AreAgentsTold script failure (named_from 0 ds) entries ((before ++ one) ++ more)
lines_more script failure ds n d entries rs rest before one l e behind so_far told more h =
    let later = named_from (n + 1) (drop (n + 1) ds) in
    let here : AreAgentsTold script failure (with_named d.kind n d.name later) rs (one ++ more) =
    told_more script failure d.kind n d.name later rs one more told (subst (λ (xs : List ActorReport). AreAgentsTold script failure later xs more) behind h)
    in
    subst (λ (ls : List ℕ). AreAgentsTold script failure (named_from 0 ds) entries ls) (sym (append_assoc before one more))
    (so_far (one ++ more) (subst (λ (gs : List (CellId × List ℕ)). AreAgentsTold script failure gs rs (one ++ more)) (sym (named_more ds n d l e)) here))

-- the status
pub status_of_more : (m now all : ℕ) (failure : CellId → Option Fault) (ds : List CellDefinition) (n : ℕ) (d : CellDefinition) (rs rest : List ActorReport)
    → n < length ds → d ≡ get_or ds n d → rest ≡ drop (length (alone d.kind n d.name)) rs → now ≡ status_of_agents m failure (alone d.kind n d.name) rs
    → status_of_agents m failure (named_from n (drop n ds)) rs ≡ all → status_of_agents now failure (named_from (n + 1) (drop (n + 1) ds)) rest ≡ all
status_of_more m now all failure ds n d rs rest l e behind is so_far =
    let later = named_from (n + 1) (drop (n + 1) ds) in
    ap (λ (k : ℕ). status_of_agents k failure later rest) is
    ∙ ap (λ (xs : List ActorReport). status_of_agents (status_of_agents m failure (alone d.kind n d.name) rs) failure later xs) behind
    ∙ status_more m failure d.kind n d.name later rs
    ∙ ap (λ (gs : List (CellId × List ℕ)). status_of_agents m failure gs rs) (sym (named_more ds n d l e))
    ∙ so_far

-- there is a name for each agent
with_as_many : (k : CellKind) (n : ℕ) (name : List ℕ) (gs : List (CellId × List ℕ)) (hs : List CellId) → length gs ≡ length hs → length (with_named k n name gs) ≡ length (with_agent k n hs)
with_as_many Ref n name gs hs e = e
with_as_many Atom n name gs hs e = e
with_as_many Agent n name gs hs e = ap suc e

pub all_named_from : (n : ℕ) (ds : List CellDefinition) → length (named_from n ds) ≡ length (agents_from n ds)
all_named_from n [] = refl
all_named_from n (d ∷ ds) = with_as_many d.kind n d.name (named_from (suc n) ds) (agents_from (suc n) ds) (all_named_from (suc n) ds)

-- ---- one agent, of which the first entry tells

-- the entries behind it
pub agent_rest : (k : CellKind) (n : ℕ) (name : List ℕ) (entries : List ActorReport) (r : ActorReport) (rest : List ActorReport) → k ≡ Agent → entries ≡ r ∷ rest → rest ≡ drop (length (alone k n name)) entries
agent_rest k n name entries r rest kind is = subst₂ (λ (k' : CellKind) (es : List ActorReport). rest ≡ drop (length (alone k' n name)) es) (sym kind) (sym is) refl

-- its lines
pub agent_told : (script : Script) (failure : CellId → Option Fault) (k : CellKind) (n : ℕ) (given name : List ℕ) (entries : List ActorReport) (r : ActorReport) (rest : List ActorReport) (f : Option Fault) (lines : List ℕ)
    → k ≡ Agent → entries ≡ r ∷ rest → given ≡ name → f ≡ failure (record { kind = Agent; number = n }) → AgentTold script given f r.outcome r.place lines → AreAgentsTold script failure (alone k n name) entries lines
agent_told script failure k n given name entries r rest f lines kind is named failed told =
    subst₂ (λ (k' : CellKind) (es : List ActorReport). AreAgentsTold script failure (alone k' n name) es lines) (sym kind) (sym is)
    (lines, [], subst₂ (λ (l : List ℕ) (o : Option Fault). AgentTold script l o r.outcome r.place lines) named failed told, refl, sym (append-nil lines))

-- its status
pub agent_status : (m now : ℕ) (failure : CellId → Option Fault) (k : CellKind) (n : ℕ) (name : List ℕ) (entries : List ActorReport) (r : ActorReport) (rest : List ActorReport) (f : Option Fault)
    → k ≡ Agent → entries ≡ r ∷ rest → f ≡ failure (record { kind = Agent; number = n }) → now ≡ max (max m (end_status (failed_by f))) (end_status r.outcome) → now ≡ status_of_agents m failure (alone k n name) entries
agent_status m now failure k n name entries r rest f kind is failed h =
    subst₂ (λ (k' : CellKind) (es : List ActorReport). now ≡ status_of_agents m failure (alone k' n name) es) (sym kind) (sym is)
    (h ∙ ap (λ (o : Option Fault). max (max m (end_status (failed_by o))) (end_status r.outcome)) failed)

-- there is an entry for a cell that is an agent, where there is one for each to come
pub entry_there : (ds : List CellDefinition) (n : ℕ) (d : CellDefinition) (rs : List ActorReport) → n < length ds → d ≡ get_or ds n d → length rs ≡ length (named_from n (drop n ds)) → length (alone d.kind n d.name) ≤ length rs
entry_there ds n d rs l e h =
    let later = named_from (n + 1) (drop (n + 1) ds) in
    let all : length rs ≡ length (alone d.kind n d.name) + length later = h ∙ ap (λ (gs : List (CellId × List ℕ)). length gs) (named_more ds n d l e) ∙ as_many d.kind n d.name later in
    omega arith
