-- What is served adds only such events as the ask may bring.
use Rattle.std.proofs.Common.{ℕ, suc, Bool, true, false, nat_lt, List, [], ◌∷◌, ◌++◌, length, Option, Some, None, Result, Err, if◌then◌else◌}
use Rattle.txs_world_protocol.specs.Ask.{Writes}
use Rattle.txs_world_protocol.specs.declared.ask.Ask.{Ask}
use Rattle.txs_world_protocol.specs.declared.ask.Ask.TheVariants as ask
use Rattle.txs_world_protocol.specs.declared.ask.Reply.{Reply}
use Rattle.txs_world_protocol.specs.declared.ask.Reply.TheVariants as reply
use Rattle.txs_world_protocol.specs.declared.event.Event.{Event}
use Rattle.txs_world_protocol.specs.declared.event.EventKind.{EventKind}
use Rattle.txs_world_protocol.specs.declared.event.Cause.TheVariants as cause
use Rattle.txs_world_protocol.specs.declared.event.EventKind.TheVariants as event
use Rattle.txs_value_data.specs.Limits.{most_events}
use Rattle.txs_value_cell.specs.declared.action.Action.{Action}
use Rattle.txs_value_cell.specs.declared.cell.CellDefinition.{CellDefinition}
use Rattle.txs_value_data.specs.declared.value.CellId.{CellId}
use Rattle.txs_value_data.specs.declared.value.Value.{Value}
use Rattle.txs_value_data.specs.Places.{fault_at}
use Rattle.txs_value_data.specs.declared.fault.Fault.{Fault}
use Rattle.txs_value_data.specs.declared.fault.FaultKind.TheVariants.{AgentFailed}
use Rattle.txs_value_data.specs.declared.fault.Span.{Span}
use Rattle.txs_world_book.proofs.Growth.{each_more}
use Rattle.txs_world_book.specs.Atom.{closes_at, swapped_since}
use Rattle.txs_world_book.specs.Book.{cells_in, opening, least_written, is_failed, first_failed, mail_after, Each, is_outdated}
use Rattle.txs_world_book.specs.Served.{served, adds, event_of, cells_of}
use Rattle.txs_world.specs.Store.{looks, commits, sends_to, finishes, span_of, merged}
use Rattle.txs_theorem_runs.specs.Shared.{is_atom, serve_on}

-- an event that sends nothing and is no action
abbrev pub IsQuiet : EventKind → Type 0
IsQuiet (event.Commit at view ws sends) = ⊥
IsQuiet (event.Send x) = ⊥
IsQuiet (event.Act g n new sends) = ⊥
IsQuiet _ = Unit {0}

-- the other events that an ask may bring have this property, behind these
abbrev pub Brings : (List Event → EventKind → Type 0) → List Event → Ask → Type 0
Brings Q book (ask.Commit p sets ensured q commuted sends) = (ws : Writes) → Q book (event.Commit p q ws sends)
Brings Q book (ask.Send x) = Q book (event.Send x)
-- (an action whose send's agent had failed sends nothing)
Brings Q book (ask.Finish g new sends) = (i : ℕ) → Q book (event.Act g i new sends) × ((span : Span) → Q book (event.Act g i (Err (fault_at AgentFailed span)) []))
Brings Q book _ = Unit {0}

module _ (Q : List Event → EventKind → Type 0) (quiet : (done : List Event) (kind : EventKind) → IsQuiet kind → Q done kind) (cells : List CellDefinition) (b : ℕ) (book : List Event) (h : Each (λ done e. Q done e.kind) [] book) where
  -- each event of a book has it
  abbrev All : List Event → Type 0
  All es = Each (λ done e. Q done e.kind) [] es

  adds_such : (kind : EventKind) (r : Reply) → Q book kind → All (adds b kind r book).book
  adds_such kind r m = go (nat_lt (length book) most_events)
    where
      go : (t : Bool) → All (if t then served r (book ++ event_of b kind ∷ []) else served reply.Full book).book
      go true = each_more (λ done e. Q done e.kind) [] book (event_of b kind) h m
      go false = h

  adds_quiet : (kind : EventKind) (r : Reply) → IsQuiet kind → All (adds b kind r book).book
  adds_quiet kind r m = adds_such kind r (quiet book kind m)

  looks_such : (t : Bool) (c : CellId) (p : ℕ) → All (looks t (opening (cells_of cells)) b c p book).book
  looks_such true c p = adds_quiet (event.Retry p c cause.Outdated) (reply.Retry c) tt
  looks_such false c p = h

  commits_such : (o c g : Option CellId) (p q : ℕ) (ws : Writes) (sends : List Action) → Q book (event.Commit p q ws sends) → All (commits o c g b p q ws sends book).book
  commits_such (Some d) c g p q ws sends m = adds_quiet (event.Retry p d cause.Held) (reply.Retry d) tt
  commits_such None (Some d) g p q ws sends m = adds_quiet (event.Retry q d (cause.Commuted p)) (reply.Changed d) tt
  commits_such None None (Some g) p q ws sends m = adds_quiet (event.Refused p q g) (reply.AgentIsFailed g) tt
  commits_such None None None p q ws sends m = adds_such (event.Commit p q ws sends) reply.Done m

  sends_such : (t : Bool) (x : Action) → Q book (event.Send x) → All (sends_to t b x book).book
  sends_such true x m = adds_quiet (event.SendRefused x.agent) (reply.AgentIsFailed x.agent) tt
  sends_such false x m = adds_such (event.Send x) reply.Done m

  finishes_such : (o : Option CellId) (g : CellId) (n : ℕ) (new : Result Value Fault) (sends : List Action) (span : Span)
      → (Q book (event.Act g n new sends) × ((at : Span) → Q book (event.Act g n (Err (fault_at AgentFailed at)) []))) → All (finishes o b g n new sends span book).book
  finishes_such None g n new sends span m = adds_such (event.Act g n new sends) reply.Done m.0
  finishes_such (Some h) g n new sends span m = adds_such (event.Act g n (Err (fault_at AgentFailed span)) []) (reply.AgentIsFailed h) (m.1 span)

  closes_such : (t : Bool) (c : CellId) (v : Value) → All (closes_at t b c v book).book
  closes_such true c v = h
  closes_such false c v = adds_quiet (event.Swap v) reply.Done tt

  peek_such : (t : Bool) (c : CellId) (v u : Value) → All (if t then adds b (event.Read c) (reply.Is v) book else adds b (event.Read c) (reply.Is u) book).book
  peek_such true c v u = adds_quiet (event.Read c) (reply.Is v) tt
  peek_such false c v u = adds_quiet (event.Read c) (reply.Is u) tt

  pub served_such : (q : Ask) → Brings Q book q → All (serve_on cells b q book).book
  served_such ask.Begin m = h
  served_such (ask.Look c p) m = looks_such (is_outdated c.number p book) c p
  served_such (ask.View cs) m = h
  served_such (ask.Commit p sets ensured q commuted sends) m =
      commits_such (least_written book p (cells_in sets ++ ensured)) (least_written book q (cells_in commuted)) (first_failed (cells_of cells) book sends) p q (merged sets commuted) sends (m (merged sets commuted))
  served_such (ask.Fail p q) m = adds_quiet (event.Fail p q) reply.Done tt
  served_such (ask.Peek c) m = peek_such (is_atom c) c _ _
  served_such (ask.Send x) m = sends_such (is_failed (cells_of cells) book x.agent) x m
  served_such (ask.Take g) m = h
  served_such (ask.Finish g new sends) m =
      finishes_such (first_failed (cells_of cells) book sends) g (suc (mail_after (cells_of cells) book g.number).acts) new sends (span_of (mail_after (cells_of cells) book g.number).actions) (m (suc (mail_after (cells_of cells) book g.number).acts))
  served_such (ask.OpenAt c) m = h
  served_such (ask.CloseAt c None v) m = closes_such false c v
  served_such (ask.CloseAt c (Some p) v) m = closes_such (swapped_since p book) c v
  served_such (ask.Broke c p) m = adds_quiet (event.Broke p) reply.Done tt
