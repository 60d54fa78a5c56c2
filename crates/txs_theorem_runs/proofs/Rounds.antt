-- What an agent's actor did, action by action: each is what its callee means on what its actor did for it.
use Rattle.std.proofs.lemmas.Bool.{false≢true}
use Rattle.std.proofs.lemmas.Bool.Decides.{nat_tests}
use Rattle.std.proofs.Common.{◌≡◌, ◌≤◌, ℕ, zero, suc, Bool, true, false, nat_lt, List, [], ◌∷◌, ◌++◌, if◌then◌else◌, length, take, map, Option, Some, None, Result, Err, refl, sym, ap, ◌∙◌, subst, append_assoc, ◌⊎◌, inl, inr, arith}
use Rattle.txs_world_protocol.specs.Ask.{Exchange, may_add_event}
use Rattle.txs_world_protocol.specs.declared.ask.Ask.{Ask}
use Rattle.txs_world_protocol.specs.declared.ask.Ask.TheVariants as ask
use Rattle.txs_world_protocol.specs.declared.ask.Reply.{Reply}
use Rattle.txs_world_protocol.specs.declared.ask.Reply.TheVariants as reply
use Rattle.txs_world_protocol.specs.declared.event.Event.{Event}
use Rattle.txs_world_protocol.specs.declared.event.EventKind.{EventKind}
use Rattle.txs_world_protocol.specs.declared.event.EventKind.TheVariants as event
use Rattle.txs_world_protocol.proofs.AskLemmas.{same_ask-itself}
use Rattle.txs_value_data.specs.Limits.{most_events}
use Rattle.txs_value_data.specs.Places.{nth, fault_at}
use Rattle.txs_value_data.specs.declared.fault.Fault.{Fault}
use Rattle.txs_value_data.specs.declared.fault.FaultKind.TheVariants.{AgentFailed}
use Rattle.txs_value_data.specs.declared.fault.Span.{Span}
use Rattle.txs_value_cell.specs.declared.action.Action.{Action}
use Rattle.txs_value_cell.specs.declared.cell.CellDefinition.{CellDefinition}
use Rattle.txs_value_data.specs.declared.value.CellId.{CellId}
use Rattle.txs_value_data.specs.declared.value.Value.{Value}
use Rattle.txs_tree_meaning.specs.Meaning.{Completion}
use Rattle.txs_tree_meaning.specs.Thread.{ThreadState, action_meaning}
use Rattle.txs_tree_meaning.specs.Tree.{PlainFunction}
use Rattle.txs_code_meaning.specs.ActorState.{ActorState, Replied, Unreplied, receives, heard, handed_out, take_action, asks}
use Rattle.txs_code_meaning.specs.Machine.{Library, ThreadCode, agent_code, Configuration, Turned, Ended, Failed, Asking, Unfinished, Stuck, Outside, Outcome, first_place, on, started, and_then, turn, run}
use Rattle.txs_code_meaning.specs.Opening.{given}
use Rattle.txs_code_meaning.proofs.Acts.{run_more, stated, exec_run}
use Rattle.txs_code_meaning.proofs.Later.{more_to_come}
use Rattle.txs_theorem_threads.specs.FollowsAgent.{SoundAction, IsBetween, taken_at, action_target, IsHandedIn, MeansAsked, PrintedBehind, ActionExplained, FollowsAction, FollowsAgents}
use Rattle.txs_theorem_threads.specs.Noted.{txs_of}
use Rattle.txs_theorem_threads.specs.RepliesFit.{Out, Consumed, HasEatenAll, halted, HasWaited}
use Rattle.txs_theorem_threads.specs.RepliesFitTo.{RepliesFitTo}
use Rattle.txs_world_book.specs.Book.{newest, first_failed, mail_after}
use Rattle.txs_world_book.specs.Book as world
use Rattle.txs_world_book.specs.Served.{Served, served, adds, event_of, cells_of}
use Rattle.txs_world.specs.Laws.{RefusedIsUndisturbed}
use Rattle.txs_world.specs.Store.{next_action, first_action, takes, finishes, span_of, is_over}
use Rattle.txs_theorem_runs.specs.Agents.{AllSound, meaning_after, IsBooked, ActionDid, ActMeans, StillMeans, AtEnd, EventMeans, OfEvent, ActsUpTo, StillActs, ActsInTurn, StandsAt, HasPrintedJust}
use Rattle.txs_theorem_runs.specs.Explains.{outcome_at}
use Rattle.txs_theorem_runs.specs.Goes.{AsksNothing, WalksTo, AsksAt, GoesTo}
use Rattle.txs_theorem_runs.specs.Finished.{is_finish, finished_at}
use Rattle.txs_theorem_runs.specs.Printed.{HasPrinted}
use Rattle.txs_theorem_runs.specs.Run.{exchange}
use Rattle.txs_theorem_runs.specs.Shared.{book_for}
use Rattle.txs_theorem_runs.specs.Staged.{StagedActor, IsRested, HandsIn, IsStaged, outside_stage}
use Rattle.txs_theorem_runs.specs.Stages.{Stage, Resting, Idle, AsksIn, stage_after, phase_of}
use Rattle.txs_theorem_runs.specs.Told.{Entry, Place, exchange_of, IsExchanged, EntryHolds, AllHold, AreStaged, served_at, adding, trace_of, seen_of}
use Rattle.txs_theorem_runs.specs.Transactions.{SaidOf, undisturbed}
use Rattle.txs_theorem_runs.proofs.Acting.{append_nil, map_append, next_sound}
use Rattle.txs_theorem_runs.proofs.Busy.{IsBusy, busy_after, thread_asks, waited, Finishes, finish_is}
use Rattle.txs_theorem_runs.proofs.Consuming.{HasConsumed, turn_consumed}
use Rattle.txs_theorem_runs.proofs.Fits.{entries_fit}
use Rattle.txs_theorem_runs.proofs.Going.{Came, step, heard as hears, turn_staged, turn_in, asked_staged}
use Rattle.txs_theorem_runs.proofs.Growing.{staged_append, taken_whole}
use Rattle.txs_theorem_runs.proofs.Lasts.{turn_prints, turn_waits}
use Rattle.txs_theorem_runs.proofs.Refused.{all_refused}
use Rattle.txs_theorem_runs.proofs.Replayed.{length_taken, stands_there}
use Rattle.txs_theorem_runs.proofs.Stepping.{entry_steps}
use Rattle.txs_theorem_runs.proofs.Undisturbed.{entries_undisturbed}
use Rattle.txs_theorem_runs.proofs.Whole.{Lower, all_undisturbed}

-- a reply with which an agent goes on hands out an action
handed : (o : Option Action) (n : ℕ) (v : Value) (r : Reply) → r ≡ takes o n v → IsExchanged r → (x : Action) × (o ≡ Some x) × (r ≡ reply.Action n x v)
handed None n v r e h = absurd (subst IsExchanged e h)
handed (Some x) n v r e h = (x, refl, e)

abbrev action_or : Action → Option Action → Action
action_or x None = x
action_or x (Some y) = y

-- the first action that waits has the span of the first
first_span : (b : Bool) (xs : List Action) (x : Action) → first_action b xs ≡ Some x → span_of xs ≡ x.span
first_span true xs x e = absurd (subst is_none e tt)
  where
    is_none : Option Action → Type 0
    is_none None = Unit {0}
    is_none (Some y) = ⊥
first_span false [] x e = absurd (subst is_none e tt)
  where
    is_none : Option Action → Type 0
    is_none None = Unit {0}
    is_none (Some y) = ⊥
first_span false (y ∷ xs) x e = ap (λ o. (action_or y o).span) e

-- an actor that waits with what it asks
abbrev wants_or : Option Ask → Turned Configuration → Option Ask
wants_or o (Asking s) = s.wants
wants_or o _ = o

abbrev ask_or : Ask → Option Ask → Ask
ask_or q None = q
ask_or q (Some r) = r

abbrev place_or : Configuration → Turned Configuration → Configuration
place_or c (Unfinished d) = d
place_or c _ = c

-- an actor waits in one state
abbrev Waits : ActorState → Turned Configuration
Waits s = Asking s

abbrev state_or : ActorState → Turned Configuration → ActorState
state_or t (Asking u) = u
state_or t _ = t

waits_once : (t u : ActorState) → Waits t ≡ Waits u → t ≡ u
waits_once t u i = ap (state_or t) i

module _ (cells : List CellDefinition) (books : ℕ → List Event) (g : CellId) where
  -- what was handed out is what the agent runs next there, with its state
  abbrev pub HandedSo : ℕ → Action → Value → Type 0
  HandedSo k x v = (next_action (cells_of cells) (take k (books 0)) g ≡ Some x) × (newest (world.opening (cells_of cells)) (take k (books 0)) g.number ≡ v)

  abbrev pub OutSo : Ask → Reply → ℕ → Type 0
  OutSo (ask.Take h) (reply.Action n x v) k = HandedSo k x v
  OutSo _ _ k = Unit {0}

  -- so it is of each action that was taken, where it was handed in, or at this end
  abbrev pub TakesSo : ℕ → List Entry → Type 0
  TakesSo end [] = Unit {0}
  TakesSo end (e ∷ es) = OutSo e.ask e.reply (finished_at end es) × TakesSo end es

-- what is said at the end of a trace may say less
module _ (cells : List CellDefinition) (functions : List PlainFunction) (books : ℕ → List Event) (g : CellId) where
  event_map : (p : Place) (kind : EventKind) (since : List Place) (out : List ℕ) (ds : List ActionDid) (go go1 : AtEnd) → ((s : List Place) (o : List ℕ) (l : List ActionDid) → go s o l → go1 s o l)
      → EventMeans cells functions books g p kind since out ds go → EventMeans cells functions books g p kind since out ds go1
  event_map p (event.Act h n new sends) since out [] go go1 k e = absurd e
  event_map p (event.Act h n new sends) since out (d ∷ ds) go go1 k e = (e.0, e.1, e.2, e.3, e.4, k [] e.2 ds e.5)
  event_map p _ since out ds go go1 k e = k (since ++ p ∷ []) out ds e

  of_event : (o : Option Event) (P Q : Event → Type 0) → ((e : Event) → P e → Q e) → OfEvent o P → OfEvent o Q
  of_event None P Q k h = absurd h
  of_event (Some e) P Q k h = k e h

  pub acts_map : (one two : AtEnd) → ((s : List Place) (o : List ℕ) (l : List ActionDid) → one s o l → two s o l) → (ps since : List Place) (out : List ℕ) (ds : List ActionDid)
      → ActsUpTo cells functions books g one ps since out ds → ActsUpTo cells functions books g two ps since out ds
  acts_map one two k [] since out ds h = k since out ds h
  acts_map one two k (p ∷ ps) since out ds h =
      of_event (nth (books p.book) p.at) (λ e. EventMeans cells functions books g p e.kind since out ds (λ s o l. ActsUpTo cells functions books g one ps s o l))
      (λ e. EventMeans cells functions books g p e.kind since out ds (λ s o l. ActsUpTo cells functions books g two ps s o l))
      (λ e m. event_map p e.kind since out ds (λ s o l. ActsUpTo cells functions books g one ps s o l) (λ s o l. ActsUpTo cells functions books g two ps s o l) (λ s o l i. acts_map one two k ps s o l i) m) h

module _ (lower : Lower) (refused : RefusedIsUndisturbed) (cells : List CellDefinition) (threads : ℕ) (code : Library) (functions : List PlainFunction) (follows : FollowsAgents code cells functions) (books : ℕ → List Event)
    (sound : (k : ℕ) → k ≤ length (books 0) → AllSound functions (take k (books 0))) (g : CellId) (a : ℕ)
    (own : (k : ℕ) → k ≤ length (books 0) → (x : Action) → next_action (cells_of cells) (take k (books 0)) g ≡ Some x → x.agent ≡ g) (known : StagedActor true (agent_code code g)) where
  abbrev tc : ThreadCode
  tc = agent_code code g

  abbrev trace : List Entry → List Place
  trace es = trace_of cells books a es

  abbrev end : ℕ
  end = length (books 0)

  -- what an action means on these events
  abbrev meaning : ℕ → Action → Value → List Place → Completion ThreadState Value
  meaning n x v ps = action_meaning cells functions n x v (seen_of cells books ps)

  -- ---- the trace

  adding_append : (e : Entry) (ps qs : List Place) → adding cells books a e (ps ++ qs) ≡ adding cells books a e ps ++ qs
  adding_append e ps qs = go (nat_lt e.at (length (served_at cells books a e).book))
    where
      here : Place
      here = record { book = book_for cells e.ask; at = e.at }

      go : (b : Bool) → (if b then here ∷ (ps ++ qs) else ps ++ qs) ≡ (if b then here ∷ ps else ps) ++ qs
      go true = refl
      go false = refl

  trace_more : (es : List Entry) (e : Entry) → trace (es ++ e ∷ []) ≡ trace es ++ adding cells books a e []
  trace_more [] e = refl
  trace_more (x ∷ es) e = ap (adding cells books a x) (trace_more es e) ∙ adding_append x (trace es) (adding cells books a e [])

  all_more : (es : List Entry) (e : Entry) → AllHold cells threads books a es → EntryHolds cells threads books a e → AllHold cells threads books a (es ++ e ∷ [])
  all_more [] e h k = (k, tt)
  all_more (x ∷ es) e h k = (h.0, all_more es e h.1 k)

  -- ---- an action that runs

  -- what the action had printed before the last of its events, at least
  abbrev pub Least : ActorState → Action → Value → List Entry → Turned Configuration → Type 0
  Least s x v part at =
      (trace part ≡ [])
      ⊎ ((hs : List Place) × (p : Place) × (trace part ≡ hs ++ p ∷ []) × (n : ℕ) × (out : List ℕ) × HasWaited out (halted (meaning n x v hs)) × HasPrinted (s.printed ++ out) at)

  -- An agent that took this action in this state runs it, and was told this part since.
  pub record Doing (s : ActorState) (x : Action) (v : Value) (part : List Entry) (at : Turned Configuration) : Type 0 where
    pub turns : ℕ
    pub ran : run tc turns (taken_at g x v s (map exchange_of part)) ≡ at
    pub told : List Exchange
    pub came : Came tc told at
    pub stage : Stage
    pub busy : IsBusy stage
    pub staged : AreStaged false Idle part stage
    pub here : IsStaged true stage at
    pub least : Least s x v part at

  module _ (s : ActorState) (x : Action) (v : Value) (between : IsBetween s) (right : SoundAction functions x) (ours : x.agent ≡ g) where
    it : FollowsAction code cells functions g x
    it = follows.actions g x ours right

    -- how far the machine is explained, wherever it is
    outcome : (o : Turned Configuration) → and_then o stated ≡ outcome_at o
    outcome (Ended t) = refl
    outcome (Failed f t) = refl
    outcome (Asking t) = refl
    outcome (Unfinished c) = refl
    outcome Stuck = refl

    consumed : (o : Turned Configuration) → HasConsumed o → Consumed (outcome_at o)
    consumed (Ended t) h = h
    consumed (Failed f t) h = h
    consumed (Asking t) h = h
    consumed (Unfinished c) h = h
    consumed Stuck h = tt

    module _ (part : List Entry) (hold : AllHold cells threads books a part) (stage : Stage) (staged : AreStaged false Idle part stage) (n : ℕ) (o : Turned Configuration) (ran : run tc n (taken_at g x v s (map exchange_of part)) ≡ o) (empty : HasConsumed o) where
      fits : RepliesFitTo cells Out (map exchange_of part) (seen_of cells books (trace part)) (phase_of cells books stage)
      fits = entries_fit lower.stays cells threads books a Idle stage part hold staged

      target_is : action_target code g x v s n (map exchange_of part) ≡ outcome_at o
      target_is = exec_run tc n (taken_at g x v s (map exchange_of part)) ∙ ap (λ u. and_then u stated) ran ∙ outcome o

      eaten : Consumed (action_target code g x v s n (map exchange_of part))
      eaten = subst (λ (u : Outcome). Consumed u) (sym target_is) (consumed o empty)

      explained : ActionExplained cells g s.printed (outcome_at o) (meaning n x v (trace part))
      explained = subst (λ (u : Outcome). ActionExplained cells g s.printed u (meaning n x v (trace part))) target_is
          (it.explained v s (map exchange_of part) (seen_of cells books (trace part)) (phase_of cells books stage) n between fits eaten)

      -- its transactions were undisturbed
      calm : SaidOf (undisturbed cells books) books (trace part) (txs_of (meaning n x v (trace part)))
      calm = entries_undisturbed (Some []) cells books a threads part (txs_of (meaning n x v (trace part))) hold
          (all_undisturbed lower.done cells threads books a part hold) (all_refused refused cells threads books a part hold)
          (it.noted v s (map exchange_of part) (seen_of cells books (trace part)) (phase_of cells books stage) n between fits eaten)

    -- ---- turns that ask nothing

    least_on : (part : List Entry) (c : Configuration) (xs : List Exchange) → Least s x v part (Unfinished c) → Least s x v part (turn tc (given xs c))
    least_on part c xs (inl e) = inl e
    least_on part c xs (inr h) = inr (h.0, h.1, h.2, h.3, h.4, h.5, turn_prints (s.printed ++ h.4) tc (given xs c) h.6)

    least_turn : (part : List Entry) (c : Configuration) → Least s x v part (Unfinished c) → Least s x v part (turn tc c)
    least_turn part c (inl e) = inl e
    least_turn part c (inr h) = inr (h.0, h.1, h.2, h.3, h.4, h.5, turn_prints (s.printed ++ h.4) tc c h.6)

    doing_step : (part : List Entry) (c : Configuration) → Doing s x v part (Unfinished c) → AsksNothing (turn tc c) → Doing s x v part (turn tc c)
    doing_step part c d quiet = record {
      turns = suc d.turns;
      ran = run_more tc d.turns (taken_at g x v s (map exchange_of part)) ∙ ap (λ u. and_then u (turn tc)) d.ran;
      told = d.told;
      came = step tc d.told c d.came;
      stage = d.stage;
      busy = d.busy;
      staged = d.staged;
      here = turn_staged tc true known d.stage (turn tc c) _ quiet (turn_in tc true known d.told d.stage c d.came d.here);
      least = least_turn part c d.least;
    }

    doing_walk : (part : List Entry) (n : ℕ) (at there : Turned Configuration) → Doing s x v part at → WalksTo tc n at there → Doing s x v part there
    doing_walk part zero at there d w = subst (λ o. Doing s x v part o) w d
    doing_walk part (suc n) at there d w = doing_walk part n (turn tc w.0) there (doing_step part w.0 (subst (λ o. Doing s x v part o) w.1 d) w.2) w.3

    -- ---- an ask that doesn't hand the action in

    module _ (part : List Entry) (hold : AllHold cells threads books a part) (c : Configuration) (d : Doing s x v part (Unfinished c)) (e : Entry) (asks : AsksAt tc c e.ask) where
      -- where the action waits with its ask
      waits : run tc (suc d.turns) (taken_at g x v s (map exchange_of part)) ≡ Asking asks.0
      waits = run_more tc d.turns (taken_at g x v s (map exchange_of part)) ∙ ap (λ u. and_then u (turn tc)) d.ran ∙ asks.1

      still_empty : asks.0.todo ≡ []
      still_empty = subst HasConsumed asks.1 (turn_consumed tc c d.here.0)

      at_ask : PrintedBehind s.printed asks.0.printed (λ out. MeansAsked cells g (Some e.ask) out (meaning (suc d.turns) x v (trace part)))
      at_ask = subst (λ o. PrintedBehind s.printed asks.0.printed (λ out. MeansAsked cells g o out (meaning (suc d.turns) x v (trace part)))) asks.2
          (explained part hold d.stage d.staged (suc d.turns) (Asking asks.0) waits still_empty)

      -- it has printed there what it had before
      as_before : asks.0.printed ≡ c.state.printed
      as_before = (turn_waits tc c asks.0 d.here.0 asks.1).1

      asked : (t : ActorState) × (turn tc c ≡ Asking t) × AsksIn true d.stage e.ask × ((r : Reply) → IsStaged true (stage_after d.stage e.ask r) (turn tc (given (exchange e.ask r ∷ []) c))) × HandsIn t e.ask (λ q r. turn tc (given (exchange q r ∷ []) c))
      asked = asked_staged tc true known d.stage c e.ask asks (turn_in tc true known d.told d.stage c d.came d.here)

      doing_hears : is_finish e.ask ≡ false → Doing s x v (part ++ e ∷ []) (turn tc (given (exchange_of e ∷ []) c))
      doing_hears isnt = record {
        turns = suc d.turns;
        ran = ap (λ l. run tc (suc d.turns) (taken_at g x v s l)) (map_append part e)
            ∙ run_more tc d.turns (taken_at g x v s (map exchange_of part ++ exchange_of e ∷ []))
            ∙ ap (λ u. and_then u (turn tc)) (more_to_come tc d.turns (taken_at g x v s (map exchange_of part)) c (exchange_of e ∷ []) d.ran);
        told = d.told ++ exchange_of e ∷ [];
        came = hears tc d.told c (exchange_of e) d.came;
        stage = stage_after d.stage e.ask e.reply;
        busy = busy_after d.stage e.ask e.reply isnt d.busy;
        staged = staged_append false Idle d.stage (stage_after d.stage e.ask e.reply) part (e ∷ []) d.staged (thread_asks d.stage e.ask isnt d.busy asked.2, refl);
        here = asked.3 e.reply;
        least = by (nat_lt e.at (length (served_at cells books a e).book)) refl;
      }
        where
          place : Place
          place = record { book = book_for cells e.ask; at = e.at }

          by : (b : Bool) → nat_lt e.at (length (served_at cells books a e).book) ≡ b → Least s x v (part ++ e ∷ []) (turn tc (given (exchange_of e ∷ []) c))
          by true lt =
              inr (
                trace part,
                place,
                trace_more part e ∙ ap (λ b. trace part ++ (if b then place ∷ [] else [])) lt,
                suc d.turns,
                at_ask.0,
                waited cells g e.ask at_ask.0 (meaning (suc d.turns) x v (trace part)) isnt at_ask.2,
                turn_prints (s.printed ++ at_ask.0) tc (given (exchange_of e ∷ []) c) ([], sym as_before ∙ at_ask.1 ∙ sym (append_nil (s.printed ++ at_ask.0))),
              )
          by false lt =
              subst (λ ps. (ps ≡ []) ⊎ ((hs : List Place) × (p : Place) × (ps ≡ hs ++ p ∷ []) × (n : ℕ) × (out : List ℕ) × HasWaited out (halted (meaning n x v hs)) × HasPrinted (s.printed ++ out) (turn tc (given (exchange_of e ∷ []) c))))
              (sym (trace_more part e ∙ ap (λ b. trace part ++ (if b then place ∷ [] else [])) lt ∙ append_nil (trace part))) (least_on part c (exchange_of e ∷ []) d.least)

  -- ---- what was done from here on

  -- At the end an agent runs no action, or still runs one; and where its next instruction asks what may add an event, its action has come to that ask.
  abbrev pub EndsSo : Turned Configuration → AtEnd
  EndsSo there since out ds =
      StillActs cells functions books g since out ds × ((c : Configuration) (q : Ask) → there ≡ Unfinished c → AsksAt tc c q → may_add_event q ≡ true → StandsAt cells functions books g q since out ds)

  -- what the agent's actor did from here on, with these events since the last act, means what its actions mean, with what it printed
  pub record Done (s : ActorState) (since : List Place) (es : List Entry) (there : Turned Configuration) : Type 0 where
    pub printed : List ℕ
    pub goes_on : HasPrintedJust (s.printed ++ printed) there
    pub did : List ActionDid
    pub acts : ActsUpTo cells functions books g (EndsSo there) (trace es) since printed did

  -- an action that isn't over, at the end
  over_so_far : (s : ActorState) (x : Action) (v : Value) → IsBetween s → SoundAction functions x → x.agent ≡ g → HandedSo cells books g end x v → (part : List Entry) → AllHold cells threads books a part
      → (there : Turned Configuration) → Doing s x v part there → Done s (trace part) [] there
  over_so_far s x v between right ours so part hold there d = by there d refl
    where
      whole : take end (books 0) ≡ books 0
      whole = taken_whole (books 0)

      found : v ≡ newest (world.opening (cells_of cells)) (books 0) g.number
      found = sym so.1 ∙ ap (λ l. newest (world.opening (cells_of cells)) l g.number) whole

      next : next_action (cells_of cells) (books 0) g ≡ Some x
      next = subst (λ l. next_action (cells_of cells) l g ≡ Some x) whole so.0

      still : (c : Configuration) (d : Doing s x v part (Unfinished c)) (out : List ℕ) (rest : List ℕ) → c.state.printed ≡ s.printed ++ out → HasEatenAll (out ++ rest) (meaning d.turns x v (trace part))
          → StillMeans cells functions books g (record { turns = d.turns; trace = trace part; txs = txs_of (meaning d.turns x v (trace part)) }) out
      still c d out rest e h = record {
        action = x;
        next = next;
        sound = right;
        rest = rest;
        means = subst (λ w. HasEatenAll (out ++ rest) (meaning d.turns x w (trace part))) found h;
        least = least_so d.least;
        noted = ap (λ w. txs_of (meaning d.turns x w (trace part))) found;
        calm = calm s x v between right ours part hold d.stage d.staged d.turns (Unfinished c) d.ran d.here.0;
      }
        where
          behind : (xs ys zs ws : List ℕ) → xs ++ ys ≡ (xs ++ zs) ++ ws → ys ≡ zs ++ ws
          behind [] ys zs ws i = i
          behind (k ∷ xs) ys zs ws i = behind xs ys zs ws (ap tail i)
            where
              tail : List ℕ → List ℕ
              tail [] = []
              tail (j ∷ js) = js

          least_so : Least s x v part (Unfinished c)
              → (trace part ≡ []) ⊎ ((hs : List Place) × (p : Place) × (trace part ≡ hs ++ p ∷ []) × (n : ℕ) × (first : List ℕ) × HasWaited first (halted (meaning_after cells functions books (books 0) g n x hs)) × (more : List ℕ) × (out ≡ first ++ more))
          least_so (inl i) = inl i
          least_so (inr i) =
              inr (i.0, i.1, i.2, i.3, i.4, subst (λ w. HasWaited i.4 (halted (meaning i.3 x w i.0))) found i.5, i.6.0, behind s.printed out i.4 i.6.0 (sym e ∙ i.6.1))

      same_behind : (xs ys zs : List ℕ) → xs ++ ys ≡ xs ++ zs → ys ≡ zs
      same_behind [] ys zs i = i
      same_behind (k ∷ xs) ys zs i = same_behind xs ys zs (ap tail i)
        where
          tail : List ℕ → List ℕ
          tail [] = []
          tail (j ∷ js) = js

      -- where it has come to an ask
      standing : (c : Configuration) (d : Doing s x v part (Unfinished c)) (out : List ℕ) → c.state.printed ≡ s.printed ++ out → Unfinished c ≡ there
          → (c1 : Configuration) (q : Ask) → there ≡ Unfinished c1 → AsksAt tc c1 q → MeansAsked cells g (Some q) out (meaning_after cells functions books (books 0) g (suc d.turns) x (trace part))
      standing c d out e is c1 q at asks =
          let here : AsksAt tc c q = subst (λ u. AsksAt tc u q) (sym (ap (place_or c) (is ∙ at))) asks in
          let y : Entry = record { ask = q; reply = reply.Done; at = 0 } in
          let m = at_ask s x v between right ours part hold c d y here in
          let same : m.0 ≡ out = same_behind s.printed m.0 out (sym m.1 ∙ as_before s x v between right ours part hold c d y here ∙ e) in
          subst (λ w. MeansAsked cells g (Some q) out (meaning (suc d.turns) x w (trace part))) found (subst (λ l. MeansAsked cells g (Some q) l (meaning (suc d.turns) x v (trace part))) same m.2)

      by : (o : Turned Configuration) → Doing s x v part o → o ≡ there → Done s (trace part) [] there
      by (Ended t) d e = absurd (explained s x v between right ours part hold d.stage d.staged d.turns (Ended t) d.ran d.here)
      by (Failed f t) d e = absurd (explained s x v between right ours part hold d.stage d.staged d.turns (Failed f t) d.ran d.here)
      by (Asking t) d e = absurd d.here
      by Stuck d e = absurd (explained s x v between right ours part hold d.stage d.staged d.turns Stuck d.ran tt)
      by (Unfinished c) d e =
          let m = explained s x v between right ours part hold d.stage d.staged d.turns (Unfinished c) d.ran d.here.0 in
          record {
            printed = m.0;
            goes_on = subst (HasPrintedJust (s.printed ++ m.0)) e m.1;
            did = record { turns = d.turns; trace = trace part; txs = txs_of (meaning d.turns x v (trace part)) } ∷ [];
            acts = ((refl, still c d m.0 m.2.0 m.1 m.2.1), λ c1 q at asks adds. (refl, x, next, suc d.turns, standing c d m.0 m.1 e c1 q at asks));
          }

  -- ---- where an action is handed in

  module _ (s : ActorState) (x : Action) (v : Value) (between : IsBetween s) (right : SoundAction functions x) (ours : x.agent ≡ g) (part : List Entry) (hold : AllHold cells threads books a part) (c : Configuration) (d : Doing s x v part (Unfinished c))
      (e : Entry) (asks : AsksAt tc c e.ask) (holds : EntryHolds cells threads books a e) (so : HandedSo cells books g e.at x v) (f : Finishes e.ask) where
    abbrev did : ActionDid
    did = record { turns = suc d.turns; trace = trace part; txs = txs_of (meaning (suc d.turns) x v (trace part)) }

    abbrev book : List Event
    book = take e.at (books 0)

    -- what it means
    pub asked_so : PrintedBehind s.printed asks.0.printed (λ out. (f.agent ≡ g) × IsHandedIn f.new f.sends out (meaning (suc d.turns) x v (trace part)))
    asked_so = subst (λ q. PrintedBehind s.printed asks.0.printed (λ out. MeansAsked cells g (Some q) out (meaning (suc d.turns) x v (trace part)))) f.same (at_ask s x v between right ours part hold c d e asks)

    -- what the book says of it
    acts_so : (new1 : Result Value Fault) (sends1 : List Action) → IsBooked (first_failed (cells_of cells) book f.sends) x.span f.new f.sends new1 sends1 → ActMeans cells functions books book g did asked_so.0 new1 sends1
    acts_so new1 sends1 booked = record {
      action = x;
      next = so.0;
      sound = right;
      result = f.new;
      held = f.sends;
      means = subst (λ w. IsHandedIn f.new f.sends asked_so.0 (meaning (suc d.turns) x w (trace part))) (sym so.1) asked_so.2.1;
      booked = booked;
      noted = ap (λ w. txs_of (meaning (suc d.turns) x w (trace part))) (sym so.1);
      calm = calm s x v between right ours part hold d.stage d.staged (suc d.turns) (Asking asks.0) (waits s x v between right ours part hold c d e asks) (still_empty s x v between right ours part hold c d e asks);
    }

    within : e.at ≤ length (books 0)
    within = subst (λ q. e.at ≤ length (books (book_for cells q))) f.same holds.within

    -- the entry is that of what hands the action in
    abbrev asked_entry : Entry
    asked_entry = record e { ask = ask.Finish f.agent f.new f.sends }

    same_entry : e ≡ asked_entry
    same_entry = ap (λ q. record e { ask = q }) f.same

    span : span_of (mail_after (cells_of cells) book f.agent.number).actions ≡ x.span
    span = ap (λ h. span_of (mail_after (cells_of cells) book h.number).actions) asked_so.2.0 ∙ first_span (world.is_failed (cells_of cells) book g) (mail_after (cells_of cells) book g.number).actions x so.0

    module _ (end_so : AtEnd) (es : List Entry) (rest : List ℕ) (ds : List ActionDid) (after : ActsUpTo cells functions books g end_so (trace es) [] rest ds) where
      abbrev Goes : Served → Type 0
      Goes w = IsExchanged w.reply → take (length w.book) (books 0) ≡ w.book
          → ActsUpTo cells functions books g end_so (if nat_lt e.at (length w.book) then record { book = 0; at = e.at } ∷ trace es else trace es) (trace part) (asked_so.0 ++ rest) (did ∷ ds)

      -- an act that the book has so
      act_goes : (i : ℕ) (new1 : Result Value Fault) (sends1 : List Action) (r : Reply) → IsBooked (first_failed (cells_of cells) book f.sends) x.span f.new f.sends new1 sends1 → Goes (adds a (event.Act f.agent i new1 sends1) r book)
      act_goes i new1 sends1 r booked = go (nat_lt (length book) most_events)
        where
          kind : EventKind
          kind = event.Act f.agent i new1 sends1

          go : (b : Bool) → Goes (if b then served r (book ++ event_of a kind ∷ []) else served reply.Full book)
          go false ex stands = absurd ex
          go true ex stands = place (nat_lt e.at (length (book ++ event_of a kind ∷ []))) refl
            where
              there : nth (books 0) e.at ≡ Some (event_of a kind)
              there = stands_there (books 0) e.at (event_of a kind) within stands

              longer : (xs : List Event) (y : Event) → length (xs ++ y ∷ []) ≡ suc (length xs)
              longer [] y = refl
              longer (z ∷ xs) y = ap suc (longer xs y)

              place : (b : Bool) → nat_lt e.at (length (book ++ event_of a kind ∷ [])) ≡ b
                  → ActsUpTo cells functions books g end_so (if b then record { book = 0; at = e.at } ∷ trace es else trace es) (trace part) (asked_so.0 ++ rest) (did ∷ ds)
              place true lt =
                  subst (λ o. OfEvent o (λ y. EventMeans cells functions books g (record { book = 0; at = e.at }) y.kind (trace part) (asked_so.0 ++ rest) (did ∷ ds) (λ since1 out1 ds1. ActsUpTo cells functions books g end_so (trace es) since1 out1 ds1)))
                  (sym there) (refl, asked_so.0, rest, refl, acts_so new1 sends1 booked, after)
              place false lt = absurd (let l = length_taken e.at (books 0) within in let m = longer book (event_of a kind) in grind (arith, nat_tests, lt, l, m))

      finishes_go : (o : Option CellId) → first_failed (cells_of cells) book f.sends ≡ o → (i : ℕ) → Goes (finishes o a f.agent i f.new f.sends (span_of (mail_after (cells_of cells) book f.agent.number).actions) book)
      finishes_go None h i = act_goes i f.new f.sends reply.Done (subst (λ o. IsBooked o x.span f.new f.sends f.new f.sends) (sym h) (refl, refl))
      finishes_go (Some k) h i =
          act_goes i (Err (fault_at AgentFailed (span_of (mail_after (cells_of cells) book f.agent.number).actions))) [] (reply.AgentIsFailed k)
          (subst (λ o. IsBooked o x.span f.new f.sends (Err (fault_at AgentFailed (span_of (mail_after (cells_of cells) book f.agent.number).actions))) []) (sym h) (ap (λ z. Err (fault_at AgentFailed z)) span, refl))

      -- so it is of the entry
      pub entry_goes : ActsUpTo cells functions books g end_so (trace (e ∷ es)) (trace part) (asked_so.0 ++ rest) (did ∷ ds)
      entry_goes =
          subst (λ y. ActsUpTo cells functions books g end_so (adding cells books a y (trace es)) (trace part) (asked_so.0 ++ rest) (did ∷ ds)) (sym same_entry)
          (finishes_go (first_failed (cells_of cells) book f.sends) refl (suc (mail_after (cells_of cells) book f.agent.number).acts)
          (subst (λ y. IsExchanged (served_at cells books a y).reply) same_entry (subst IsExchanged holds.replied holds.exchanged))
          (subst (λ y. take (length (served_at cells books a y).book) (books (book_for cells y.ask)) ≡ (served_at cells books a y).book) same_entry holds.stands))

    -- its reply says that the action is over
    adds_over : (kind : EventKind) (r : Reply) → is_over r ≡ true → IsExchanged (adds a kind r book).reply → is_over (adds a kind r book).reply ≡ true
    adds_over kind r over = go (nat_lt (length book) most_events)
      where
        go : (b : Bool) → IsExchanged (if b then served r (book ++ event_of a kind ∷ []) else served reply.Full book).reply → is_over (if b then served r (book ++ event_of a kind ∷ []) else served reply.Full book).reply ≡ true
        go true ex = over
        go false ex = absurd ex

    finishes_over : (o : Option CellId) (i : ℕ) (at : Span) → IsExchanged (finishes o a f.agent i f.new f.sends at book).reply → is_over (finishes o a f.agent i f.new f.sends at book).reply ≡ true
    finishes_over None i at ex = adds_over (event.Act f.agent i f.new f.sends) reply.Done refl ex
    finishes_over (Some k) i at ex = adds_over (event.Act f.agent i (Err (fault_at AgentFailed at)) []) (reply.AgentIsFailed k) refl ex

    pub handed_over : is_over e.reply ≡ true
    handed_over =
        subst (λ r. is_over r ≡ true) (sym holds.replied) (subst (λ y. is_over (served_at cells books a y).reply ≡ true) (sym same_entry)
        (finishes_over (first_failed (cells_of cells) book f.sends) (suc (mail_after (cells_of cells) book f.agent.number).acts) (span_of (mail_after (cells_of cells) book f.agent.number).actions)
        (subst (λ y. IsExchanged (served_at cells books a y).reply) same_entry (subst IsExchanged holds.replied holds.exchanged))))

    -- where the agent comes to
    pub comes : is_over e.reply ≡ true → IsRested asks.0 (turn tc (given (exchange_of e ∷ []) c))
    comes over =
        let h = asked s x v between right ours part hold c d e asks in
        let k : HandsIn h.0 (ask.Finish f.agent f.new f.sends) (λ q r. turn tc (given (exchange q r ∷ []) c)) = subst (λ q. HandsIn h.0 q (λ q r. turn tc (given (exchange q r ∷ []) c))) f.same h.4 in
        subst (λ t. IsRested t (turn tc (given (exchange_of e ∷ []) c))) (waits_once h.0 asks.0 (sym h.1 ∙ asks.1))
        (subst (λ q. IsRested h.0 (turn tc (given (exchange q e.reply ∷ []) c))) (sym f.same) (k e.reply over))

  -- ---- from the beginning of the agent's body

  -- the agent asks for an action
  take_asks : (s : ActorState) → s.todo ≡ [] → turn tc (first_place [] s) ≡ Asking (record s { wants = Some (ask.Take g) })
  unfolding take_action asks
  take_asks s e = ap (λ l. on Outside (heard handed_out (receives (ask.Take g) s l)) (λ o t. started g o (first_place [] s) t)) e

  -- and runs the one that it is handed out
  take_heard : (s : ActorState) (n : ℕ) (x : Action) (v : Value) → s.todo ≡ [] → turn tc (given (exchange (ask.Take g) (reply.Action n x v) ∷ []) (first_place [] s)) ≡ Unfinished (taken_at g x v s [])
  unfolding take_action asks
  take_heard s n x v e =
      ap (λ l. on Outside (heard handed_out (receives (ask.Take g) (record s { todo = l ++ exchange (ask.Take g) (reply.Action n x v) ∷ [] }) (l ++ exchange (ask.Take g) (reply.Action n x v) ∷ []))) (λ o t. started g o (first_place [] (record s { todo = l ++ exchange (ask.Take g) (reply.Action n x v) ∷ [] })) t)) e
      ∙ ap (λ b. on Outside (heard handed_out (if b then Replied (reply.Action n x v) (record s { todo = [] }) else Unreplied (record s { todo = exchange (ask.Take g) (reply.Action n x v) ∷ []; wants = Some (ask.Take g) }))) (λ o t. started g o (first_place [] (record s { todo = exchange (ask.Take g) (reply.Action n x v) ∷ [] })) t)) (same_ask-itself (ask.Take g))

  -- it walks nowhere before
  stays_there : (s : ActorState) → s.todo ≡ [] → (n : ℕ) (there : Turned Configuration) → WalksTo tc n (Unfinished (first_place [] s)) there → there ≡ Unfinished (first_place [] s)
  stays_there s e zero there w = sym w
  stays_there s e (suc n) there w = absurd (subst AsksNothing (ap (turn tc) (sym (ap (place_or w.0) w.1)) ∙ take_asks s e) w.2)

  -- so what it asks there is for an action
  take_asked : (s : ActorState) → s.todo ≡ [] → (there : Turned Configuration) → there ≡ Unfinished (first_place [] s) → (c : Configuration) (q : Ask) → there ≡ Unfinished c → AsksAt tc c q → q ≡ ask.Take g
  take_asked s e there is c q at asks =
      let here : AsksAt tc (first_place [] s) q = subst (λ u. AsksAt tc u q) (ap (place_or c) (sym at ∙ is)) asks in
      ap (ask_or (ask.Take g)) (sym here.2 ∙ ap (wants_or None) (sym here.1 ∙ take_asks s e))

  -- what an agent was handed out, and where it begins
  record TakenOut (y : Entry) (es : List Entry) (s : ActorState) : Type 0 where
    action : Action
    state : Value
    right : SoundAction functions action
    ours : action.agent ≡ g
    so : HandedSo cells books g (finished_at end es) action state
    doing : Doing s action state [] (turn tc (given (exchange_of y ∷ []) (first_place [] s)))
    quiet : trace (y ∷ es) ≡ trace es

  taken_out : (y : Entry) (es : List Entry) (s : ActorState) (told : List Exchange) → s.todo ≡ [] → IsBetween s → Came tc told (Unfinished (first_place [] s)) → AsksAt tc (first_place [] s) y.ask → EntryHolds cells threads books a y
      → OutSo cells books g y.ask y.reply (finished_at end es) → TakenOut y es s
  taken_out y es s told e between came asks hold so = record {
    action = x.0;
    state = v;
    right = next_sound functions (cells_of cells) book g x.0 (sound y.at within) x.1;
    ours = own y.at within x.0 x.1;
    so = subst (λ r. OutSo cells books g (ask.Take g) r (finished_at end es)) x.2 (subst (λ q. OutSo cells books g q y.reply (finished_at end es)) take_is so);
    doing = record {
      turns = 0;
      ran = sym (ap (λ z. turn tc (given (z ∷ []) (first_place [] s))) exchanged ∙ take_heard s n x.0 v e);
      told = told ++ exchange_of y ∷ [];
      came = hears tc told (first_place [] s) (exchange_of y) came;
      stage = Idle;
      busy = tt;
      staged = refl;
      here = subst (λ r. IsStaged true (stage_after Resting (ask.Take g) r) there) x.2 (subst (λ q. IsStaged true (stage_after Resting q y.reply) there) take_is (staged.3 y.reply));
      least = inl refl;
    };
    quiet = ap (λ q. adding cells books a (record y { ask = q }) (trace es)) take_is ∙ none_added (nat_lt y.at (length book)) refl;
  }
    where
      book : List Event
      book = take y.at (books 0)

      n : ℕ
      n = suc (mail_after (cells_of cells) book g.number).acts

      v : Value
      v = newest (world.opening (cells_of cells)) book g.number

      there : Turned Configuration
      there = turn tc (given (exchange_of y ∷ []) (first_place [] s))

      take_is : y.ask ≡ ask.Take g
      take_is = ap (ask_or (ask.Take g)) (sym asks.2 ∙ ap (wants_or None) (sym asks.1 ∙ take_asks s e))

      within : y.at ≤ length (books 0)
      within = subst (λ q. y.at ≤ length (books (book_for cells q))) take_is hold.within

      x : (x : Action) × (next_action (cells_of cells) book g ≡ Some x) × (y.reply ≡ reply.Action n x v)
      x = handed (next_action (cells_of cells) book g) n v y.reply (hold.replied ∙ ap (λ q. (served_at cells books a (record y { ask = q })).reply) take_is) hold.exchanged

      exchanged : exchange_of y ≡ exchange (ask.Take g) (reply.Action n x.0 v)
      exchanged = ap (λ q. exchange q y.reply) take_is ∙ ap (exchange (ask.Take g)) x.2

      staged : (t : ActorState) × (turn tc (first_place [] s) ≡ Asking t) × AsksIn true Resting y.ask × ((r : Reply) → IsStaged true (stage_after Resting y.ask r) (turn tc (given (exchange y.ask r ∷ []) (first_place [] s)))) × HandsIn t y.ask (λ q r. turn tc (given (exchange q r ∷ []) (first_place [] s)))
      staged = asked_staged tc true known Resting (first_place [] s) y.ask asks (turn_in tc true known told Resting (first_place [] s) came (e, inl (ap (outside_stage true) between.0)))

      none_added : (b : Bool) → nat_lt y.at (length book) ≡ b → (if b then record { book = 0; at = y.at } ∷ trace es else trace es) ≡ trace es
      none_added false i = refl
      none_added true i = absurd (let l = length_taken y.at (books 0) within in grind (arith, nat_tests, i, l))

  -- one entry of an action that runs, with what was done behind it
  acted : (y : Entry) (es : List Entry) (s : ActorState) (x : Action) (v : Value) (part : List Entry) (there : Turned Configuration) → IsBetween s → SoundAction functions x → x.agent ≡ g
      → AllHold cells threads books a part → (c : Configuration) → Doing s x v part (Unfinished c) → AsksAt tc c y.ask → GoesTo tc (turn tc (given (exchange_of y ∷ []) c)) es there → EntryHolds cells threads books a y
      → ((part1 : List Entry) (at : Turned Configuration) → HandedSo cells books g (finished_at end es) x v → AllHold cells threads books a part1 → Doing s x v part1 at → GoesTo tc at es there → Done s (trace part1) es there)
      → ((t : ActorState) (told : List Exchange) → t.todo ≡ [] → IsBetween t → Came tc told (Unfinished (first_place [] t)) → GoesTo tc (Unfinished (first_place [] t)) es there → Done t [] es there)
      → (b : Bool) → is_finish y.ask ≡ b → HandedSo cells books g (if b then y.at else finished_at end es) x v → Done s (trace part) (y ∷ es) there
  acted y es s x v part there between right ours held c here asks goes hold onward again false isnt so =
      let r = onward (part ++ y ∷ []) (turn tc (given (exchange_of y ∷ []) c)) so (all_more part y held hold) (doing_hears s x v between right ours part held c here y asks isnt) goes in
      record {
        printed = r.printed;
        goes_on = r.goes_on;
        did = r.did;
        acts = entry_steps cells functions books g a (EndsSo there) r.printed r.did (trace part) (trace es) threads y hold isnt (subst (λ ps. ActsUpTo cells functions books g (EndsSo there) (trace es) ps r.printed r.did) (trace_more part y) r.acts);
      }
  acted y es s x v part there between right ours held c here asks goes hold onward again true does so =
      let f = finish_is y.ask does in
      let over = handed_over s x v between right ours part held c here y asks hold so f in
      let t = comes s x v between right ours part held c here y asks hold so f over in
      let m = asked_so s x v between right ours part held c here y asks hold so f in
      let r = again t.0 (here.told ++ exchange_of y ∷ []) t.3 t.2 (subst (λ o. Came tc (here.told ++ exchange_of y ∷ []) o) t.1 (hears tc here.told c (exchange_of y) here.came)) (subst (λ o. GoesTo tc o es there) t.1 goes) in
      record {
        printed = m.0 ++ r.printed;
        goes_on = subst (λ l. HasPrintedJust l there) (ap (λ l. l ++ r.printed) (t.4 ∙ m.1) ∙ append_assoc s.printed m.0 r.printed) r.goes_on;
        did = record { turns = suc here.turns; trace = trace part; txs = txs_of (meaning (suc here.turns) x v (trace part)) } ∷ r.did;
        acts = entry_goes s x v between right ours part held c here y asks hold so f (EndsSo there) es r.printed r.did r.acts;
      }

  mutual
    -- from where no action runs
    pub resting : (es : List Entry) (s : ActorState) (told : List Exchange) (there : Turned Configuration) → s.todo ≡ [] → IsBetween s → Came tc told (Unfinished (first_place [] s)) → GoesTo tc (Unfinished (first_place [] s)) es there
        → AllHold cells threads books a es → TakesSo cells books g end es → Done s [] es there
    resting [] s told there e between came goes hold so = record {
      printed = [];
      goes_on = subst (HasPrintedJust (s.printed ++ [])) (sym (stays_there s e goes.0 there goes.1)) (sym (append_nil s.printed));
      did = [];
      acts = ((refl, refl), λ c q at asks adds. absurd (false≢true (sym (ap may_add_event (take_asked s e there (stays_there s e goes.0 there goes.1) c q at asks)) ∙ adds)));
    }
    resting (y ∷ es) s told there e between came goes hold so =
        let c_is : goes.1 ≡ first_place [] s = ap (place_or goes.1) (stays_there s e goes.0 (Unfinished goes.1) goes.2) in
        let asks : AsksAt tc (first_place [] s) y.ask = subst (λ c. AsksAt tc c y.ask) c_is goes.3 in
        let onward : GoesTo tc (turn tc (given (exchange_of y ∷ []) (first_place [] s))) es there = subst (λ c. GoesTo tc (turn tc (given (exchange_of y ∷ []) c)) es there) c_is goes.4 in
        let out : TakenOut y es s = taken_out y es s told e between came asks hold.0 so.0 in
        let r = acting es s out.action out.state [] (turn tc (given (exchange_of y ∷ []) (first_place [] s))) there between out.right out.ours out.so tt out.doing onward hold.1 so.1 in
        record { printed = r.printed; goes_on = r.goes_on; did = r.did; acts = subst (λ ps. ActsUpTo cells functions books g (EndsSo there) ps [] r.printed r.did) (sym out.quiet) r.acts }

    -- from where an action runs
    pub acting : (es : List Entry) (s : ActorState) (x : Action) (v : Value) (part : List Entry) (at there : Turned Configuration) → IsBetween s → SoundAction functions x → x.agent ≡ g → HandedSo cells books g (finished_at end es) x v
        → AllHold cells threads books a part → Doing s x v part at → GoesTo tc at es there → AllHold cells threads books a es → TakesSo cells books g end es → Done s (trace part) es there
    acting [] s x v part at there between right ours so held d goes hold takes = over_so_far s x v between right ours so part held there (doing_walk s x v between right ours part goes.0 at there d goes.1)
    acting (y ∷ es) s x v part at there between right ours so held d goes hold takes =
        acted y es s x v part there between right ours held goes.1 (doing_walk s x v between right ours part goes.0 at (Unfinished goes.1) d goes.2) goes.3 goes.4 hold.0
        (λ part1 at1 so1 held1 d1 goes1. acting es s x v part1 at1 there between right ours so1 held1 d1 goes1 hold.1 takes.1)
        (λ t told e1 between1 came goes1. resting es t told there e1 between1 came goes1 hold.1 takes.1)
        (is_finish y.ask) refl so

  -- ---- of the whole trace

  -- what the agent's actor did from where no action runs, and how it stands at an ask
  pub record Acted (s : ActorState) (es : List Entry) (there : Turned Configuration) : Type 0 where
    pub printed : List ℕ
    pub goes_on : HasPrintedJust (s.printed ++ printed) there
    pub did : List ActionDid
    pub acts : ActsInTurn cells functions books g (trace es) [] printed did
    pub stands : (c : Configuration) (q : Ask) → there ≡ Unfinished c → AsksAt tc c q → may_add_event q ≡ true → ActsUpTo cells functions books g (StandsAt cells functions books g q) (trace es) [] printed did

  pub acted_so : (es : List Entry) (s : ActorState) (told : List Exchange) (there : Turned Configuration) → s.todo ≡ [] → IsBetween s → Came tc told (Unfinished (first_place [] s)) → GoesTo tc (Unfinished (first_place [] s)) es there
      → AllHold cells threads books a es → TakesSo cells books g end es → Acted s es there
  acted_so es s told there e between came goes hold so =
      let r = resting es s told there e between came goes hold so in
      record {
        printed = r.printed;
        goes_on = r.goes_on;
        did = r.did;
        acts = acts_map cells functions books g (EndsSo there) (StillActs cells functions books g) (λ since out ds h. h.0) (trace es) [] r.printed r.did r.acts;
        stands = λ c q at asks adds. acts_map cells functions books g (EndsSo there) (StandsAt cells functions books g q) (λ since out ds h. h.1 c q at asks adds) (trace es) [] r.printed r.did r.acts;
      }
