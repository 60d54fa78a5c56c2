-- Where code and opening values name defined cells alone, every ask of a run is lawful.
use Rattle.std.proofs.Common.{◌≡◌, ℕ, zero, suc, Bool, true, false, ◌==◌, ◌&&◌, nat_le, nat_lt, List, [], ◌∷◌, ◌++◌, length, map, Option, Some, None, Err, refl, sym, ap, ◌∙◌, subst, if◌then◌else◌, ◌⊎◌, inl, inr, arith, not, ◌||◌}
use Rattle.std.proofs.lemmas.Bool.{false≢true}
use Rattle.std.proofs.lemmas.Bool.Decides.{nat_tests}
use Rattle.txs_world_protocol.specs.Ask.{Exchange, Writes}
use Rattle.txs_world_protocol.specs.SeenEvent.{home}
use Rattle.txs_world_protocol.specs.declared.ask.Ask.{Ask}
use Rattle.txs_world_protocol.specs.declared.ask.Ask.TheVariants as ask
use Rattle.txs_world_protocol.specs.declared.ask.Reply.{Reply}
use Rattle.txs_world_protocol.specs.declared.ask.Reply.TheVariants as reply
use Rattle.txs_world_protocol.specs.declared.event.Event.{Event}
use Rattle.txs_frame.specs.Frame.{PlainTxFrame, commuted}
use Rattle.txs_value_data.proofs.SameLemmas.{numbers, number-itself}
use Rattle.txs_value_data.specs.declared.fault.Fault.{Fault}
use Rattle.txs_value_cell.specs.declared.action.Action.{Action}
use Rattle.txs_value_cell.specs.declared.cell.CellDefinition.{CellDefinition}
use Rattle.txs_value_data.specs.declared.value.CellId.{CellId}
use Rattle.txs_code_meaning.specs.ActorState.{ActorState, InHand, StepResult, Continue, Break, Redo, Await, Malformed, receives, heard, views, on_step, paired, viewed, view, asks, taken_back, finish}
use Rattle.txs_code_meaning.specs.Machine.{PlainInstr, Push, Load, Store, Pop, Jump, JumpFalse, CoreOf, CallOf, Return, MakeVector, PrintOf, TxBegin, TxEnd, LookOf, PutOf, OpenOf, CloseOf, SendOf, Halt, TakeOf, RunOf, FinishOf, ThreadCode, fetch, Savepoint, Activity, Outside, Restarting, Running, Applying, Swapping, Configuration, Turned, Ended, Failed, Asking, Unfinished, Stuck, told, on, settles, ends, act, turn, first_place, rested, hands_in, fault_in}
use Rattle.txs_code_meaning.specs.Opening.{given}
use Rattle.txs_world.proofs.Merging.{joined}
use Rattle.txs_world_book.specs.Book.{has_cell, has_ref, has_refs, has_agent, are_refs, are_sends, cells_in, may_name, may_end, may_send, actors, is_empty}
use Rattle.txs_world.specs.Laws.{ServeKeeps}
use Rattle.txs_world_book.specs.Served.{Served, cells_of}
use Rattle.txs_world.specs.Store.{are_apart}
use Rattle.txs_theorem_runs.specs.Invariant.{ActorInvariant, RunInvariant}
use Rattle.txs_theorem_runs.specs.Lawful.{CodeIsKnown, OpeningIsKnown, RunAsksLawful, NamesOwn}
use Rattle.txs_theorem_runs.specs.Run.{Stop, Actor, Moved, moved, exchange, replied, asked, asks_for, turned, turns_from, stops_from, Play, TakesTurn, IsStopped, State, moves, actor_of, play, plays_from, opens}
use Rattle.txs_theorem_runs.specs.Shared.{Shared, book_for, serve_on, may_ask, has_atom}
use Rattle.txs_theorem_runs.specs.Staged.{redoes_some, outside_stage, stage_at_end, HasFault, IsOver, StandsIn, IsStaged, StagedFrom, stage_in, stage_of}
use Rattle.txs_theorem_runs.specs.Stages.{Stage, Idle, Open, Viewing, Swapping, AsksIn, stage_after, Resting}
use Rattle.txs_theorem_runs.specs.Standing.{MayStandHere, MayRun, RunsOne, TakesTurns, StandingCode, StandingActor}
use Rattle.txs_theorem_runs.specs.Told.{exchange_of, IsExchanged}
use Rattle.txs_theorem_runs.proofs.Ending.{IsUnviewedEnd, WhereUnviewed, unviewed_so}
use Rattle.txs_theorem_runs.proofs.Growing.{Serves, Grown}
use Rattle.txs_theorem_runs.proofs.Known.{standing_staged}
use Rattle.txs_theorem_runs.proofs.Naming.{MayName, names_stay, names_same, names_after, NamesView, IsView, IsViewing, view_after, still_named}
use Rattle.txs_theorem_runs.proofs.ServedKnown.{BookKnown, serve_known}
use Rattle.txs_theorem_runs.proofs.Serving.{serves}
use Rattle.txs_theorem_runs.proofs.Staging.{stands as standing_in}
use Rattle.txs_theorem_runs.proofs.Steps.{moves_stand, play_holds}
use Rattle.txs_theorem_runs.proofs.Values.{SendsKnown, ReplyKnown, TodoKnown, AskKnown, WantsKnown, ConfigurationKnown, TurnKnown, IsTry, IsUnviewed, IsEnd, AreSome, FreshIn, RedoIn, Names, nothing_known, locals_known, turn_known}
use Rattle.txs_theorem_runs.proofs.Whole.{FreshStands, opening_holds}
use Rattle.txs_theorem_runs.proofs.Asker.{AgentOf, agent_of, thread_is}
use Rattle.txs_theorem_runs.proofs.Taken.{is_busy, stage_by, stage_is, taken_so}
use Rattle.txs_theorem_runs.specs.Staged.{StagedActor}
use Rattle.txs_world.specs.Store.{is_taken}
use Rattle.txs_world_book.specs.Book as world

append_nil : {A : Type 0} (xs : List A) → xs ++ [] ≡ xs
append_nil [] = refl
append_nil (x ∷ xs) = ap (λ l. x ∷ l) (append_nil xs)

-- an action that is over with a fault is handed in by the next turn
abbrev rests_after : CellId → Fault → Configuration → Turned Configuration
rests_after g f d = told (finish g (Err f) [] d.state) (λ s. Unfinished (first_place [] (rested s)))

over_acts : (P : Turned Configuration → Type 0) (code : ThreadCode) (d : Configuration) (f : Fault) (i : Option PlainInstr) → fault_in d.state.acting ≡ Some f → RunsOne (Some f) i → ((g : CellId) → P (rests_after g f d)) → P (act code i d)
over_acts P code d f (Some (FinishOf g)) e r p = subst (λ k. P (hands_in code g d.state.acting k d)) (sym e) (p g)
over_acts P code d f (Some (TakeOf g)) e r p = absurd r
over_acts P code d f None e r p = absurd r
over_acts P code d f (Some (Push v)) e r p = absurd r
over_acts P code d f (Some (Load n)) e r p = absurd r
over_acts P code d f (Some (Store n)) e r p = absurd r
over_acts P code d f (Some Pop) e r p = absurd r
over_acts P code d f (Some (Jump to)) e r p = absurd r
over_acts P code d f (Some (JumpFalse to)) e r p = absurd r
over_acts P code d f (Some (CoreOf op n span)) e r p = absurd r
over_acts P code d f (Some (CallOf h n)) e r p = absurd r
over_acts P code d f (Some Return) e r p = absurd r
over_acts P code d f (Some (MakeVector n span)) e r p = absurd r
over_acts P code d f (Some (PrintOf n)) e r p = absurd r
over_acts P code d f (Some (TxBegin span)) e r p = absurd r
over_acts P code d f (Some TxEnd) e r p = absurd r
over_acts P code d f (Some (LookOf h span)) e r p = absurd r
over_acts P code d f (Some (PutOf h span)) e r p = absurd r
over_acts P code d f (Some (OpenOf h n span)) e r p = absurd r
over_acts P code d f (Some (CloseOf h span)) e r p = absurd r
over_acts P code d f (Some (SendOf h n span)) e r p = absurd r
over_acts P code d f (Some Halt) e r p = absurd r
over_acts P code d f (Some RunOf) e r p = absurd r

over_turn : (b : Bool) (P : Turned Configuration → Type 0) (code : ThreadCode) (d : Configuration) → MayRun b d.state.acting → TakesTurns b d.state.acting (fetch code d.body d.place) → IsOver d.state.acting → ((g : CellId) (f : Fault) → P (rests_after g f d)) → P (turn code d)
over_turn b P code d run takes over p = go b d.state.acting refl run takes over
  where
    with_fault : (k : Option Fault) → fault_in d.state.acting ≡ k → HasFault k → RunsOne k (fetch code d.body d.place) → P (turn code d)
    with_fault None e h r = absurd h
    with_fault (Some f) e h r = over_acts P code d f (fetch code d.body d.place) e r (λ g. p g f)

    go : (c : Bool) (o : Option InHand) → d.state.acting ≡ o → MayRun c o → TakesTurns c o (fetch code d.body d.place) → IsOver o → P (turn code d)
    go c None e run takes over = absurd over
    go false (Some h) e run takes over = absurd (false≢true run)
    go true (Some h) e run takes over = with_fault h.fault (ap fault_in e) over takes

-- an agent runs an action that is over
abbrev pub Over : Bool → Option InHand → Type 0
Over false o = ⊥
Over true o = IsOver o

over_is : (b : Bool) (o : Option InHand) → Over b o → IsOver o
over_is false o h = absurd h
over_is true o h = h

-- what takes an action, or hands one in
abbrev pub IsOwnAsk : Ask → Type 0
IsOwnAsk (ask.Take g) = Unit {0}
IsOwnAsk (ask.Finish g new sends) = Unit {0}
IsOwnAsk _ = ⊥

abbrev WantsOwn : Option Ask → Type 0
WantsOwn None = ⊥
WantsOwn (Some q) = IsOwnAsk q

abbrev AsksOwn : Turned Configuration → Type 0
AsksOwn (Asking s) = WantsOwn s.wants
AsksOwn _ = Unit {0}

-- so an action that is over with a fault asks nothing else
over_asks : (g : CellId) (f : Fault) (d : Configuration) → d.state.todo ≡ [] → AsksOwn (rests_after g f d)
unfolding finish asks
over_asks g f d e = subst (λ l. AsksOwn (told (heard taken_back (receives (ask.Finish g (Err f) []) d.state l)) (λ s. Unfinished (first_place [] (rested s))))) (sym e) tt

-- a thread takes no action and hands none in
thread_asks_none : (st : Stage) (q : Ask) → AsksIn false st q → IsOwnAsk q → ⊥
thread_asks_none Resting (ask.Take g) ok h = false≢true ok
thread_asks_none Resting (ask.Finish g new sends) ok h = ok
thread_asks_none Idle (ask.Take g) ok h = ok
thread_asks_none Idle (ask.Finish g new sends) ok h = false≢true ok
thread_asks_none (Open at) (ask.Take g) ok h = ok
thread_asks_none (Open at) (ask.Finish g new sends) ok h = false≢true ok
thread_asks_none (Viewing at view) (ask.Take g) ok h = ok
thread_asks_none (Viewing at view) (ask.Finish g new sends) ok h = ok
thread_asks_none (Swapping d at) (ask.Take g) ok h = ok
thread_asks_none (Swapping d at) (ask.Finish g new sends) ok h = ok
thread_asks_none st ask.Begin ok h = h
thread_asks_none st (ask.Look c p) ok h = h
thread_asks_none st (ask.View cs) ok h = h
thread_asks_none st (ask.Commit p sets ensured q commuted sends) ok h = h
thread_asks_none st (ask.Fail p q) ok h = h
thread_asks_none st (ask.Peek c) ok h = h
thread_asks_none st (ask.Send x) ok h = h
thread_asks_none st (ask.OpenAt c) ok h = h
thread_asks_none st (ask.CloseAt c p v) ok h = h
thread_asks_none st (ask.Broke c p) ok h = h

-- known actions are for agents that there are
known_sends : (cells : List CellDefinition) (xs : List Action) → SendsKnown cells xs → are_sends (cells_of cells) xs ≡ true
known_sends cells [] h = refl
known_sends cells (y ∷ ys) h = joined (has_agent (cells_of cells) y.agent) (are_sends (cells_of cells) ys) h.0.0 (known_sends cells ys h.1)

-- outside every transaction nothing is named
idle_names : (cells : List CellDefinition) (books : ℕ → List Event) (a : ℕ) (b : Bool) (o : Option InHand) → MayName cells books a (outside_stage b o)
idle_names cells books a false o = tt
idle_names cells books a true None = tt
idle_names cells books a true (Some h) = tt

idle_views : (books : ℕ → List Event) (a : ℕ) (b : Bool) (o : Option InHand) → NamesView books a (outside_stage b o)
idle_views books a false o = tt
idle_views books a true None = tt
idle_views books a true (Some h) = tt

idle_free : (b : Bool) (o : Option InHand) → IsViewing (outside_stage b o) → ⊥
idle_free false o h = h
idle_free true None h = h
idle_free true (Some h) x = x

-- a thread's code, which names no agent
abbrev pub Free : CellId → Type 0
Free g = Unit {0}

pub free_names : (code : ThreadCode) → Names Free code
free_names code b at k = ((λ e. tt), (λ e. tt))

module _ (cells : List CellDefinition) where
  -- ---- a commute phase that has to begin again

  abbrev pub WantsView : Option Ask → Type 0
  WantsView None = ⊥
  WantsView (Some q) = IsView q

  abbrev pub AsksView : Turned Configuration → Type 0
  AsksView (Ended s) = ⊥
  AsksView (Failed f s) = ⊥
  AsksView (Asking s) = WantsView s.wants
  AsksView (Unfinished d) = ⊥
  AsksView Stuck = ⊥

  is_end : (i : Option PlainInstr) → IsEnd cells i → i ≡ Some TxEnd
  is_end None h = absurd h
  is_end (Some (Push v)) h = absurd h
  is_end (Some (Load n)) h = absurd h
  is_end (Some (Store n)) h = absurd h
  is_end (Some Pop) h = absurd h
  is_end (Some (Jump to)) h = absurd h
  is_end (Some (JumpFalse to)) h = absurd h
  is_end (Some (CoreOf op n span)) h = absurd h
  is_end (Some (CallOf f n)) h = absurd h
  is_end (Some Return) h = absurd h
  is_end (Some (MakeVector n span)) h = absurd h
  is_end (Some (PrintOf n)) h = absurd h
  is_end (Some (TxBegin span)) h = absurd h
  is_end (Some TxEnd) h = refl
  is_end (Some (LookOf f span)) h = absurd h
  is_end (Some (PutOf f span)) h = absurd h
  is_end (Some (OpenOf f n span)) h = absurd h
  is_end (Some (CloseOf f span)) h = absurd h
  is_end (Some (SendOf f n span)) h = absurd h
  is_end (Some Halt) h = absurd h
  is_end (Some (TakeOf g)) h = absurd h
  is_end (Some RunOf) h = absurd h
  is_end (Some (FinishOf g)) h = absurd h

  view_asks : (doing : Activity) (s : ActorState) (go : Writes → ActorState → Turned Configuration) → s.todo ≡ [] → AsksView (on doing (view s) go)
  unfolding view asks
  view_asks doing s go e = subst (λ l. AsksView (on doing (on_step (heard views (receives (ask.View (commuted s.done)) s l)) (λ x s1. viewed x.0 (paired (commuted s.done) x.1) s1)) go)) (sym e) tt

  settles_ask : (code : ThreadCode) (c : Configuration) (cs : List CellId) (left : ℕ) (from : Savepoint) → c.state.todo ≡ [] → AreSome cells cs → AsksView (settles code cs left from c)
  settles_ask code c [] left from e h = absurd h
  settles_ask code c (d ∷ cs) left from e h = view_asks c.doing c.state _ e

  ends_ask : (code : ThreadCode) (c : Configuration) (doing : Activity) (i : Option PlainInstr) → c.state.todo ≡ [] → RedoIn cells doing i c.state.done → AsksView (ends code doing c)
  ends_ask code c (Running left zero from) i e h = settles_ask code c (commuted c.state.done) left from e h.1
  ends_ask code c (Running left (suc inner) from) i e h = absurd h
  ends_ask code c Outside i e h = absurd h
  ends_ask code c (Restarting left) i e h = absurd h
  ends_ask code c (Applying left from work values) i e h = absurd h
  ends_ask code c (Swapping swap from) i e h = absurd h

  redo_ends : (doing : Activity) (i : Option PlainInstr) (w : PlainTxFrame) → RedoIn cells doing i w → IsEnd cells i
  redo_ends (Running left zero from) i w h = h.0
  redo_ends (Running left (suc inner) from) i w h = absurd h
  redo_ends Outside i w h = absurd h
  redo_ends (Restarting left) i w h = absurd h
  redo_ends (Applying left from work values) i w h = absurd h
  redo_ends (Swapping swap from) i w h = absurd h

  -- where a commute phase has to begin again, its view is asked
  pub redo_asks : (code : ThreadCode) (c : Configuration) → c.state.todo ≡ [] → RedoIn cells c.doing (fetch code c.body c.place) c.state.done → AsksView (turn code c)
  redo_asks code c e h =
      subst (λ i. AsksView (act code i c)) (sym (is_end (fetch code c.body c.place) (redo_ends c.doing (fetch code c.body c.place) c.state.done h))) (ends_ask code c c.doing (fetch code c.body c.place) e h)

  module _ (threads : ℕ) (opened : OpeningIsKnown cells) where
    abbrev pub BooksKnown : (ℕ → List Event) → Type 0
    BooksKnown books = (n : ℕ) → BookKnown cells opened (books n)

    -- ---- the values of one actor

    -- of a thread or of an agent's actor
    module _ (agent : Bool) (Own : CellId → Type 0) (code : ThreadCode) (known : CodeIsKnown cells code) (own : Names Own code) where
      abbrev pub Known : Configuration → Type 0
      Known c = ConfigurationKnown cells (StandingActor agent code) (Unit {0}) (Unit {0}) Own code (Unit {0}) c

      -- where an actor may go on, its values are known
      abbrev pub PlaceKnown : Turned Configuration → Type 0
      PlaceKnown (Ended s) = Unit {0}
      PlaceKnown (Failed f s) = Unit {0}
      PlaceKnown (Asking s) = Unit {0}
      PlaceKnown (Unfinished c) = Known c
      PlaceKnown Stuck = Unit {0}

      abbrev pub FreshNow : Configuration → Type 0
      FreshNow c = StandingActor agent code × IsTry cells c.doing × (c.state.view ≡ c.state.at)

      abbrev pub CleanNow : Configuration → Type 0
      CleanNow c = IsUnviewed cells c.doing

      abbrev pub TurnIsKnown : Configuration → Turned Configuration → Type 0
      TurnIsKnown c o = TurnKnown cells (StandingActor agent code) (FreshNow c) (CleanNow c) Own code o

      pub turn_of : (c : Configuration) → Known c → (StandingActor agent code → MayStandHere agent c.doing (fetch code c.body c.place)) → TurnIsKnown c (turn code c)
      turn_of c k m = turn_known cells (StandingActor agent code) (FreshNow c) (CleanNow c) Own code c k (λ f. f.2) (λ t i e. (t, i, e)) (λ x. x) agent known own m

      forgotten : (X : Type 0) (doing : Activity) (s : ActorState) → FreshIn cells X doing s → FreshIn cells (Unit {0}) doing s
      forgotten X Outside s h = tt
      forgotten X (Restarting left) s h = tt
      forgotten X (Running left inner from) s h = (h.0, tt)
      forgotten X (Applying left from work values) s h = unviewed_so ((s.view ≡ s.at) × X) ((s.view ≡ s.at) × Unit {0}) (redoes_some work) values (λ o x. (x.0, tt)) h
      forgotten X (Swapping swap from) s h = tt

      pub placed_of : (c : Configuration) (o : Turned Configuration) → TurnIsKnown c o → PlaceKnown o
      placed_of c (Ended s) h = tt
      placed_of c (Failed f s) h = tt
      placed_of c (Asking s) h = tt
      placed_of c (Unfinished d) h = (h.0, h.1, h.2, h.3, h.4, λ t. ((h.5 t).0, go (h.5 t).1))
        where
          go : FreshIn cells (CleanNow c) d.doing d.state ⊎ RedoIn cells d.doing (fetch code d.body d.place) d.state.done → FreshIn cells (Unit {0}) d.doing d.state ⊎ RedoIn cells d.doing (fetch code d.body d.place) d.state.done
          go (inl x) = inl (forgotten (CleanNow c) d.doing d.state x)
          go (inr x) = inr x
      placed_of c Stuck h = tt

      todo_and : (xs : List Exchange) (x : Exchange) → TodoKnown cells xs → ReplyKnown cells x.reply → TodoKnown cells (xs ++ x ∷ [])
      todo_and [] x h g = (g, tt)
      todo_and (y ∷ xs) x h g = (h.0, todo_and xs x h.1 g)

      given_fresh : (doing : Activity) (c : Configuration) (xs : List Exchange) → FreshIn cells (Unit {0}) doing c.state → FreshIn cells (Unit {0}) doing (given xs c).state
      given_fresh Outside c xs h = tt
      given_fresh (Restarting left) c xs h = tt
      given_fresh (Running left inner from) c xs h = h
      given_fresh (Applying left from work values) c xs h = h
      given_fresh (Swapping swap from) c xs h = tt

      pub given_known : (c : Configuration) (x : Exchange) → Known c → ReplyKnown cells x.reply → Known (given (x ∷ []) c)
      given_known c x h g = (h.0, h.1, h.2, h.3, (h.4.0, h.4.1, todo_and c.state.todo x h.4.2 g, h.4.3), λ t. ((h.5 t).0, go (h.5 t).1))
        where
          go : FreshIn cells (Unit {0}) c.doing c.state ⊎ RedoIn cells c.doing (fetch code c.body c.place) c.state.done
              → FreshIn cells (Unit {0}) c.doing (given (x ∷ []) c).state ⊎ RedoIn cells c.doing (fetch code c.body c.place) c.state.done
          go (inl f) = inl (given_fresh c.doing c (x ∷ []) f)
          go (inr f) = inr f

      abbrev MovedKnown : Moved → Type 0
      MovedKnown m = PlaceKnown m.actor.at × BooksKnown m.shared.books

      module _ (a : ℕ) (sh : Shared) (h : BooksKnown sh.books) (x : Actor) (p : PlaceKnown x.at) (stands : (c : Configuration) → x.at ≡ Unfinished c → StandingActor agent code → MayStandHere agent c.doing (fetch code c.body c.place)) where
        heard_known : (c : Configuration) (q : Ask) (r : Reply) → x.at ≡ Unfinished c → Known c → ReplyKnown cells r → PlaceKnown (turn code (given (exchange q r ∷ []) c))
        heard_known c q r at k g = placed_of (given (exchange q r ∷ []) c) (turn code (given (exchange q r ∷ []) c)) (turn_of (given (exchange q r ∷ []) c) (given_known c (exchange q r) k g) (stands c at))

        replied_known : (c : Configuration) (q : Ask) (r : Reply) (n : ℕ) → x.at ≡ Unfinished c → Known c → ReplyKnown cells r → PlaceKnown (replied code c q r n x).at
        replied_known c q (reply.At i) n at k g = heard_known c q (reply.At i) at k g
        replied_known c q (reply.Is v) n at k g = heard_known c q (reply.Is v) at k g
        replied_known c q (reply.Views i vs) n at k g = heard_known c q (reply.Views i vs) at k g
        replied_known c q reply.Done n at k g = heard_known c q reply.Done at k g
        replied_known c q (reply.Retry d) n at k g = heard_known c q (reply.Retry d) at k g
        replied_known c q (reply.Changed d) n at k g = heard_known c q (reply.Changed d) at k g
        replied_known c q (reply.AgentIsFailed d) n at k g = heard_known c q (reply.AgentIsFailed d) at k g
        replied_known c q (reply.Action i y v) n at k g = heard_known c q (reply.Action i y v) at k g
        replied_known c q (reply.Opened i v) n at k g = heard_known c q (reply.Opened i v) at k g
        replied_known c q reply.Idle n at k g = p
        replied_known c q reply.Full n at k g = p
        replied_known c q reply.Memory n at k g = p

        books_known : (q : Ask) (v : Served) → BookKnown cells opened v.book → BooksKnown (λ n. if n == book_for cells q then v.book else sh.books n)
        books_known q v g n = go (n == book_for cells q)
          where
            go : (b : Bool) → BookKnown cells opened (if b then v.book else sh.books n)
            go true = g
            go false = h n

        asked_known : (b : Bool) (c : Configuration) (q : Ask) → x.at ≡ Unfinished c → Known c → AskKnown cells (StandingActor agent code) (FreshNow c) (CleanNow c) Own code q → MovedKnown (asked b cells code a c q x sh)
        asked_known false c q at k g = (p, h)
        asked_known true c q at k g =
            let s = serve_known cells opened a (sh.books (book_for cells q)) (h (book_for cells q)) (StandingActor agent code) (FreshNow c) (CleanNow c) Own code q g in (
              replied_known c q (serve_on cells a q (sh.books (book_for cells q))).reply (length (sh.books (book_for cells q))) at k s.0,
              books_known q (serve_on cells a q (sh.books (book_for cells q))) s.1,
            )

        wanted_known : (c : Configuration) (s : ActorState) (o : Option Ask) → x.at ≡ Unfinished c → Known c → WantsKnown cells (StandingActor agent code) (FreshNow c) (CleanNow c) Own code o → MovedKnown (asks_for cells threads code a c s o x sh)
        wanted_known c s None at k g = (tt, h)
        wanted_known c s (Some q) at k g = asked_known (may_ask cells threads sh.taken a q (sh.books (book_for cells q))) c q at k g

        turned_known : (c : Configuration) (o : Turned Configuration) → x.at ≡ Unfinished c → Known c → TurnIsKnown c o → MovedKnown (turned cells threads code a c o x sh)
        turned_known c (Ended s) at k g = (tt, h)
        turned_known c (Failed f s) at k g = (tt, h)
        turned_known c (Asking s) at k g = wanted_known c s s.wants at k g
        turned_known c (Unfinished d) at k g = (placed_of c (Unfinished d) g, h)
        turned_known c Stuck at k g = (tt, h)

        turns_known : (o : Turned Configuration) (why : Option Stop) → x.at ≡ o → PlaceKnown o → MovedKnown (turns_from cells threads code a o why x sh)
        turns_known (Ended s) why e k = (p, h)
        turns_known (Failed f s) why e k = (p, h)
        turns_known (Asking s) why e k = (p, h)
        turns_known (Unfinished c) None e k = turned_known c (turn code c) e k (turn_of c k (stands c e))
        turns_known (Unfinished c) (Some s) e k = (p, h)
        turns_known Stuck why e k = (p, h)

        stops_known : (why : Stop) (o : Turned Configuration) (s : Option Stop) → MovedKnown (moved (stops_from why o s x) sh)
        stops_known why (Ended s) o = (p, h)
        stops_known why (Failed f s) o = (p, h)
        stops_known why (Asking s) o = (p, h)
        stops_known why (Unfinished c) None = (p, h)
        stops_known why (Unfinished c) (Some s) = (p, h)
        stops_known why Stuck o = (p, h)

      -- ---- the places that it may name

      -- the read point of a try, and of its end without a view, may be named as a view; or a try's commute phase has to begin again
      abbrev pub TryNamed : (ℕ → List Event) → ℕ → Configuration → Activity → Type 0
      TryNamed books a c Outside = Unit {0}
      TryNamed books a c (Restarting left) = Unit {0}
      TryNamed books a c (Running left inner from) = (may_name true (books 0) a c.state.at ≡ true) ⊎ RedoIn cells (Running left inner from) (fetch code c.body c.place) c.state.done
      TryNamed books a c (Applying left from work values) = WhereUnviewed (may_name true (books 0) a c.state.at ≡ true) (redoes_some work) values
      TryNamed books a c (Swapping swap from) = Unit {0}

      abbrev pub NamedAt : (ℕ → List Event) → ℕ → Turned Configuration → Type 0
      NamedAt books a (Ended s) = Unit {0}
      NamedAt books a (Failed f s) = Unit {0}
      NamedAt books a (Asking s) = Unit {0}
      NamedAt books a (Unfinished c) = Over agent c.state.acting ⊎ (MayName cells books a (stage_of agent c) × TryNamed books a c c.doing)
      NamedAt books a Stuck = Unit {0}

      -- so it is said of the stage of a transaction's end
      pub end_views : (books : ℕ → List Event) (a : ℕ) (s : ActorState) (b : Bool) (ws : Writes) → WhereUnviewed (may_name true (books 0) a s.at ≡ true) b ws → NamesView books a (stage_at_end b ws s)
      end_views books a s true ws h = tt
      end_views books a s false [] h = h
      end_views books a s false (w ∷ ws) h = tt

      pub end_named : (books : ℕ → List Event) (a : ℕ) (s : ActorState) (b : Bool) (ws : Writes) → NamesView books a (stage_at_end b ws s) → WhereUnviewed (may_name true (books 0) a s.at ≡ true) b ws
      end_named books a s true ws h = tt
      end_named books a s false [] h = h
      end_named books a s false (w ∷ ws) h = tt

      view_or : (books : ℕ → List Event) (a : ℕ) (c : Configuration) (doing : Activity) → TryNamed books a c doing → NamesView books a (stage_in agent doing c.state) ⊎ RedoIn cells doing (fetch code c.body c.place) c.state.done
      view_or books a c Outside h = inl (idle_views books a agent c.state.acting)
      view_or books a c (Restarting left) h = inl tt
      view_or books a c (Running left inner from) h = h
      view_or books a c (Applying left from work values) h = inl (end_views books a c.state (redoes_some work) values h)
      view_or books a c (Swapping swap from) h = inl tt

      pub try_of : (books : ℕ → List Event) (a : ℕ) (c : Configuration) (doing : Activity) → NamesView books a (stage_in agent doing c.state) → TryNamed books a c doing
      try_of books a c Outside h = tt
      try_of books a c (Restarting left) h = tt
      try_of books a c (Running left inner from) h = inl h
      try_of books a c (Applying left from work values) h = end_named books a c.state (redoes_some work) values h
      try_of books a c (Swapping swap from) h = tt

      -- after a turn of an end with a view a try is at its end
      try_redo : (X : Type 0) (books : ℕ → List Event) (a : ℕ) (c : Configuration) (doing : Activity) → (X → ⊥) → FreshIn cells X doing c.state ⊎ RedoIn cells doing (fetch code c.body c.place) c.state.done → TryNamed books a c doing
      try_redo X books a c Outside n h = tt
      try_redo X books a c (Restarting left) n h = tt
      try_redo X books a c (Running left inner from) n (inl x) = absurd (n x.1)
      try_redo X books a c (Running left inner from) n (inr x) = inr x
      try_redo X books a c (Applying left from work values) n (inl x) =
          unviewed_so ((c.state.view ≡ c.state.at) × X) (may_name true (books 0) a c.state.at ≡ true) (redoes_some work) values (λ o y. absurd (n y.1)) x
      try_redo X books a c (Applying left from work values) n (inr x) = absurd x
      try_redo X books a c (Swapping swap from) n h = tt

      free_or : (doing : Activity) (s : ActorState) → (IsUnviewed cells doing → ⊥) ⊎ (IsViewing (stage_in agent doing s) → ⊥)
      free_or Outside s = inr (idle_free agent s.acting)
      free_or (Restarting left) s = inr (λ x. x)
      free_or (Running left inner from) s = inr (λ x. x)
      free_or (Applying left from work values) s = go (redoes_some work) values
        where
          go : (b : Bool) (ws : Writes) → (IsUnviewedEnd b ws → ⊥) ⊎ (IsViewing (stage_at_end b ws s) → ⊥)
          go true ws = inl (λ x. x)
          go false [] = inr (λ x. x)
          go false (w ∷ ws) = inl (λ x. x)
      free_or (Swapping swap from) s = inr (λ x. x)

      -- books that are as before leave what is named
      try_same : (books bs : ℕ → List Event) (a : ℕ) (c : Configuration) (doing : Activity) → (may_name true (books 0) a c.state.at ≡ true → may_name true (bs 0) a c.state.at ≡ true) → TryNamed books a c doing → TryNamed bs a c doing
      try_same books bs a c Outside f h = tt
      try_same books bs a c (Restarting left) f h = tt
      try_same books bs a c (Running left inner from) f (inl x) = inl (f x)
      try_same books bs a c (Running left inner from) f (inr x) = inr x
      try_same books bs a c (Applying left from work values) f h = unviewed_so (may_name true (books 0) a c.state.at ≡ true) (may_name true (bs 0) a c.state.at ≡ true) (redoes_some work) values (λ o x. f x) h
      try_same books bs a c (Swapping swap from) f h = tt

      named_same : (books bs : ℕ → List Event) (a : ℕ) → ((i : ℕ) → bs i ≡ books i) → (o : Turned Configuration) → NamedAt books a o → NamedAt bs a o
      named_same books bs a e (Ended s) h = tt
      named_same books bs a e (Failed f s) h = tt
      named_same books bs a e (Asking s) h = tt
      named_same books bs a e (Unfinished c) (inl over) = inl over
      named_same books bs a e (Unfinished c) (inr h) = inr (names_same cells a books bs e (stage_of agent c) h.0, try_same books bs a c c.doing (λ m. subst (λ l. may_name true l a c.state.at ≡ true) (sym (e 0)) m) h.1)
      named_same books bs a e Stuck h = tt

      -- and so do another actor's events
      pub named_stays : (a b : ℕ) (books bs : ℕ → List Event) → (a ≡ b → ⊥) → Grown a books bs → (o : Turned Configuration) → NamedAt books b o → NamedAt bs b o
      named_stays a b books bs n g (Ended s) h = tt
      named_stays a b books bs n g (Failed f s) h = tt
      named_stays a b books bs n g (Asking s) h = tt
      named_stays a b books bs n g (Unfinished c) (inl over) = inl over
      named_stays a b books bs n g (Unfinished c) (inr h) = inr (names_stay cells a b books bs n g (stage_of agent c) h.0, try_same books bs b c c.doing (λ m. still_named cells a b books bs n g true 0 c.state.at m) h.1)
      named_stays a b books bs n g Stuck h = tt

      module _ (t : StandingActor agent code) (a : ℕ) (sh : Shared) (hb : BooksKnown sh.books) (x : Actor) (k : ActorInvariant cells threads agent code sh.books a x) (p : PlaceKnown x.at) (n : NamedAt sh.books a x.at) where
        consumed : (c : Configuration) → x.at ≡ Unfinished c → c.state.todo ≡ []
        consumed c at = (subst (λ o. IsStaged agent k.stage o) at k.staged).0

        stands : (c : Configuration) → x.at ≡ Unfinished c → MayStandHere agent c.doing (fetch code c.body c.place)
        stands c at = (t x.turns (map exchange_of x.entries) c (k.ran ∙ at)).0

        runs_at : (c : Configuration) → x.at ≡ Unfinished c → MayRun agent c.state.acting
        runs_at c at = (t x.turns (map exchange_of x.entries) c (k.ran ∙ at)).1

        takes_at : (c : Configuration) → x.at ≡ Unfinished c → TakesTurns agent c.state.acting (fetch code c.body c.place)
        takes_at c at = (t x.turns (map exchange_of x.entries) c (k.ran ∙ at)).2

        from_in : (st : Stage) (c : Configuration) → x.at ≡ Unfinished c → StandsIn agent st c → StagedFrom agent st (turn code c) (λ q r. turn code (given (exchange q r ∷ []) c))
        from_in st c at e = standing_staged agent code t x.turns (map exchange_of x.entries) c (k.ran ∙ at) (consumed c at) st e

        from : (c : Configuration) → x.at ≡ Unfinished c → StagedFrom agent (stage_of agent c) (turn code c) (λ q r. turn code (given (exchange q r ∷ []) c))
        from c at = from_in (stage_of agent c) c at (standing_in agent (stage_of agent c) c refl)

        known_at : (c : Configuration) → x.at ≡ Unfinished c → Known c
        known_at c at = subst PlaceKnown at p

        -- ---- an action that is over with a fault

        -- where it was handed in, nothing is named
        rests_named : (bs : ℕ → List Event) (y : StepResult (Unit {0})) → NamedAt bs a (told y (λ s. Unfinished (first_place [] (rested s))))
        rests_named bs (Continue u s) = inr (idle_names cells bs a agent None, tt)
        rests_named bs (Break f s) = tt
        rests_named bs (Redo s) = tt
        rests_named bs (Await s) = tt
        rests_named bs Malformed = tt

        replied_named : (bs : ℕ → List Event) (c : Configuration) (q : Ask) (r : Reply) (m : ℕ) → NamedAt bs a (turn code (given (exchange q r ∷ []) c)) → ((IsExchanged r → ⊥) → NamedAt bs a x.at) → NamedAt bs a (replied code c q r m x).at
        replied_named bs c q (reply.At i) m h l = h
        replied_named bs c q (reply.Is w) m h l = h
        replied_named bs c q (reply.Views i vs) m h l = h
        replied_named bs c q reply.Done m h l = h
        replied_named bs c q (reply.Retry d) m h l = h
        replied_named bs c q (reply.Changed d) m h l = h
        replied_named bs c q (reply.AgentIsFailed d) m h l = h
        replied_named bs c q (reply.Action i y w) m h l = h
        replied_named bs c q (reply.Opened i w) m h l = h
        replied_named bs c q reply.Idle m h l = l (λ u. u)
        replied_named bs c q reply.Full m h l = l (λ u. u)
        replied_named bs c q reply.Memory m h l = l (λ u. u)

        module _ (c : Configuration) (at : x.at ≡ Unfinished c) (over : Over agent c.state.acting) where
          over_answer : (bs : ℕ → List Event) (q : Ask) (r : Reply) → NamedAt bs a (turn code (given (exchange q r ∷ []) c))
          over_answer bs q r =
              over_turn agent (NamedAt bs a) code (given (exchange q r ∷ []) c) (runs_at c at) (takes_at c at) (over_is agent c.state.acting over) (λ g f. rests_named bs (finish g (Err f) [] (given (exchange q r ∷ []) c).state))

          over_there : (bs : ℕ → List Event) → NamedAt bs a x.at
          over_there bs = subst (NamedAt bs a) (sym at) (inl over)

          over_asked : (b : Bool) (q : Ask) → NamedAt (asked b cells code a c q x sh).shared.books a (asked b cells code a c q x sh).actor.at
          over_asked false q = n
          over_asked true q =
              let bs : ℕ → List Event = λ i. if i == book_for cells q then (serve_on cells a q (sh.books (book_for cells q))).book else sh.books i in
              replied_named bs c q (serve_on cells a q (sh.books (book_for cells q))).reply (length (sh.books (book_for cells q))) (over_answer bs q (serve_on cells a q (sh.books (book_for cells q))).reply) (λ isnt. over_there bs)

          over_wants : (s : ActorState) (o : Option Ask) → NamedAt (asks_for cells threads code a c s o x sh).shared.books a (asks_for cells threads code a c s o x sh).actor.at
          over_wants s None = tt
          over_wants s (Some q) = over_asked (may_ask cells threads sh.taken a q (sh.books (book_for cells q))) q

          abbrev TurnedNamed : Turned Configuration → Type 0
          TurnedNamed o = NamedAt (turned cells threads code a c o x sh).shared.books a (turned cells threads code a c o x sh).actor.at

          over_told : (y : StepResult (Unit {0})) → TurnedNamed (told y (λ s. Unfinished (first_place [] (rested s))))
          over_told (Continue u s) = rests_named sh.books (Continue u s)
          over_told (Break f s) = tt
          over_told (Redo s) = tt
          over_told (Await s) = over_wants s s.wants
          over_told Malformed = tt

          over_named : TurnedNamed (turn code c)
          over_named = over_turn agent TurnedNamed code c (runs_at c at) (takes_at c at) (over_is agent c.state.acting over) (λ g f. over_told (finish g (Err f) [] c.state))

        -- ---- where none is

        abbrev NamedHere : Configuration → Type 0
        NamedHere c = MayName cells sh.books a (stage_of agent c) × TryNamed sh.books a c c.doing

        named_here : (c : Configuration) → x.at ≡ Unfinished c → Over agent c.state.acting ⊎ NamedHere c
        named_here c at = subst (NamedAt sh.books a) at n

        -- a configuration in a stage whose places are named
        in_stage : (bs : ℕ → List Event) (st : Stage) (d : Configuration) (b : Bool) → agent ≡ b → StandsIn b st d → ((e : stage_of agent d ≡ st) → NamedAt bs a (Unfinished d)) → NamedAt bs a (Unfinished d)
        in_stage bs st d false e s p = p (ap (λ i. stage_of i d) e ∙ s)
        in_stage bs st d true e (inl s) p = p (ap (λ i. stage_of i d) e ∙ s)
        in_stage bs st d true e (inr s) p = inl (subst (λ i. Over i d.state.acting) (sym e) s.1)

        quiet_named : (c : Configuration) (o : Turned Configuration) → x.at ≡ Unfinished c → NamedHere c → turn code c ≡ o → StagedFrom agent (stage_of agent c) o (λ q r. turn code (given (exchange q r ∷ []) c)) → NamedAt sh.books a o
        quiet_named c (Ended s) at nm e h = tt
        quiet_named c (Failed f s) at nm e h = tt
        quiet_named c (Asking s) at nm e h = tt
        quiet_named c (Unfinished d) at nm e h =
            in_stage sh.books (stage_of agent c) d agent refl h.1 (λ i. inr (subst (λ st. MayName cells sh.books a st) (sym i) nm.0, go i (view_or sh.books a c c.doing nm.1)))
          where
            go : stage_of agent d ≡ stage_of agent c → NamesView sh.books a (stage_of agent c) ⊎ RedoIn cells c.doing (fetch code c.body c.place) c.state.done → TryNamed sh.books a d d.doing
            go i (inl v) = try_of sh.books a d d.doing (subst (λ st. NamesView sh.books a st) (sym i) v)
            go i (inr r) = absurd (subst AsksView e (redo_asks code c (consumed c at) r))
        quiet_named c Stuck at nm e h = tt

        -- where the actor comes to with a reply
        came_named : (c : Configuration) (bs : ℕ → List Event) (st : Stage) (o : Turned Configuration) → IsStaged agent st o → MayName cells bs a st → NamesView bs a st ⊎ (IsUnviewed cells c.doing → ⊥) → TurnIsKnown c o → NamedAt bs a o
        came_named c bs st (Ended s) h m v g = tt
        came_named c bs st (Failed f s) h m v g = tt
        came_named c bs st (Asking s) h m v g = tt
        came_named c bs st (Unfinished d) h m v g = in_stage bs st d agent refl h.1 (λ i. inr (subst (λ j. MayName cells bs a j) (sym i) m, go i v))
          where
            go : stage_of agent d ≡ st → NamesView bs a st ⊎ (IsUnviewed cells c.doing → ⊥) → TryNamed bs a d d.doing
            go i (inl w) = try_of bs a d d.doing (subst (λ j. NamesView bs a j) (sym i) w)
            go i (inr f) = try_redo (CleanNow c) bs a d d.doing f (g.5 t).1
        came_named c bs st Stuck h m v g = tt

        module _ (c : Configuration) (at : x.at ≡ Unfinished c) (nm : NamedHere c) (q : Ask) (ok : AsksIn agent (stage_of agent c) q) (staged : (r : Reply) → IsStaged agent (stage_after (stage_of agent c) q r) (turn code (given (exchange q r ∷ []) c)))
            (ak : AskKnown cells (StandingActor agent code) (FreshNow c) (CleanNow c) Own code q) (view_if : RedoIn cells c.doing (fetch code c.body c.place) c.state.done → IsView q) where
          abbrev v : Served
          v = serve_on cells a q (sh.books (book_for cells q))

          abbrev bs : ℕ → List Event
          bs i = if i == book_for cells q then v.book else sh.books i

          views_or : NamesView bs a (stage_after (stage_of agent c) q v.reply) ⊎ (IsUnviewed cells c.doing → ⊥)
          views_or = go (free_or c.doing c.state)
            where
              named : NamesView sh.books a (stage_of agent c) ⊎ RedoIn cells c.doing (fetch code c.body c.place) c.state.done → NamesView sh.books a (stage_of agent c) ⊎ IsView q
              named (inl w) = inl w
              named (inr r) = inr (view_if r)

              go : (IsUnviewed cells c.doing → ⊥) ⊎ (IsViewing (stage_of agent c) → ⊥) → NamesView bs a (stage_after (stage_of agent c) q v.reply) ⊎ (IsUnviewed cells c.doing → ⊥)
              go (inl f) = inr f
              go (inr f) = inl (view_after cells a sh.books agent (stage_of agent c) q ok f (named (view_or sh.books a c c.doing nm.1)))

          came : NamedAt bs a (turn code (given (exchange q v.reply ∷ []) c))
          came =
              came_named c bs (stage_after (stage_of agent c) q v.reply) (turn code (given (exchange q v.reply ∷ []) c)) (staged v.reply) (names_after cells a sh.books agent (stage_of agent c) q ok nm.0) views_or
              (turn_of (given (exchange q v.reply ∷ []) c) (given_known c (exchange q v.reply) (known_at c at) (serve_known cells opened a (sh.books (book_for cells q)) (hb (book_for cells q)) (StandingActor agent code) (FreshNow c) (CleanNow c) Own code q ak).0) (λ u. stands c at))

          -- a reply that isn't taken leaves the books
          left : (IsExchanged v.reply → ⊥) → NamedAt bs a x.at
          left none = named_same sh.books bs a (λ i. same i (i == book_for cells q) refl) x.at n
            where
              s : Serves a (sh.books (book_for cells q)) v
              s = serves a (sh.books (book_for cells q)) cells q

              whole : v.book ≡ sh.books (book_for cells q)
              whole = s.grown ∙ ap (λ l. sh.books (book_for cells q) ++ l) (s.stays none) ∙ append_nil (sh.books (book_for cells q))

              same : (i : ℕ) (b : Bool) → (i == book_for cells q) ≡ b → (if b then v.book else sh.books i) ≡ sh.books i
              same i true e = whole ∙ ap sh.books (sym (numbers i (book_for cells q) e))
              same i false e = refl

          asked_named : (b : Bool) → NamedAt (asked b cells code a c q x sh).shared.books a (asked b cells code a c q x sh).actor.at
          asked_named false = n
          asked_named true = replied_named bs c q v.reply (length (sh.books (book_for cells q))) came left

        turned_named : (c : Configuration) (o : Turned Configuration) → x.at ≡ Unfinished c → NamedHere c → turn code c ≡ o → StagedFrom agent (stage_of agent c) o (λ q r. turn code (given (exchange q r ∷ []) c)) → TurnIsKnown c o
            → NamedAt (turned cells threads code a c o x sh).shared.books a (turned cells threads code a c o x sh).actor.at
        turned_named c (Ended s) at nm e h g = tt
        turned_named c (Failed f s) at nm e h g = tt
        turned_named c (Asking s) at nm e h g =
            subst (λ o. NamedAt (asks_for cells threads code a c s o x sh).shared.books a (asks_for cells threads code a c s o x sh).actor.at) (sym h.1)
            (asked_named c at nm h.0 h.2 h.3 (subst (λ o. WantsKnown cells (StandingActor agent code) (FreshNow c) (CleanNow c) Own code o) h.1 g)
            (λ r. subst WantsView h.1 (subst AsksView e (redo_asks code c (consumed c at) r)))
            (may_ask cells threads sh.taken a h.0 (sh.books (book_for cells h.0))))
        turned_named c (Unfinished d) at nm e h g = quiet_named c (Unfinished d) at nm e h
        turned_named c Stuck at nm e h g = tt

        pub turns_named : (o : Turned Configuration) (why : Option Stop) → x.at ≡ o → NamedAt (turns_from cells threads code a o why x sh).shared.books a (turns_from cells threads code a o why x sh).actor.at
        turns_named (Ended s) why e = n
        turns_named (Failed f s) why e = n
        turns_named (Asking s) why e = n
        turns_named (Unfinished c) None e = by (named_here c e)
          where
            by : Over agent c.state.acting ⊎ NamedHere c → NamedAt (turned cells threads code a c (turn code c) x sh).shared.books a (turned cells threads code a c (turn code c) x sh).actor.at
            by (inl over) = over_named c e over
            by (inr nm) = turned_named c (turn code c) e nm refl (from c e) (turn_of c (known_at c e) (λ u. stands c e))
        turns_named (Unfinished c) (Some s) e = n
        turns_named Stuck why e = n

        pub stops_named : (why : Stop) (o : Turned Configuration) (s : Option Stop) → NamedAt sh.books a (stops_from why o s x).at
        stops_named why (Ended s) o = n
        stops_named why (Failed f s) o = n
        stops_named why (Asking s) o = n
        stops_named why (Unfinished c) None = n
        stops_named why (Unfinished c) (Some s) = n
        stops_named why Stuck o = n

        -- ---- the ask of the next instruction

        abbrev IsAsked : Stage → Option Ask → Type 0
        IsAsked st None = Unit {0}
        IsAsked st (Some q) = AsksIn agent st q

        same_named : (all : Bool) (book : List Event) (i j : ℕ) → i ≡ j → may_name all book a i ≡ true → may_name all book a j ≡ true
        same_named all book i j e h = subst (λ m. may_name all book a m ≡ true) e h

        whole : (m : ℕ) → nat_le m m ≡ true
        whole m = grind (arith, nat_tests)

        -- a try's end, whose view is its read point
        try_end : (book : List Event) (at p q : ℕ) → at ≡ p → q ≡ p → may_name false book a at ≡ true → may_name true book a at ≡ true → may_end book a p q ≡ true
        try_end book at p q e f h g =
            subst (λ m. may_end book a p m ≡ true) (sym f)
            (joined (nat_le p p) (may_name false book a p && may_name true book a p) (whole p) (joined (may_name false book a p) (may_name true book a p) (same_named false book at p e h) (same_named true book at p e g)))

        phase_end : (book : List Event) (at view p q : ℕ) → at ≡ p → view ≡ q → may_end book a at view ≡ true → may_end book a p q ≡ true
        phase_end book at view p q e f h = subst (λ i. may_end book a i q ≡ true) e (subst (λ j. may_end book a at j ≡ true) f h)

        abbrev many : ℕ
        many = actors threads (cells_of cells)

        abbrev MayAskOf : List Bool → Ask → Type 0
        MayAskOf taken q = may_ask cells threads taken a q (sh.books (book_for cells q)) ≡ true

        -- what takes an action or hands one in is said apart
        module _ (below : nat_lt a many ≡ true) (i : agent ≡ false → nat_lt a threads ≡ true) (taken : List Bool)
            (own_ask : (c : Configuration) (q : Ask) → AsksIn agent k.stage q → IsOwnAsk q → AskKnown cells (StandingActor agent code) (FreshNow c) (CleanNow c) Own code q → MayAskOf taken q) where
          abbrev MayAsk : Ask → Type 0
          MayAsk q = MayAskOf taken q

          thread : (b : Bool) → b ≡ true → (nat_lt a many && b) ≡ true
          thread b h = joined (nat_lt a many) b below h

          -- a thread alone sends, and commits with sends
          sends_too : agent ≡ false → (b : Bool) → b ≡ true → (nat_lt a threads && b) ≡ true
          sends_too e b h = joined (nat_lt a threads) b (i e) h

          commits_too : (sends : List Action) → (agent ≡ true → sends ≡ []) → (b : Bool) → b ≡ true → ((nat_lt a threads || (is_empty sends && nat_lt a many)) && b) ≡ true
          commits_too sends none b h = joined (nat_lt a threads || (is_empty sends && nat_lt a many)) b (by agent refl) h
            where
              or_true : (x y : Bool) → y ≡ true → (x || y) ≡ true
              or_true true y e = refl
              or_true false y e = e

              by : (d : Bool) → agent ≡ d → (nat_lt a threads || (is_empty sends && nat_lt a many)) ≡ true
              by false e = subst (λ x. (x || (is_empty sends && nat_lt a many)) ≡ true) (sym (i e)) refl
              by true e = or_true (nat_lt a threads) (is_empty sends && nat_lt a many) (joined (is_empty sends) (nat_lt a many) (ap is_empty (none e)) below)

          commits_so : (c : Configuration) (p q : ℕ) (sets commutes : Writes) (ensured : List CellId) (sends : List Action)
              → AskKnown cells (StandingActor agent code) (FreshNow c) (CleanNow c) Own code (ask.Commit p sets ensured q commutes sends) → (agent ≡ true → sends ≡ []) → may_end (sh.books 0) a p q ≡ true → MayAsk (ask.Commit p sets ensured q commutes sends)
          commits_so c p q sets commutes ensured sends k none e =
              let st = cells_of cells in
              commits_too sends none (are_refs st 0 (cells_in sets) && (has_refs st ensured && (are_refs st 0 (cells_in commutes) && (are_apart (cells_in commutes) (cells_in sets) && (are_sends st sends && may_end (sh.books 0) a p q)))))
              (joined (are_refs st 0 (cells_in sets)) (has_refs st ensured && (are_refs st 0 (cells_in commutes) && (are_apart (cells_in commutes) (cells_in sets) && (are_sends st sends && may_end (sh.books 0) a p q)))) k.0.0
              (joined (has_refs st ensured) (are_refs st 0 (cells_in commutes) && (are_apart (cells_in commutes) (cells_in sets) && (are_sends st sends && may_end (sh.books 0) a p q))) k.1
              (joined (are_refs st 0 (cells_in commutes)) (are_apart (cells_in commutes) (cells_in sets) && (are_sends st sends && may_end (sh.books 0) a p q)) k.2.0
              (joined (are_apart (cells_in commutes) (cells_in sets)) (are_sends st sends && may_end (sh.books 0) a p q) (k.4 t)
              (joined (are_sends st sends) (may_end (sh.books 0) a p q) (known_sends cells sends k.3) e)))))

          -- a try is fresh
          abbrev FreshOf : Configuration → Stage → Type 0
          FreshOf c Resting = Unit {0}
          FreshOf c Idle = Unit {0}
          FreshOf c (Open at) = FreshNow c
          FreshOf c (Viewing at view) = Unit {0}
          FreshOf c (Swapping d at) = Unit {0}

          -- an ask in its stage; one of a try names its read point, or is that of a view
          lawful : (c : Configuration) (st : Stage) (q : Ask) → AsksIn agent st q → MayName cells sh.books a st → (NamesView sh.books a st × FreshOf c st) ⊎ IsView q
              → (IsOwnAsk q → MayAsk q) → AskKnown cells (StandingActor agent code) (FreshNow c) (CleanNow c) Own code q → MayAsk q
          lawful c Resting (ask.Take g) ok m v o k = o tt
          lawful c Resting ask.Begin ok m v o k = absurd ok
          lawful c Resting (ask.Look d p) ok m v o k = absurd ok
          lawful c Resting (ask.View cs) ok m v o k = absurd ok
          lawful c Resting (ask.Commit p sets ensured q commutes sends) ok m v o k = absurd ok
          lawful c Resting (ask.Fail p q) ok m v o k = absurd ok
          lawful c Resting (ask.Peek d) ok m v o k = absurd ok
          lawful c Resting (ask.Send y) ok m v o k = absurd ok
          lawful c Resting (ask.Finish g new sends) ok m v o k = absurd ok
          lawful c Resting (ask.OpenAt d) ok m v o k = absurd ok
          lawful c Resting (ask.CloseAt d p w) ok m v o k = absurd ok
          lawful c Resting (ask.Broke d p) ok m v o k = absurd ok
          lawful c Idle ask.Begin ok m v o k = thread true refl
          lawful c Idle (ask.Peek d) ok m v o k = thread (has_cell (cells_of cells) d) k
          lawful c Idle (ask.Send y) ok m v o k = sends_too ok (has_agent (cells_of cells) y.agent) k.0
          lawful c Idle (ask.OpenAt d) ok m v o k = thread (has_atom cells d) k
          lawful c Idle (ask.CloseAt d None w) ok m v o k = thread (has_atom cells d && true) (joined (has_atom cells d) true k.0 refl)
          lawful c Idle (ask.CloseAt d (Some p) w) ok m v o k = absurd ok
          lawful c Idle (ask.Look d p) ok m v o k = absurd ok
          lawful c Idle (ask.View cs) ok m v o k = absurd ok
          lawful c Idle (ask.Commit p sets ensured q commutes sends) ok m v o k = absurd ok
          lawful c Idle (ask.Fail p q) ok m v o k = absurd ok
          lawful c Idle (ask.Take g) ok m v o k = absurd ok
          lawful c Idle (ask.Finish g new sends) ok m v o k = o tt
          lawful c Idle (ask.Broke d p) ok m v o k = absurd ok
          lawful c (Open at) (ask.Look d p) ok m v o k =
              thread (has_ref (cells_of cells) d && may_name false (sh.books 0) a p) (joined (has_ref (cells_of cells) d) (may_name false (sh.books 0) a p) k (same_named false (sh.books 0) at p ok m))
          lawful c (Open at) (ask.View cs) ok m v o k = thread (has_refs (cells_of cells) cs) k
          lawful c (Open at) (ask.Commit p sets ensured q commutes sends) ok m (inl v) o k = commits_so c p q sets commutes ensured sends k ok.2 (try_end (sh.books 0) at p q ok.0 (k.5 v.1) m v.0)
          lawful c (Open at) (ask.Commit p sets ensured q commutes sends) ok m (inr v) o k = absurd v
          lawful c (Open at) (ask.Fail p q) ok m (inl v) o k = thread (may_end (sh.books 0) a p q) (try_end (sh.books 0) at p q ok (k v.1) m v.0)
          lawful c (Open at) (ask.Fail p q) ok m (inr v) o k = absurd v
          lawful c (Open at) ask.Begin ok m v o k = absurd ok
          lawful c (Open at) (ask.Peek d) ok m v o k = absurd ok
          lawful c (Open at) (ask.Send y) ok m v o k = absurd ok
          lawful c (Open at) (ask.Take g) ok m v o k = absurd ok
          lawful c (Open at) (ask.Finish g new sends) ok m v o k = o tt
          lawful c (Open at) (ask.OpenAt d) ok m v o k = absurd ok
          lawful c (Open at) (ask.CloseAt d p w) ok m v o k = absurd ok
          lawful c (Open at) (ask.Broke d p) ok m v o k = absurd ok
          lawful c (Viewing at view) (ask.Commit p sets ensured q commutes sends) ok m v o k = commits_so c p q sets commutes ensured sends k ok.2 (phase_end (sh.books 0) at view p q ok.0 ok.1 m)
          lawful c (Viewing at view) (ask.Fail p q) ok m v o k = thread (may_end (sh.books 0) a p q) (phase_end (sh.books 0) at view p q ok.0 ok.1 m)
          lawful c (Viewing at view) ask.Begin ok m v o k = absurd ok
          lawful c (Viewing at view) (ask.Look d p) ok m v o k = absurd ok
          lawful c (Viewing at view) (ask.View cs) ok m v o k = absurd ok
          lawful c (Viewing at view) (ask.Peek d) ok m v o k = absurd ok
          lawful c (Viewing at view) (ask.Send y) ok m v o k = absurd ok
          lawful c (Viewing at view) (ask.Take g) ok m v o k = absurd ok
          lawful c (Viewing at view) (ask.Finish g new sends) ok m v o k = absurd ok
          lawful c (Viewing at view) (ask.OpenAt d) ok m v o k = absurd ok
          lawful c (Viewing at view) (ask.CloseAt d p w) ok m v o k = absurd ok
          lawful c (Viewing at view) (ask.Broke d p) ok m v o k = absurd ok
          lawful c (Swapping d at) (ask.CloseAt e (Some p) w) ok m v o k =
              thread (has_atom cells e && may_name true (sh.books (home cells e)) a p)
              (joined (has_atom cells e) (may_name true (sh.books (home cells e)) a p) k.0 (same_named true (sh.books (home cells e)) at p ok.1 (subst (λ y. may_name true (sh.books (home cells y)) a at ≡ true) ok.0 m)))
          lawful c (Swapping d at) (ask.Broke e p) ok m v o k =
              thread (has_atom cells e && may_name true (sh.books (home cells e)) a p)
              (joined (has_atom cells e) (may_name true (sh.books (home cells e)) a p) k (same_named true (sh.books (home cells e)) at p ok.1 (subst (λ y. may_name true (sh.books (home cells y)) a at ≡ true) ok.0 m)))
          lawful c (Swapping d at) (ask.CloseAt e None w) ok m v o k = absurd ok
          lawful c (Swapping d at) ask.Begin ok m v o k = absurd ok
          lawful c (Swapping d at) (ask.Look e p) ok m v o k = absurd ok
          lawful c (Swapping d at) (ask.View cs) ok m v o k = absurd ok
          lawful c (Swapping d at) (ask.Commit p sets ensured q commutes sends) ok m v o k = absurd ok
          lawful c (Swapping d at) (ask.Fail p q) ok m v o k = absurd ok
          lawful c (Swapping d at) (ask.Peek e) ok m v o k = absurd ok
          lawful c (Swapping d at) (ask.Send y) ok m v o k = absurd ok
          lawful c (Swapping d at) (ask.Take g) ok m v o k = absurd ok
          lawful c (Swapping d at) (ask.Finish g new sends) ok m v o k = absurd ok
          lawful c (Swapping d at) (ask.OpenAt e) ok m v o k = absurd ok

          idle_fresh : (c : Configuration) (b : Bool) (o : Option InHand) → FreshOf c (outside_stage b o)
          idle_fresh c false o = tt
          idle_fresh c true None = tt
          idle_fresh c true (Some h) = tt

          fresh_or : (c : Configuration) (doing : Activity) (q : Ask) → (IsTry cells doing → IsTry cells c.doing) → (RedoIn cells doing (fetch code c.body c.place) c.state.done → IsView q)
              → TryNamed sh.books a c doing → FreshIn cells (Unit {0}) doing c.state ⊎ RedoIn cells doing (fetch code c.body c.place) c.state.done → (NamesView sh.books a (stage_in agent doing c.state) × FreshOf c (stage_in agent doing c.state)) ⊎ IsView q
          fresh_or c Outside q e r m f = inl (idle_views sh.books a agent c.state.acting, idle_fresh c agent c.state.acting)
          fresh_or c (Restarting left) q e r m f = inl (tt, tt)
          fresh_or c (Running left inner from) q e r (inl m) (inl f) = inl (m, (t, e tt, f.0))
          fresh_or c (Running left inner from) q e r (inr m) f = inr (r m)
          fresh_or c (Running left inner from) q e r (inl m) (inr f) = inr (r f)
          fresh_or c (Applying left from work values) q e r m (inl f) = inl (go (redoes_some work) values e m f)
            where
              go : (b : Bool) (ws : Writes) → (IsUnviewedEnd b ws → IsTry cells c.doing) → WhereUnviewed (may_name true (sh.books 0) a c.state.at ≡ true) b ws → WhereUnviewed ((c.state.view ≡ c.state.at) × Unit {0}) b ws
                  → NamesView sh.books a (stage_at_end b ws c.state) × FreshOf c (stage_at_end b ws c.state)
              go true ws e m f = (tt, tt)
              go false [] e m f = (m, (t, e tt, f.0))
              go false (w ∷ ws) e m f = (tt, tt)
          fresh_or c (Applying left from work values) q e r m (inr f) = absurd f
          fresh_or c (Swapping swap from) q e r m f = inl (tt, tt)

          pub asks_lawful : (c : Configuration) (s : ActorState) (q : Ask) → x.at ≡ Unfinished c → turn code c ≡ Asking s → s.wants ≡ Some q → MayAsk q
          asks_lawful c s q at e wants = by (named_here c at)
            where
              ak : AskKnown cells (StandingActor agent code) (FreshNow c) (CleanNow c) Own code q
              ak = subst (λ o. WantsKnown cells (StandingActor agent code) (FreshNow c) (CleanNow c) Own code o) wants (subst (λ o. TurnIsKnown c o) e (turn_of c (known_at c at) (λ u. stands c at)))

              asked_in : (st : Stage) → StandsIn agent st c → AsksIn agent st q
              asked_in st here =
                  let f = subst (λ o. StagedFrom agent st o (λ y r. turn code (given (exchange y r ∷ []) c))) e (from_in st c at here) in
                  subst (λ o. IsAsked st o) (sym f.1 ∙ wants) f.2

              mine : IsOwnAsk q → MayAsk q
              mine own = own_ask c q (asked_in k.stage (subst (λ o. IsStaged agent k.stage o) at k.staged).1) own ak

              by : Over agent c.state.acting ⊎ NamedHere c → MayAsk q
              by (inl over) =
                  mine (subst WantsOwn wants (subst AsksOwn e (over_turn agent AsksOwn code c (runs_at c at) (takes_at c at) (over_is agent c.state.acting over) (λ g f. over_asks g f c (consumed c at)))))
              by (inr nm) =
                  lawful c (stage_of agent c) q (asked_in (stage_of agent c) (standing_in agent (stage_of agent c) c refl)) nm.0
                  (fresh_or c c.doing q (λ y. y) (λ r. subst WantsView wants (subst AsksView e (redo_asks code c (consumed c at) r))) nm.1 ((known_at c at).5 t).1) mine ak

    -- what a thread asks
    pub thread_lawful : (code : ThreadCode) (known : CodeIsKnown cells code) (t : StandingCode code) (a : ℕ) (sh : Shared) (hb : BooksKnown sh.books) (x : Actor) (k : ActorInvariant cells threads false code sh.books a x)
        → PlaceKnown false Free code known (free_names code) x.at → NamedAt false Free code known (free_names code) sh.books a x.at → nat_lt a threads ≡ true → (taken : List Bool)
        → (c : Configuration) (s : ActorState) (q : Ask) → x.at ≡ Unfinished c → turn code c ≡ Asking s → s.wants ≡ Some q → may_ask cells threads taken a q (sh.books (book_for cells q)) ≡ true
    thread_lawful code known t a sh hb x k p n i taken =
        asks_lawful false Free code known (free_names code) t a sh hb x k p n (thread_is cells threads a i) (λ e. i) taken (λ c q ok own ak. absurd (thread_asks_none k.stage q ok own))

    -- ---- runs

    -- Own says of each actor which agents are its
    module _ (codes : ℕ → ThreadCode) (known : (a : ℕ) → CodeIsKnown cells (codes a)) (Own : ℕ → CellId → Type 0) (own : (a : ℕ) → Names (Own a) (codes a)) (keeps : ServeKeeps) where
      abbrev PlaceOf : Bool → ℕ → Turned Configuration → Type 0
      PlaceOf agent a o = PlaceKnown agent (Own a) (codes a) (known a) (own a) o

      abbrev NamedOf : Bool → (ℕ → List Event) → ℕ → Turned Configuration → Type 0
      NamedOf agent books a o = NamedAt agent (Own a) (codes a) (known a) (own a) books a o

      -- what holds between plays
      pub record Lawfully (st : State) : Type 0 where
        pub holds : RunInvariant cells threads codes st
        pub books : BooksKnown st.shared.books
        pub actors : (agent : Bool) (a : ℕ) → PlaceOf agent a (st.actors a).at
        pub named : (agent : Bool) (a : ℕ) → StandingActor agent (codes a) → NamedOf agent st.shared.books a (st.actors a).at

      stands_at : (st : State) (h : Lawfully st) (agent : Bool) (a : ℕ) (c : Configuration) → (st.actors a).at ≡ Unfinished c → StandingActor agent (codes a) → MayStandHere agent c.doing (fetch (codes a) c.body c.place)
      stands_at st h agent a c at t = (t (st.actors a).turns (map exchange_of (st.actors a).entries) c ((h.holds.actors agent a (standing_staged agent (codes a) t)).ran ∙ at)).0

      moves_known : (agent : Bool) (y : Play) (st : State) → Lawfully st → MovedKnown agent (Own (actor_of y)) (codes (actor_of y)) (known (actor_of y)) (own (actor_of y)) (moves cells threads codes y st)
      moves_known agent (TakesTurn a) st h =
          turns_known agent (Own a) (codes a) (known a) (own a) a st.shared h.books (st.actors a) (h.actors agent a) (stands_at st h agent a) (st.actors a).at (st.actors a).stopped refl (h.actors agent a)
      moves_known agent (IsStopped a why) st h = stops_known agent (Own a) (codes a) (known a) (own a) a st.shared h.books (st.actors a) (h.actors agent a) (stands_at st h agent a) why (st.actors a).at (st.actors a).stopped

      moves_named : (agent : Bool) (y : Play) (st : State) → Lawfully st → StandingActor agent (codes (actor_of y)) → NamedOf agent (moves cells threads codes y st).shared.books (actor_of y) (moves cells threads codes y st).actor.at
      moves_named agent (TakesTurn a) st h t =
          turns_named agent (Own a) (codes a) (known a) (own a) t a st.shared h.books (st.actors a) (h.holds.actors agent a (standing_staged agent (codes a) t)) (h.actors agent a) (h.named agent a t) (st.actors a).at (st.actors a).stopped refl
      moves_named agent (IsStopped a why) st h t =
          stops_named agent (Own a) (codes a) (known a) (own a) t a st.shared h.books (st.actors a) (h.holds.actors agent a (standing_staged agent (codes a) t)) (h.actors agent a) (h.named agent a t) why (st.actors a).at (st.actors a).stopped

      play_lawful : (y : Play) (st : State) → Lawfully st → Lawfully (play cells threads codes y st)
      play_lawful y st h = record {
        holds = play_holds keeps cells threads codes y st h.holds;
        books = (moves_known false y st h).1;
        actors = λ agent b. placed agent b (actor_of y == b) refl;
        named = λ agent b. names agent b (actor_of y == b) refl;
      }
        where
          placed : (agent : Bool) (b : ℕ) (t : Bool) → (actor_of y == b) ≡ t → PlaceOf agent b (if t then (moves cells threads codes y st).actor else st.actors b).at
          placed agent b true e = subst (λ i. PlaceOf agent i (moves cells threads codes y st).actor.at) (numbers (actor_of y) b e) (moves_known agent y st h).0
          placed agent b false e = h.actors agent b

          names : (agent : Bool) (b : ℕ) (t : Bool) → (actor_of y == b) ≡ t → StandingActor agent (codes b) → NamedOf agent (moves cells threads codes y st).shared.books b (if t then (moves cells threads codes y st).actor else st.actors b).at
          names agent b true e =
              subst (λ i. StandingActor agent (codes i) → NamedOf agent (moves cells threads codes y st).shared.books i (moves cells threads codes y st).actor.at) (numbers (actor_of y) b e) (moves_named agent y st h)
          names agent b false e = λ s.
              named_stays agent (Own b) (codes b) (known b) (own b) (actor_of y) b st.shared.books (moves cells threads codes y st).shared.books (λ i. false≢true (sym e ∙ ap (λ j. actor_of y == j) (sym i) ∙ number-itself (actor_of y)))
              (moves_stand keeps cells threads codes y st h.holds.shared).grown (st.actors b).at (h.named agent b s)

      opens_lawful : FreshStands → Lawfully (opens cells codes)
      opens_lawful fresh = record {
        holds = opening_holds fresh cells threads codes;
        books = λ n. tt;
        actors = λ agent a. (tt, locals_known cells (Unit {0}) (Unit {0}) (Unit {0}) (Own a) (codes a) (Some (codes a).main) [] tt, tt, tt, (nothing_known cells (Unit {0}) (Unit {0}) (Unit {0}) (Own a) (codes a), tt, tt, tt), λ t. (tt, inl tt));
        named = λ agent a t. inr (idle_names cells (λ n. []) a agent None, tt);
      }

      all_lawful : (ys : List Play) (st : State) → Lawfully st → Lawfully (plays_from cells threads codes ys st)
      all_lawful [] st h = h
      all_lawful (y ∷ ys) st h = all_lawful ys (play cells threads codes y st) (play_lawful y st h)

      -- what threads and agents ask, where what takes an action and hands one in is lawful
      pub actor_lawful : (agent : Bool) (st : State) → Lawfully st → (a : ℕ) (t : StandingActor agent (codes a)) → nat_lt a (actors threads (cells_of cells)) ≡ true → (agent ≡ false → nat_lt a threads ≡ true)
          → ((k : ActorInvariant cells threads agent (codes a) st.shared.books a (st.actors a)) (Tidy Fresh Clean : Type 0) (q : Ask) → AsksIn agent k.stage q → IsOwnAsk q → AskKnown cells Tidy Fresh Clean (Own a) (codes a) q → may_ask cells threads st.shared.taken a q (st.shared.books (book_for cells q)) ≡ true)
          → (c : Configuration) (s : ActorState) (q : Ask) → (st.actors a).at ≡ Unfinished c → turn (codes a) c ≡ Asking s → s.wants ≡ Some q → may_ask cells threads st.shared.taken a q (st.shared.books (book_for cells q)) ≡ true
      actor_lawful agent st h a t below i mine =
          let k = h.holds.actors agent a (standing_staged agent (codes a) t) in
          asks_lawful agent (Own a) (codes a) (known a) (own a) t a st.shared h.books (st.actors a) k (h.actors agent a) (h.named agent a t) below i st.shared.taken
          (λ c q ok asks ak. mine k (StandingActor agent (codes a)) (FreshNow agent (Own a) (codes a) (known a) (own a) c) (CleanNow agent (Own a) (codes a) (known a) (own a) c) q ok asks ak)

      pub plays_lawfully : FreshStands → (ys : List Play) → Lawfully (plays_from cells threads codes ys (opens cells codes))
      plays_lawfully fresh ys = all_lawful ys (opens cells codes) (opens_lawful fresh)

-- values that an actor was told, with one more
pub todo_more : (cells : List CellDefinition) (threads : ℕ) (opened : OpeningIsKnown cells) (code : ThreadCode) (known : CodeIsKnown cells code) (xs : List Exchange) (x : Exchange) → TodoKnown cells xs → ReplyKnown cells x.reply → TodoKnown cells (xs ++ x ∷ [])
todo_more cells threads opened code known xs x h g = todo_and cells threads opened false Free code known (free_names code) xs x h g

-- all values of a run's books name defined cells alone
pub run_known : ServeKeeps → FreshStands → (cells : List CellDefinition) (threads : ℕ) (codes : ℕ → ThreadCode) (ys : List Play) (opened : OpeningIsKnown cells) → ((a : ℕ) → CodeIsKnown cells (codes a))
    → (n : ℕ) → BookKnown cells opened ((plays_from cells threads codes ys (opens cells codes)).shared.books n)
run_known keeps fresh cells threads codes ys opened known = (plays_lawfully cells threads opened codes known (λ a. Free) (λ a. free_names (codes a)) keeps fresh ys).books

-- ---- whose action is taken

-- an agent that an actor has
abbrev Has : List CellDefinition → ℕ → ℕ → CellId → Type 0
Has cells threads a h = (g : CellId) → has_agent (cells_of cells) g ≡ true → a ≡ world.actor_of threads (cells_of cells) g → h ≡ g

own_instructions : (cells : List CellDefinition) (threads : ℕ) (codes : ℕ → ThreadCode) → ((g : CellId) → has_agent (cells_of cells) g ≡ true → NamesOwn g (codes (world.actor_of threads (cells_of cells) g))) → (a : ℕ) → Names (Has cells threads a) (codes a)
own_instructions cells threads codes names a b at k = (
  (λ e g has i. (names g has b at k).0 (subst (λ j. fetch (codes j) b at ≡ Some (TakeOf k)) i e)),
  (λ e g has i. (names g has b at k).1 (subst (λ j. fetch (codes j) b at ≡ Some (FinishOf k)) i e)),
)

-- an agent's actor takes an action where none is taken, and hands in the one that is
agent_mine : (cells : List CellDefinition) (threads : ℕ) (codes : ℕ → ThreadCode) (st : State) (g : CellId) → has_agent (cells_of cells) g ≡ true
    → (stage : Stage) → is_taken st.shared.taken g ≡ is_busy stage → (Tidy Fresh Clean : Type 0) (code : ThreadCode) (q : Ask) → AsksIn true stage q → IsOwnAsk q
    → AskKnown cells Tidy Fresh Clean (Has cells threads (world.actor_of threads (cells_of cells) g)) code q
    → may_ask cells threads st.shared.taken (world.actor_of threads (cells_of cells) g) q (st.shared.books (book_for cells q)) ≡ true
agent_mine cells threads codes st g has stage taken Tidy Fresh Clean code (ask.Take h) ok own ak =
    subst (λ j. may_ask cells threads st.shared.taken a (ask.Take j) (st.shared.books 0) ≡ true) (sym (ak g has refl))
    (joined (a == a) (has_agent (cells_of cells) g && not (is_taken st.shared.taken g)) (number-itself a)
    (joined (has_agent (cells_of cells) g) (not (is_taken st.shared.taken g)) has (ap not (taken ∙ resting stage ok))))
  where
    a : ℕ
    a = world.actor_of threads (cells_of cells) g

    resting : (st : Stage) → AsksIn true st (ask.Take h) → is_busy st ≡ false
    resting Resting k = refl
    resting Idle k = absurd k
    resting (Open at) k = absurd k
    resting (Viewing at view) k = absurd k
    resting (Swapping d at) k = absurd k
agent_mine cells threads codes st g has stage taken Tidy Fresh Clean code (ask.Finish h new sends) ok own ak =
    subst (λ j. may_ask cells threads st.shared.taken a (ask.Finish j new sends) (st.shared.books 0) ≡ true) (sym (ak.3 g has refl))
    (joined (a == a) (has_agent (cells_of cells) g && (is_taken st.shared.taken g && (may_send new sends && are_sends (cells_of cells) sends))) (number-itself a)
    (joined (has_agent (cells_of cells) g) (is_taken st.shared.taken g && (may_send new sends && are_sends (cells_of cells) sends)) has
    (joined (is_taken st.shared.taken g) (may_send new sends && are_sends (cells_of cells) sends) (taken ∙ busy stage ok)
    (joined (may_send new sends) (are_sends (cells_of cells) sends) ak.2 (known_sends cells sends ak.1)))))
  where
    a : ℕ
    a = world.actor_of threads (cells_of cells) g

    busy : (st : Stage) → AsksIn true st (ask.Finish h new sends) → is_busy st ≡ true
    busy Resting k = absurd k
    busy Idle k = refl
    busy (Open at) k = refl
    busy (Viewing at view) k = absurd k
    busy (Swapping d at) k = absurd k
agent_mine cells threads codes st g has stage taken Tidy Fresh Clean code ask.Begin ok own ak = absurd own
agent_mine cells threads codes st g has stage taken Tidy Fresh Clean code (ask.Look c p) ok own ak = absurd own
agent_mine cells threads codes st g has stage taken Tidy Fresh Clean code (ask.View cs) ok own ak = absurd own
agent_mine cells threads codes st g has stage taken Tidy Fresh Clean code (ask.Commit p sets ensured q commuted sends) ok own ak = absurd own
agent_mine cells threads codes st g has stage taken Tidy Fresh Clean code (ask.Fail p q) ok own ak = absurd own
agent_mine cells threads codes st g has stage taken Tidy Fresh Clean code (ask.Peek c) ok own ak = absurd own
agent_mine cells threads codes st g has stage taken Tidy Fresh Clean code (ask.Send x) ok own ak = absurd own
agent_mine cells threads codes st g has stage taken Tidy Fresh Clean code (ask.OpenAt c) ok own ak = absurd own
agent_mine cells threads codes st g has stage taken Tidy Fresh Clean code (ask.CloseAt c p v) ok own ak = absurd own
agent_mine cells threads codes st g has stage taken Tidy Fresh Clean code (ask.Broke c p) ok own ak = absurd own

pub run_lawful : ServeKeeps → FreshStands → RunAsksLawful
run_lawful keeps fresh cells threads codes ys opened known names a c s q lt stands at e wants = by (nat_lt a threads) refl
  where
    st : State
    st = plays_from cells threads codes ys (opens cells codes)

    own : (b : ℕ) → Names (Has cells threads b) (codes b)
    own = own_instructions cells threads codes names

    all : Lawfully cells threads opened codes known (Has cells threads) own keeps st
    all = plays_lawfully cells threads opened codes known (Has cells threads) own keeps fresh ys

    of_agent : (x : AgentOf cells threads a) → (t : StandingActor true (codes a)) → may_ask cells threads st.shared.taken a q (st.shared.books (book_for cells q)) ≡ true
    of_agent x t =
        actor_lawful cells threads opened codes known (Has cells threads) own keeps true st all a t lt (λ i. absurd (false≢true (sym i)))
        (λ k Tidy Fresh Clean y ok asks ak.
        subst (λ b. may_ask cells threads st.shared.taken b y (st.shared.books (book_for cells y)) ≡ true) (sym x.is)
        (agent_mine cells threads codes st x.agent x.has k.stage
        (taken_so cells threads codes keeps fresh ys x.agent x.has (subst (λ b. StagedActor true (codes b)) x.is (standing_staged true (codes a) t))
        ∙ subst (λ b. is_busy (stage_by Resting (st.actors b).entries) ≡ is_busy k.stage) x.is (ap is_busy (stage_is true Resting (st.actors a).entries k.stage k.told.staged)))
        Tidy Fresh Clean (codes a) y ok asks (subst (λ b. AskKnown cells Tidy Fresh Clean (Has cells threads b) (codes a) y) x.is ak)))
        c s q at e wants

    by : (b : Bool) → nat_lt a threads ≡ b → may_ask cells threads st.shared.taken a q (st.shared.books (book_for cells q)) ≡ true
    by true i =
        actor_lawful cells threads opened codes known (Has cells threads) own keeps false st all a (subst (λ t. StandingActor (not t) (codes a)) i stands) lt (λ e. i)
        (λ k Tidy Fresh Clean y ok asks ak. absurd (thread_asks_none k.stage y ok asks)) c s q at e wants
    by false i = of_agent (agent_of cells threads a i lt) (subst (λ t. StandingActor (not t) (codes a)) i stands)
