-- Agents are explained: what each agent's actor did means what its actions mean, on the state and the events that each found.
use Rattle.std.proofs.Common.{◌≡◌, ℕ, suc, Bool, true, false, ◌==◌, List, [], ◌∷◌, ◌++◌, length, map, take, Option, Some, None, refl, sym, ap, ◌∙◌, subst, if◌then◌else◌}
use Rattle.std.proofs.lemmas.Bool.{false≢true}
use Rattle.txs_world_protocol.specs.declared.ask.Ask.{Ask}
use Rattle.txs_world_protocol.specs.declared.ask.Ask.TheVariants as ask
use Rattle.txs_world_protocol.specs.declared.ask.Reply.{Reply}
use Rattle.txs_world_protocol.specs.declared.ask.Reply.TheVariants as reply
use Rattle.txs_world_protocol.specs.declared.event.Event.{Event}
use Rattle.txs_value_data.proofs.SameLemmas.{numbers, number-itself}
use Rattle.txs_value_cell.specs.declared.action.Action.{Action}
use Rattle.txs_value_cell.specs.declared.cell.CellDefinition.{CellDefinition}
use Rattle.txs_value_data.specs.declared.value.CellId.{CellId}
use Rattle.txs_value_data.specs.declared.value.Value.{Value}
use Rattle.txs_tree_meaning.specs.Tree.{PlainFunction}
use Rattle.txs_code_meaning.specs.Machine.{Library, ThreadCode, agent_code, Configuration, Turned, Ended, Failed, Asking, Unfinished, Stuck, turn}
use Rattle.txs_code_meaning.specs.Opening.{given, opening}
use Rattle.txs_theorem_threads.specs.FollowsAgent.{FollowsAgents}
use Rattle.txs_world_book.proofs.Outcomes.{both}
use Rattle.txs_world_book.specs.Book.{Legal, has_agent, newest, mail_after}
use Rattle.txs_world_book.specs.Book as world
use Rattle.txs_world.specs.Laws.{ActionStays, ServeKeeps, RefusedIsUndisturbed, no_acts}
use Rattle.txs_world_book.specs.Served.{Served, cells_of}
use Rattle.txs_world.specs.Store.{next_action, takes}
use Rattle.txs_theorem_runs.specs.Agents.{SendsSound, RunsAgents, ActorsSendSound, AgentExplained, RunActsMean}
use Rattle.txs_theorem_runs.specs.Goes.{AsksNothing, AsksAt, GoesTo}
use Rattle.txs_theorem_runs.specs.Invariant.{ActorInvariant, RunInvariant}
use Rattle.txs_theorem_runs.specs.Finished.{is_finish}
use Rattle.txs_theorem_runs.specs.Run.{Stop, Actor, Moved, exchange, entry, stop, comes_to, hears, replied, asked, asks_for, turned, turns_from, stops_from, Play, TakesTurn, IsStopped, State, moves, actor_of, play, plays_from, opens}
use Rattle.txs_theorem_runs.specs.Run as run_of
use Rattle.txs_theorem_runs.specs.Shared.{Shared, book_for, serve_on, may_ask}
use Rattle.txs_theorem_runs.specs.Staged.{StagedActor, IsStaged, StagedFrom}
use Rattle.txs_theorem_runs.specs.Stages.{Stage}
use Rattle.txs_theorem_runs.specs.Told.{exchange_of, IsExchanged}
use Rattle.txs_theorem_runs.proofs.Acting.{append_nil, one_agent, others_act_not}
use Rattle.txs_theorem_runs.proofs.Going.{starts}
use Rattle.txs_theorem_runs.proofs.Growing.{Grown, Serves, own_grown, taken_whole}
use Rattle.txs_theorem_runs.proofs.Handing.{goes_walk, goes_hear, none_served, takes_append, takes_finish, takes_stay, takes_fixed, at_end, home_of, each_taken}
use Rattle.txs_theorem_runs.proofs.Owned.{next_own}
use Rattle.txs_theorem_runs.proofs.Rounds.{OutSo, TakesSo, acted_so}
use Rattle.txs_theorem_runs.proofs.Sending.{Sends, play_sends, opening_sends}
use Rattle.txs_theorem_runs.proofs.Serving.{serves}
use Rattle.txs_theorem_runs.proofs.Steps.{MovedWell, moves_stand, play_holds}
use Rattle.txs_theorem_runs.proofs.Whole.{Lower, FreshStands, opening_holds}

abbrev agent_actor : List CellDefinition → ℕ → CellId → ℕ
agent_actor cells threads g = world.actor_of threads (cells_of cells) g

-- a turn that is staged where it continues asks nothing
asks_none : (agent : Bool) (st : Stage) (o : Turned Configuration) → IsStaged agent st o → AsksNothing o
asks_none agent st (Ended s) h = tt
asks_none agent st (Failed f s) h = tt
asks_none agent st (Asking s) h = absurd h
asks_none agent st (Unfinished c) h = tt
asks_none agent st Stuck h = tt

-- ---- plays

module _ (stays : ActionStays) (cells : List CellDefinition) (threads : ℕ) (code : Library) where
  -- where an agent's code leads, and what it was handed out
  pub record Does (books : ℕ → List Event) (g : CellId) (x : Actor) : Type 0 where
    pub goes : GoesTo (agent_code code g) (Unfinished (opening (agent_code code g) [])) x.entries x.at
    pub takes : TakesSo cells books g (length (books 0)) x.entries

  -- another actor's events leave it
  others_do : (g : CellId) → has_agent (cells_of cells) g ≡ true → (b : ℕ) → (b ≡ agent_actor cells threads g → ⊥) → (books later : ℕ → List Event) → Grown b books later → Legal (cells_of cells) threads (later 0)
      → (x : Actor) (k : ActorInvariant cells threads true (agent_code code g) books (agent_actor cells threads g) x) → Does books g x → Does later g x
  others_do g has b n books later grown legal x k d = record {
    goes = d.goes;
    takes = takes_stay cells g threads (agent_actor cells threads g) books later (grown.more 0) (grown.grown 0)
        (at_end cells g threads (agent_actor cells threads g) books later (grown.more 0) (grown.grown 0) stays has legal
        (others_act_not (cells_of cells) threads g b (books 0) (grown.more 0) n (grown.own 0) (subst (Legal (cells_of cells) threads) (grown.grown 0) legal)))
        x.entries k.told.hold d.takes;
  }

  module _ (g : CellId) (has : has_agent (cells_of cells) g ≡ true) (known : StagedActor true (agent_code code g)) (sh : Shared) (x : Actor) (k : ActorInvariant cells threads true (agent_code code g) sh.books (agent_actor cells threads g) x) (d : Does sh.books g x) where
    abbrev tc : ThreadCode
    tc = agent_code code g

    abbrev a : ℕ
    a = agent_actor cells threads g

    abbrev start : Turned Configuration
    start = Unfinished (opening tc [])

    -- where the books stay, or grow by events of this actor that are no acts
    grown_does : (later : ℕ → List Event) (more : List Event) → later 0 ≡ sh.books 0 ++ more → no_acts g.number more ≡ true → Legal (cells_of cells) threads (later 0) → TakesSo cells later g (length (later 0)) x.entries
    grown_does later more e none legal = takes_stay cells g threads a sh.books later more e (at_end cells g threads a sh.books later more e stays has legal none) x.entries k.told.hold d.takes

    stopped : (why : Stop) → Does sh.books g (stop why x)
    stopped why = record { goes = d.goes; takes = d.takes }

    quiet : (c : Configuration) (o : Turned Configuration) → x.at ≡ Unfinished c → turn tc c ≡ o → IsStaged true k.stage o → Does sh.books g (comes_to o x)
    quiet c o at e h = record {
      goes = subst (λ u. GoesTo tc start x.entries u) e (goes_walk tc x.entries start c (subst AsksNothing (sym e) (asks_none true k.stage o h)) (subst (λ u. GoesTo tc start x.entries u) at d.goes));
      takes = d.takes;
    }

    module _ (q : Ask) (may : may_ask cells threads sh.taken a q (sh.books (book_for cells q)) ≡ true) where
      abbrev v : Served
      v = serve_on cells a q (sh.books (book_for cells q))

      abbrev later : ℕ → List Event
      later n = if n == book_for cells q then v.book else sh.books n

      abbrev size : ℕ
      size = length (sh.books (book_for cells q))

      s : Serves a (sh.books (book_for cells q)) v
      s = serves a (sh.books (book_for cells q)) cells q

      -- what was served to another ask is no act
      none_more : is_finish q ≡ false → no_acts g.number ((own_grown cells threads a sh.books q sh.taken may v refl s).more 0) ≡ true
      none_more isnt = go (0 == book_for cells q)
        where
          go : (b : Bool) → no_acts g.number (if b then s.more else []) ≡ true
          go true = none_served cells g.number a q (sh.books (book_for cells q)) s.more isnt s.grown
          go false = refl

      -- what is handed out is what the agent runs next
      out_take : (h : CellId) (o : Option Action) (n : ℕ) (w : Value) (book : List Event) (bs : ℕ → List Event) → h ≡ g → bs 0 ≡ book → next_action (cells_of cells) book h ≡ o → newest (world.opening (cells_of cells)) book h.number ≡ w → OutSo cells bs g (ask.Take h) (takes o n w) (length (bs 0))
      out_take h None n w book bs i e next found = tt
      out_take h (Some y) n w book bs i e next found =
          let whole : take (length (bs 0)) (bs 0) ≡ book = taken_whole (bs 0) ∙ e in (
            subst (λ l. next_action (cells_of cells) l g ≡ Some y) (sym whole) (subst (λ j. next_action (cells_of cells) book j ≡ Some y) i next),
            subst (λ l. newest (world.opening (cells_of cells)) l g.number ≡ w) (sym whole) (subst (λ j. newest (world.opening (cells_of cells)) book j.number ≡ w) i found),
          )

    -- so it is of each ask
    out_so : (q : Ask) (may : may_ask cells threads sh.taken a q (sh.books (book_for cells q)) ≡ true) → OutSo cells (later q may) g q (serve_on cells a q (sh.books (book_for cells q))).reply (length (later q may 0))
    out_so (ask.Take h) may =
        let m = both (a == agent_actor cells threads h) _ may in
        let n = both (has_agent (cells_of cells) h) _ m.1 in
        out_take (ask.Take h) may h (next_action (cells_of cells) (sh.books 0) h) (suc (mail_after (cells_of cells) (sh.books 0) h.number).acts) (newest (world.opening (cells_of cells)) (sh.books 0) h.number) (sh.books 0) (later (ask.Take h) may)
        (sym (one_agent (cells_of cells) threads g h has n.0 (numbers a (agent_actor cells threads h) m.0))) refl refl refl
    out_so ask.Begin may = tt
    out_so (ask.Look c p) may = tt
    out_so (ask.View cs) may = tt
    out_so (ask.Commit p sets ensured q commuted sends) may = tt
    out_so (ask.Fail p q) may = tt
    out_so (ask.Peek c) may = tt
    out_so (ask.Send y) may = tt
    out_so (ask.Finish h new sends) may = tt
    out_so (ask.OpenAt c) may = tt
    out_so (ask.CloseAt c p w) may = tt
    out_so (ask.Broke c p) may = tt

    module _ (c : Configuration) (at : x.at ≡ Unfinished c) (q : Ask) (asks : AsksAt tc c q) (may : may_ask cells threads sh.taken a q (sh.books (book_for cells q)) ≡ true) (legal : Legal (cells_of cells) threads (later q may 0)) where
      -- the reply is taken
      heard_does : Does (later q may) g (hears tc c q (v q may).reply (size q may) x)
      heard_does = record {
        goes = goes_hear tc x.entries start c (entry q (v q may).reply (size q may)) asks (subst (λ u. GoesTo tc start x.entries u) at d.goes);
        takes = by (is_finish q) refl;
      }
        where
          grown : later q may 0 ≡ sh.books 0 ++ (own_grown cells threads a sh.books q sh.taken may (v q may) refl (s q may)).more 0
          grown = (own_grown cells threads a sh.books q sh.taken may (v q may) refl (s q may)).grown 0

          by : (b : Bool) → is_finish q ≡ b → TakesSo cells (later q may) g (length (later q may 0)) (x.entries ++ entry q (v q may).reply (size q may) ∷ [])
          by false isnt =
              takes_append cells g (later q may) (length (later q may 0)) x.entries (entry q (v q may).reply (size q may)) isnt (out_so q may)
              (grown_does (later q may) ((own_grown cells threads a sh.books q sh.taken may (v q may) refl (s q may)).more 0) grown (none_more q may isnt) legal)
          by true does =
              takes_finish cells g (later q may) (length (later q may 0)) x.entries (entry q (v q may).reply (size q may)) does
              (subst (λ n. TakesSo cells (later q may) g (length (sh.books n)) x.entries) (sym (home_of cells g q does))
              (takes_fixed cells g threads a sh.books (later q may) ((own_grown cells threads a sh.books q sh.taken may (v q may) refl (s q may)).more 0) grown x.entries k.told.hold d.takes))

      -- a reply that isn't taken leaves the books
      left_does : (IsExchanged (v q may).reply → ⊥) → Does (later q may) g x
      left_does isnt = record {
        goes = d.goes;
        takes = grown_does (later q may) [] (as_before (0 == book_for cells q) refl) refl legal;
      }
        where
          as_before : (t : Bool) → (0 == book_for cells q) ≡ t → (if t then (v q may).book else sh.books 0) ≡ sh.books 0 ++ []
          as_before true h = (s q may).grown ∙ ap (λ l. sh.books (book_for cells q) ++ l) ((s q may).stays isnt) ∙ ap (λ i. sh.books i ++ []) (sym (numbers 0 (book_for cells q) h))
          as_before false h = sym (append_nil (sh.books 0))

      replied_does : (r : Reply) → ((IsExchanged r) → Does (later q may) g (hears tc c q r (size q may) x)) → ((IsExchanged r → ⊥) → Does (later q may) g x) → Does (later q may) g (replied tc c q r (size q may) x)
      replied_does (reply.At p) own left = own tt
      replied_does (reply.Is w) own left = own tt
      replied_does (reply.Views p vs) own left = own tt
      replied_does reply.Done own left = own tt
      replied_does (reply.Retry e) own left = own tt
      replied_does (reply.Changed e) own left = own tt
      replied_does (reply.AgentIsFailed h) own left = own tt
      replied_does (reply.Action n y w) own left = own tt
      replied_does (reply.Opened p w) own left = own tt
      replied_does reply.Idle own left = left (λ e. e)
      replied_does reply.Full own left = let l = left (λ e. e) in record { goes = l.goes; takes = l.takes }
      replied_does reply.Memory own left = let l = left (λ e. e) in record { goes = l.goes; takes = l.takes }

      served_does : Does (later q may) g (replied tc c q (v q may).reply (size q may) x)
      served_does = replied_does (v q may).reply (λ ex. heard_does) left_does

    -- ---- a turn

    abbrev After : Moved → Type 0
    After m = Legal (cells_of cells) threads (m.shared.books 0) → Does m.shared.books g m.actor

    asked_does : (b : Bool) (c : Configuration) (q : Ask) → may_ask cells threads sh.taken a q (sh.books (book_for cells q)) ≡ b → x.at ≡ Unfinished c → AsksAt tc c q → After (asked b cells tc a c q x sh)
    asked_does false c q may at asks = λ legal. stopped run_of.Unlawful
    asked_does true c q may at asks = λ legal. served_does c at q asks may legal

    turned_does : (c : Configuration) (o : Turned Configuration) → x.at ≡ Unfinished c → turn tc c ≡ o → StagedFrom true k.stage o (λ q r. turn tc (given (exchange q r ∷ []) c)) → After (turned cells threads tc a c o x sh)
    turned_does c (Ended t) at e h = λ legal. quiet c (Ended t) at e h
    turned_does c (Failed f t) at e h = λ legal. quiet c (Failed f t) at e h
    turned_does c (Asking t) at e h =
        subst (λ o. After (asks_for cells threads tc a c t o x sh)) (sym h.1) (asked_does (may_ask cells threads sh.taken a h.0 (sh.books (book_for cells h.0))) c h.0 refl at (t, e, h.1))
    turned_does c (Unfinished u) at e h = λ legal. quiet c (Unfinished u) at e h
    turned_does c Stuck at e h = λ legal. quiet c Stuck at e tt

    pub turns_do : (o : Turned Configuration) (why : Option Stop) → x.at ≡ o → After (turns_from cells threads tc a o why x sh)
    turns_do (Ended t) why e = λ legal. d
    turns_do (Failed f t) why e = λ legal. d
    turns_do (Asking t) why e = λ legal. d
    turns_do (Unfinished c) None e =
        let h = subst (λ o. IsStaged true k.stage o) e k.staged in
        turned_does c (turn tc c) e refl (known x.turns (map exchange_of x.entries) c (k.ran ∙ e) h.0 k.stage h.1)
    turns_do (Unfinished c) (Some y) e = λ legal. d
    turns_do Stuck why e = λ legal. d

    pub stops_do : (why : Stop) (o : Turned Configuration) (w : Option Stop) → Does sh.books g (stops_from why o w x)
    stops_do why (Ended t) w = d
    stops_do why (Failed f t) w = d
    stops_do why (Asking t) w = d
    stops_do why (Unfinished c) None = stopped why
    stops_do why (Unfinished c) (Some y) = d
    stops_do why Stuck w = d

  -- ---- runs

  module _ (codes : ℕ → ThreadCode) (run_agents : RunsAgents cells threads codes code) (staged : (g : CellId) → StagedActor true (agent_code code g)) where
    abbrev AllDo : State → Type 0
    AllDo st = (g : CellId) → has_agent (cells_of cells) g ≡ true → Does st.shared.books g (st.actors (agent_actor cells threads g))

    -- an agent's actor, as it is between plays
    agent_stands : (st : State) → RunInvariant cells threads codes st → (g : CellId) → has_agent (cells_of cells) g ≡ true → ActorInvariant cells threads true (agent_code code g) st.shared.books (agent_actor cells threads g) (st.actors (agent_actor cells threads g))
    agent_stands st h g has =
        subst (λ kd. ActorInvariant cells threads true kd st.shared.books (agent_actor cells threads g) (st.actors (agent_actor cells threads g))) (run_agents g has)
        (h.actors true (agent_actor cells threads g) (subst (StagedActor true) (sym (run_agents g has)) (staged g)))

    play_does : ServeKeeps → (y : Play) (st : State) → RunInvariant cells threads codes st → AllDo st → AllDo (play cells threads codes y st)
    play_does keeps y st h all g has = go (actor_of y == agent_actor cells threads g) refl
      where
        a : ℕ
        a = agent_actor cells threads g

        w : MovedWell keeps cells threads (actor_of y) st.shared (moves cells threads codes y st)
        w = moves_stand keeps cells threads codes y st h.shared

        own : (y : Play) → actor_of y ≡ a → Legal (cells_of cells) threads ((moves cells threads codes y st).shared.books 0) → Does (moves cells threads codes y st).shared.books g (moves cells threads codes y st).actor
        own (TakesTurn b) e =
            subst (λ i. Legal (cells_of cells) threads ((moves cells threads codes (TakesTurn i) st).shared.books 0) → Does (moves cells threads codes (TakesTurn i) st).shared.books g (moves cells threads codes (TakesTurn i) st).actor) (sym e)
            (subst (λ kd. Legal (cells_of cells) threads ((turns_from cells threads kd a (st.actors a).at (st.actors a).stopped (st.actors a) st.shared).shared.books 0)
            → Does (turns_from cells threads kd a (st.actors a).at (st.actors a).stopped (st.actors a) st.shared).shared.books g (turns_from cells threads kd a (st.actors a).at (st.actors a).stopped (st.actors a) st.shared).actor) (sym (run_agents g has))
            (turns_do g has (staged g) st.shared (st.actors a) (agent_stands st h g has) (all g has) (st.actors a).at (st.actors a).stopped refl))
        own (IsStopped b why) e = λ legal.
            subst (λ i. Does (moves cells threads codes (IsStopped i why) st).shared.books g (moves cells threads codes (IsStopped i why) st).actor) (sym e)
            (stops_do g has (staged g) st.shared (st.actors a) (agent_stands st h g has) (all g has) why (st.actors a).at (st.actors a).stopped)

        go : (t : Bool) → (actor_of y == a) ≡ t → Does (moves cells threads codes y st).shared.books g (if t then (moves cells threads codes y st).actor else st.actors a)
        go true e = own y (numbers (actor_of y) a e) w.shared.store.legal
        go false e =
            others_do g has (actor_of y) (λ i. false≢true (sym e ∙ ap (λ j. actor_of y == j) (sym i) ∙ number-itself (actor_of y))) st.shared.books (moves cells threads codes y st).shared.books w.grown w.shared.store.legal (st.actors a)
            (agent_stands st h g has) (all g has)

    -- what holds between plays
    record Standing (functions : List PlainFunction) (by : ActorsSendSound cells threads codes functions) (st : State) : Type 0 where
      holds : RunInvariant cells threads codes st
      sends : Sends functions cells threads codes by st
      all : AllDo st

    plays_stand : ServeKeeps → (functions : List PlainFunction) (by : ActorsSendSound cells threads codes functions) (ys : List Play) (st : State) → Standing functions by st → Standing functions by (plays_from cells threads codes ys st)
    plays_stand keeps functions by [] st h = h
    plays_stand keeps functions by (y ∷ ys) st h =
        plays_stand keeps functions by ys (play cells threads codes y st)
        (record { holds = play_holds keeps cells threads codes y st h.holds; sends = play_sends functions cells threads codes by y st h.sends; all = play_does keeps y st h.holds h.all })

    opening_stands : FreshStands → (functions : List PlainFunction) (by : ActorsSendSound cells threads codes functions) → Standing functions by (opens cells codes)
    opening_stands fresh functions by = record {
      holds = opening_holds fresh cells threads codes;
      sends = opening_sends functions cells threads codes by;
      all = λ g has. record { goes = (0, ap (λ kd. Unfinished (opening kd [])) (sym (run_agents g has))); takes = tt };
    }

    -- an agent is explained where this holds
    explained : Lower → RefusedIsUndisturbed → (functions : List PlainFunction) (by : ActorsSendSound cells threads codes functions) → FollowsAgents code cells functions → (st : State) → Standing functions by st
        → (g : CellId) → has_agent (cells_of cells) g ≡ true → AgentExplained cells code functions st.shared.books (agent_actor cells threads g) g (st.actors (agent_actor cells threads g))
    explained lower refused functions by follows st h g has =
        let k = agent_stands st h.holds g has in
        let x = st.actors (agent_actor cells threads g) in
        let d = h.all g has in
        let r = acted_so lower refused cells threads code functions follows st.shared.books (λ n le. each_taken (λ done e. SendsSound functions e.kind) n [] (st.shared.books 0) (h.sends.books 0)) g (agent_actor cells threads g)
        (λ n le y e. next_own (cells_of cells) threads (st.shared.books 0) h.holds.shared.store.legal g has n y e) (staged g)
        x.entries (opening (agent_code code g) []).state [] x.at refl (refl, refl) (starts (agent_code code g)) d.goes k.told.hold d.takes in
        record { ran = k.ran; printed = r.printed; goes_on = r.goes_on; did = r.did; acts = r.acts; stands = r.stands }

pub run_acts_mean : Lower → RefusedIsUndisturbed → ServeKeeps → ActionStays → FreshStands → RunActsMean
run_acts_mean lower refused keeps stays fresh cells threads codes code functions ys follows run_agents staged by =
    let h = plays_stand stays cells threads code codes run_agents staged keeps functions by ys (opens cells codes) (opening_stands stays cells threads code codes run_agents staged fresh functions by) in
    record {
      sends = h.sends.books 0;
      agents = explained stays cells threads code codes run_agents staged lower refused functions by follows (plays_from cells threads codes ys (opens cells codes)) h;
    }
