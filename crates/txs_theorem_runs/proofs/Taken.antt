-- An agent's first action is taken where its actor runs one.
use Rattle.std.proofs.Common.{◌≡◌, ◌<◌, ◌==◌, ◌&&◌, ℕ, zero, suc, Bool, true, false, nat_lt, List, [], ◌∷◌, ◌++◌, length, map, set, get_or, Option, Some, None, Result, Err, if◌then◌else◌, refl, sym, ap, ◌∙◌, subst, ◌⊎◌, inl, inr, arith}
use Rattle.std.proofs.lemmas.Bool.{false≢true}
use Rattle.std.proofs.lemmas.List.{get_or-set_same, get_or-set_other, length-set}
use Rattle.txs_world_protocol.specs.declared.ask.Ask.{Ask}
use Rattle.txs_world_protocol.specs.declared.ask.Ask.TheVariants as ask
use Rattle.txs_world_protocol.specs.declared.ask.Reply.{Reply}
use Rattle.txs_world_protocol.specs.declared.ask.Reply.TheVariants as reply
use Rattle.txs_world_protocol.specs.declared.event.Event.{Event}
use Rattle.txs_world_protocol.specs.declared.event.EventKind.{EventKind}
use Rattle.txs_world_protocol.specs.declared.event.EventKind.TheVariants as event
use Rattle.txs_value_data.proofs.SameLemmas.{and_both, numbers, number-itself}
use Rattle.txs_value_data.specs.Limits.{most_events}
use Rattle.txs_value_data.specs.Places.{fault_at}
use Rattle.txs_value_data.specs.declared.fault.Fault.{Fault}
use Rattle.txs_value_data.specs.declared.fault.FaultKind.TheVariants.{AgentFailed}
use Rattle.txs_value_data.specs.declared.fault.Span.{Span}
use Rattle.txs_value_cell.specs.declared.action.Action.{Action}
use Rattle.txs_value_cell.specs.declared.cell.CellDefinition.{CellDefinition}
use Rattle.txs_value_data.specs.declared.value.CellId.{CellId}
use Rattle.txs_value_data.specs.declared.value.CellKind.TheVariants.{Agent}
use Rattle.txs_value_data.specs.declared.value.Value.{Value}
use Rattle.txs_code_meaning.specs.ActorState.{ActorState}
use Rattle.txs_code_meaning.specs.Machine.{ThreadCode, Configuration, Turned, Ended, Failed, Asking, Unfinished, Stuck, turn}
use Rattle.txs_code_meaning.specs.Opening.{given}
use Rattle.txs_world_book.specs.Book.{has_agent, first_failed, mail_after}
use Rattle.txs_world_book.specs.Book as world
use Rattle.txs_world_book.specs.Served.{served, event_of, cells_of}
use Rattle.txs_world_book.specs.declared.cell.StoreCell.{StoreCell}
use Rattle.txs_world.specs.Laws.{ServeKeeps}
use Rattle.txs_world.specs.Store.{none_taken, is_taken, finishes, span_of, hands_out, is_over, taken_after}
use Rattle.txs_theorem_runs.specs.Invariant.{ActorInvariant, RunInvariant}
use Rattle.txs_theorem_runs.specs.Finished.{is_finish}
use Rattle.txs_theorem_runs.specs.Run.{Stop, Actor, Moved, entry, replied, asked, asks_for, turned, turns_from, stops_from, Play, TakesTurn, IsStopped, State, moves, actor_of, play, plays_from, opens}
use Rattle.txs_theorem_runs.specs.Run as run_of
use Rattle.txs_theorem_runs.specs.Shared.{Shared, book_for, serve_on, may_ask}
use Rattle.txs_theorem_runs.specs.Staged.{StagedActor, IsStaged, StagedFrom}
use Rattle.txs_theorem_runs.specs.Stages.{Stage, Resting, Idle, Open, Viewing, Swapping, AsksIn, stage_after}
use Rattle.txs_theorem_runs.specs.Told.{Entry, exchange_of, IsExchanged, AreStaged}
use Rattle.txs_theorem_runs.proofs.Acting.{agent_at, agent_there, one_agent}
use Rattle.txs_theorem_runs.proofs.Busy.{IsBusy, busy_after}
use Rattle.txs_theorem_runs.proofs.Steps.{play_holds}
use Rattle.txs_theorem_runs.proofs.Whole.{FreshStands, opening_holds}

-- whether an agent's actor runs an action in this stage
abbrev pub is_busy : Stage → Bool
is_busy Resting = false
is_busy _ = true

busy_is : (st : Stage) → IsBusy st → is_busy st ≡ true
busy_is Resting h = absurd h
busy_is Idle h = refl
busy_is (Open at) h = refl
busy_is (Viewing at view) h = refl
busy_is (Swapping c at) h = refl

rests_or : (st : Stage) → (st ≡ Resting) ⊎ IsBusy st
rests_or Resting = inl refl
rests_or Idle = inr tt
rests_or (Open at) = inr tt
rests_or (Viewing at view) = inr tt
rests_or (Swapping c at) = inr tt

-- the stage behind these entries
abbrev pub stage_by : Stage → List Entry → Stage
stage_by st [] = st
stage_by st (e ∷ es) = stage_by (stage_after st e.ask e.reply) es

pub stage_is : (agent : Bool) (st : Stage) (es : List Entry) (end : Stage) → AreStaged agent st es end → stage_by st es ≡ end
stage_is agent st [] end h = h
stage_is agent st (e ∷ es) end h = stage_is agent (stage_after st e.ask e.reply) es end h.1

stage_more : (st : Stage) (es : List Entry) (e : Entry) → stage_by st (es ++ e ∷ []) ≡ stage_after (stage_by st es) e.ask e.reply
stage_more st [] e = refl
stage_more st (x ∷ es) e = stage_more (stage_after st x.ask x.reply) es e

-- the end of an action that is taken says that it is over
over_added : (b : Bool) (a : ℕ) (kind : EventKind) (r : Reply) (book : List Event) → is_over r ≡ true → IsExchanged (if b then served r (book ++ event_of a kind ∷ []) else served reply.Full book).reply
    → is_over (if b then served r (book ++ event_of a kind ∷ []) else served reply.Full book).reply ≡ true
over_added true a kind r book e h = e
over_added false a kind r book e h = absurd h

over_finished : (o : Option CellId) (a : ℕ) (g : CellId) (n : ℕ) (new : Result Value Fault) (sends : List Action) (span : Span) (book : List Event) → IsExchanged (finishes o a g n new sends span book).reply → is_over (finishes o a g n new sends span book).reply ≡ true
over_finished None a g n new sends span book h = over_added (nat_lt (length book) most_events) a (event.Act g n new sends) reply.Done book refl h
over_finished (Some k) a g n new sends span book h = over_added (nat_lt (length book) most_events) a (event.Act g n (Err (fault_at AgentFailed span)) []) (reply.AgentIsFailed k) book refl h

-- a reply that hands an action out, or one that doesn't
handed_stage : (g : CellId) (r : Reply) → is_busy (stage_after Resting (ask.Take g) r) ≡ hands_out r
handed_stage g (reply.At p) = refl
handed_stage g (reply.Is v) = refl
handed_stage g (reply.Views p vs) = refl
handed_stage g reply.Done = refl
handed_stage g (reply.Retry c) = refl
handed_stage g (reply.Changed c) = refl
handed_stage g (reply.AgentIsFailed h) = refl
handed_stage g (reply.Action n x v) = refl
handed_stage g reply.Idle = refl
handed_stage g (reply.Opened p v) = refl
handed_stage g reply.Full = refl
handed_stage g reply.Memory = refl

-- ---- flags

abbrev flag : List Bool → ℕ → Bool
flag taken k = get_or taken k false

set_false : (taken : List Bool) (k : ℕ) → flag (set taken k false) k ≡ false
set_false [] k = refl
set_false (b ∷ bs) zero = refl
set_false (b ∷ bs) (suc k) = set_false bs k

none_flag : (cells : List StoreCell) (k : ℕ) → flag (none_taken cells) k ≡ false
none_flag [] k = refl
none_flag (c ∷ cells) zero = refl
none_flag (c ∷ cells) (suc k) = none_flag cells k

none_length : (cells : List StoreCell) → length (none_taken cells) ≡ length cells
none_length [] = refl
none_length (c ∷ cells) = ap suc (none_length cells)

within : (cells : List StoreCell) (k : ℕ) → agent_at cells k ≡ true → k < length cells
within [] k h = absurd (false≢true h)
within (c ∷ cells) zero h = omega arith
within (c ∷ cells) (suc k) h = let r = within cells k h in omega (arith, r)

taken_length : (q : Ask) (r : Reply) (taken : List Bool) → length (taken_after q r taken) ≡ length taken
taken_length (ask.Take g) r taken = go (hands_out r)
  where
    go : (b : Bool) → length (if b then set taken g.number true else taken) ≡ length taken
    go true = length-set taken g.number true
    go false = refl
taken_length (ask.Finish g new sends) r taken = go (is_over r)
  where
    go : (b : Bool) → length (if b then set taken g.number false else taken) ≡ length taken
    go true = length-set taken g.number false
    go false = refl
taken_length ask.Begin r taken = refl
taken_length (ask.Look c p) r taken = refl
taken_length (ask.View cs) r taken = refl
taken_length (ask.Commit p sets ensured q commuted sends) r taken = refl
taken_length (ask.Fail p q) r taken = refl
taken_length (ask.Peek c) r taken = refl
taken_length (ask.Send x) r taken = refl
taken_length (ask.OpenAt c) r taken = refl
taken_length (ask.CloseAt c p v) r taken = refl
taken_length (ask.Broke c p) r taken = refl

module _ (cells : List CellDefinition) (threads : ℕ) (g : CellId) (has : has_agent (cells_of cells) g ≡ true) where
  abbrev a : ℕ
  a = world.actor_of threads (cells_of cells) g

  -- another actor's asks leave the agent's flag
  other_set : (b : ℕ) (h : CellId) (v : Bool) (taken : List Bool) → (b ≡ a → ⊥) → (b == world.actor_of threads (cells_of cells) h) ≡ true → flag (set taken h.number v) g.number ≡ flag taken g.number
  other_set b h v taken isnt e =
      get_or-set_other taken h.number g.number v false (λ i. isnt (numbers b (world.actor_of threads (cells_of cells) h) e ∙ ap (λ k. world.actor_of threads (cells_of cells) (record { number = k; kind = Agent })) (sym i)))

  other_taken : (b : ℕ) (q : Ask) (r : Reply) (taken : List Bool) (book : List Event) → (b ≡ a → ⊥) → may_ask cells threads taken b q book ≡ true → is_taken (taken_after q r taken) g ≡ is_taken taken g
  other_taken b (ask.Take h) r taken book isnt may = go (hands_out r)
    where
      go : (t : Bool) → flag (if t then set taken h.number true else taken) g.number ≡ flag taken g.number
      go true = other_set b h true taken isnt (and_both (b == world.actor_of threads (cells_of cells) h) _ may).0
      go false = refl
  other_taken b (ask.Finish h new sends) r taken book isnt may = go (is_over r)
    where
      go : (t : Bool) → flag (if t then set taken h.number false else taken) g.number ≡ flag taken g.number
      go true = other_set b h false taken isnt (and_both (b == world.actor_of threads (cells_of cells) h) _ may).0
      go false = refl
  other_taken b ask.Begin r taken book isnt may = refl
  other_taken b (ask.Look c p) r taken book isnt may = refl
  other_taken b (ask.View cs) r taken book isnt may = refl
  other_taken b (ask.Commit p sets ensured q commuted sends) r taken book isnt may = refl
  other_taken b (ask.Fail p q) r taken book isnt may = refl
  other_taken b (ask.Peek c) r taken book isnt may = refl
  other_taken b (ask.Send x) r taken book isnt may = refl
  other_taken b (ask.OpenAt c) r taken book isnt may = refl
  other_taken b (ask.CloseAt c p v) r taken book isnt may = refl
  other_taken b (ask.Broke c p) r taken book isnt may = refl

  -- ---- the agent's actor

  module _ (taken : List Bool) (long : length taken ≡ length (cells_of cells)) (st : Stage) (e : is_taken taken g ≡ is_busy st) where
    -- an ask that takes nothing and hands nothing in
    kept : (q : Ask) (r : Reply) → is_finish q ≡ false → (AsksIn true Resting q → ⊥) → AsksIn true st q → is_taken taken g ≡ is_busy (stage_after st q r)
    kept q r isnt none ok = by (rests_or st)
      where
        by : (st ≡ Resting) ⊎ IsBusy st → is_taken taken g ≡ is_busy (stage_after st q r)
        by (inl i) = absurd (none (subst (λ s. AsksIn true s q) i ok))
        by (inr busy) = e ∙ busy_is st busy ∙ sym (busy_is (stage_after st q r) (busy_after st q r isnt busy))

    -- the agent that is named is this one
    same_agent : (h : CellId) (rest : Bool) → ((a == world.actor_of threads (cells_of cells) h) && (has_agent (cells_of cells) h && rest)) ≡ true → h ≡ g
    same_agent h rest may =
        let m = and_both (a == world.actor_of threads (cells_of cells) h) _ may in
        let n = and_both (has_agent (cells_of cells) h) rest m.1 in
        sym (one_agent (cells_of cells) threads g h has n.0 (numbers a (world.actor_of threads (cells_of cells) h) m.0))

    takes_so : (h : CellId) (r : Reply) → h ≡ g → AsksIn true st (ask.Take h) → is_taken (taken_after (ask.Take h) r taken) g ≡ is_busy (stage_after st (ask.Take h) r)
    takes_so h r i ok = by (rests_or st)
      where
        there : g.number < length taken
        there = subst (λ n. g.number < n) (sym long) (within (cells_of cells) g.number (agent_there (cells_of cells) g has).1)

        set_so : (t : Bool) → is_busy st ≡ false → flag (if t then set taken h.number true else taken) g.number ≡ t
        set_so true none = subst (λ k. flag (set taken k.number true) g.number ≡ true) (sym i) (get_or-set_same taken g.number true false there)
        set_so false none = e ∙ none

        by : (st ≡ Resting) ⊎ IsBusy st → is_taken (taken_after (ask.Take h) r taken) g ≡ is_busy (stage_after st (ask.Take h) r)
        by (inl rest) = set_so (hands_out r) (ap is_busy rest) ∙ sym (ap (λ s. is_busy (stage_after s (ask.Take h) r)) rest ∙ handed_stage h r)
        by (inr busy) = absurd (never st busy ok)
          where
            never : (s : Stage) → IsBusy s → AsksIn true s (ask.Take h) → ⊥
            never Resting b k = b
            never Idle b k = k
            never (Open at) b k = k
            never (Viewing at view) b k = k
            never (Swapping d at) b k = k

    hands_so : (h : CellId) (new : Result Value Fault) (sends : List Action) (r : Reply) → h ≡ g → is_over r ≡ true → AsksIn true st (ask.Finish h new sends) → is_taken (taken_after (ask.Finish h new sends) r taken) g ≡ is_busy (stage_after st (ask.Finish h new sends) r)
    hands_so h new sends r i over ok =
        ap (λ b. flag (if b then set taken h.number false else taken) g.number) over ∙ subst (λ k. flag (set taken k.number false) g.number ≡ false) (sym i) (set_false taken g.number) ∙ sym (rests st ok)
      where
        rests : (s : Stage) → AsksIn true s (ask.Finish h new sends) → is_busy (stage_after s (ask.Finish h new sends) r) ≡ false
        rests Resting k = absurd k
        rests Idle k = refl
        rests (Open at) k = refl
        rests (Viewing at view) k = absurd k
        rests (Swapping d at) k = absurd k

    own_taken : (q : Ask) (book : List Event) → may_ask cells threads taken a q book ≡ true → IsExchanged (serve_on cells a q book).reply → AsksIn true st q
        → is_taken (taken_after q (serve_on cells a q book).reply taken) g ≡ is_busy (stage_after st q (serve_on cells a q book).reply)
    own_taken (ask.Take h) book may ex ok = takes_so h (serve_on cells a (ask.Take h) book).reply (same_agent h _ may) ok
    own_taken (ask.Finish h new sends) book may ex ok =
        hands_so h new sends (serve_on cells a (ask.Finish h new sends) book).reply (same_agent h _ may)
        (over_finished (first_failed (cells_of cells) book sends) a h (suc (mail_after (cells_of cells) book h.number).acts) new sends (span_of (mail_after (cells_of cells) book h.number).actions) book ex) ok
    own_taken ask.Begin book may ex ok = kept ask.Begin (serve_on cells a ask.Begin book).reply refl (λ x. x) ok
    own_taken (ask.Look c p) book may ex ok = kept (ask.Look c p) (serve_on cells a (ask.Look c p) book).reply refl (λ x. x) ok
    own_taken (ask.View cs) book may ex ok = kept (ask.View cs) (serve_on cells a (ask.View cs) book).reply refl (λ x. x) ok
    own_taken (ask.Commit p sets ensured q commuted sends) book may ex ok = kept (ask.Commit p sets ensured q commuted sends) (serve_on cells a (ask.Commit p sets ensured q commuted sends) book).reply refl (λ x. x) ok
    own_taken (ask.Fail p q) book may ex ok = kept (ask.Fail p q) (serve_on cells a (ask.Fail p q) book).reply refl (λ x. x) ok
    own_taken (ask.Peek c) book may ex ok = kept (ask.Peek c) (serve_on cells a (ask.Peek c) book).reply refl (λ x. x) ok
    own_taken (ask.Send x) book may ex ok = kept (ask.Send x) (serve_on cells a (ask.Send x) book).reply refl (λ y. y) ok
    own_taken (ask.OpenAt c) book may ex ok = kept (ask.OpenAt c) (serve_on cells a (ask.OpenAt c) book).reply refl (λ x. x) ok
    own_taken (ask.CloseAt c p v) book may ex ok = kept (ask.CloseAt c p v) (serve_on cells a (ask.CloseAt c p v) book).reply refl (λ x. x) ok
    own_taken (ask.Broke c p) book may ex ok = kept (ask.Broke c p) (serve_on cells a (ask.Broke c p) book).reply refl (λ x. x) ok

-- a reply that isn't taken leaves the flags
left_taken : (q : Ask) (r : Reply) (taken : List Bool) → (IsExchanged r → ⊥) → taken_after q r taken ≡ taken
left_taken q (reply.At p) taken isnt = absurd (isnt tt)
left_taken q (reply.Is v) taken isnt = absurd (isnt tt)
left_taken q (reply.Views p vs) taken isnt = absurd (isnt tt)
left_taken q reply.Done taken isnt = absurd (isnt tt)
left_taken q (reply.Retry c) taken isnt = absurd (isnt tt)
left_taken q (reply.Changed c) taken isnt = absurd (isnt tt)
left_taken q (reply.AgentIsFailed h) taken isnt = absurd (isnt tt)
left_taken q (reply.Action n x v) taken isnt = absurd (isnt tt)
left_taken q (reply.Opened p v) taken isnt = absurd (isnt tt)
left_taken q reply.Idle taken isnt = idle q
  where
    idle : (q : Ask) → taken_after q reply.Idle taken ≡ taken
    idle ask.Begin = refl
    idle (ask.Look c p) = refl
    idle (ask.View cs) = refl
    idle (ask.Commit p sets ensured q commuted sends) = refl
    idle (ask.Fail p q) = refl
    idle (ask.Peek c) = refl
    idle (ask.Send x) = refl
    idle (ask.Take g) = refl
    idle (ask.Finish g new sends) = refl
    idle (ask.OpenAt c) = refl
    idle (ask.CloseAt c p v) = refl
    idle (ask.Broke c p) = refl
left_taken q reply.Full taken isnt = full q
  where
    full : (q : Ask) → taken_after q reply.Full taken ≡ taken
    full ask.Begin = refl
    full (ask.Look c p) = refl
    full (ask.View cs) = refl
    full (ask.Commit p sets ensured q commuted sends) = refl
    full (ask.Fail p q) = refl
    full (ask.Peek c) = refl
    full (ask.Send x) = refl
    full (ask.Take g) = refl
    full (ask.Finish g new sends) = refl
    full (ask.OpenAt c) = refl
    full (ask.CloseAt c p v) = refl
    full (ask.Broke c p) = refl
left_taken q reply.Memory taken isnt = none q
  where
    none : (q : Ask) → taken_after q reply.Memory taken ≡ taken
    none ask.Begin = refl
    none (ask.Look c p) = refl
    none (ask.View cs) = refl
    none (ask.Commit p sets ensured q commuted sends) = refl
    none (ask.Fail p q) = refl
    none (ask.Peek c) = refl
    none (ask.Send x) = refl
    none (ask.Take g) = refl
    none (ask.Finish g new sends) = refl
    none (ask.OpenAt c) = refl
    none (ask.CloseAt c p v) = refl
    none (ask.Broke c p) = refl

-- ---- plays

module _ (cells : List CellDefinition) (threads : ℕ) where
  -- a flag for each cell
  abbrev Long : Shared → Type 0
  Long sh = length sh.taken ≡ length (cells_of cells)

  module _ (code : ThreadCode) (b : ℕ) (sh : Shared) (x : Actor) where
    long_asked : Long sh → (t : Bool) (c : Configuration) (q : Ask) → Long (asked t cells code b c q x sh).shared
    long_asked h false c q = h
    long_asked h true c q = taken_length q (serve_on cells b q (sh.books (book_for cells q))).reply sh.taken ∙ h

    long_wants : Long sh → (c : Configuration) (s : ActorState) (o : Option Ask) → Long (asks_for cells threads code b c s o x sh).shared
    long_wants h c s None = h
    long_wants h c s (Some q) = long_asked h (may_ask cells threads sh.taken b q (sh.books (book_for cells q))) c q

    long_turned : Long sh → (c : Configuration) (o : Turned Configuration) → Long (turned cells threads code b c o x sh).shared
    long_turned h c (Ended s) = h
    long_turned h c (Failed f s) = h
    long_turned h c (Asking s) = long_wants h c s s.wants
    long_turned h c (Unfinished d) = h
    long_turned h c Stuck = h

    long_turns : Long sh → (o : Turned Configuration) (why : Option Stop) → Long (turns_from cells threads code b o why x sh).shared
    long_turns h (Ended s) why = h
    long_turns h (Failed f s) why = h
    long_turns h (Asking s) why = h
    long_turns h (Unfinished c) None = long_turned h c (turn code c)
    long_turns h (Unfinished c) (Some w) = h
    long_turns h Stuck why = h

  module _ (g : CellId) (has : has_agent (cells_of cells) g ≡ true) where
    abbrev mine : ℕ
    mine = world.actor_of threads (cells_of cells) g

    -- ---- another actor

    module _ (code : ThreadCode) (b : ℕ) (isnt : b ≡ mine → ⊥) (sh : Shared) (x : Actor) where
      abbrev Stays : Moved → Type 0
      Stays m = is_taken m.shared.taken g ≡ is_taken sh.taken g

      other_asked : (t : Bool) (c : Configuration) (q : Ask) → may_ask cells threads sh.taken b q (sh.books (book_for cells q)) ≡ t → Stays (asked t cells code b c q x sh)
      other_asked false c q may = refl
      other_asked true c q may = other_taken cells threads g has b q (serve_on cells b q (sh.books (book_for cells q))).reply sh.taken (sh.books (book_for cells q)) isnt may

      other_wants : (c : Configuration) (s : ActorState) (o : Option Ask) → Stays (asks_for cells threads code b c s o x sh)
      other_wants c s None = refl
      other_wants c s (Some q) = other_asked (may_ask cells threads sh.taken b q (sh.books (book_for cells q))) c q refl

      other_turned : (c : Configuration) (o : Turned Configuration) → Stays (turned cells threads code b c o x sh)
      other_turned c (Ended s) = refl
      other_turned c (Failed f s) = refl
      other_turned c (Asking s) = other_wants c s s.wants
      other_turned c (Unfinished d) = refl
      other_turned c Stuck = refl

      other_turns : (o : Turned Configuration) (why : Option Stop) → Stays (turns_from cells threads code b o why x sh)
      other_turns (Ended s) why = refl
      other_turns (Failed f s) why = refl
      other_turns (Asking s) why = refl
      other_turns (Unfinished c) None = other_turned c (turn code c)
      other_turns (Unfinished c) (Some w) = refl
      other_turns Stuck why = refl

    -- ---- the agent's actor

    -- the flag says what the actor's entries say
    abbrev Synced : Shared → Actor → Type 0
    Synced sh x = is_taken sh.taken g ≡ is_busy (stage_by Resting x.entries)

    abbrev After : Moved → Type 0
    After m = Synced m.shared m.actor

    module _ (code : ThreadCode) (known : StagedActor true code) (sh : Shared) (long : Long sh) (x : Actor) (k : ActorInvariant cells threads true code sh.books mine x) (h : Synced sh x) where
      here : stage_by Resting x.entries ≡ k.stage
      here = stage_is true Resting x.entries k.stage k.told.staged

      module _ (c : Configuration) (q : Ask) (may : may_ask cells threads sh.taken mine q (sh.books (book_for cells q)) ≡ true) (ok : AsksIn true k.stage q) where
        abbrev r0 : Reply
        r0 = (serve_on cells mine q (sh.books (book_for cells q))).reply

        abbrev size : ℕ
        size = length (sh.books (book_for cells q))

        heard_so : IsExchanged r0 → is_taken (taken_after q r0 sh.taken) g ≡ is_busy (stage_by Resting (x.entries ++ entry q r0 size ∷ []))
        heard_so ex =
            own_taken cells threads g has sh.taken long k.stage (h ∙ ap is_busy here) q (sh.books (book_for cells q)) may ex ok
            ∙ sym (ap is_busy (stage_more Resting x.entries (entry q r0 size) ∙ ap (λ s. stage_after s q r0) here))

        left_so : (IsExchanged r0 → ⊥) → is_taken (taken_after q r0 sh.taken) g ≡ is_busy (stage_by Resting x.entries)
        left_so isnt = ap (λ l. is_taken l g) (left_taken q r0 sh.taken isnt) ∙ h

        replied_so : (r : Reply) (flags : List Bool) → (IsExchanged r → is_taken flags g ≡ is_busy (stage_by Resting (x.entries ++ entry q r size ∷ []))) → ((IsExchanged r → ⊥) → is_taken flags g ≡ is_busy (stage_by Resting x.entries))
            → is_taken flags g ≡ is_busy (stage_by Resting (replied code c q r size x).entries)
        replied_so (reply.At p) flags does left = does tt
        replied_so (reply.Is w) flags does left = does tt
        replied_so (reply.Views p vs) flags does left = does tt
        replied_so reply.Done flags does left = does tt
        replied_so (reply.Retry d) flags does left = does tt
        replied_so (reply.Changed d) flags does left = does tt
        replied_so (reply.AgentIsFailed d) flags does left = does tt
        replied_so (reply.Action n y w) flags does left = does tt
        replied_so (reply.Opened p w) flags does left = does tt
        replied_so reply.Idle flags does left = left (λ u. u)
        replied_so reply.Full flags does left = left (λ u. u)
        replied_so reply.Memory flags does left = left (λ u. u)

      own_asked : (t : Bool) (c : Configuration) (q : Ask) → may_ask cells threads sh.taken mine q (sh.books (book_for cells q)) ≡ t → AsksIn true k.stage q → After (asked t cells code mine c q x sh)
      own_asked false c q may ok = h
      own_asked true c q may ok =
          replied_so c q may ok (serve_on cells mine q (sh.books (book_for cells q))).reply (taken_after q (serve_on cells mine q (sh.books (book_for cells q))).reply sh.taken) (heard_so c q may ok) (left_so c q may ok)

      own_turned : (c : Configuration) (o : Turned Configuration) → StagedFrom true k.stage o (λ q r. turn code (given (run_of.exchange q r ∷ []) c)) → After (turned cells threads code mine c o x sh)
      own_turned c (Ended s) f = h
      own_turned c (Failed y s) f = h
      own_turned c (Asking s) f = subst (λ o. After (asks_for cells threads code mine c s o x sh)) (sym f.1) (own_asked (may_ask cells threads sh.taken mine f.0 (sh.books (book_for cells f.0))) c f.0 refl f.2)
      own_turned c (Unfinished d) f = h
      own_turned c Stuck f = h

      own_turns : (o : Turned Configuration) (why : Option Stop) → x.at ≡ o → After (turns_from cells threads code mine o why x sh)
      own_turns (Ended s) why e = h
      own_turns (Failed f s) why e = h
      own_turns (Asking s) why e = h
      own_turns (Unfinished c) None e =
          let s = subst (λ o. IsStaged true k.stage o) e k.staged in
          own_turned c (turn code c) (known x.turns (map exchange_of x.entries) c (k.ran ∙ e) s.0 k.stage s.1)
      own_turns (Unfinished c) (Some w) e = h
      own_turns Stuck why e = h

      own_stops : (why : Stop) (o : Turned Configuration) (w : Option Stop) → Synced sh (stops_from why o w x)
      own_stops why (Ended s) w = h
      own_stops why (Failed f s) w = h
      own_stops why (Asking s) w = h
      own_stops why (Unfinished c) None = h
      own_stops why (Unfinished c) (Some y) = h
      own_stops why Stuck w = h

  -- ---- runs

  module _ (codes : ℕ → ThreadCode) (keeps : ServeKeeps) where
    -- what holds between plays
    record Stands (st : State) : Type 0 where
      holds : RunInvariant cells threads codes st
      long : Long st.shared
      synced : (g : CellId) (has : has_agent (cells_of cells) g ≡ true) → StagedActor true (codes (world.actor_of threads (cells_of cells) g)) → Synced g has st.shared (st.actors (world.actor_of threads (cells_of cells) g))

    play_stands : (y : Play) (st : State) → Stands st → Stands (play cells threads codes y st)
    play_stands y st h = record { holds = play_holds keeps cells threads codes y st h.holds; long = long_so y; synced = λ g has known. go g has known (actor_of y == mine g has) refl }
      where
        long_so : (y : Play) → Long (moves cells threads codes y st).shared
        long_so (TakesTurn b) = long_turns (codes b) b st.shared (st.actors b) h.long (st.actors b).at (st.actors b).stopped
        long_so (IsStopped b why) = h.long

        other : (g : CellId) (has : has_agent (cells_of cells) g ≡ true) (y : Play) → (actor_of y ≡ mine g has → ⊥) → is_taken (moves cells threads codes y st).shared.taken g ≡ is_taken st.shared.taken g
        other g has (TakesTurn b) isnt = other_turns g has (codes b) b isnt st.shared (st.actors b) (st.actors b).at (st.actors b).stopped
        other g has (IsStopped b why) isnt = refl

        same : (g : CellId) (has : has_agent (cells_of cells) g ≡ true) (known : StagedActor true (codes (mine g has))) (y : Play) → actor_of y ≡ mine g has → After g has (moves cells threads codes y st)
        same g has known (TakesTurn b) e =
            subst (λ i. After g has (moves cells threads codes (TakesTurn i) st)) (sym e)
            (own_turns g has (codes (mine g has)) known st.shared h.long (st.actors (mine g has)) (h.holds.actors true (mine g has) known) (h.synced g has known) (st.actors (mine g has)).at (st.actors (mine g has)).stopped refl)
        same g has known (IsStopped b why) e =
            subst (λ i. After g has (moves cells threads codes (IsStopped i why) st)) (sym e)
            (own_stops g has (codes (mine g has)) known st.shared h.long (st.actors (mine g has)) (h.holds.actors true (mine g has) known) (h.synced g has known) why (st.actors (mine g has)).at (st.actors (mine g has)).stopped)

        go : (g : CellId) (has : has_agent (cells_of cells) g ≡ true) (known : StagedActor true (codes (mine g has))) (t : Bool) → (actor_of y == mine g has) ≡ t
            → is_taken (moves cells threads codes y st).shared.taken g ≡ is_busy (stage_by Resting (if t then (moves cells threads codes y st).actor else st.actors (mine g has)).entries)
        go g has known true e = same g has known y (numbers (actor_of y) (mine g has) e)
        go g has known false e =
            other g has y (λ i. false≢true (sym e ∙ ap (λ j. actor_of y == j) (sym i) ∙ number-itself (actor_of y))) ∙ h.synced g has known

    plays_stand : (ys : List Play) (st : State) → Stands st → Stands (plays_from cells threads codes ys st)
    plays_stand [] st h = h
    plays_stand (y ∷ ys) st h = plays_stand ys (play cells threads codes y st) (play_stands y st h)

    opening_stands : FreshStands → Stands (opens cells codes)
    opening_stands fresh = record { holds = opening_holds fresh cells threads codes; long = none_length (cells_of cells); synced = λ g has known. none_flag (cells_of cells) g.number }

    -- so it is behind any plays
    pub taken_so : FreshStands → (ys : List Play) (g : CellId) (has : has_agent (cells_of cells) g ≡ true) → StagedActor true (codes (world.actor_of threads (cells_of cells) g))
        → is_taken (plays_from cells threads codes ys (opens cells codes)).shared.taken g ≡ is_busy (stage_by Resting ((plays_from cells threads codes ys (opens cells codes)).actors (world.actor_of threads (cells_of cells) g)).entries)
    taken_so fresh ys g has known = (plays_stand ys (opens cells codes) (opening_stands fresh)).synced g has known
