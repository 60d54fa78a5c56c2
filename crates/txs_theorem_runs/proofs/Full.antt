-- An actor that was stopped for a full book is at an ask whose book is full; and each source that its code follows needs an event of the book that answers
-- the ask that it is at.
use Rattle.std.proofs.Common.{◌≡◌, ◌≤◌, ℕ, suc, Bool, true, false, ◌==◌, List, [], ◌∷◌, length, map, Option, Some, None, refl, sym, ap, ◌∙◌, subst, if◌then◌else◌}
use Rattle.txs_world_protocol.specs.Ask.{may_add_event}
use Rattle.txs_world_protocol.specs.declared.ask.Ask.{Ask}
use Rattle.txs_world_protocol.specs.declared.ask.Ask.TheVariants as ask
use Rattle.txs_world_protocol.specs.declared.ask.Reply.{Reply}
use Rattle.txs_world_protocol.specs.declared.ask.Reply.TheVariants as reply
use Rattle.txs_world_protocol.specs.declared.event.Event.{Event}
use Rattle.txs_value_cell.specs.declared.action.Action.{Action}
use Rattle.txs_value_cell.specs.declared.cell.CellDefinition.{CellDefinition}
use Rattle.txs_value_data.proofs.SameLemmas.{numbers}
use Rattle.txs_value_data.specs.Limits.{most_events}
use Rattle.txs_value_data.specs.declared.value.Value.{Value}
use Rattle.txs_tree_meaning.specs.Thread.{thread_meaning}
use Rattle.txs_code_meaning.proofs.Acts.{stated, run_more, exec_run}
use Rattle.txs_code_meaning.specs.ActorState.{ActorState}
use Rattle.txs_code_meaning.specs.Machine.{ThreadCode, Configuration, Turned, Ended, Failed, Asking, Unfinished, Stuck, and_then, turn, run}
use Rattle.txs_code_meaning.specs.Opening.{opening, target}
use Rattle.txs_theorem_threads.specs.RepliesFit.{Out, RepliesFit, book_asked, halted, HasWaitedFor}
use Rattle.txs_world.specs.Laws.{ServeKeeps}
use Rattle.txs_world.specs.Store.{takes, next_action}
use Rattle.txs_world_book.specs.Book as world
use Rattle.txs_world_book.specs.Book.{mail_after, newest}
use Rattle.txs_world_book.specs.Served.{cells_of}
use Rattle.txs_theorem_runs.specs.Full.{FullStop, SaysFull, NoneSaysFull, RunStops, WaitsAtAsk, RunWaits}
use Rattle.txs_theorem_runs.specs.Goes.{AsksAt}
use Rattle.txs_theorem_runs.specs.Invariant.{ActorInvariant, SharedStands, RunInvariant}
use Rattle.txs_theorem_runs.specs.Run as run_of
use Rattle.txs_theorem_runs.specs.Run.{Stop, Actor, stop, replied, asked, asks_for, turned, turns_from, stops_from, Play, TakesTurn, IsStopped, State, moves, actor_of, play, plays_from, opens}
use Rattle.txs_theorem_runs.specs.Shared.{Shared, book_for, serve_on, may_ask}
use Rattle.txs_theorem_runs.specs.Staged.{IsStaged}
use Rattle.txs_theorem_runs.specs.Stages.{phase_of}
use Rattle.txs_theorem_runs.specs.Told.{exchange_of, history_of}
use Rattle.txs_theorem_runs.proofs.Fits.{told_fits}
use Rattle.txs_theorem_runs.proofs.Growing.{Grown, longer, IsFull}
use Rattle.txs_theorem_runs.proofs.Lasts.{turn_waits}
use Rattle.txs_theorem_runs.proofs.Serving.{serves}
use Rattle.txs_theorem_runs.proofs.Steps.{MovedWell, moves_stand}
use Rattle.txs_theorem_runs.proofs.Whole.{Lower, FreshStands, opening_holds, all_hold}

-- ---- an ask whose book is full may add an event

takes_room : (n : ℕ) (v : Value) (o : Option Action) → IsFull (takes o n v) → ⊥
takes_room n v None h = h
takes_room n v (Some x) h = h

adds_where_full : (cells : List CellDefinition) (a : ℕ) (q : Ask) (book : List Event) → IsFull (serve_on cells a q book).reply → may_add_event q ≡ true
adds_where_full cells a ask.Begin book h = absurd h
adds_where_full cells a (ask.Look c p) book h = refl
adds_where_full cells a (ask.View cs) book h = absurd h
adds_where_full cells a (ask.Commit p sets ensured q commuted sends) book h = refl
adds_where_full cells a (ask.Fail p q) book h = refl
adds_where_full cells a (ask.Peek c) book h = refl
adds_where_full cells a (ask.Send x) book h = refl
adds_where_full cells a (ask.Take g) book h = absurd (takes_room (suc (mail_after (cells_of cells) book g.number).acts) (newest (world.opening (cells_of cells)) book g.number) (next_action (cells_of cells) book g) h)
adds_where_full cells a (ask.Finish g new sends) book h = refl
adds_where_full cells a (ask.OpenAt c) book h = absurd h
adds_where_full cells a (ask.CloseAt c p v) book h = refl
adds_where_full cells a (ask.Broke c p) book h = refl

-- ---- the stops of a run

abbrev IsOther : Option Stop → Type 0
IsOther None = Unit {0}
IsOther (Some run_of.JournalFull) = ⊥
IsOther (Some run_of.Memory) = Unit {0}
IsOther (Some run_of.TurnsSpent) = Unit {0}
IsOther (Some run_of.Unlawful) = Unit {0}

other : (o : Option Stop) → IsOther o → o ≡ Some run_of.JournalFull → ⊥
other o h e = subst IsOther e h

module _ (cells : List CellDefinition) (threads : ℕ) where
  module _ (code : ThreadCode) (a : ℕ) (sh : Shared) (x : Actor) (k : x.stopped ≡ Some run_of.JournalFull → FullStop cells code sh.books x) where
    -- the actor after its play, on the books before it
    abbrev After : Actor → Type 0
    After z = z.stopped ≡ Some run_of.JournalFull → FullStop cells code sh.books z

    -- one that wasn't stopped
    goes_on : (z : Actor) → z.stopped ≡ x.stopped → x.stopped ≡ None → After z
    goes_on z same none e = absurd (other None tt (sym none ∙ sym same ∙ e))

    replied_full : (c : Configuration) (q : Ask) (r : Reply) (n : ℕ) → x.at ≡ Unfinished c → x.stopped ≡ None → AsksAt code c q → (IsFull r → (may_add_event q ≡ true) × (most_events ≤ length (sh.books (book_for cells q)))) → After (replied code c q r n x)
    replied_full c q (reply.At p) n at none asks h = goes_on _ refl none
    replied_full c q (reply.Is v) n at none asks h = goes_on _ refl none
    replied_full c q (reply.Views p vs) n at none asks h = goes_on _ refl none
    replied_full c q reply.Done n at none asks h = goes_on _ refl none
    replied_full c q (reply.Retry d) n at none asks h = goes_on _ refl none
    replied_full c q (reply.Changed d) n at none asks h = goes_on _ refl none
    replied_full c q (reply.AgentIsFailed g) n at none asks h = goes_on _ refl none
    replied_full c q (reply.Action i y v) n at none asks h = goes_on _ refl none
    replied_full c q (reply.Opened p v) n at none asks h = goes_on _ refl none
    replied_full c q reply.Idle n at none asks h = goes_on x refl none
    replied_full c q reply.Full n at none asks h = λ e. (let f = h tt in record { place = c; at = at; ask = q; asks = asks; adds = f.0; full = f.1 })
    replied_full c q reply.Memory n at none asks h = λ e. absurd (other (Some run_of.Memory) tt e)

    asked_full : (b : Bool) (c : Configuration) (q : Ask) → x.at ≡ Unfinished c → x.stopped ≡ None → AsksAt code c q → After (asked b cells code a c q x sh).actor
    asked_full false c q at none asks = λ e. absurd (other (Some run_of.Unlawful) tt e)
    asked_full true c q at none asks =
        replied_full c q (serve_on cells a q (sh.books (book_for cells q))).reply (length (sh.books (book_for cells q))) at none asks
        (λ h. (adds_where_full cells a q (sh.books (book_for cells q)) h, (serves a (sh.books (book_for cells q)) cells q).full h))

    asks_full : (c : Configuration) (s : ActorState) (o : Option Ask) → x.at ≡ Unfinished c → x.stopped ≡ None → turn code c ≡ Asking s → s.wants ≡ o → After (asks_for cells threads code a c s o x sh).actor
    asks_full c s None at none t w = goes_on _ refl none
    asks_full c s (Some q) at none t w = asked_full (may_ask cells threads sh.taken a q (sh.books (book_for cells q))) c q at none (s, t, w)

    turned_full : (c : Configuration) (o : Turned Configuration) → x.at ≡ Unfinished c → x.stopped ≡ None → turn code c ≡ o → After (turned cells threads code a c o x sh).actor
    turned_full c (Ended s) at none t = goes_on _ refl none
    turned_full c (Failed f s) at none t = goes_on _ refl none
    turned_full c (Asking s) at none t = asks_full c s s.wants at none t refl
    turned_full c (Unfinished d) at none t = goes_on _ refl none
    turned_full c Stuck at none t = goes_on _ refl none

    turns_full : (o : Turned Configuration) (why : Option Stop) → x.at ≡ o → x.stopped ≡ why → After (turns_from cells threads code a o why x sh).actor
    turns_full (Ended s) why at w = k
    turns_full (Failed f s) why at w = k
    turns_full (Asking s) why at w = k
    turns_full (Unfinished c) None at w = turned_full c (turn code c) at w refl
    turns_full (Unfinished c) (Some s) at w = k
    turns_full Stuck why at w = k

    stopped_full : (why : Stop) → (SaysFull (IsStopped a why) → ⊥) → After (stop why x)
    stopped_full run_of.JournalFull says = λ e. absurd (says tt)
    stopped_full run_of.Memory says = λ e. absurd (other (Some run_of.Memory) tt e)
    stopped_full run_of.TurnsSpent says = λ e. absurd (other (Some run_of.TurnsSpent) tt e)
    stopped_full run_of.Unlawful says = λ e. absurd (other (Some run_of.Unlawful) tt e)

    stops_full : (why : Stop) (o : Turned Configuration) (s : Option Stop) → (SaysFull (IsStopped a why) → ⊥) → After (stops_from why o s x)
    stops_full why (Ended s) o says = k
    stops_full why (Failed f s) o says = k
    stops_full why (Asking s) o says = k
    stops_full why (Unfinished c) None says = stopped_full why says
    stops_full why (Unfinished c) (Some s) says = k
    stops_full why Stuck o says = k

  -- books only grow
  full_stays : (code : ThreadCode) (a : ℕ) (books later : ℕ → List Event) (x : Actor) → Grown a books later → FullStop cells code books x → FullStop cells code later x
  full_stays code a books later x g f =
      let n = book_for cells f.ask in
      record { place = f.place; at = f.at; ask = f.ask; asks = f.asks; adds = f.adds; full = subst (λ l. most_events ≤ length l) (sym (g.grown n)) (longer most_events (books n) (g.more n) f.full) }

  module _ (codes : ℕ → ThreadCode) where
    -- what holds between plays
    record AllFull (st : State) : Type 0 where
      shared : SharedStands cells threads st.shared
      stops : (a : ℕ) → (st.actors a).stopped ≡ Some run_of.JournalFull → FullStop cells (codes a) st.shared.books (st.actors a)

    moves_full : (y : Play) (st : State) → AllFull st → (SaysFull y → ⊥) → (moves cells threads codes y st).actor.stopped ≡ Some run_of.JournalFull → FullStop cells (codes (actor_of y)) st.shared.books (moves cells threads codes y st).actor
    moves_full (TakesTurn a) st h says = turns_full (codes a) a st.shared (st.actors a) (h.stops a) (st.actors a).at (st.actors a).stopped refl refl
    moves_full (IsStopped a why) st h says = stops_full (codes a) a st.shared (st.actors a) (h.stops a) why (st.actors a).at (st.actors a).stopped says

    play_full : ServeKeeps → (y : Play) (st : State) → AllFull st → (SaysFull y → ⊥) → AllFull (play cells threads codes y st)
    play_full keeps y st h says = record { shared = w.shared; stops = λ b. go b (actor_of y == b) refl }
      where
        w : MovedWell keeps cells threads (actor_of y) st.shared (moves cells threads codes y st)
        w = moves_stand keeps cells threads codes y st h.shared

        go : (b : ℕ) (t : Bool) → (actor_of y == b) ≡ t → (if t then (moves cells threads codes y st).actor else st.actors b).stopped ≡ Some run_of.JournalFull
            → FullStop cells (codes b) (moves cells threads codes y st).shared.books (if t then (moves cells threads codes y st).actor else st.actors b)
        go b true e = λ is.
            subst (λ i. FullStop cells (codes i) (moves cells threads codes y st).shared.books (moves cells threads codes y st).actor) (numbers (actor_of y) b e)
            (full_stays (codes (actor_of y)) (actor_of y) st.shared.books (moves cells threads codes y st).shared.books (moves cells threads codes y st).actor w.grown (moves_full y st h says is))
        go b false e = λ is. full_stays (codes b) (actor_of y) st.shared.books (moves cells threads codes y st).shared.books (st.actors b) w.grown (h.stops b is)

    plays_full : ServeKeeps → (ys : List Play) (st : State) → NoneSaysFull ys → AllFull st → AllFull (plays_from cells threads codes ys st)
    plays_full keeps [] st none h = h
    plays_full keeps (y ∷ ys) st none h = plays_full keeps ys (play cells threads codes y st) none.1 (play_full keeps y st h none.0)

    opening_full : FreshStands → AllFull (opens cells codes)
    opening_full fresh = record { shared = (opening_holds fresh cells threads codes).shared; stops = λ a e. absurd (other None tt e) }

pub run_stops : ServeKeeps → FreshStands → RunStops
run_stops keeps fresh cells threads codes ys a none is = (plays_full cells threads codes keeps ys (opens cells codes) none (opening_full cells threads codes fresh)).stops a is

-- ---- what a source means where the code asks

pub waits_at_ask : Lower → (cells : List CellDefinition) (threads : ℕ) (code : ThreadCode) (books : ℕ → List Event) (a : ℕ) (x : Actor) → ActorInvariant cells threads false code books a x → WaitsAtAsk cells code books a x
waits_at_ask by cells threads code books a x k p c q same follows at asks =
    let xs = map exchange_of x.entries in
    let hs = history_of cells books a x.entries in
    let staged = subst (λ o. IsStaged false k.stage o) at k.staged in
    let waits = turn_waits code c asks.0 staged.0 asks.1 in
    let asking : run code (suc x.turns) (opening code xs) ≡ Asking asks.0 = run_more code x.turns (opening code xs) ∙ ap (λ o. and_then o (turn code)) (k.ran ∙ at) ∙ asks.1 in
    let e : target code (suc x.turns) xs ≡ Asking asks.0 = exec_run code (suc x.turns) (opening code xs) ∙ ap (λ o. and_then o stated) asking in
    let fits : RepliesFit cells Out xs hs = by.fit cells Out xs hs (phase_of cells books k.stage) (told_fits by.stays cells threads books a x.entries k.stage k.told.hold k.told.staged) in
    let m = halted (thread_meaning p (suc x.turns) hs) in
    let h : HasWaitedFor (book_asked p.cells q) asks.0.printed m = follows.asks_so xs hs (suc x.turns) asks.0 q (subst (λ ds. RepliesFit ds Out xs hs) (sym same) fits) e waits.0 asks.2 in
    subst (λ ds. HasWaitedFor (book_asked ds q) c.state.printed m) same (subst (λ l. HasWaitedFor (book_asked p.cells q) l m) waits.1 h)

pub run_waits : Lower → ServeKeeps → FreshStands → RunWaits
run_waits by keeps fresh cells threads codes ys a known =
    let h : RunInvariant cells threads codes (plays_from cells threads codes ys (opens cells codes)) = all_hold keeps cells threads codes ys (opens cells codes) (opening_holds fresh cells threads codes) in
    waits_at_ask by cells threads (codes a) _ a _ (h.actors false a known)
