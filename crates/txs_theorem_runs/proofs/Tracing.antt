-- The trace of each actor names its own events and no others, whatever its code asks.
use Rattle.std.proofs.Common.{◌≡◌, ℕ, suc, Bool, true, false, ◌==◌, List, [], ◌∷◌, ◌++◌, length, Option, Some, None, refl, sym, ap, ◌∙◌, subst, arith, if◌then◌else◌}
use Rattle.std.proofs.lemmas.Bool.{false≢true}
use Rattle.txs_world_protocol.specs.declared.ask.Ask.{Ask}
use Rattle.txs_world_protocol.specs.declared.ask.Reply.{Reply}
use Rattle.txs_world_protocol.specs.declared.ask.Reply.TheVariants as reply
use Rattle.txs_world_protocol.specs.declared.event.Event.{Event}
use Rattle.txs_value_data.proofs.SameLemmas.{numbers, number-itself}
use Rattle.txs_value_cell.specs.declared.cell.CellDefinition.{CellDefinition}
use Rattle.txs_code_meaning.specs.ActorState.{ActorState}
use Rattle.txs_code_meaning.specs.Machine.{ThreadCode, Configuration, Turned, Ended, Failed, Asking, Unfinished, Stuck, turn}
use Rattle.txs_world.specs.Laws.{ServeKeeps}
use Rattle.txs_world_book.specs.Served.{Served}
use Rattle.txs_theorem_runs.specs.Invariant.{SharedStands}
use Rattle.txs_theorem_runs.specs.Report.{RunTraced}
use Rattle.txs_theorem_runs.specs.Run.{Stop, Actor, Moved, entry, replied, asked, asks_for, turned, turns_from, stops_from, Play, TakesTurn, IsStopped, State, moves, actor_of, play, plays_from, opens}
use Rattle.txs_theorem_runs.specs.Shared.{Shared, book_for, serve_on, may_ask}
use Rattle.txs_theorem_runs.specs.Told.{Entry, IsExchanged, AllHold, trace_of, TraceHolds}
use Rattle.txs_theorem_runs.proofs.Growing.{Grown, Serves, all_stay, traced_stays, nothing_served, own_hold, own_traced}
use Rattle.txs_theorem_runs.proofs.Serving.{serves}
use Rattle.txs_theorem_runs.proofs.Steps.{MovedWell, moves_stand}
use Rattle.txs_theorem_runs.proofs.Whole.{FreshStands, opening_holds}

module _ (cells : List CellDefinition) (threads : ℕ) where
  -- entries that hold, with their trace
  record Traced (books : ℕ → List Event) (a : ℕ) (es : List Entry) : Type 0 where
    hold : AllHold cells threads books a es
    traced : TraceHolds books a (trace_of cells books a es)

  -- what another actor adds leaves them
  others_traced : (a b : ℕ) (books later : ℕ → List Event) → Grown a books later → (a ≡ b → ⊥) → (es : List Entry) → Traced books b es → Traced later b es
  others_traced a b books later g n es k = record { hold = all_stay cells threads a b books later g es k.hold; traced = traced_stays cells threads a b books later g n es k.hold k.traced }

  module _ (code : ThreadCode) (a : ℕ) (sh : Shared) (x : Actor) (k : Traced sh.books a x.entries) where
    -- the actor's entries after its play
    abbrev After : Moved → Type 0
    After m = Traced m.shared.books a m.actor.entries

    replied_traced : (c : Configuration) (q : Ask) (r : Reply) (n : ℕ) (later : ℕ → List Event) → (IsExchanged r → Traced later a (x.entries ++ entry q r n ∷ [])) → ((IsExchanged r → ⊥) → Traced later a x.entries)
        → Traced later a (replied code c q r n x).entries
    replied_traced c q (reply.At p) n later own left = own tt
    replied_traced c q (reply.Is v) n later own left = own tt
    replied_traced c q (reply.Views p vs) n later own left = own tt
    replied_traced c q reply.Done n later own left = own tt
    replied_traced c q (reply.Retry d) n later own left = own tt
    replied_traced c q (reply.Changed d) n later own left = own tt
    replied_traced c q (reply.AgentIsFailed g) n later own left = own tt
    replied_traced c q (reply.Action i y v) n later own left = own tt
    replied_traced c q (reply.Opened p v) n later own left = own tt
    replied_traced c q reply.Idle n later own left = left (λ e. e)
    replied_traced c q reply.Full n later own left = left (λ e. e)
    replied_traced c q reply.Memory n later own left = left (λ e. e)

    asked_traced : (t : Bool) (c : Configuration) (q : Ask) → may_ask cells threads sh.taken a q (sh.books (book_for cells q)) ≡ t → After (asked t cells code a c q x sh)
    asked_traced false c q may = k
    asked_traced true c q may =
        replied_traced c q v.reply (length (sh.books (book_for cells q))) (λ n. if n == book_for cells q then v.book else sh.books n)
        (λ ex. record {
          hold = own_hold cells threads a sh.books q sh.taken may v refl s ex x.entries k.hold;
          traced = own_traced cells threads a sh.books q sh.taken may v refl s x.entries k.hold k.traced;
        })
        (λ n. others_traced (suc a) a sh.books (λ n. if n == book_for cells q then v.book else sh.books n) (nothing_served cells threads a sh.books q sh.taken may v refl s (s.stays n)) (λ e. absurd (omega (arith, e))) x.entries k)
      where
        v : Served
        v = serve_on cells a q (sh.books (book_for cells q))

        s : Serves a (sh.books (book_for cells q)) v
        s = serves a (sh.books (book_for cells q)) cells q

    asks_traced : (c : Configuration) (s : ActorState) (o : Option Ask) → After (asks_for cells threads code a c s o x sh)
    asks_traced c s None = k
    asks_traced c s (Some q) = asked_traced (may_ask cells threads sh.taken a q (sh.books (book_for cells q))) c q refl

    turned_traced : (c : Configuration) (o : Turned Configuration) → After (turned cells threads code a c o x sh)
    turned_traced c (Ended s) = k
    turned_traced c (Failed f s) = k
    turned_traced c (Asking s) = asks_traced c s s.wants
    turned_traced c (Unfinished d) = k
    turned_traced c Stuck = k

    turns_traced : (o : Turned Configuration) (why : Option Stop) → After (turns_from cells threads code a o why x sh)
    turns_traced (Ended s) why = k
    turns_traced (Failed f s) why = k
    turns_traced (Asking s) why = k
    turns_traced (Unfinished c) None = turned_traced c (turn code c)
    turns_traced (Unfinished c) (Some s) = k
    turns_traced Stuck why = k

    stops_traced : (why : Stop) (o : Turned Configuration) (s : Option Stop) → Traced sh.books a (stops_from why o s x).entries
    stops_traced why (Ended s) o = k
    stops_traced why (Failed f s) o = k
    stops_traced why (Asking s) o = k
    stops_traced why (Unfinished c) None = k
    stops_traced why (Unfinished c) (Some s) = k
    stops_traced why Stuck o = k

  module _ (codes : ℕ → ThreadCode) where
    -- what holds between plays
    record AllTraced (st : State) : Type 0 where
      shared : SharedStands cells threads st.shared
      traces : (a : ℕ) → Traced st.shared.books a (st.actors a).entries

    moves_traced : (y : Play) (st : State) → AllTraced st → Traced (moves cells threads codes y st).shared.books (actor_of y) (moves cells threads codes y st).actor.entries
    moves_traced (TakesTurn a) st h = turns_traced (codes a) a st.shared (st.actors a) (h.traces a) (st.actors a).at (st.actors a).stopped
    moves_traced (IsStopped a why) st h = stops_traced (codes a) a st.shared (st.actors a) (h.traces a) why (st.actors a).at (st.actors a).stopped

    play_traced : ServeKeeps → (y : Play) (st : State) → AllTraced st → AllTraced (play cells threads codes y st)
    play_traced keeps y st h = record { shared = w.shared; traces = λ b. go b (actor_of y == b) refl }
      where
        w : MovedWell keeps cells threads (actor_of y) st.shared (moves cells threads codes y st)
        w = moves_stand keeps cells threads codes y st h.shared

        go : (b : ℕ) (t : Bool) → (actor_of y == b) ≡ t → Traced (moves cells threads codes y st).shared.books b (if t then (moves cells threads codes y st).actor else st.actors b).entries
        go b true e = subst (λ i. Traced (moves cells threads codes y st).shared.books i (moves cells threads codes y st).actor.entries) (numbers (actor_of y) b e) (moves_traced y st h)
        go b false e =
            others_traced (actor_of y) b st.shared.books (moves cells threads codes y st).shared.books w.grown
            (λ i. false≢true (sym e ∙ ap (λ j. actor_of y == j) (sym i) ∙ number-itself (actor_of y))) (st.actors b).entries (h.traces b)

    plays_traced : ServeKeeps → (ys : List Play) (st : State) → AllTraced st → AllTraced (plays_from cells threads codes ys st)
    plays_traced keeps [] st h = h
    plays_traced keeps (y ∷ ys) st h = plays_traced keeps ys (play cells threads codes y st) (play_traced keeps y st h)

    opening_traced : FreshStands → AllTraced (opens cells codes)
    opening_traced fresh = record { shared = (opening_holds fresh cells threads codes).shared; traces = λ a. record { hold = tt; traced = λ n. refl } }

pub run_traced : ServeKeeps → FreshStands → RunTraced
run_traced keeps fresh cells threads codes ys a =
    let h = (plays_traced cells threads codes keeps ys (opens cells codes) (opening_traced cells threads codes fresh)).traces a in
    record { hold = h.hold; traced = h.traced }
