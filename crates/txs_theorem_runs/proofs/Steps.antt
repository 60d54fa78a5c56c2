-- Each play keeps what holds between plays.
use Rattle.std.proofs.Common.{◌≡◌, ℕ, suc, Bool, true, false, ◌==◌, List, [], ◌∷◌, ◌++◌, if◌then◌else◌, length, map, Option, Some, None, refl, sym, ap, ◌∙◌, subst, arith}
use Rattle.std.proofs.lemmas.Bool.{false≢true}
use Rattle.txs_world_protocol.specs.declared.ask.Ask.{Ask}
use Rattle.txs_world_protocol.specs.declared.ask.Reply.{Reply}
use Rattle.txs_world_protocol.specs.declared.ask.Reply.TheVariants as reply
use Rattle.txs_world_protocol.specs.declared.event.Event.{Event}
use Rattle.txs_value_data.proofs.SameLemmas.{numbers, number-itself}
use Rattle.txs_value_cell.specs.declared.cell.CellDefinition.{CellDefinition}
use Rattle.txs_code_meaning.specs.ActorState.{ActorState}
use Rattle.txs_code_meaning.specs.Machine.{ThreadCode, Configuration, Turned, Ended, Failed, Asking, Unfinished, Stuck, and_then, turn, run}
use Rattle.txs_code_meaning.specs.Opening.{given, opening}
use Rattle.txs_code_meaning.proofs.Acts.{run_more}
use Rattle.txs_code_meaning.proofs.Later.{more_to_come}
use Rattle.txs_world.specs.Laws.{ServeKeeps}
use Rattle.txs_world_book.specs.Served.{Served}
use Rattle.txs_theorem_runs.specs.Shared.{Shared, book_for, serve_on, may_ask}
use Rattle.txs_theorem_runs.specs.Stages.{AsksIn, stage_after}
use Rattle.txs_theorem_runs.specs.Told.{Entry, exchange_of, IsExchanged, ToldBy}
use Rattle.txs_theorem_runs.specs.Staged.{StagedActor, IsStaged, StagedFrom}
use Rattle.txs_theorem_runs.specs.Invariant.{ActorInvariant, SharedStands, RunInvariant}
use Rattle.txs_theorem_runs.specs.Run.{Stop, Actor, Moved, moved, exchange, entry, stop, comes_to, hears, replied, asked, asks_for, turned, turns_from, stops_from, Play, TakesTurn, IsStopped, State, placed, moves, actor_of, play}
use Rattle.txs_theorem_runs.specs.Run as run_of
use Rattle.txs_theorem_runs.proofs.Growing.{Grown, Serves, nothing_grown, told_stays, nothing_served, own_grown, own_told}
use Rattle.txs_theorem_runs.proofs.Serving.{serves, serving_stands}

map_append : (xs : List Entry) (e : Entry) → map exchange_of (xs ++ e ∷ []) ≡ map exchange_of xs ++ exchange_of e ∷ []
map_append [] e = refl
map_append (x ∷ xs) e = ap (λ l. exchange_of x ∷ l) (map_append xs e)

module _ (keeps : ServeKeeps) (cells : List CellDefinition) (threads : ℕ) where
  -- ---- what is shared

  -- what is shared stands, and an actor's events stand behind those that were there
  pub record MovedWell (a : ℕ) (sh : Shared) (m : Moved) : Type 0 where
    pub shared : SharedStands cells threads m.shared
    pub grown : Grown a sh.books m.shared.books

  module _ (code : ThreadCode) (a : ℕ) (sh : Shared) (st : SharedStands cells threads sh) where
    unmoved : (x : Actor) → MovedWell a sh (moved x sh)
    unmoved x = record { shared = st; grown = nothing_grown a sh.books }

    asked_stands : (b : Bool) (c : Configuration) (q : Ask) (x : Actor) → may_ask cells threads sh.taken a q (sh.books (book_for cells q)) ≡ b → MovedWell a sh (asked b cells code a c q x sh)
    asked_stands false c q x e = unmoved (stop run_of.Unlawful x)
    asked_stands true c q x e = record {
      shared = serving_stands keeps cells threads sh a st q e;
      grown = own_grown cells threads a sh.books q sh.taken e (serve_on cells a q (sh.books (book_for cells q))) refl (serves a (sh.books (book_for cells q)) cells q);
    }

    asks_stand : (c : Configuration) (s : ActorState) (o : Option Ask) (x : Actor) → MovedWell a sh (asks_for cells threads code a c s o x sh)
    asks_stand c s None x = unmoved (comes_to (Asking s) x)
    asks_stand c s (Some q) x = asked_stands (may_ask cells threads sh.taken a q (sh.books (book_for cells q))) c q x refl

    turned_stands : (c : Configuration) (o : Turned Configuration) (x : Actor) → MovedWell a sh (turned cells threads code a c o x sh)
    turned_stands c (Ended s) x = unmoved (comes_to (Ended s) x)
    turned_stands c (Failed f s) x = unmoved (comes_to (Failed f s) x)
    turned_stands c (Asking s) x = asks_stand c s s.wants x
    turned_stands c (Unfinished d) x = unmoved (comes_to (Unfinished d) x)
    turned_stands c Stuck x = unmoved (comes_to Stuck x)

    turns_stand : (o : Turned Configuration) (why : Option Stop) (x : Actor) → MovedWell a sh (turns_from cells threads code a o why x sh)
    turns_stand (Ended s) why x = unmoved x
    turns_stand (Failed f s) why x = unmoved x
    turns_stand (Asking s) why x = unmoved x
    turns_stand (Unfinished c) None x = turned_stands c (turn code c) x
    turns_stand (Unfinished c) (Some s) x = unmoved x
    turns_stand Stuck why x = unmoved x

  pub moves_stand : (codes : ℕ → ThreadCode) (y : Play) (st : State) → SharedStands cells threads st.shared → MovedWell (actor_of y) st.shared (moves cells threads codes y st)
  moves_stand codes (TakesTurn a) st h = turns_stand (codes a) a st.shared h (st.actors a).at (st.actors a).stopped (st.actors a)
  moves_stand codes (IsStopped a why) st h = unmoved (codes a) a st.shared h (stops_from why (st.actors a).at (st.actors a).stopped (st.actors a))

  -- ---- the actor whose play it is

  module _ (agent : Bool) (code : ThreadCode) (known : StagedActor agent code) (a : ℕ) (sh : Shared) (x : Actor) (k : ActorInvariant cells threads agent code sh.books a x) where
    abbrev Holds : (ℕ → List Event) → Actor → Type 0
    Holds books y = ActorInvariant cells threads agent code books a y

    stopped : (books : ℕ → List Event) (why : Stop) → Holds books x → Holds books (stop why x)
    stopped books why h = record { stage = h.stage; ran = h.ran; told = h.told; staged = h.staged }

    quiet : (c : Configuration) (o : Turned Configuration) → x.at ≡ Unfinished c → turn code c ≡ o → IsStaged agent k.stage o → Holds sh.books (comes_to o x)
    quiet c o at e staged = record {
      stage = k.stage;
      ran = run_more code x.turns (opening code (map exchange_of x.entries)) ∙ ap (λ r. and_then r (turn code)) (k.ran ∙ at) ∙ e;
      told = k.told;
      staged = staged;
    }

    -- an ask whose reply was taken
    heard : (c : Configuration) (q : Ask) (r : Reply) (n : ℕ) (books : ℕ → List Event) → x.at ≡ Unfinished c → ToldBy cells threads books agent a (x.entries ++ entry q r n ∷ []) (stage_after k.stage q r)
        → IsStaged agent (stage_after k.stage q r) (turn code (given (exchange q r ∷ []) c)) → Holds books (hears code c q r n x)
    heard c q r n books at t staged = record {
      stage = stage_after k.stage q r;
      ran = ap (λ l. run code (suc x.turns) (opening code l)) (map_append x.entries (entry q r n))
          ∙ run_more code x.turns (opening code (map exchange_of x.entries ++ exchange q r ∷ []))
          ∙ ap (λ o. and_then o (turn code)) (more_to_come code x.turns (opening code (map exchange_of x.entries)) c (exchange q r ∷ []) (k.ran ∙ at));
      told = t;
      staged = staged;
    }

    module _ (q : Ask) (may : may_ask cells threads sh.taken a q (sh.books (book_for cells q)) ≡ true) where
      abbrev v : Served
      v = serve_on cells a q (sh.books (book_for cells q))

      abbrev later : ℕ → List Event
      later n = if n == book_for cells q then v.book else sh.books n

      abbrev size : ℕ
      size = length (sh.books (book_for cells q))

      -- a reply that isn't taken leaves the actor's part
      left : (s : Serves a (sh.books (book_for cells q)) v) → s.more ≡ [] → Holds later x
      left s none = record {
        stage = k.stage;
        ran = k.ran;
        told = told_stays cells threads (suc a) a sh.books later (nothing_served cells threads a sh.books q sh.taken may v refl s none) (λ e. absurd (omega (arith, e))) agent x.entries k.stage k.told;
        staged = k.staged;
      }

      replied_well : (c : Configuration) (r : Reply) → x.at ≡ Unfinished c
          → (IsExchanged r → ToldBy cells threads later agent a (x.entries ++ entry q r size ∷ []) (stage_after k.stage q r)) → ((IsExchanged r → ⊥) → Holds later x)
          → IsStaged agent (stage_after k.stage q r) (turn code (given (exchange q r ∷ []) c)) → Holds later (replied code c q r size x)
      replied_well c (reply.At p) at t s staged = heard c q (reply.At p) size later at (t tt) staged
      replied_well c (reply.Is w) at t s staged = heard c q (reply.Is w) size later at (t tt) staged
      replied_well c (reply.Views p vs) at t s staged = heard c q (reply.Views p vs) size later at (t tt) staged
      replied_well c reply.Done at t s staged = heard c q reply.Done size later at (t tt) staged
      replied_well c (reply.Retry d) at t s staged = heard c q (reply.Retry d) size later at (t tt) staged
      replied_well c (reply.Changed d) at t s staged = heard c q (reply.Changed d) size later at (t tt) staged
      replied_well c (reply.AgentIsFailed g) at t s staged = heard c q (reply.AgentIsFailed g) size later at (t tt) staged
      replied_well c (reply.Action n y w) at t s staged = heard c q (reply.Action n y w) size later at (t tt) staged
      replied_well c (reply.Opened p w) at t s staged = heard c q (reply.Opened p w) size later at (t tt) staged
      replied_well c reply.Idle at t s staged = s (λ n. n)
      replied_well c reply.Full at t s staged = stopped later run_of.JournalFull (s (λ n. n))
      replied_well c reply.Memory at t s staged = stopped later run_of.Memory (s (λ n. n))

      served_well : (c : Configuration) → x.at ≡ Unfinished c → AsksIn agent k.stage q → ((r : Reply) → IsStaged agent (stage_after k.stage q r) (turn code (given (exchange q r ∷ []) c)))
          → Holds later (replied code c q v.reply size x)
      served_well c at ok staged =
          let s = serves a (sh.books (book_for cells q)) cells q in
          replied_well c v.reply at (λ ex. own_told cells threads a sh.books q sh.taken may v refl s ex agent x.entries k.stage ok k.told) (λ n. left s (s.stays n)) (staged v.reply)

    asked_well : (b : Bool) (c : Configuration) (q : Ask) → may_ask cells threads sh.taken a q (sh.books (book_for cells q)) ≡ b → x.at ≡ Unfinished c → AsksIn agent k.stage q
        → ((r : Reply) → IsStaged agent (stage_after k.stage q r) (turn code (given (exchange q r ∷ []) c))) → Holds (asked b cells code a c q x sh).shared.books (asked b cells code a c q x sh).actor
    asked_well false c q e at ok staged = stopped sh.books run_of.Unlawful k
    asked_well true c q e at ok staged = served_well q e c at ok staged

    turned_well : (c : Configuration) (o : Turned Configuration) → x.at ≡ Unfinished c → turn code c ≡ o → StagedFrom agent k.stage o (λ q r. turn code (given (exchange q r ∷ []) c))
        → Holds (turned cells threads code a c o x sh).shared.books (turned cells threads code a c o x sh).actor
    turned_well c (Ended s) at e h = quiet c (Ended s) at e h
    turned_well c (Failed f s) at e h = quiet c (Failed f s) at e h
    turned_well c (Asking s) at e h =
        subst (λ o. Holds (asks_for cells threads code a c s o x sh).shared.books (asks_for cells threads code a c s o x sh).actor) (sym h.1)
        (asked_well (may_ask cells threads sh.taken a h.0 (sh.books (book_for cells h.0))) c h.0 refl at h.2 h.3)
    turned_well c (Unfinished d) at e h = quiet c (Unfinished d) at e h
    turned_well c Stuck at e h = quiet c Stuck at e tt

    turns_well : (o : Turned Configuration) (why : Option Stop) → x.at ≡ o → Holds (turns_from cells threads code a o why x sh).shared.books (turns_from cells threads code a o why x sh).actor
    turns_well (Ended s) why e = k
    turns_well (Failed f s) why e = k
    turns_well (Asking s) why e = k
    turns_well (Unfinished c) None e =
        let h = subst (λ o. IsStaged agent k.stage o) e k.staged in
        turned_well c (turn code c) e refl (known x.turns (map exchange_of x.entries) c (k.ran ∙ e) h.0 k.stage h.1)
    turns_well (Unfinished c) (Some s) e = k
    turns_well Stuck why e = k

    stops_well : (why : Stop) (o : Turned Configuration) (s : Option Stop) → Holds sh.books (stops_from why o s x)
    stops_well why (Ended s) o = k
    stops_well why (Failed f s) o = k
    stops_well why (Asking s) o = k
    stops_well why (Unfinished c) None = stopped sh.books why k
    stops_well why (Unfinished c) (Some s) = k
    stops_well why Stuck o = k

  moves_well : (agent : Bool) (codes : ℕ → ThreadCode) (y : Play) (st : State) (known : StagedActor agent (codes (actor_of y)))
      → ActorInvariant cells threads agent (codes (actor_of y)) st.shared.books (actor_of y) (st.actors (actor_of y))
      → ActorInvariant cells threads agent (codes (actor_of y)) (moves cells threads codes y st).shared.books (actor_of y) (moves cells threads codes y st).actor
  moves_well agent codes (TakesTurn a) st known k = turns_well agent (codes a) known a st.shared (st.actors a) k (st.actors a).at (st.actors a).stopped refl
  moves_well agent codes (IsStopped a why) st known k = stops_well agent (codes a) known a st.shared (st.actors a) k why (st.actors a).at (st.actors a).stopped

  -- another actor's play
  others : (agent : Bool) (code : ThreadCode) (a b : ℕ) (books later : ℕ → List Event) (x : Actor) → (a ≡ b → ⊥) → Grown a books later
      → ActorInvariant cells threads agent code books b x → ActorInvariant cells threads agent code later b x
  others agent code a b books later x n g k = record { stage = k.stage; ran = k.ran; told = told_stays cells threads a b books later g n agent x.entries k.stage k.told; staged = k.staged }

  module _ (codes : ℕ → ThreadCode) where
    placed_holds : (a : ℕ) (m : Moved) (st : State) → MovedWell a st.shared m → ((agent : Bool) (known : StagedActor agent (codes a)) → ActorInvariant cells threads agent (codes a) m.shared.books a m.actor)
        → RunInvariant cells threads codes st → RunInvariant cells threads codes (placed a m st)
    placed_holds a m st g own h = record { shared = g.shared; actors = λ agent b. go agent b (a == b) refl }
      where
        go : (agent : Bool) (b : ℕ) (t : Bool) → (a == b) ≡ t → (known : StagedActor agent (codes b)) → ActorInvariant cells threads agent (codes b) m.shared.books b (if t then m.actor else st.actors b)
        go agent b true e = subst (λ i. (known : StagedActor agent (codes i)) → ActorInvariant cells threads agent (codes i) m.shared.books i m.actor) (numbers a b e) (own agent)
        go agent b false e = λ known.
            others agent (codes b) a b st.shared.books m.shared.books (st.actors b) (λ s. false≢true (sym e ∙ ap (λ i. a == i) (sym s) ∙ number-itself a)) g.grown (h.actors agent b known)

    pub play_holds : (y : Play) (st : State) → RunInvariant cells threads codes st → RunInvariant cells threads codes (play cells threads codes y st)
    play_holds y st h =
        placed_holds (actor_of y) (moves cells threads codes y st) st (moves_stand codes y st h.shared) (λ agent known. moves_well agent codes y st known (h.actors agent (actor_of y) known)) h
