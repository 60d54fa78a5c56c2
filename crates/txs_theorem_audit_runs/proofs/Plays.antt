-- What a play does to the books and to what its actor was told: nothing, or one ask that was served.
use Rattle.std.proofs.Common.{◌≡◌, ℕ, Bool, true, false, ◌==◌, List, [], ◌∷◌, ◌++◌, length, Option, Some, None, refl, sym, ap, ◌∙◌, subst, if◌then◌else◌}
use Rattle.std.proofs.lemmas.List.{append-nil}
use Rattle.txs_world_protocol.specs.declared.ask.Ask.{Ask}
use Rattle.txs_world_protocol.specs.declared.ask.Reply.{Reply}
use Rattle.txs_world_protocol.specs.declared.ask.Reply.TheVariants as reply
use Rattle.txs_world_protocol.specs.declared.event.Event.{Event}
use Rattle.txs_value_data.proofs.SameLemmas.{numbers}
use Rattle.txs_value_cell.specs.declared.cell.CellDefinition.{CellDefinition}
use Rattle.txs_code_meaning.specs.ActorState.{ActorState}
use Rattle.txs_code_meaning.specs.Machine.{ThreadCode, Configuration, Turned, Ended, Failed, Asking, Unfinished, Stuck, turn}
use Rattle.txs_world_book.specs.Served.{Served}
use Rattle.txs_theorem_runs.specs.Run.{Stop, Actor, Moved, entry, replied, asked, asks_for, turned, turns_from, stops_from, Play, TakesTurn, IsStopped, State, moves, actor_of}
use Rattle.txs_theorem_runs.specs.Shared.{Shared, book_for, serve_on, may_ask}
use Rattle.txs_theorem_runs.specs.Told.{Entry, IsExchanged}
use Rattle.txs_theorem_runs.proofs.Growing.{Serves}
use Rattle.txs_theorem_runs.proofs.Serving.{serves}

module _ (cells : List CellDefinition) (threads : ℕ) where
  abbrev pub answer : ℕ → (ℕ → List Event) → Ask → Served
  answer a books q = serve_on cells a q (books (book_for cells q))

  -- the books after an ask of this actor was served
  abbrev pub books_served : ℕ → (ℕ → List Event) → Ask → ℕ → List Event
  books_served a books q n = if n == book_for cells q then (answer a books q).book else books n

  -- the entry of that ask
  abbrev pub entry_served : ℕ → (ℕ → List Event) → Ask → Entry
  entry_served a books q = entry q (answer a books q).reply (length (books (book_for cells q)))

  -- where an actor was, and the books were, and where they are after its play
  pub data Took (a : ℕ) (books : ℕ → List Event) (es : List Entry) (later : ℕ → List Event) (fs : List Entry) : Type 0 where
    rests : later ≡ books → fs ≡ es → Took a books es later fs
    hears : (q : Ask) → IsExchanged (answer a books q).reply → later ≡ books_served a books q → fs ≡ es ++ entry_served a books q ∷ [] → Took a books es later fs

  -- an ask that leaves its book leaves all books
  pub same_books : (a : ℕ) (books : ℕ → List Event) (q : Ask) → (answer a books q).book ≡ books (book_for cells q) → books_served a books q ≡ books
  same_books a books q e = λ i. λ n. each n (n == book_for cells q) refl i
    where
      each : (n : ℕ) (b : Bool) → (n == book_for cells q) ≡ b → (if b then (answer a books q).book else books n) ≡ books n
      each n true is = e ∙ ap books (sym (numbers n (book_for cells q) is))
      each n false is = refl

  module _ (code : ThreadCode) (a : ℕ) (sh : Shared) (x : Actor) where
    abbrev After : Moved → Type 0
    After m = Took a sh.books x.entries m.shared.books m.actor.entries

    stays : After (record { actor = x; shared = sh })
    stays = rests refl refl

    replied_took : (c : Configuration) (q : Ask) (r : Reply) → r ≡ (answer a sh.books q).reply → ((IsExchanged r → ⊥) → (answer a sh.books q).book ≡ sh.books (book_for cells q))
        → Took a sh.books x.entries (books_served a sh.books q) (replied code c q r (length (sh.books (book_for cells q))) x).entries
    replied_took c q r e left = go r e left
      where
        took : (s : Reply) → s ≡ (answer a sh.books q).reply → IsExchanged s → Took a sh.books x.entries (books_served a sh.books q) (x.entries ++ entry q s (length (sh.books (book_for cells q))) ∷ [])
        took s f ex = hears q (subst IsExchanged f ex) refl (ap (λ t. x.entries ++ entry q t (length (sh.books (book_for cells q))) ∷ []) f)

        go : (s : Reply) → s ≡ (answer a sh.books q).reply → ((IsExchanged s → ⊥) → (answer a sh.books q).book ≡ sh.books (book_for cells q))
            → Took a sh.books x.entries (books_served a sh.books q) (replied code c q s (length (sh.books (book_for cells q))) x).entries
        go (reply.At p) f l = took (reply.At p) f tt
        go (reply.Is v) f l = took (reply.Is v) f tt
        go (reply.Views p vs) f l = took (reply.Views p vs) f tt
        go reply.Done f l = took reply.Done f tt
        go (reply.Retry d) f l = took (reply.Retry d) f tt
        go (reply.Changed d) f l = took (reply.Changed d) f tt
        go (reply.AgentIsFailed g) f l = took (reply.AgentIsFailed g) f tt
        go (reply.Action i y v) f l = took (reply.Action i y v) f tt
        go (reply.Opened p v) f l = took (reply.Opened p v) f tt
        go reply.Idle f l = rests (same_books a sh.books q (l (λ n. n))) refl
        go reply.Full f l = rests (same_books a sh.books q (l (λ n. n))) refl
        go reply.Memory f l = rests (same_books a sh.books q (l (λ n. n))) refl

    asked_took : (t : Bool) (c : Configuration) (q : Ask) → After (asked t cells code a c q x sh)
    asked_took false c q = rests refl refl
    asked_took true c q =
        let s : Serves a (sh.books (book_for cells q)) (answer a sh.books q) = serves a (sh.books (book_for cells q)) cells q in
        replied_took c q (answer a sh.books q).reply refl (λ n. s.grown ∙ ap (λ l. sh.books (book_for cells q) ++ l) (s.stays n) ∙ append-nil (sh.books (book_for cells q)))

    asks_took : (c : Configuration) (s : ActorState) (o : Option Ask) → After (asks_for cells threads code a c s o x sh)
    asks_took c s None = rests refl refl
    asks_took c s (Some q) = asked_took (may_ask cells threads sh.taken a q (sh.books (book_for cells q))) c q

    turned_took : (c : Configuration) (o : Turned Configuration) → After (turned cells threads code a c o x sh)
    turned_took c (Ended s) = rests refl refl
    turned_took c (Failed f s) = rests refl refl
    turned_took c (Asking s) = asks_took c s s.wants
    turned_took c (Unfinished d) = rests refl refl
    turned_took c Stuck = rests refl refl

    turns_took : (o : Turned Configuration) (why : Option Stop) → After (turns_from cells threads code a o why x sh)
    turns_took (Ended s) why = stays
    turns_took (Failed f s) why = stays
    turns_took (Asking s) why = stays
    turns_took (Unfinished c) None = turned_took c (turn code c)
    turns_took (Unfinished c) (Some s) = stays
    turns_took Stuck why = stays

    stops_took : (why : Stop) (o : Turned Configuration) (s : Option Stop) → Took a sh.books x.entries sh.books (stops_from why o s x).entries
    stops_took why (Ended s) o = stays
    stops_took why (Failed f s) o = stays
    stops_took why (Asking s) o = stays
    stops_took why (Unfinished c) None = stays
    stops_took why (Unfinished c) (Some s) = stays
    stops_took why Stuck o = stays

  pub moves_took : (codes : ℕ → ThreadCode) (y : Play) (st : State)
      → Took (actor_of y) st.shared.books (st.actors (actor_of y)).entries (moves cells threads codes y st).shared.books (moves cells threads codes y st).actor.entries
  moves_took codes (TakesTurn a) st = turns_took (codes a) a st.shared (st.actors a) (st.actors a).at (st.actors a).stopped
  moves_took codes (IsStopped a why) st = stops_took (codes a) a st.shared (st.actors a) why (st.actors a).at (st.actors a).stopped
