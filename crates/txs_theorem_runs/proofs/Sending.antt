-- What threads send is what a program may send, where each send of their code names such a callee; so it is of all that the books send.
use Rattle.std.proofs.Common.{◌≡◌, ℕ, suc, Bool, true, false, ◌==◌, nat_lt, List, [], ◌∷◌, length, Option, Some, None, refl, sym, subst, if◌then◌else◌, ap, inl, inr}
use Rattle.txs_world_protocol.specs.declared.ask.Ask.{Ask}
use Rattle.txs_world_protocol.specs.declared.ask.Ask.TheVariants as ask
use Rattle.txs_world_protocol.specs.declared.ask.Reply.{Reply}
use Rattle.txs_world_protocol.specs.declared.ask.Reply.TheVariants as reply
use Rattle.txs_world_protocol.specs.declared.event.Event.{Event}
use Rattle.txs_world_protocol.specs.declared.event.EventKind.{EventKind}
use Rattle.txs_world_protocol.specs.declared.event.EventKind.TheVariants as event
use Rattle.txs_value_data.proofs.SameLemmas.{numbers}
use Rattle.txs_value_cell.specs.declared.action.Action.{Action}
use Rattle.txs_value_cell.specs.declared.cell.CellDefinition.{CellDefinition}
use Rattle.txs_tree_meaning.specs.Known.{known}
use Rattle.txs_tree_meaning.specs.Sound.{SoundSent}
use Rattle.txs_tree_meaning.specs.Tree.{PlainFunction}
use Rattle.txs_code_meaning.specs.ActorState.{ActorState, InHand, held_in, now_holding}
use Rattle.txs_code_meaning.specs.Machine.{ThreadCode, fetch, Configuration, Turned, Ended, Failed, Asking, Unfinished, Stuck, turn}
use Rattle.txs_code_meaning.specs.Opening.{given}
use Rattle.txs_theorem_threads.specs.FollowsAgent.{SoundAction}
use Rattle.txs_theorem_threads.specs.Sends.{CodeSendsSound}
use Rattle.txs_world_book.specs.Book.{actors}
use Rattle.txs_world_book.specs.Served.{cells_of}
use Rattle.txs_frame.specs.Frame.{sends_of_commit}
use Rattle.txs_theorem_runs.specs.Agents.{AreSound, SendsSound, AllSound}
use Rattle.txs_theorem_runs.specs.Run.{Stop, Actor, Moved, moved, comes_to, replied, exchange, asked, asks_for, turned, turns_from, stops_from, Play, TakesTurn, IsStopped, State, moves, actor_of, play, opens}
use Rattle.txs_theorem_runs.specs.Shared.{Shared, book_for, serve_on, may_ask}
use Rattle.txs_theorem_runs.proofs.Acting.{sound_append}
use Rattle.txs_theorem_runs.proofs.Adding.{IsQuiet, Brings, served_such}
use Rattle.txs_theorem_runs.proofs.Asker.{asker_is}
use Rattle.txs_theorem_runs.proofs.Keeping.{IsKept, HeldBy, SendsOwn, SendsSuch, Holds, turn_keeps}

module _ (functions : List PlainFunction) where
  -- what an ask sends is such as a program may send
  abbrev pub AskSound : Ask → Type 0
  AskSound (ask.Send x) = SoundAction functions x
  AskSound (ask.Commit p sets ensured q commuted sends) = AreSound functions sends
  AskSound (ask.Finish g new sends) = AreSound functions sends
  AskSound _ = Unit {0}

  abbrev pub WantSound : Option Ask → Type 0
  WantSound None = Unit {0}
  WantSound (Some q) = AskSound q

  -- an action holds such sends
  abbrev pub ActsSound : Option InHand → Type 0
  ActsSound None = Unit {0}
  ActsSound (Some h) = AreSound functions h.sends

  -- what the transaction holds is such, what the action holds, and so what the actor asks
  abbrev pub HoldsSound : ActorState → Type 0
  HoldsSound s = AreSound functions s.done.sends × ActsSound s.acting × WantSound s.wants

  -- what a commit sends is what the transaction holds, or nothing
  commit_sound : (o : Option (List Action)) (xs : List Action) → AreSound functions xs → AreSound functions (sends_of_commit o xs)
  commit_sound None xs h = h
  commit_sound (Some ys) xs h = tt

  abbrev list_or : Option (List Action) → List Action
  list_or None = []
  list_or (Some xs) = xs

  held_sound : (o : Option InHand) → ActsSound o → AreSound functions (list_or (held_in o))
  held_sound None h = tt
  held_sound (Some x) h = h

  -- and what an action hands in
  handed_sound : (o : Option InHand) (sends : List Action) → ActsSound o → HeldBy o sends → AreSound functions sends
  handed_sound o sends h (inl e) = subst (AreSound functions) (sym e) tt
  handed_sound o sends h (inr e) = subst (AreSound functions) (ap list_or e) (held_sound o h)

  more_sound : (o : Option InHand) (xs : List Action) → ActsSound o → AreSound functions xs → ActsSound (now_holding xs o)
  more_sound None xs h k = tt
  more_sound (Some x) xs h k = sound_append functions x.sends xs h k

  own_sound : (s : ActorState) (q : Ask) → SendsOwn (SoundAction functions) s q → AreSound functions s.done.sends → ActsSound s.acting → AskSound q
  own_sound s (ask.Send x) own h k = own
  own_sound s (ask.Commit p sets ensured q commuted sends) own h k = subst (AreSound functions) (sym own) (commit_sound (held_in s.acting) s.done.sends h)
  own_sound s ask.Begin own h k = tt
  own_sound s (ask.Look c p) own h k = tt
  own_sound s (ask.View cs) own h k = tt
  own_sound s (ask.Fail p q) own h k = tt
  own_sound s (ask.Peek c) own h k = tt
  own_sound s (ask.Take g) own h k = tt
  own_sound s (ask.Finish g new sends) own h k = handed_sound s.acting sends k own
  own_sound s (ask.OpenAt c) own h k = tt
  own_sound s (ask.CloseAt c p v) own h k = tt
  own_sound s (ask.Broke c p) own h k = tt

  sound_kept : IsKept (SoundAction functions) HoldsSound
  sound_kept = record {
    on_reply = λ s x xs e h. h;
    on_begin = λ s p h. (tt, h.1, h.2);
    on_work = λ s view w o e h. (subst (AreSound functions) (sym e) h.0, h.1, h.2);
    on_hold = λ s x such h. (sound_append functions s.done.sends (x ∷ []) h.0 (such, tt), h.1, h.2);
    on_take = λ s g x h. (h.0, tt, h.2);
    on_rest = λ s h. (h.0, tt, h.2);
    on_fault = λ s x f e h. (h.0, subst ActsSound e h.1, h.2);
    on_held = λ s x such h. (h.0, more_sound s.acting (x ∷ []) h.1 (such, tt), h.2);
    on_land = λ s h. (h.0, more_sound s.acting s.done.sends h.1 h.0, h.2);
    on_accepted = λ s o h. h;
    on_wait = λ s q own h. (h.0, h.1, own_sound s q own h.0 h.1);
  }

  -- a send's arguments are as many as the instruction names
  sends_such : (code : ThreadCode) → CodeSendsSound functions code → (b at : ℕ) → SendsSuch (SoundAction functions) (fetch code b at)
  sends_such code by b at f n span e g vs many = subst (λ k. SoundSent (known functions) f (suc k)) (sym many) (by b at n f span e)

  pub turn_sound : (code : ThreadCode) → CodeSendsSound functions code → (c : Configuration) → HoldsSound c.state → Holds HoldsSound HoldsSound (turn code c)
  turn_sound code by c h = turn_keeps (SoundAction functions) HoldsSound HoldsSound sound_kept (λ s k. k) (λ s out k. k) code c h (sends_such code by c.body c.place)

  -- ---- the books

  -- what an event sends is such
  abbrev pub Sent : List Event → EventKind → Type 0
  Sent done kind = SendsSound functions kind

  pub quiet_sound : (done : List Event) (kind : EventKind) → IsQuiet kind → Sent done kind
  quiet_sound done (event.Read c) h = tt
  quiet_sound done (event.Commit at view ws sends) h = absurd h
  quiet_sound done (event.Retry since c cause) h = tt
  quiet_sound done (event.Fail at view) h = tt
  quiet_sound done (event.Refused at view g) h = tt
  quiet_sound done (event.Send x) h = absurd h
  quiet_sound done (event.SendRefused g) h = tt
  quiet_sound done (event.Act g n new sends) h = absurd h
  quiet_sound done (event.Swap new) h = tt
  quiet_sound done (event.Broke at) h = tt

  -- what an ask sends that may be made
  pub asks_bring : (book : List Event) (q : Ask) → AskSound q → Brings Sent book q
  asks_bring book (ask.Send x) s = s
  asks_bring book (ask.Commit p sets ensured q commuted sends) s = λ ws. s
  asks_bring book (ask.Finish g new sends) s = λ i. (s, λ at. tt)
  asks_bring book ask.Begin s = tt
  asks_bring book (ask.Look c p) s = tt
  asks_bring book (ask.View cs) s = tt
  asks_bring book (ask.Fail p q) s = tt
  asks_bring book (ask.Peek c) s = tt
  asks_bring book (ask.Take g) s = tt
  asks_bring book (ask.OpenAt c) s = tt
  asks_bring book (ask.CloseAt c p v) s = tt
  asks_bring book (ask.Broke c p) s = tt

  -- ---- plays

  module _ (cells : List CellDefinition) (threads : ℕ) (codes : ℕ → ThreadCode) (by : (a : ℕ) → nat_lt a (actors threads (cells_of cells)) ≡ true → CodeSendsSound functions (codes a)) where
    abbrev BooksSound : (ℕ → List Event) → Type 0
    BooksSound books = (n : ℕ) → AllSound functions (books n)

    -- where an actor is, it holds such actions alone
    abbrev ActorSound : Actor → Type 0
    ActorSound x = Holds HoldsSound HoldsSound x.at

    -- all that was sent, and what the actors hold
    pub record Sends (st : State) : Type 0 where
      pub books : (n : ℕ) → AllSound functions (st.shared.books n)
      pub held : (a : ℕ) → nat_lt a (actors threads (cells_of cells)) ≡ true → Holds HoldsSound HoldsSound (st.actors a).at

    -- what is known of an actor's play: the books, and of an actor what it holds
    record After (b : ℕ) (m : Moved) : Type 0 where
      books : BooksSound m.shared.books
      actor : nat_lt b (actors threads (cells_of cells)) ≡ true → ActorSound m.actor

    module _ (b : ℕ) (x : Actor) (sh : Shared) (h : BooksSound sh.books) (k : nat_lt b (actors threads (cells_of cells)) ≡ true → ActorSound x) where
      turns_sound : (c : Configuration) → x.at ≡ Unfinished c → nat_lt b (actors threads (cells_of cells)) ≡ true → Holds HoldsSound HoldsSound (turn (codes b) c)
      turns_sound c at lt = turn_sound (codes b) (by b lt) c (subst (Holds HoldsSound HoldsSound) at (k lt))

      hears_sound : (c : Configuration) (q : Ask) (r : Reply) → x.at ≡ Unfinished c → nat_lt b (actors threads (cells_of cells)) ≡ true → Holds HoldsSound HoldsSound (turn (codes b) (given (exchange q r ∷ []) c))
      hears_sound c q r at lt = turn_sound (codes b) (by b lt) (given (exchange q r ∷ []) c) (subst (Holds HoldsSound HoldsSound) at (k lt))

      replied_sound : (c : Configuration) (q : Ask) (r : Reply) (n : ℕ) → x.at ≡ Unfinished c → nat_lt b (actors threads (cells_of cells)) ≡ true → ActorSound (replied (codes b) c q r n x)
      replied_sound c q (reply.At p) n at lt = hears_sound c q (reply.At p) at lt
      replied_sound c q (reply.Is v) n at lt = hears_sound c q (reply.Is v) at lt
      replied_sound c q (reply.Views p vs) n at lt = hears_sound c q (reply.Views p vs) at lt
      replied_sound c q reply.Done n at lt = hears_sound c q reply.Done at lt
      replied_sound c q (reply.Retry d) n at lt = hears_sound c q (reply.Retry d) at lt
      replied_sound c q (reply.Changed d) n at lt = hears_sound c q (reply.Changed d) at lt
      replied_sound c q (reply.AgentIsFailed g) n at lt = hears_sound c q (reply.AgentIsFailed g) at lt
      replied_sound c q (reply.Action i y v) n at lt = hears_sound c q (reply.Action i y v) at lt
      replied_sound c q (reply.Opened p v) n at lt = hears_sound c q (reply.Opened p v) at lt
      replied_sound c q reply.Idle n at lt = k lt
      replied_sound c q reply.Full n at lt = k lt
      replied_sound c q reply.Memory n at lt = k lt

      stays : After b (moved x sh)
      stays = record { books = h; actor = k }

      comes : (c : Configuration) (o : Turned Configuration) → x.at ≡ Unfinished c → turn (codes b) c ≡ o → After b (moved (comes_to o x) sh)
      comes c o at e = record { books = h; actor = λ lt. subst (Holds HoldsSound HoldsSound) e (turns_sound c at lt) }

      asked_sound : (t : Bool) (c : Configuration) (q : Ask) → x.at ≡ Unfinished c → may_ask cells threads sh.taken b q (sh.books (book_for cells q)) ≡ t → (nat_lt b (actors threads (cells_of cells)) ≡ true → AskSound q) → After b (asked t cells (codes b) b c q x sh)
      asked_sound false c q at may s = record { books = h; actor = k }
      asked_sound true c q at may s = record { books = λ n. go n (n == book_for cells q); actor = λ lt. replied_sound c q (serve_on cells b q (sh.books (book_for cells q))).reply (length (sh.books (book_for cells q))) at lt }
        where
          go : (n : ℕ) (t : Bool) → AllSound functions (if t then (serve_on cells b q (sh.books (book_for cells q))).book else sh.books n)
          go n true = served_such Sent quiet_sound cells b (sh.books (book_for cells q)) (h (book_for cells q)) q (asks_bring (sh.books (book_for cells q)) q (s (asker_is cells threads sh.taken b (sh.books (book_for cells q)) q may)))
          go n false = h n

      asks_sound : (c : Configuration) (s : ActorState) (o : Option Ask) → x.at ≡ Unfinished c → turn (codes b) c ≡ Asking s → s.wants ≡ o → After b (asks_for cells threads (codes b) b c s o x sh)
      asks_sound c s None at e w = comes c (Asking s) at e
      asks_sound c s (Some q) at e w =
          asked_sound (may_ask cells threads sh.taken b q (sh.books (book_for cells q))) c q at refl (λ lt. subst WantSound w (subst (Holds HoldsSound HoldsSound) e (turns_sound c at lt)).2)

      turned_sound : (c : Configuration) (o : Turned Configuration) → x.at ≡ Unfinished c → turn (codes b) c ≡ o → After b (turned cells threads (codes b) b c o x sh)
      turned_sound c (Ended s) at e = comes c (Ended s) at e
      turned_sound c (Failed f s) at e = comes c (Failed f s) at e
      turned_sound c (Asking s) at e = asks_sound c s s.wants at e refl
      turned_sound c (Unfinished d) at e = comes c (Unfinished d) at e
      turned_sound c Stuck at e = comes c Stuck at e

      taken_sound : (o : Turned Configuration) (why : Option Stop) → x.at ≡ o → After b (turns_from cells threads (codes b) b o why x sh)
      taken_sound (Ended s) why e = stays
      taken_sound (Failed f s) why e = stays
      taken_sound (Asking s) why e = stays
      taken_sound (Unfinished c) None e = turned_sound c (turn (codes b) c) e refl
      taken_sound (Unfinished c) (Some s) e = stays
      taken_sound Stuck why e = stays

      stopped_sound : (why : Stop) (o : Turned Configuration) (s : Option Stop) → After b (moved (stops_from why o s x) sh)
      stopped_sound why (Ended s) o = stays
      stopped_sound why (Failed f s) o = stays
      stopped_sound why (Asking s) o = stays
      stopped_sound why (Unfinished c) None = record { books = h; actor = k }
      stopped_sound why (Unfinished c) (Some s) = stays
      stopped_sound why Stuck o = stays

    moves_sound : (y : Play) (st : State) → Sends st → After (actor_of y) (moves cells threads codes y st)
    moves_sound (TakesTurn b) st h = taken_sound b (st.actors b) st.shared h.books (h.held b) (st.actors b).at (st.actors b).stopped refl
    moves_sound (IsStopped b why) st h = stopped_sound b (st.actors b) st.shared h.books (h.held b) why (st.actors b).at (st.actors b).stopped

    pub play_sends : (y : Play) (st : State) → Sends st → Sends (play cells threads codes y st)
    play_sends y st h = record { books = m.books; held = λ a lt. go a lt (actor_of y == a) refl }
      where
        m : After (actor_of y) (moves cells threads codes y st)
        m = moves_sound y st h

        go : (a : ℕ) → nat_lt a (actors threads (cells_of cells)) ≡ true → (t : Bool) → (actor_of y == a) ≡ t → ActorSound (if t then (moves cells threads codes y st).actor else st.actors a)
        go a lt true e = m.actor (subst (λ i. nat_lt i (actors threads (cells_of cells)) ≡ true) (sym (numbers (actor_of y) a e)) lt)
        go a lt false e = h.held a lt

    pub opening_sends : Sends (opens cells codes)
    opening_sends = record { books = λ n. tt; held = λ a lt. (tt, tt, tt) }
