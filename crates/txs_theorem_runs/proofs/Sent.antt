-- What threads send is such as their code sends wherever it comes to; so it is of all that the books send, and of what an agent runs next.
use Rattle.std.proofs.Common.{◌≡◌, ℕ, Bool, true, false, not, ◌==◌, nat_lt, List, [], ◌∷◌, ◌++◌, length, map, drop, Result, Ok, Err, ap, ◌∙◌, Option, Some, None, refl, sym, subst, if◌then◌else◌, inl, inr}
use Rattle.std.proofs.lemmas.Bool.{false≢true}
use Rattle.txs_world_protocol.specs.Ask.{Exchange}
use Rattle.txs_world_protocol.specs.declared.ask.Ask.{Ask}
use Rattle.txs_world_protocol.specs.declared.ask.Ask.TheVariants as ask
use Rattle.txs_world_protocol.specs.declared.ask.Reply.{Reply}
use Rattle.txs_world_protocol.specs.declared.ask.Reply.TheVariants as reply
use Rattle.txs_world_protocol.specs.declared.event.Event.{Event}
use Rattle.txs_world_protocol.specs.declared.event.EventKind.{EventKind}
use Rattle.txs_world_protocol.specs.declared.event.EventKind.TheVariants as event
use Rattle.txs_value_data.proofs.SameLemmas.{numbers}
use Rattle.txs_value_data.specs.Places.{nth}
use Rattle.txs_value_cell.specs.declared.action.Action.{Action}
use Rattle.txs_value_cell.specs.declared.cell.CellDefinition.{CellDefinition}
use Rattle.txs_value_data.specs.declared.fault.Fault.{Fault}
use Rattle.txs_value_data.specs.declared.value.CellId.{CellId}
use Rattle.txs_value_data.specs.declared.value.Value.{Value}
use Rattle.txs_code_meaning.specs.ActorState.{ActorState, InHand, held_in, now_holding}
use Rattle.txs_code_meaning.specs.Machine.{ThreadCode, fetch, Configuration, Turned, Ended, Failed, Asking, Unfinished, Stuck, turn, run}
use Rattle.txs_code_meaning.specs.Opening.{given, opening}
use Rattle.txs_world_book.specs.Book.{actors, is_there, is_failed, Mail, no_mail, sent_to, acted, mail_changed, mail_from, mail_after, goes_on, Each}
use Rattle.txs_world_book.specs.Served.{cells_of}
use Rattle.txs_frame.specs.Frame.{sends_of_commit}
use Rattle.txs_world.specs.Laws.{ServeKeeps}
use Rattle.txs_world.specs.Store.{first_action, next_action}
use Rattle.txs_world_book.specs.declared.cell.StoreCell.{StoreCell}
use Rattle.txs_theorem_runs.specs.Invariant.{RunInvariant}
use Rattle.txs_theorem_runs.specs.Run.{Stop, Actor, Moved, moved, comes_to, replied, exchange, asked, asks_for, turned, turns_from, stops_from, Play, TakesTurn, IsStopped, State, moves, actor_of, play, plays_from, opens}
use Rattle.txs_theorem_runs.specs.Shared.{Shared, book_for, serve_on, may_ask}
use Rattle.txs_theorem_runs.specs.Staged.{StagedActor}
use Rattle.txs_theorem_runs.specs.Told.{exchange_of}
use Rattle.txs_theorem_runs.proofs.Adding.{IsQuiet, Brings, served_such}
use Rattle.txs_theorem_runs.proofs.Asker.{asker_is}
use Rattle.txs_theorem_runs.proofs.Keeping.{IsKept, HeldBy, SendsOwn, SendsSuch, Holds, turn_keeps}
use Rattle.txs_theorem_runs.proofs.Steps.{play_holds}
use Rattle.txs_theorem_runs.proofs.Whole.{FreshStands, opening_holds}

abbrev action_or : Action → Option Action → Action
action_or x None = x
action_or x (Some y) = y

module _ (P : Action → Type 0) where
  -- these actions are such
  abbrev pub AreSuch : List Action → Type 0
  AreSuch [] = Unit {0}
  AreSuch (x ∷ xs) = P x × AreSuch xs

  -- what an event sends is such
  abbrev pub SendsWell : EventKind → Type 0
  SendsWell (event.Commit at view ws sends) = AreSuch sends
  SendsWell (event.Send x) = P x
  SendsWell (event.Act g n new sends) = AreSuch sends
  SendsWell _ = Unit {0}

  -- all that a book sends is such
  abbrev pub AllSuch : List Event → Type 0
  AllSuch book = Each (λ done e. SendsWell e.kind) [] book

  -- code whose sends, wherever it comes to, send such actions alone
  abbrev pub CodeSendsSuch : ThreadCode → Type 0
  CodeSendsSuch code = (m : ℕ) (xs : List Exchange) (c : Configuration) → run code m (opening code xs) ≡ Unfinished c → SendsSuch P (fetch code c.body c.place)

  pub such_append : (xs ys : List Action) → AreSuch xs → AreSuch ys → AreSuch (xs ++ ys)
  such_append [] ys h k = k
  such_append (x ∷ xs) ys h k = (h.0, such_append xs ys h.1 k)

  such_sent : (k : ℕ) (xs : List Action) → AreSuch xs → AreSuch (sent_to k xs)
  such_sent k [] h = tt
  such_sent k (x ∷ xs) h = go (x.agent.number == k) (such_sent k xs h.1)
    where
      go : (b : Bool) → AreSuch (sent_to k xs) → AreSuch (if b then x ∷ sent_to k xs else sent_to k xs)
      go true r = (h.0, r)
      go false r = r

  such_drop : (xs : List Action) → AreSuch xs → AreSuch (drop 1 xs)
  such_drop [] h = tt
  such_drop (x ∷ xs) h = h.1

  such_acted : (goes : Bool) (new : Result Value Fault) (m : Mail) → AreSuch m.actions → AreSuch (acted goes new m).actions
  such_acted goes (Ok v) m h = such_drop m.actions h
  such_acted true (Err f) m h = such_drop m.actions h
  such_acted false (Err f) m h = such_drop m.actions h

  such_changed : (goes : Bool) (k : ℕ) (d : EventKind) (m : Mail) → SendsWell d → AreSuch m.actions → AreSuch (mail_changed goes k d m).actions
  such_changed goes k (event.Read c) m s h = h
  such_changed goes k (event.Commit at view ws sends) m s h = such_append m.actions (sent_to k sends) h (such_sent k sends s)
  such_changed goes k (event.Retry since c cause) m s h = h
  such_changed goes k (event.Fail at view) m s h = h
  such_changed goes k (event.Refused at view g) m s h = h
  such_changed goes k (event.Send x) m s h = such_append m.actions (sent_to k (x ∷ [])) h (such_sent k (x ∷ []) (s, tt))
  such_changed goes k (event.SendRefused g) m s h = h
  such_changed goes k (event.Act g n new sends) m s h = such_append (if g.number == k then acted goes new m else m).actions (sent_to k sends) (go (g.number == k)) (such_sent k sends s)
    where
      go : (b : Bool) → AreSuch (if b then acted goes new m else m).actions
      go true = such_acted goes new m h
      go false = h
  such_changed goes k (event.Swap new) m s h = h
  such_changed goes k (event.Broke at) m s h = h

  such_mail : (goes : Bool) (k : ℕ) (m : Mail) (done es : List Event) → AreSuch m.actions → Each (λ l e. SendsWell e.kind) done es → AreSuch (mail_from goes k m es).actions
  such_mail goes k m done [] h s = h
  such_mail goes k m done (e ∷ es) h s = such_mail goes k (mail_changed goes k e.kind m) (done ++ e ∷ []) es (such_changed goes k e.kind m s.0 h) s.1

  first_such : (b : Bool) (xs : List Action) (x : Action) → AreSuch xs → first_action b xs ≡ Some x → P x
  first_such true xs x h e = absurd (false≢true (ap is_there e))
  first_such false [] x h e = absurd (false≢true (ap is_there e))
  first_such false (y ∷ xs) x h e = subst P (ap (action_or x) e) h.0

  -- what an agent runs next is sound, where all that was sent is
  pub next_such : (cells : List StoreCell) (book : List Event) (g : CellId) (x : Action) → AllSuch book → next_action cells book g ≡ Some x → P x
  next_such cells book g x s e =
      first_such (is_failed cells book g) (mail_after cells book g.number).actions x (such_mail (goes_on (nth cells g.number)) g.number no_mail [] book tt s) e

  -- what an ask sends is such as a program may send
  abbrev AskSound : Ask → Type 0
  AskSound (ask.Send x) = P x
  AskSound (ask.Commit p sets ensured q commuted sends) = AreSuch sends
  AskSound (ask.Finish g new sends) = AreSuch sends
  AskSound _ = Unit {0}

  abbrev WantSound : Option Ask → Type 0
  WantSound None = Unit {0}
  WantSound (Some q) = AskSound q

  -- an action holds such sends
  abbrev pub ActsSound : Option InHand → Type 0
  ActsSound None = Unit {0}
  ActsSound (Some h) = AreSuch h.sends

  -- what the transaction holds is such, what the action holds, and so what the actor asks
  abbrev pub HoldsSound : ActorState → Type 0
  HoldsSound s = AreSuch s.done.sends × ActsSound s.acting × WantSound s.wants

  -- what a commit sends is what the transaction holds, or nothing
  commit_sound : (o : Option (List Action)) (xs : List Action) → AreSuch xs → AreSuch (sends_of_commit o xs)
  commit_sound None xs h = h
  commit_sound (Some ys) xs h = tt

  abbrev list_or : Option (List Action) → List Action
  list_or None = []
  list_or (Some xs) = xs

  held_sound : (o : Option InHand) → ActsSound o → AreSuch (list_or (held_in o))
  held_sound None h = tt
  held_sound (Some x) h = h

  -- and what an action hands in
  handed_sound : (o : Option InHand) (sends : List Action) → ActsSound o → HeldBy o sends → AreSuch sends
  handed_sound o sends h (inl e) = subst (AreSuch) (sym e) tt
  handed_sound o sends h (inr e) = subst (AreSuch) (ap list_or e) (held_sound o h)

  more_sound : (o : Option InHand) (xs : List Action) → ActsSound o → AreSuch xs → ActsSound (now_holding xs o)
  more_sound None xs h k = tt
  more_sound (Some x) xs h k = such_append x.sends xs h k

  own_sound : (s : ActorState) (q : Ask) → SendsOwn P s q → AreSuch s.done.sends → ActsSound s.acting → AskSound q
  own_sound s (ask.Send x) own h k = own
  own_sound s (ask.Commit p sets ensured q commuted sends) own h k = subst (AreSuch) (sym own) (commit_sound (held_in s.acting) s.done.sends h)
  own_sound s ask.Begin own h k = tt
  own_sound s (ask.Look c p) own h k = tt
  own_sound s (ask.View cs) own h k = tt
  own_sound s (ask.Fail p q) own h k = tt
  own_sound s (ask.Peek c) own h k = tt
  own_sound s (ask.Take g) own h k = tt
  own_sound s (ask.Finish g new sends) own h k = handed_sound s.acting sends k own
  own_sound s (ask.OpenAt c) own h k = tt
  own_sound s (ask.CloseAt c p v) own h k = tt
  own_sound s (ask.Broke c p) own h k = tt

  sound_kept : IsKept P HoldsSound
  sound_kept = record {
    on_reply = λ s x xs e h. h;
    on_begin = λ s p h. (tt, h.1, h.2);
    on_work = λ s view w o e h. (subst (AreSuch) (sym e) h.0, h.1, h.2);
    on_hold = λ s x such h. (such_append s.done.sends (x ∷ []) h.0 (such, tt), h.1, h.2);
    on_take = λ s g x h. (h.0, tt, h.2);
    on_rest = λ s h. (h.0, tt, h.2);
    on_fault = λ s x f e h. (h.0, subst ActsSound e h.1, h.2);
    on_held = λ s x such h. (h.0, more_sound s.acting (x ∷ []) h.1 (such, tt), h.2);
    on_land = λ s h. (h.0, more_sound s.acting s.done.sends h.1 h.0, h.2);
    on_accepted = λ s o h. h;
    on_wait = λ s q own h. (h.0, h.1, own_sound s q own h.0 h.1);
  }

  turn_such : (code : ThreadCode) (c : Configuration) → SendsSuch P (fetch code c.body c.place) → HoldsSound c.state → Holds HoldsSound HoldsSound (turn code c)
  turn_such code c by h = turn_keeps P HoldsSound HoldsSound sound_kept (λ s k. k) (λ s out k. k) code c h by

  -- ---- the books

  -- what an event sends is such
  abbrev Sent : List Event → EventKind → Type 0
  Sent done kind = SendsWell kind

  quiet_sound : (done : List Event) (kind : EventKind) → IsQuiet kind → Sent done kind
  quiet_sound done (event.Read c) h = tt
  quiet_sound done (event.Commit at view ws sends) h = absurd h
  quiet_sound done (event.Retry since c cause) h = tt
  quiet_sound done (event.Fail at view) h = tt
  quiet_sound done (event.Refused at view g) h = tt
  quiet_sound done (event.Send x) h = absurd h
  quiet_sound done (event.SendRefused g) h = tt
  quiet_sound done (event.Act g n new sends) h = absurd h
  quiet_sound done (event.Swap new) h = tt
  quiet_sound done (event.Broke at) h = tt

  -- what an ask sends that may be made
  asks_bring : (book : List Event) (q : Ask) → AskSound q → Brings Sent book q
  asks_bring book (ask.Send x) s = s
  asks_bring book (ask.Commit p sets ensured q commuted sends) s = λ ws. s
  asks_bring book (ask.Finish g new sends) s = λ i. (s, λ at. tt)
  asks_bring book ask.Begin s = tt
  asks_bring book (ask.Look c p) s = tt
  asks_bring book (ask.View cs) s = tt
  asks_bring book (ask.Fail p q) s = tt
  asks_bring book (ask.Peek c) s = tt
  asks_bring book (ask.Take g) s = tt
  asks_bring book (ask.OpenAt c) s = tt
  asks_bring book (ask.CloseAt c p v) s = tt
  asks_bring book (ask.Broke c p) s = tt

  -- ---- plays

  module _ (cells : List CellDefinition) (threads : ℕ) (codes : ℕ → ThreadCode) (by : (a : ℕ) → nat_lt a (actors threads (cells_of cells)) ≡ true → CodeSendsSuch (codes a)) where
    abbrev BooksSound : (ℕ → List Event) → Type 0
    BooksSound books = (n : ℕ) → AllSuch (books n)

    -- where an actor is, it holds such actions alone
    abbrev ActorSound : Actor → Type 0
    ActorSound x = Holds HoldsSound HoldsSound x.at

    -- all that was sent, and what the actors hold
    pub record Sends (st : State) : Type 0 where
      pub books : (n : ℕ) → AllSuch (st.shared.books n)
      pub held : (a : ℕ) → nat_lt a (actors threads (cells_of cells)) ≡ true → Holds HoldsSound HoldsSound (st.actors a).at

    -- what is known of an actor's play: the books, and of an actor what it holds
    record After (b : ℕ) (m : Moved) : Type 0 where
      books : BooksSound m.shared.books
      actor : nat_lt b (actors threads (cells_of cells)) ≡ true → ActorSound m.actor

    module _ (b : ℕ) (x : Actor) (sh : Shared) (h : BooksSound sh.books) (k : nat_lt b (actors threads (cells_of cells)) ≡ true → ActorSound x) (ran : nat_lt b (actors threads (cells_of cells)) ≡ true → run (codes b) x.turns (opening (codes b) (map exchange_of x.entries)) ≡ x.at) where
      here : (c : Configuration) → x.at ≡ Unfinished c → nat_lt b (actors threads (cells_of cells)) ≡ true → SendsSuch P (fetch (codes b) c.body c.place)
      here c at lt = by b lt x.turns (map exchange_of x.entries) c (ran lt ∙ at)

      turns_sound : (c : Configuration) → x.at ≡ Unfinished c → nat_lt b (actors threads (cells_of cells)) ≡ true → Holds HoldsSound HoldsSound (turn (codes b) c)
      turns_sound c at lt = turn_such (codes b) c (here c at lt) (subst (Holds HoldsSound HoldsSound) at (k lt))

      hears_sound : (c : Configuration) (q : Ask) (r : Reply) → x.at ≡ Unfinished c → nat_lt b (actors threads (cells_of cells)) ≡ true → Holds HoldsSound HoldsSound (turn (codes b) (given (exchange q r ∷ []) c))
      hears_sound c q r at lt = turn_such (codes b) (given (exchange q r ∷ []) c) (here c at lt) (subst (Holds HoldsSound HoldsSound) at (k lt))

      replied_sound : (c : Configuration) (q : Ask) (r : Reply) (n : ℕ) → x.at ≡ Unfinished c → nat_lt b (actors threads (cells_of cells)) ≡ true → ActorSound (replied (codes b) c q r n x)
      replied_sound c q (reply.At p) n at lt = hears_sound c q (reply.At p) at lt
      replied_sound c q (reply.Is v) n at lt = hears_sound c q (reply.Is v) at lt
      replied_sound c q (reply.Views p vs) n at lt = hears_sound c q (reply.Views p vs) at lt
      replied_sound c q reply.Done n at lt = hears_sound c q reply.Done at lt
      replied_sound c q (reply.Retry d) n at lt = hears_sound c q (reply.Retry d) at lt
      replied_sound c q (reply.Changed d) n at lt = hears_sound c q (reply.Changed d) at lt
      replied_sound c q (reply.AgentIsFailed g) n at lt = hears_sound c q (reply.AgentIsFailed g) at lt
      replied_sound c q (reply.Action i y v) n at lt = hears_sound c q (reply.Action i y v) at lt
      replied_sound c q (reply.Opened p v) n at lt = hears_sound c q (reply.Opened p v) at lt
      replied_sound c q reply.Idle n at lt = k lt
      replied_sound c q reply.Full n at lt = k lt
      replied_sound c q reply.Memory n at lt = k lt

      stays : After b (moved x sh)
      stays = record { books = h; actor = k }

      comes : (c : Configuration) (o : Turned Configuration) → x.at ≡ Unfinished c → turn (codes b) c ≡ o → After b (moved (comes_to o x) sh)
      comes c o at e = record { books = h; actor = λ lt. subst (Holds HoldsSound HoldsSound) e (turns_sound c at lt) }

      asked_sound : (t : Bool) (c : Configuration) (q : Ask) → x.at ≡ Unfinished c → may_ask cells threads sh.taken b q (sh.books (book_for cells q)) ≡ t → (nat_lt b (actors threads (cells_of cells)) ≡ true → AskSound q) → After b (asked t cells (codes b) b c q x sh)
      asked_sound false c q at may s = record { books = h; actor = k }
      asked_sound true c q at may s = record { books = λ n. go n (n == book_for cells q); actor = λ lt. replied_sound c q (serve_on cells b q (sh.books (book_for cells q))).reply (length (sh.books (book_for cells q))) at lt }
        where
          go : (n : ℕ) (t : Bool) → AllSuch (if t then (serve_on cells b q (sh.books (book_for cells q))).book else sh.books n)
          go n true = served_such Sent quiet_sound cells b (sh.books (book_for cells q)) (h (book_for cells q)) q (asks_bring (sh.books (book_for cells q)) q (s (asker_is cells threads sh.taken b (sh.books (book_for cells q)) q may)))
          go n false = h n

      asks_sound : (c : Configuration) (s : ActorState) (o : Option Ask) → x.at ≡ Unfinished c → turn (codes b) c ≡ Asking s → s.wants ≡ o → After b (asks_for cells threads (codes b) b c s o x sh)
      asks_sound c s None at e w = comes c (Asking s) at e
      asks_sound c s (Some q) at e w =
          asked_sound (may_ask cells threads sh.taken b q (sh.books (book_for cells q))) c q at refl (λ lt. subst WantSound w (subst (Holds HoldsSound HoldsSound) e (turns_sound c at lt)).2)

      turned_sound : (c : Configuration) (o : Turned Configuration) → x.at ≡ Unfinished c → turn (codes b) c ≡ o → After b (turned cells threads (codes b) b c o x sh)
      turned_sound c (Ended s) at e = comes c (Ended s) at e
      turned_sound c (Failed f s) at e = comes c (Failed f s) at e
      turned_sound c (Asking s) at e = asks_sound c s s.wants at e refl
      turned_sound c (Unfinished d) at e = comes c (Unfinished d) at e
      turned_sound c Stuck at e = comes c Stuck at e

      taken_sound : (o : Turned Configuration) (why : Option Stop) → x.at ≡ o → After b (turns_from cells threads (codes b) b o why x sh)
      taken_sound (Ended s) why e = stays
      taken_sound (Failed f s) why e = stays
      taken_sound (Asking s) why e = stays
      taken_sound (Unfinished c) None e = turned_sound c (turn (codes b) c) e refl
      taken_sound (Unfinished c) (Some s) e = stays
      taken_sound Stuck why e = stays

      stopped_sound : (why : Stop) (o : Turned Configuration) (s : Option Stop) → After b (moved (stops_from why o s x) sh)
      stopped_sound why (Ended s) o = stays
      stopped_sound why (Failed f s) o = stays
      stopped_sound why (Asking s) o = stays
      stopped_sound why (Unfinished c) None = record { books = h; actor = k }
      stopped_sound why (Unfinished c) (Some s) = stays
      stopped_sound why Stuck o = stays

    -- actors are where their code comes to
    abbrev HaveRun : State → Type 0
    HaveRun st = (b : ℕ) → nat_lt b (actors threads (cells_of cells)) ≡ true → run (codes b) (st.actors b).turns (opening (codes b) (map exchange_of (st.actors b).entries)) ≡ (st.actors b).at

    moves_sound : (y : Play) (st : State) → HaveRun st → Sends st → After (actor_of y) (moves cells threads codes y st)
    moves_sound (TakesTurn b) st ran h = taken_sound b (st.actors b) st.shared h.books (h.held b) (ran b) (st.actors b).at (st.actors b).stopped refl
    moves_sound (IsStopped b why) st ran h = stopped_sound b (st.actors b) st.shared h.books (h.held b) (ran b) why (st.actors b).at (st.actors b).stopped

    pub play_sends : (y : Play) (st : State) → HaveRun st → Sends st → Sends (play cells threads codes y st)
    play_sends y st ran h = record { books = m.books; held = λ a lt. go a lt (actor_of y == a) refl }
      where
        m : After (actor_of y) (moves cells threads codes y st)
        m = moves_sound y st ran h

        go : (a : ℕ) → nat_lt a (actors threads (cells_of cells)) ≡ true → (t : Bool) → (actor_of y == a) ≡ t → ActorSound (if t then (moves cells threads codes y st).actor else st.actors a)
        go a lt true e = m.actor (subst (λ i. nat_lt i (actors threads (cells_of cells)) ≡ true) (sym (numbers (actor_of y) a e)) lt)
        go a lt false e = h.held a lt

    pub opening_sends : Sends (opens cells codes)
    opening_sends = record { books = λ n. tt; held = λ a lt. (tt, tt, tt) }

    have_run : (st : State) → ((a : ℕ) → nat_lt a (actors threads (cells_of cells)) ≡ true → StagedActor (not (nat_lt a threads)) (codes a)) → RunInvariant cells threads codes st → HaveRun st
    have_run st staged h b lt = (h.actors (not (nat_lt b threads)) b (staged b lt)).ran

    all_sent : ServeKeeps → ((a : ℕ) → nat_lt a (actors threads (cells_of cells)) ≡ true → StagedActor (not (nat_lt a threads)) (codes a)) → (ys : List Play) (st : State) → RunInvariant cells threads codes st → Sends st → Sends (plays_from cells threads codes ys st)
    all_sent keeps staged [] st i h = h
    all_sent keeps staged (y ∷ ys) st i h =
        all_sent keeps staged ys (play cells threads codes y st) (play_holds keeps cells threads codes y st i) (play_sends y st (have_run st staged i) h)

    -- what the actors of a run send is such
    pub run_sends : ServeKeeps → FreshStands → ((a : ℕ) → nat_lt a (actors threads (cells_of cells)) ≡ true → StagedActor (not (nat_lt a threads)) (codes a)) → (ys : List Play) → AllSuch ((plays_from cells threads codes ys (opens cells codes)).shared.books 0)
    run_sends keeps fresh staged ys = (all_sent keeps staged ys (opens cells codes) (opening_holds fresh cells threads codes) opening_sends).books 0
