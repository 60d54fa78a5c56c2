-- The answer to an ask of an actor that follows a history.
use Rattle.std.proofs.Common.{◌≡◌, ◌≤◌, ℕ, suc, Bool, true, false, nat_lt, List, [], ◌∷◌, ◌++◌, length, map, Option, Some, None, refl, sym, ap, subst, ◌∙◌, if◌then◌else◌, arith}
use Rattle.std.proofs.lemmas.Bool.Decides.{nat_tests}
use mathlib.Core.List.{IsPrefix}
use Rattle.txs_world_protocol.specs.declared.ask.Ask.{Ask}
use Rattle.txs_world_protocol.specs.declared.ask.Reply.{Reply}
use Rattle.txs_world_protocol.specs.declared.ask.Reply.TheVariants as reply
use Rattle.txs_world_protocol.specs.declared.event.Event.{Event}
use Rattle.txs_world_protocol.specs.declared.event.Outcome.{Outcome}
use Rattle.txs_world_protocol.specs.declared.event.Outcome.TheVariants as outcome
use Rattle.txs_world_protocol.specs.declared.event.Place.{Place}
use Rattle.txs_value_data.specs.Limits.{most_events}
use Rattle.txs_code_meaning.specs.Machine.{ThreadCode, Configuration, Turned, Unfinished}
use Rattle.txs_code_meaning.specs.PlainCode.{PlainCode}
use Rattle.txs_machine_actor.specs.Laws.{ActorsRun}
use Rattle.txs_machine_actor.specs.PlainActor.{PlainActor, Lives, MayAnswer, Stops, answered, unanswered, configuration_of, state_of, code_of, standing, SameBut}
use Rattle.txs_machine_actor.proofs.Following.{Unstopped, unstopped_if}
use Rattle.txs_history.specs.declared.log.Entry.TheVariants as entered
use Rattle.txs_world_book.specs.Served.{Served as Answer}
use Rattle.txs_theorem_runs.specs.Laws.{with_book}
use Rattle.txs_theorem_runs.specs.Run as run
use Rattle.txs_theorem_runs.specs.Run.{Actor, Moved, Stop, entry, hears, new_actor, replied, stop}
use Rattle.txs_theorem_runs.specs.Shared.{Shared, book_for, serve_on, may_ask, shared_after}
use Rattle.txs_theorem_runs.specs.Told.{Entry, exchange_of, IsExchanged, AllHold, trace_of}
use Rattle.txs_theorem_runs.proofs.Growing.{IsFull, Serves, own_hold}
use Rattle.txs_theorem_runs.proofs.Serving.{serves}
use Rattle.txs_history.specs.Following.{FollowsAll, IsNextAsk, after_turn}
use Rattle.txs_history.specs.Asked.{History, asked_by, shared_by}
use Rattle.txs_history.proofs.Following.{follows_more, follows_prefix, follows_stops, turn_with_ask}
use Rattle.txs_history.proofs.Sharing.{books_grow, hold_on, shared_next}
use Rattle.txs_machine.specs.Running.{IsPlacedAs, IsPlayerOf}
use Rattle.txs_machine.specs.RunOver.{places_of}
use Rattle.txs_machine.specs.Scheduled.{steps_by}
use Rattle.txs_machine.proofs.Answered.{Leaves, answer_leaves, full_stops, memory_stops, full_state, memory_state, idle_number, idle_outcome, idle_steps}
use Rattle.txs_machine.proofs.RunOver as over
use Rattle.txs_machine.proofs.RunOver.{Unfilled, unfilled_of, append_nil, append_length, full_at, adds_event, places_append}
use Rattle.txs_history_run.specs.Actor.{IsFollowing, IsOn, IsWaiting, noted}
use Rattle.txs_history_run.proofs.On.{heard_on, idle_on, stopped_on}

funext : {A B : Type 0} (f g : A → B) → ((x : A) → f x ≡ g x) → f ≡ g
funext f g h = λ i. λ x. h x i

-- ---- a longer history

long : {A : Type 0} (n : ℕ) (xs more ys : List A) → xs ++ more ≡ ys → n ≤ length xs → n ≤ length ys
long n xs more ys e h = let l = append_length xs more in subst (λ zs. n ≤ length zs) e (omega (arith, h, l))

-- an actor that asks nothing follows a longer history
pub follows_longer : (code : PlainCode) (a : PlainActor) (tr : List Place) (m : ℕ) (h g : History) → IsPrefix h g → IsFollowing code a tr m h → IsFollowing code a tr m g
follows_longer code a tr m h g p f =
    let s = hold_on code.cells (length code.threads) a.number f.place.entries h g p f.hold in
    record {
      lives = f.lives;
      place = f.place;
      follows = follows_prefix code.cells (length code.threads) (code_of code a.number) a.number m h g f.place p f.follows;
      hold = s.0;
      is = record {
        number = f.is.number;
        waits = f.is.waits;
        placed = f.is.placed;
        ran = f.is.ran;
        counted = f.is.counted;
        traced = f.is.traced ∙ sym s.1;
        full = λ e. (let x = f.is.full e in let l = books_grow code.cells h g p (book_for code.cells x.ask) in record { ask = x.ask; asked = x.asked; full = long most_events ((shared_by code.cells h).books (book_for code.cells x.ask)) l.0 ((shared_by code.cells g).books (book_for code.cells x.ask)) l.1 x.full });
        stops = λ e. (let x = f.is.stops e in let l = books_grow code.cells h g p (book_for code.cells x.ask) in
            record { place = x.place; at = x.at; ask = x.ask; asks = x.asks; adds = x.adds; full = long most_events ((shared_by code.cells h).books (book_for code.cells x.ask)) l.0 ((shared_by code.cells g).books (book_for code.cells x.ask)) l.1 x.full });
      };
      on = f.on;
    }

-- and so does one that asks
pub waits_longer : (code : PlainCode) (a : PlainActor) (q : Ask) (tr : List Place) (m : ℕ) (h g : History) → IsPrefix h g → IsWaiting code a q tr m h → IsWaiting code a q tr m g
waits_longer code a q tr m h g p f =
    let s = hold_on code.cells (length code.threads) a.number f.place.entries h g p f.hold in
    record {
      lives = f.lives;
      going = f.going;
      waits = f.waits;
      place = f.place;
      from = f.from;
      follows = follows_prefix code.cells (length code.threads) (code_of code a.number) a.number m h g f.place p f.follows;
      at = f.at;
      awaits = f.awaits;
      hold = s.0;
      counted = f.counted;
      traced = f.traced ∙ sym s.1;
      on = f.on;
    }

-- ---- an answer

module _ (laws : ActorsRun) (code : PlainCode) (a : PlainActor) (q : Ask) (tr : List Place) (m : ℕ) (h : History) (w : IsWaiting code a q tr m h) (lock : ℕ) (own : lock ≡ book_for code.cells q)
    (lawful : may_ask code.cells (length code.threads) (shared_by code.cells h).taken a.number q ((shared_by code.cells h).books (book_for code.cells q)) ≡ true) where
  abbrev k : ℕ
  k = a.number

  abbrev kd : ThreadCode
  kd = code_of code k

  abbrev sh : Shared
  sh = shared_by code.cells h

  abbrev home : List Event
  home = sh.books (book_for code.cells q)

  abbrev v : Answer
  v = serve_on code.cells k q home

  abbrev next : ℕ → List Event
  next = with_book (book_for code.cells q) v.book sh.books

  abbrev x : Actor
  x = w.place

  abbrev es : List Entry
  es = x.entries

  -- the history with the ask
  abbrev pub grown : History
  grown = h ++ entered.Event lock (asked_by k q) ∷ []

  shared_is : shared_by code.cells grown ≡ shared_after code.cells q v sh
  shared_is =
      shared_next code.cells h lock (asked_by k q) own
      ∙ ap (λ n. shared_after code.cells q (serve_on code.cells k q (sh.books n)) sh) own

  books_are : (shared_by code.cells grown).books ≡ next
  books_are = ap (λ (s : Shared). s.books) shared_is

  asks_next : IsNextAsk code.cells (length code.threads) kd k x lock (asked_by k q) sh
  asks_next = record {
    actor = refl;
    from = w.from;
    going = w.at;
    asks = (record (state_of a) { wants = Some q }, w.awaits.asks, refl);
    lock = own;
    may = lawful;
  }

  -- where the run's actor is after the turn in which the ask was served
  abbrev there : Actor
  there = replied kd w.from q v.reply (length home) x

  turned_there : after_turn code.cells (length code.threads) kd k x sh ≡ there
  unfolding asks_next
  turned_there = ap (λ (m : Moved). m.actor) (turn_with_ask code.cells (length code.threads) kd k x lock (asked_by k q) sh asks_next)

  follows_there : FollowsAll code.cells (length code.threads) kd k (suc m) grown there
  follows_there =
      subst (FollowsAll code.cells (length code.threads) kd k (suc m) grown) turned_there
      (follows_more code.cells (length code.threads) kd k [] (new_actor kd) m h x lock (asked_by k q) w.follows asks_next)

  -- the places with that of the event that was added, if one was
  abbrev later : List Place
  later = noted (nat_lt (length home) (length v.book)) lock (length home) tr

  later_is : places_of later ≡ places_of tr ++ over.added code k sh.books sh.taken q lawful
  later_is = go (nat_lt (length home) (length v.book))
    where
      go : (b : Bool) → places_of (noted b lock (length home) tr) ≡ places_of tr ++ (if b then record { book = book_for code.cells q; at = length home } ∷ [] else [])
      go true = places_append tr (record { book = lock; at = length home } ∷ []) ∙ ap (λ (n : ℕ). places_of tr ++ record { book = n; at = length home } ∷ []) own
      go false = sym (append_nil (places_of tr))

  not_less : (n : ℕ) → nat_lt n n ≡ false
  not_less n = grind (arith, nat_tests)

  as_before : v.book ≡ home → later ≡ tr
  as_before e = ap (λ (l : List Event). noted (nat_lt (length home) (length l)) lock (length home) tr) e ∙ ap (λ b. noted b lock (length home) tr) (not_less (length home))

  served : Serves k home v
  served = serves k home code.cells q

  -- what holds of the entries in the books after the answer
  left_hold : v.book ≡ home → AllHold code.cells (length code.threads) next k es
  left_hold e = subst (λ b. AllHold code.cells (length code.threads) b k es) (sym (same_books e)) w.hold
    where
      same_books : v.book ≡ home → next ≡ sh.books
      same_books f = funext next sh.books (over.left_as code k sh.books sh.taken q lawful f)

  placed_unstopped : (b : PlainActor) (o : Option Outcome) (at : Turned Configuration) (why : Option Stop) → Unstopped o → at ≡ standing o (configuration_of b) (state_of b) → why ≡ None → IsPlacedAs b o at why
  placed_unstopped b None at why u e f = (e, f)
  placed_unstopped b (Some outcome.Done) at why u e f = (e, f)
  placed_unstopped b (Some (outcome.Failed g)) at why u e f = (e, f)
  placed_unstopped b (Some outcome.StepsSpent) at why u e f = absurd u
  placed_unstopped b (Some outcome.JournalFull) at why u e f = absurd u
  placed_unstopped b (Some outcome.Memory) at why u e f = absurd u

  -- an actor that took the answer follows the history with its ask
  following : (b : PlainActor) (y : Actor) → there ≡ y → b.number ≡ k → Lives code b → AllHold code.cells (length code.threads) next k y.entries → IsOn code y.entries b → IsPlayerOf code k next b later y → IsFollowing code b later (suc m) grown
  following b y e n lives hold on is =
      let f : FollowsAll code.cells (length code.threads) kd k (suc m) grown y = subst (FollowsAll code.cells (length code.threads) kd k (suc m) grown) e follows_there in
      record {
        lives = lives;
        place = y;
        follows = subst (λ i. FollowsAll code.cells (length code.threads) (code_of code i) i (suc m) grown y) (sym n) f;
        hold = subst (λ i. AllHold code.cells (length code.threads) (shared_by code.cells grown).books i y.entries) (sym n) (subst (λ l. AllHold code.cells (length code.threads) l k y.entries) (sym books_are) hold);
        is = subst (λ i. IsPlayerOf code i (shared_by code.cells grown).books b later y) (sym n) (subst (λ l. IsPlayerOf code k l b later y) (sym books_are) is);
        on = on;
      }

  -- a reply that the actor goes on with
  heard : (r : Reply) → Lives code (answered a r) → unanswered (answered a r) ≡ None → MayAnswer q r → (Stops r → ⊥) → IsExchanged r → r ≡ v.reply → replied kd w.from q r (length home) x ≡ hears kd w.from q r (length home) x → IsFollowing code (answered a r) later (suc m) grown
  heard r lives free may on ex e goes =
      let y : Actor = hears kd w.from q r (length home) x in
      let own_on = heard_on laws code es a q r (length home) w.going w.waits free may on unless w.on in
      following (answered a r) y (ap (λ s. replied kd w.from q s (length home) x) (sym e) ∙ goes) leaves.number lives
      (subst (λ s. AllHold code.cells (length code.threads) next k (es ++ entry q s (length home) ∷ [])) (sym e)
      (own_hold code.cells (length code.threads) k sh.books q sh.taken lawful v refl served (subst IsExchanged e ex) es w.hold))
      own_on
      (record {
        number = leaves.number;
        waits = free;
        placed = placed_unstopped (answered a r) (answered a r).outcome _ _ (unstopped_if a w.going a.pending r on) (w.awaits.leads r may on) w.at.going;
        ran = own_on.ran;
        counted = leaves.steps ∙ w.counted ∙ ap (λ z. steps_by z (suc x.turns)) (sym w.at.going);
        traced = later_is ∙ ap (λ ps. ps ++ over.added code k sh.books sh.taken q lawful) w.traced ∙ sym (over.trace_grows code k sh.books sh.taken q lawful es w.hold)
            ∙ ap (λ z. trace_of code.cells next k (es ++ entry q z (length home) ∷ [])) (sym e);
        full = λ z. absurd (subst Unfilled z (unfilled_of (answered a r).outcome (unstopped_if a w.going a.pending r on)));
        stops = λ z. absurd (subst Unfilled z (unfilled_of (answered a r).outcome (unstopped_if a w.going a.pending r on)));
      })
    where
      unless : r ≡ reply.Idle → ⊥
      unless i = subst IsExchanged i ex

      leaves : Leaves a (answered a r)
      leaves = answer_leaves a q r w.waits may unless

  -- a reply that is no exchange leaves the book
  kept : (r : Reply) → (IsExchanged r → ⊥) → r ≡ v.reply → v.book ≡ home
  kept r n e = served.grown ∙ ap (λ l. home ++ l) (served.stays (λ ex. n (subst IsExchanged (sym e) ex))) ∙ append_nil home

  -- the trace over books that are as they were
  traced_left : v.book ≡ home → places_of later ≡ trace_of code.cells next k es
  traced_left e = ap places_of (as_before e) ∙ w.traced ∙ sym (ap (λ b. trace_of code.cells b k es) (funext next sh.books (over.left_as code k sh.books sh.taken q lawful e)))

  filled : Lives code (answered a reply.Full) → unanswered (answered a reply.Full) ≡ None → MayAnswer q reply.Full → reply.Full ≡ v.reply → IsFollowing code (answered a reply.Full) later (suc m) grown
  filled lives free may e =
      following (answered a reply.Full) (stop run.JournalFull x) (ap (λ s. replied kd w.from q s (length home) x) (sym e)) leaves.number lives (left_hold left) own_on
      (record {
        number = leaves.number;
        waits = free;
        placed = subst (λ o. IsPlacedAs (answered a reply.Full) o x.at (Some run.JournalFull)) (sym (full_stops a q w.waits)) (w.from, w.at.at, subst (SameBut w.from.state) (sym (full_state a q w.waits)) w.awaits.here, refl);
        ran = own_on.ran;
        counted = leaves.steps ∙ w.counted;
        traced = traced_left left;
        full = λ y. (let n = full_at laws code k sh.books (map exchange_of es) a q refl w.going w.waits may past w.on.ran in
            record { ask = n.ask; asked = n.asked; full = subst (λ (l : List Event). most_events ≤ length l) (sym (over.left_as code k sh.books sh.taken q lawful left (book_for code.cells n.ask))) n.full });
        stops = λ y. record {
          place = w.from;
          at = w.at.at;
          ask = q;
          asks = (record (state_of a) { wants = Some q }, w.awaits.asks, refl);
          adds = adds_event q may;
          full = subst (λ (l : List Event). most_events ≤ length l) (sym (over.left_as code k sh.books sh.taken q lawful left (book_for code.cells q))) past;
        };
      })
    where
      left : v.book ≡ home
      left = kept reply.Full (λ ex. ex) e

      past : most_events ≤ length home
      past = served.full (subst IsFull e tt)

      leaves : Leaves a (answered a reply.Full)
      leaves = answer_leaves a q reply.Full w.waits may (λ i. cc)

      own_on : IsOn code es (answered a reply.Full)
      own_on = stopped_on laws code es a q reply.Full w.going w.waits may tt w.on

  -- an agent without an action is where it was
  idled : Lives code (answered a reply.Idle) → unanswered (answered a reply.Idle) ≡ None → MayAnswer q reply.Idle → reply.Idle ≡ v.reply → IsFollowing code (answered a reply.Idle) later (suc m) grown
  idled lives free may e =
      following (answered a reply.Idle) x (ap (λ s. replied kd w.from q s (length home) x) (sym e)) (idle_number a) lives (left_hold left) own_on
      (record {
        number = idle_number a;
        waits = free;
        placed = subst (λ o. IsPlacedAs (answered a reply.Idle) o x.at x.stopped) (sym out) (w.at.at ∙ ap (λ d. Unfinished d) (w.awaits.rests may), w.at.going);
        ran = own_on.ran;
        counted = (let less = idle_steps a q w.waits may in let c = w.counted in omega (arith, less, c)) ∙ ap (λ z. steps_by z x.turns) (sym w.at.going);
        traced = traced_left left;
        full = λ y. absurd (subst Unfilled y (subst Unfilled (sym out) tt));
        stops = λ y. absurd (subst Unfilled y (subst Unfilled (sym out) tt));
      })
    where
      left : v.book ≡ home
      left = kept reply.Idle (λ ex. ex) e

      out : (answered a reply.Idle).outcome ≡ None
      out = idle_outcome a ∙ w.going

      own_on : IsOn code es (answered a reply.Idle)
      own_on = idle_on laws code es a q w.going w.waits may w.on

  -- what was served is answered
  pub answer_follows : (r : Reply) → Lives code (answered a r) → unanswered (answered a r) ≡ None → MayAnswer q r → (r ≡ reply.Memory → ⊥) → r ≡ v.reply → IsFollowing code (answered a r) later (suc m) grown
  answer_follows (reply.At i) lives free may n e = heard (reply.At i) lives free may (λ s. s) tt e refl
  answer_follows (reply.Is u) lives free may n e = heard (reply.Is u) lives free may (λ s. s) tt e refl
  answer_follows (reply.Views i vs) lives free may n e = heard (reply.Views i vs) lives free may (λ s. s) tt e refl
  answer_follows reply.Done lives free may n e = heard reply.Done lives free may (λ s. s) tt e refl
  answer_follows (reply.Retry d) lives free may n e = heard (reply.Retry d) lives free may (λ s. s) tt e refl
  answer_follows (reply.Changed d) lives free may n e = heard (reply.Changed d) lives free may (λ s. s) tt e refl
  answer_follows (reply.AgentIsFailed d) lives free may n e = heard (reply.AgentIsFailed d) lives free may (λ s. s) tt e refl
  answer_follows (reply.Action i y u) lives free may n e = heard (reply.Action i y u) lives free may (λ s. s) tt e refl
  answer_follows (reply.Opened i u) lives free may n e = heard (reply.Opened i u) lives free may (λ s. s) tt e refl
  answer_follows reply.Idle lives free may n e = idled lives free may e
  answer_follows reply.Full lives free may n e = filled lives free may e
  answer_follows reply.Memory lives free may n e = absurd (n refl)

-- where there was no memory the actor is stopped, and the history is as it was
pub memory_follows : ActorsRun → (code : PlainCode) (a : PlainActor) (q : Ask) (tr : List Place) (m : ℕ) (h : History) → IsWaiting code a q tr m h → Lives code (answered a reply.Memory) → unanswered (answered a reply.Memory) ≡ None → MayAnswer q reply.Memory → IsFollowing code (answered a reply.Memory) tr m h
memory_follows laws code a q tr m h w lives free may =
    let leaves = answer_leaves a q reply.Memory w.waits may (λ i. cc) in
    let k = a.number in
    let x = w.place in
    let own_on = stopped_on laws code x.entries a q reply.Memory w.going w.waits may tt w.on in
    let b = answered a reply.Memory in
    let f = follows_stops code.cells (length code.threads) (code_of code k) k [] (new_actor (code_of code k)) m h x w.from run.Memory w.follows w.at in
    record {
      lives = lives;
      place = stop run.Memory x;
      follows = subst (λ i. FollowsAll code.cells (length code.threads) (code_of code i) i m h (stop run.Memory x)) (sym leaves.number) f;
      hold = subst (λ i. AllHold code.cells (length code.threads) (shared_by code.cells h).books i x.entries) (sym leaves.number) w.hold;
      is = record {
        number = refl;
        waits = free;
        placed = subst (λ o. IsPlacedAs b o x.at (Some run.Memory)) (sym (memory_stops a q w.waits)) (w.from, w.at.at, subst (SameBut w.from.state) (sym (memory_state a q w.waits)) w.awaits.here, refl);
        ran = own_on.ran;
        counted = leaves.steps ∙ w.counted;
        traced = w.traced ∙ ap (λ i. trace_of code.cells (shared_by code.cells h).books i x.entries) (sym leaves.number);
        full = λ y. absurd (subst Unfilled y (subst Unfilled (sym (memory_stops a q w.waits)) tt));
        stops = λ y. absurd (subst Unfilled y (subst Unfilled (sym (memory_stops a q w.waits)) tt));
      };
      on = own_on;
    }
