-- Failed tries are in the journal; and where there is room, and few of them, an actor goes freely.
use Rattle.std.proofs.Common.{◌≡◌, ◌<◌, ◌≤◌, ℕ, suc, Bool, true, false, ◌&&◌, ◌==◌, nat_lt, List, [], ◌∷◌, ◌++◌, length, map, Option, Some, None, Result, refl, sym, ap, subst, ◌∙◌, arith, if◌then◌else◌}
use Rattle.std.proofs.lemmas.Bool.{false≢true}
use Rattle.std.proofs.lemmas.Bool.Decides.{nat_tests}
use Rattle.txs_world_protocol.specs.Ask.{Writes}
use Rattle.txs_world_protocol.specs.declared.ask.Ask.{Ask}
use Rattle.txs_world_protocol.specs.declared.ask.Ask.TheVariants as ask
use Rattle.txs_world_protocol.specs.declared.ask.Reply.{Reply}
use Rattle.txs_world_protocol.specs.declared.ask.Reply.TheVariants as reply
use Rattle.txs_world_protocol.specs.declared.event.Cause.TheVariants as cause
use Rattle.txs_world_protocol.specs.declared.event.Event.{Event}
use Rattle.txs_world_protocol.specs.declared.event.EventKind.{EventKind}
use Rattle.txs_world_protocol.specs.declared.event.EventKind.TheVariants as event
use Rattle.txs_value_cell.specs.Cells.{World}
use Rattle.txs_value_cell.specs.declared.action.Action.{Action}
use Rattle.txs_value_cell.specs.declared.cell.CellDefinition.{CellDefinition}
use Rattle.txs_value_data.proofs.SameLemmas.{numbers, number-itself}
use Rattle.txs_value_data.specs.Limits.{most_events}
use Rattle.txs_value_data.specs.declared.fault.Fault.{Fault}
use Rattle.txs_value_data.specs.declared.fault.Span.{Span}
use Rattle.txs_value_data.specs.declared.value.CellId.{CellId}
use Rattle.txs_value_data.specs.declared.value.Value.{Value}
use Rattle.txs_world_book.specs.Atom.{swapped_since, closes_at}
use Rattle.txs_world_book.specs.Book.{cells_in, opening, is_outdated, least_written, is_failed, first_failed}
use Rattle.txs_world_book.specs.Served.{Served, served, adds, cells_of, event_of}
use Rattle.txs_world.specs.Store.{looks, commits, sends_to, takes, next_action, finishes, merged}
use Rattle.txs_code_meaning.specs.ActorState.{ActorState}
use Rattle.txs_code_meaning.specs.Machine.{ThreadCode, Configuration, Turned, Ended, Failed, Asking, Unfinished, Stuck, turn}
use Rattle.txs_theorem_runs.proofs.Serving as serving
use Rattle.txs_theorem_runs.specs.Lawful.{RunAsksLawful}
use Rattle.txs_theorem_runs.specs.Run.{Stop, Actor, Moved, entry, replied, asked, asks_for, turned, turns_from, stops_from, Play, TakesTurn, IsStopped, State, play, plays_from, opens}
use Rattle.txs_theorem_runs.specs.Shared.{Shared, is_atom, book_for, serve_on, may_ask, shared_after}
use Rattle.txs_theorem_runs.specs.Told.{Entry, exchange_of}
use Rattle.txs_theorem_alike.specs.Failures.{is_failure, counts, failures}
use Rattle.txs_theorem_alike.specs.Free.{is_rerun, reruns_in, FailuresAreSeen, RunsGoFreely}

-- ---- counts

pub more_reruns : (a : ℕ) (xs ys : List Event) → reruns_in a xs ≤ reruns_in a (xs ++ ys)
more_reruns a [] ys = omega arith
more_reruns a (x ∷ xs) ys = by (x.actor == a && is_rerun x.kind) (more_reruns a xs ys)
  where
    by : (t : Bool) → reruns_in a xs ≤ reruns_in a (xs ++ ys) → (if t then suc (reruns_in a xs) else reruns_in a xs) ≤ (if t then suc (reruns_in a (xs ++ ys)) else reruns_in a (xs ++ ys))
    by true h = omega (arith, h)
    by false h = h

last_rerun : (a : ℕ) (xs : List Event) (d : EventKind) → is_rerun d ≡ true → suc (reruns_in a xs) ≤ reruns_in a (xs ++ event_of a d ∷ [])
last_rerun a [] d h = subst (λ n. 1 ≤ n) (sym (ap (λ t. if t then 1 else 0) (ap (λ t. t && is_rerun d) (number-itself a) ∙ h))) (omega arith)
last_rerun a (x ∷ xs) d h = by (x.actor == a && is_rerun x.kind) (last_rerun a xs d h)
  where
    by : (t : Bool) → suc (reruns_in a xs) ≤ reruns_in a (xs ++ event_of a d ∷ []) → suc (if t then suc (reruns_in a xs) else reruns_in a xs) ≤ (if t then suc (reruns_in a (xs ++ event_of a d ∷ [])) else reruns_in a (xs ++ event_of a d ∷ []))
    by true g = omega (arith, g)
    by false g = g

counts_both : (s t : Bool) (n : ℕ) → (if s then suc (if t then suc n else n) else (if t then suc n else n)) ≡ (if t then suc (if s then suc n else n) else (if s then suc n else n))
counts_both true true n = refl
counts_both true false n = refl
counts_both false true n = refl
counts_both false false n = refl

failures_last : (es : List Entry) (e : Entry) → failures (map exchange_of (es ++ e ∷ [])) ≡ counts e.ask e.reply (failures (map exchange_of es))
failures_last [] e = refl
failures_last (d ∷ es) e = ap (counts d.ask d.reply) (failures_last es e) ∙ counts_both (is_failure d.ask d.reply) (is_failure e.ask e.reply) (failures (map exchange_of es))

-- ---- a failed try is an event

-- the book has an event more, that says so
record AddsRerun (a : ℕ) (book later : List Event) : Type 0 where
  kind : EventKind
  reruns_so : is_rerun kind ≡ true
  grown : later ≡ book ++ event_of a kind ∷ []

module _ (a : ℕ) (book : List Event) where
  -- an event whose reply says nothing of the kind
  no_rerun : {A : Type 0} (f : Reply → Bool) (d : EventKind) (r : Reply) → f r ≡ false → f reply.Full ≡ false → f (adds a d r book).reply ≡ true → A
  no_rerun {A} f d r h g e = by (nat_lt (length book) most_events) e
    where
      by : (t : Bool) → f (if t then served r (book ++ event_of a d ∷ []) else served reply.Full book).reply ≡ true → A
      by true i = absurd (false≢true (sym h ∙ i))
      by false i = absurd (false≢true (sym g ∙ i))

  a_rerun : (f : Reply → Bool) (d : EventKind) (r : Reply) → is_rerun d ≡ true → f reply.Full ≡ false → f (adds a d r book).reply ≡ true → AddsRerun a book (adds a d r book).book
  a_rerun f d r h g e = by (nat_lt (length book) most_events) e
    where
      by : (t : Bool) → f (if t then served r (book ++ event_of a d ∷ []) else served reply.Full book).reply ≡ true → AddsRerun a book (if t then served r (book ++ event_of a d ∷ []) else served reply.Full book).book
      by true i = record { kind = d; reruns_so = h; grown = refl }
      by false i = absurd (false≢true (sym g ∙ i))

  look_reruns : (t : Bool) (w : World) (c : CellId) (p : ℕ) → is_failure (ask.Look c p) (looks t w a c p book).reply ≡ true → AddsRerun a book (looks t w a c p book).book
  look_reruns true w c p e = a_rerun (is_failure (ask.Look c p)) (event.Retry p c cause.Outdated) (reply.Retry c) refl refl e
  look_reruns false w c p e = absurd (false≢true e)

  commit_reruns : (o1 o2 o3 : Option CellId) (p v : ℕ) (ws sets commuted : Writes) (ensured : List CellId) (sends : List Action)
      → is_failure (ask.Commit p sets ensured v commuted sends) (commits o1 o2 o3 a p v ws sends book).reply ≡ true → AddsRerun a book (commits o1 o2 o3 a p v ws sends book).book
  commit_reruns (Some c) o2 o3 p v ws sets commuted ensured sends e = a_rerun (is_failure (ask.Commit p sets ensured v commuted sends)) (event.Retry p c cause.Held) (reply.Retry c) refl refl e
  commit_reruns None (Some c) o3 p v ws sets commuted ensured sends e = a_rerun (is_failure (ask.Commit p sets ensured v commuted sends)) (event.Retry v c (cause.Commuted p)) (reply.Changed c) refl refl e
  commit_reruns None None (Some g) p v ws sets commuted ensured sends e = no_rerun (is_failure (ask.Commit p sets ensured v commuted sends)) (event.Refused p v g) (reply.AgentIsFailed g) refl refl e
  commit_reruns None None None p v ws sets commuted ensured sends e = no_rerun (is_failure (ask.Commit p sets ensured v commuted sends)) (event.Commit p v ws sends) reply.Done refl refl e

  send_reruns : {A : Type 0} (t : Bool) (x : Action) → is_failure (ask.Send x) (sends_to t a x book).reply ≡ true → A
  send_reruns true x e = no_rerun (is_failure (ask.Send x)) (event.SendRefused x.agent) (reply.AgentIsFailed x.agent) refl refl e
  send_reruns false x e = no_rerun (is_failure (ask.Send x)) (event.Send x) reply.Done refl refl e

  take_reruns : {A : Type 0} (g : CellId) (o : Option Action) (n : ℕ) (v : Value) → is_failure (ask.Take g) (takes o n v) ≡ true → A
  take_reruns g None n v e = absurd (false≢true e)
  take_reruns g (Some x) n v e = absurd (false≢true e)

  finish_reruns : {A : Type 0} (f : Reply → Bool) → f reply.Done ≡ false → ((h : CellId) → f (reply.AgentIsFailed h) ≡ false) → f reply.Full ≡ false
      → (o : Option CellId) (g : CellId) (n : ℕ) (new : Result Value Fault) (sends : List Action) (span : Span) → f (finishes o a g n new sends span book).reply ≡ true → A
  finish_reruns f h i j None g n new sends span e = no_rerun f (event.Act g n new sends) reply.Done h j e
  finish_reruns f h i j (Some k) g n new sends span e = no_rerun f _ (reply.AgentIsFailed k) (i k) j e

  close_reruns : {A : Type 0} (t : Bool) (c : CellId) (p : Option ℕ) (v : Value) → is_failure (ask.CloseAt c p v) (closes_at t a c v book).reply ≡ true → A
  close_reruns true c p v e = absurd (false≢true e)
  close_reruns false c p v e = no_rerun (is_failure (ask.CloseAt c p v)) (event.Swap v) reply.Done refl refl e

  peek_reruns : {A : Type 0} (t : Bool) (c : CellId) (v w : Value) → is_failure (ask.Peek c) (if t then adds a (event.Read c) (reply.Is v) book else adds a (event.Read c) (reply.Is w) book).reply ≡ true → A
  peek_reruns true c v w e = no_rerun (is_failure (ask.Peek c)) (event.Read c) (reply.Is v) refl refl e
  peek_reruns false c v w e = no_rerun (is_failure (ask.Peek c)) (event.Read c) (reply.Is w) refl refl e

-- whatever is asked, a failed try is an event of the store's book
failure_adds : (cells : List CellDefinition) (a : ℕ) (q : Ask) (book : List Event) → is_failure q (serve_on cells a q book).reply ≡ true → AddsRerun a book (serve_on cells a q book).book × (book_for cells q ≡ 0)
failure_adds cells a ask.Begin book e = absurd (false≢true e)
failure_adds cells a (ask.Look c p) book e = (look_reruns a book (is_outdated c.number p book) (opening (cells_of cells)) c p e, refl)
failure_adds cells a (ask.View cs) book e = absurd (false≢true e)
failure_adds cells a (ask.Commit p sets ensured v commuted sends) book e =
    (commit_reruns a book (least_written book p (cells_in sets ++ ensured)) (least_written book v (cells_in commuted)) (first_failed (cells_of cells) book sends) p v (merged sets commuted) sets commuted ensured sends e, refl)
failure_adds cells a (ask.Fail p v) book e = no_rerun a book (is_failure (ask.Fail p v)) (event.Fail p v) reply.Done refl refl e
failure_adds cells a (ask.Peek c) book e = peek_reruns a book (is_atom c) c _ _ e
failure_adds cells a (ask.Send x) book e = send_reruns a book (is_failed (cells_of cells) book x.agent) x e
failure_adds cells a (ask.Take g) book e = take_reruns a book g (next_action (cells_of cells) book g) _ _ e
failure_adds cells a (ask.Finish g new sends) book e = finish_reruns a book (is_failure (ask.Finish g new sends)) refl (λ h. refl) refl (first_failed (cells_of cells) book sends) g _ new sends _ e
failure_adds cells a (ask.OpenAt c) book e = absurd (false≢true e)
failure_adds cells a (ask.CloseAt c None v) book e = close_reruns a book false c None v e
failure_adds cells a (ask.CloseAt c (Some p) v) book e = close_reruns a book (swapped_since p book) c (Some p) v e
failure_adds cells a (ask.Broke c p) book e = no_rerun a book (is_failure (ask.Broke c p)) (event.Broke p) reply.Done refl refl e

-- ---- a play keeps the count

module _ (cells : List CellDefinition) (threads : ℕ) where
  -- the store's book grows
  grows : (a b : ℕ) (q : Ask) (sh : Shared) → reruns_in a (sh.books 0) ≤ reruns_in a ((shared_after cells q (serve_on cells b q (sh.books (book_for cells q))) sh).books 0)
  grows a b q sh = by (0 == book_for cells q) refl
    where
      v : Served
      v = serve_on cells b q (sh.books (book_for cells q))

      by : (t : Bool) → (0 == book_for cells q) ≡ t → reruns_in a (sh.books 0) ≤ reruns_in a (if t then v.book else sh.books 0)
      by true e =
          let s = serving.serves b (sh.books (book_for cells q)) cells q in
          subst (λ l. reruns_in a (sh.books 0) ≤ reruns_in a l) (sym (s.grown)) (subst (λ n. reruns_in a (sh.books n) ≤ reruns_in a (sh.books (book_for cells q) ++ s.more)) (sym (numbers 0 (book_for cells q) e)) (more_reruns a (sh.books (book_for cells q)) s.more))
      by false e = omega arith

  module _ (code : ThreadCode) (a : ℕ) (x : Actor) (sh : Shared) (h : failures (map exchange_of x.entries) ≤ reruns_in a (sh.books 0)) where
    abbrev Kept : Moved → Type 0
    Kept m = failures (map exchange_of m.actor.entries) ≤ reruns_in a (m.shared.books 0)

    abbrev later : Ask → Shared
    later q = shared_after cells q (serve_on cells a q (sh.books (book_for cells q))) sh

    stays_kept : (q : Ask) → failures (map exchange_of x.entries) ≤ reruns_in a ((later q).books 0)
    stays_kept q = let g = grows a a q sh in omega (arith, h, g)

    one_more : (q : Ask) (k : ℕ) → failures (map exchange_of (x.entries ++ entry q (serve_on cells a q (sh.books (book_for cells q))).reply k ∷ [])) ≤ reruns_in a ((later q).books 0)
    one_more q k = subst (λ n. n ≤ reruns_in a ((later q).books 0)) (sym (failures_last x.entries (entry q r k))) (by (is_failure q r) refl)
      where
        r : Reply
        r = (serve_on cells a q (sh.books (book_for cells q))).reply

        by : (t : Bool) → is_failure q r ≡ t → (if t then suc (failures (map exchange_of x.entries)) else failures (map exchange_of x.entries)) ≤ reruns_in a ((later q).books 0)
        by true e =
            let f = failure_adds cells a q (sh.books (book_for cells q)) e in
            let at : (0 == book_for cells q) ≡ true = ap (λ n. 0 == n) f.1 in
            let l = last_rerun a (sh.books 0) f.0.kind f.0.reruns_so in
            let is : (later q).books 0 ≡ sh.books 0 ++ event_of a f.0.kind ∷ [] =
            ap (λ t. if t then (serve_on cells a q (sh.books (book_for cells q))).book else sh.books 0) at ∙ f.0.grown ∙ ap (λ n. sh.books n ++ event_of a f.0.kind ∷ []) f.1 in
            subst (λ l. suc (failures (map exchange_of x.entries)) ≤ reruns_in a l) (sym is) (omega (arith, h, l))
        by false e = stays_kept q

    replied_kept : (c : Configuration) (q : Ask) (r : Reply) (k n : ℕ) → failures (map exchange_of (x.entries ++ entry q r k ∷ [])) ≤ n → failures (map exchange_of x.entries) ≤ n → failures (map exchange_of (replied code c q r k x).entries) ≤ n
    replied_kept c q (reply.At p) k n own left = own
    replied_kept c q (reply.Is v) k n own left = own
    replied_kept c q (reply.Views p vs) k n own left = own
    replied_kept c q reply.Done k n own left = own
    replied_kept c q (reply.Retry d) k n own left = own
    replied_kept c q (reply.Changed d) k n own left = own
    replied_kept c q (reply.AgentIsFailed g) k n own left = own
    replied_kept c q (reply.Action i y v) k n own left = own
    replied_kept c q reply.Idle k n own left = left
    replied_kept c q (reply.Opened p v) k n own left = own
    replied_kept c q reply.Full k n own left = left
    replied_kept c q reply.Memory k n own left = left

    asked_kept : (t : Bool) (c : Configuration) (q : Ask) → Kept (asked t cells code a c q x sh)
    asked_kept true c q = replied_kept c q (serve_on cells a q (sh.books (book_for cells q))).reply (length (sh.books (book_for cells q))) (reruns_in a ((later q).books 0)) (one_more q (length (sh.books (book_for cells q)))) (stays_kept q)
    asked_kept false c q = h

    waits_kept : (c : Configuration) (s : ActorState) (o : Option Ask) → Kept (asks_for cells threads code a c s o x sh)
    waits_kept c s None = h
    waits_kept c s (Some q) = asked_kept (may_ask cells threads sh.taken a q (sh.books (book_for cells q))) c q

    turned_kept : (c : Configuration) (o : Turned Configuration) → Kept (turned cells threads code a c o x sh)
    turned_kept c (Ended s) = h
    turned_kept c (Failed f s) = h
    turned_kept c (Asking s) = waits_kept c s s.wants
    turned_kept c (Unfinished d) = h
    turned_kept c Stuck = h

    pub turns_kept : (o : Turned Configuration) (w : Option Stop) → Kept (turns_from cells threads code a o w x sh)
    turns_kept (Ended s) w = h
    turns_kept (Failed f s) w = h
    turns_kept (Asking s) w = h
    turns_kept (Unfinished c) None = turned_kept c (turn code c)
    turns_kept (Unfinished c) (Some why) = h
    turns_kept Stuck w = h

    pub stops_kept : (why : Stop) (o : Turned Configuration) (w : Option Stop) → failures (map exchange_of (stops_from why o w x).entries) ≤ reruns_in a (sh.books 0)
    stops_kept why (Ended s) w = h
    stops_kept why (Failed f s) w = h
    stops_kept why (Asking s) w = h
    stops_kept why (Unfinished c) None = h
    stops_kept why (Unfinished c) (Some v) = h
    stops_kept why Stuck w = h

  -- another's turn leaves the actor, and the book grows
  module _ (code : ThreadCode) (a b : ℕ) (x : Actor) (sh : Shared) where
    abbrev Grows : Moved → Type 0
    Grows m = reruns_in a (sh.books 0) ≤ reruns_in a (m.shared.books 0)

    asked_grows : (t : Bool) (c : Configuration) (q : Ask) → Grows (asked t cells code b c q x sh)
    asked_grows true c q = grows a b q sh
    asked_grows false c q = omega arith

    waits_grow : (c : Configuration) (s : ActorState) (o : Option Ask) → Grows (asks_for cells threads code b c s o x sh)
    waits_grow c s None = omega arith
    waits_grow c s (Some q) = asked_grows (may_ask cells threads sh.taken b q (sh.books (book_for cells q))) c q

    turned_grow : (c : Configuration) (o : Turned Configuration) → Grows (turned cells threads code b c o x sh)
    turned_grow c (Ended s) = omega arith
    turned_grow c (Failed f s) = omega arith
    turned_grow c (Asking s) = waits_grow c s s.wants
    turned_grow c (Unfinished d) = omega arith
    turned_grow c Stuck = omega arith

    pub turns_grow : (o : Turned Configuration) (w : Option Stop) → Grows (turns_from cells threads code b o w x sh)
    turns_grow (Ended s) w = omega arith
    turns_grow (Failed f s) w = omega arith
    turns_grow (Asking s) w = omega arith
    turns_grow (Unfinished c) None = turned_grow c (turn code c)
    turns_grow (Unfinished c) (Some why) = omega arith
    turns_grow Stuck w = omega arith

  module _ (codes : ℕ → ThreadCode) (a : ℕ) where
    abbrev Seen : State → Type 0
    Seen st = failures (map exchange_of (st.actors a).entries) ≤ reruns_in a (st.shared.books 0)

    seen_play : (y : Play) (st : State) → Seen st → Seen (play cells threads codes y st)
    seen_play (TakesTurn b) st h = by (b == a) refl
      where
        m : Moved
        m = turns_from cells threads (codes b) b (st.actors b).at (st.actors b).stopped (st.actors b) st.shared

        by : (t : Bool) → (b == a) ≡ t → failures (map exchange_of (if t then m.actor else st.actors a).entries) ≤ reruns_in a (m.shared.books 0)
        by true e =
            subst (λ c. failures (map exchange_of m.actor.entries) ≤ reruns_in c (m.shared.books 0)) (numbers b a e)
            (turns_kept (codes b) b (st.actors b) st.shared (subst (λ c. failures (map exchange_of (st.actors c).entries) ≤ reruns_in c (st.shared.books 0)) (sym (numbers b a e)) h) (st.actors b).at (st.actors b).stopped)
        by false e = let g = turns_grow (codes b) a b (st.actors b) st.shared (st.actors b).at (st.actors b).stopped in omega (arith, h, g)
    seen_play (IsStopped b why) st h = by (b == a) refl
      where
        by : (t : Bool) → (b == a) ≡ t → failures (map exchange_of (if t then stops_from why (st.actors b).at (st.actors b).stopped (st.actors b) else st.actors a).entries) ≤ reruns_in a (st.shared.books 0)
        by true e =
            subst (λ c. failures (map exchange_of (stops_from why (st.actors c).at (st.actors c).stopped (st.actors c)).entries) ≤ reruns_in a (st.shared.books 0)) (sym (numbers b a e))
            (stops_kept (codes a) a (st.actors a) st.shared h why (st.actors a).at (st.actors a).stopped)
        by false e = h

    seen_plays : (ys : List Play) (st : State) → Seen st → Seen (plays_from cells threads codes ys st)
    seen_plays [] st h = h
    seen_plays (y ∷ ys) st h = seen_plays ys (play cells threads codes y st) (seen_play y st h)

pub failures_are_seen : FailuresAreSeen
failures_are_seen cells threads codes ys a = seen_plays cells threads codes a ys (opens cells codes) (omega arith)

-- ---- so an actor goes freely

room_is : (n : ℕ) → n < most_events → nat_lt n most_events ≡ true
room_is n h = by (nat_lt n most_events) refl
  where
    by : (t : Bool) → nat_lt n most_events ≡ t → t ≡ true
    by true e = refl
    by false e = absurd (grind (arith, nat_tests, e, h))

pub runs_go_freely : RunAsksLawful → RunsGoFreely
runs_go_freely lawful cells threads codes ys opened known names a there stands free = record {
  tries = let f = failures_are_seen cells threads codes ys a in let t = free.tries in omega (arith, f, t);
  asks = λ q n. (lawful cells threads codes ys opened known names a n.0 n.2.0 q there stands n.1 n.2.1 n.2.2, room_is _ (free.room (book_for cells q)));
}
