-- An actor has printed what its source means on all that the actor did but the last.
use Rattle.std.proofs.Common.{◌≡◌, ◌<◌, ℕ, zero, suc, Bool, true, false, ◌==◌, nat_lt, List, [], ◌∷◌, ◌++◌, length, map, Option, Some, None, refl, sym, ap, ◌∙◌, subst, append_assoc, if◌then◌else◌, ◌⊎◌, inl, inr, arith}
use Rattle.std.proofs.lemmas.Bool.Decides.{nat_tests}
use Rattle.std.proofs.lemmas.List.{append-nil}
use Rattle.txs_world_protocol.specs.Ask.{Exchange}
use Rattle.txs_world_protocol.specs.declared.ask.Ask.{Ask}
use Rattle.txs_world_protocol.specs.declared.ask.Reply.{Reply}
use Rattle.txs_world_protocol.specs.declared.ask.Reply.TheVariants as reply
use Rattle.txs_world_protocol.specs.declared.event.Event.{Event}
use Rattle.txs_value_data.proofs.SameLemmas.{numbers}
use Rattle.txs_value_data.specs.Places.{nth}
use Rattle.txs_value_cell.specs.declared.cell.CellDefinition.{CellDefinition}
use Rattle.txs_tree_meaning.specs.Thread.{thread_meaning}
use Rattle.txs_code_meaning.specs.ActorState.{ActorState}
use Rattle.txs_code_meaning.specs.Machine.{ThreadCode, Configuration, Turned, Ended, Failed, Asking, Unfinished, Stuck, Outcome, and_then, turn, run}
use Rattle.txs_code_meaning.specs.Opening.{given, opening, target}
use Rattle.txs_code_meaning.proofs.Acts.{stated, run_more, exec_run}
use Rattle.txs_theorem_threads.specs.RepliesFit.{Out, RepliesFit, Explained, Consumed}
use Rattle.txs_world.specs.Laws.{ServeKeeps}
use Rattle.txs_theorem_runs.specs.Shared.{Shared, book_for, serve_on, may_ask, seen_in}
use Rattle.txs_theorem_runs.specs.Stages.{Stage, Idle, stage_after, phase_of}
use Rattle.txs_theorem_runs.specs.Told.{Entry, Place, exchange_of, served_at, EntryHolds, AllHold, AreStaged, ToldBy, adding, trace_of, seen_before, seen_of, history_of}
use Rattle.txs_theorem_runs.specs.Staged.{StagedCode, IsStaged}
use Rattle.txs_theorem_runs.specs.Invariant.{ActorInvariant, RunInvariant}
use Rattle.txs_theorem_runs.specs.Printed.{Prints, HasPrinted, PrintedBeforeLast, RunPrints}
use Rattle.txs_theorem_runs.specs.Run as run_of
use Rattle.txs_theorem_runs.specs.Run.{Stop, Actor, exchange, entry, stop, comes_to, hears, replied, asked, asks_for, turned, turns_from, stops_from, Play, TakesTurn, IsStopped, State, moves, actor_of, play, plays_from, opens}
use Rattle.txs_theorem_runs.proofs.Fits.{entries_fit}
use Rattle.txs_theorem_runs.proofs.Growing.{taken_within}
use Rattle.txs_theorem_runs.proofs.Keeping.{IsKept, Any, Holds, turn_keeps}
use Rattle.txs_theorem_runs.proofs.Steps.{play_holds}
use Rattle.txs_theorem_runs.proofs.Whole.{Lower, FreshStands, opening_holds}

-- ---- what was printed stays so

prints_kept : (out : List ℕ) → IsKept Any (Prints out)
prints_kept out = record {
  on_reply = λ s x xs e h. h;
  on_begin = λ s p h. h;
  on_work = λ s view w o e h. h;
  on_hold = λ s x such h. h;
  on_take = λ s g x h. h;
  on_rest = λ s h. h;
  on_fault = λ s x f e h. h;
  on_held = λ s x such h. h;
  on_land = λ s h. h;
  on_accepted = λ s o h. h;
  on_wait = λ s q own h. h;
}

abbrev is_nil : {A : Type 0} → List A → Type 0
is_nil [] = Unit {0}
is_nil (x ∷ xs) = ⊥

-- with no reply to come, nothing is printed before an ask
abbrev Waits : List ℕ → ActorState → Type 0
Waits out s = (s.todo ≡ []) × (s.printed ≡ out)

waits_kept : (out : List ℕ) → IsKept Any (Waits out)
waits_kept out = record {
  on_reply = λ s x xs e h. absurd (subst is_nil (sym h.0 ∙ e) tt);
  on_begin = λ s p h. h;
  on_work = λ s view w o e h. h;
  on_hold = λ s x such h. h;
  on_take = λ s g x h. h;
  on_rest = λ s h. h;
  on_fault = λ s x f e h. h;
  on_held = λ s x such h. h;
  on_land = λ s h. h;
  on_accepted = λ s o h. h;
  on_wait = λ s q own h. h;
}

has_printed : (out : List ℕ) (o : Turned Configuration) → Holds (Prints out) (Prints out) o → HasPrinted out o
has_printed out (Ended s) h = h
has_printed out (Failed f s) h = h
has_printed out (Asking s) h = h
has_printed out (Unfinished c) h = h
has_printed out Stuck h = tt

pub turn_prints : (out : List ℕ) (code : ThreadCode) (c : Configuration) → Prints out c.state → HasPrinted out (turn code c)
turn_prints out code c h =
    has_printed out (turn code c)
    (turn_keeps Any (Prints out) (Prints out) (prints_kept out) (λ s k. k) (λ s more k. (k.0 ++ more, ap (λ l. l ++ more) k.1 ∙ append_assoc out k.0 more)) code c h (λ f n span e g vs many. tt))

pub turn_waits : (code : ThreadCode) (c : Configuration) (s : ActorState) → c.state.todo ≡ [] → turn code c ≡ Asking s → Waits c.state.printed s
turn_waits code c s h e =
    subst (λ o. Holds (Waits c.state.printed) (λ t. Unit {0}) o) e
    (turn_keeps Any (Waits c.state.printed) (λ t. Unit {0}) (waits_kept c.state.printed) (λ t k. tt) (λ t more k. tt) code c (h, refl) (λ f n span e g vs many. tt))

-- an ask that has no reply has none after more turns
pub still : (code : ThreadCode) (m : ℕ) (c : Configuration) (s : ActorState) → run code m c ≡ Asking s → run code (suc m) c ≡ Asking s
still code m c s e = run_more code m c ∙ ap (λ o. and_then o (turn code)) e

-- ---- each entry was asked on those before it

-- on these entries the code waits with an ask, and what it has printed there the actor has printed
pub record WaitsOn (code : ThreadCode) (x : Actor) (before : List Entry) : Type 0 where
  pub waiting : ActorState
  pub asking : run code x.turns (opening code (map exchange_of before)) ≡ Asking waiting
  pub consumed : waiting.todo ≡ []
  pub printed : HasPrinted waiting.printed x.at

-- so it is on the entries before each of the actor's
abbrev pub EachWaits : ThreadCode → Actor → Type 0
EachWaits code x = (before : List Entry) (e : Entry) (rest : List Entry) → x.entries ≡ before ++ e ∷ rest → WaitsOn code x before

abbrev first_or : Entry → List Entry → Entry
first_or d [] = d
first_or d (x ∷ xs) = x

abbrev behind : List Entry → List Entry
behind [] = []
behind (x ∷ xs) = xs

-- an entry of a list with one more is that one, or was there
pub apart : (xs : List Entry) (y : Entry) (before : List Entry) (e : Entry) (rest : List Entry) → xs ++ y ∷ [] ≡ before ++ e ∷ rest → (before ≡ xs) ⊎ ((less : List Entry) × (xs ≡ before ++ e ∷ less))
apart [] y [] e rest h = inl refl
apart [] y (b ∷ []) e rest h = absurd (subst is_nil (ap behind h) tt)
apart [] y (b ∷ d ∷ bs) e rest h = absurd (subst is_nil (ap behind h) tt)
apart (x ∷ xs) y [] e rest h = inr (xs, ap (λ i. i ∷ xs) (ap (first_or x) h))
apart (x ∷ xs) y (b ∷ bs) e rest h = go (apart xs y bs e rest (ap behind h))
  where
    go : (bs ≡ xs) ⊎ ((less : List Entry) × (xs ≡ bs ++ e ∷ less)) → (b ∷ bs ≡ x ∷ xs) ⊎ ((less : List Entry) × (x ∷ xs ≡ b ∷ bs ++ e ∷ less))
    go (inl k) = inl (ap (λ i. i ∷ bs) (sym (ap (first_or x) h)) ∙ ap (λ l. x ∷ l) k)
    go (inr k) = inr (k.0, ap (λ i. i ∷ xs) (ap (first_or x) h) ∙ ap (λ l. b ∷ l) k.1)

module _ (cells : List CellDefinition) (threads : ℕ) where
  module _ (code : ThreadCode) (a : ℕ) (sh : Shared) (x : Actor) (k : ActorInvariant cells threads false code sh.books a x) (l : EachWaits code x) where
    stopped : (why : Stop) → EachWaits code (stop why x)
    stopped why before e rest h = let w = l before e rest h in record { waiting = w.waiting; asking = w.asking; consumed = w.consumed; printed = w.printed }

    quiet : (c : Configuration) (o : Turned Configuration) → x.at ≡ Unfinished c → turn code c ≡ o → EachWaits code (comes_to o x)
    quiet c o at e before d rest h =
        let w = l before d rest h in
        record {
          waiting = w.waiting;
          asking = still code x.turns (opening code (map exchange_of before)) w.waiting w.asking;
          consumed = w.consumed;
          printed = subst (λ u. HasPrinted w.waiting.printed u) e (turn_prints w.waiting.printed code c (subst (λ u. HasPrinted w.waiting.printed u) at w.printed));
        }

    heard : (c : Configuration) (s : ActorState) (q : Ask) (r : Reply) (n : ℕ) → x.at ≡ Unfinished c → turn code c ≡ Asking s → EachWaits code (hears code c q r n x)
    heard c s q r n at e before d rest h = go (apart x.entries (entry q r n) before d rest h)
      where
        xs : List Exchange
        xs = exchange q r ∷ []

        go : (before ≡ x.entries) ⊎ ((less : List Entry) × (x.entries ≡ before ++ d ∷ less)) → WaitsOn code (hears code c q r n x) before
        go (inl i) =
            let staged = subst (λ o. IsStaged false k.stage o) at k.staged in
            let waits = turn_waits code c s staged.0 e in
            record {
              waiting = s;
              asking = ap (λ es. run code (suc x.turns) (opening code (map exchange_of es))) i ∙ run_more code x.turns (opening code (map exchange_of x.entries)) ∙ ap (λ o. and_then o (turn code)) (k.ran ∙ at) ∙ e;
              consumed = waits.0;
              printed = turn_prints s.printed code (given xs c) ([], sym waits.1 ∙ sym (append-nil s.printed));
            }
        go (inr i) =
            let w = l before d i.0 i.1 in
            record {
              waiting = w.waiting;
              asking = still code x.turns (opening code (map exchange_of before)) w.waiting w.asking;
              consumed = w.consumed;
              printed = turn_prints w.waiting.printed code (given xs c) (subst (λ u. HasPrinted w.waiting.printed u) at w.printed);
            }

    replied_waits : (c : Configuration) (s : ActorState) (q : Ask) (r : Reply) (n : ℕ) → x.at ≡ Unfinished c → turn code c ≡ Asking s → EachWaits code (replied code c q r n x)
    replied_waits c s q (reply.At p) n at e = heard c s q (reply.At p) n at e
    replied_waits c s q (reply.Is v) n at e = heard c s q (reply.Is v) n at e
    replied_waits c s q (reply.Views p vs) n at e = heard c s q (reply.Views p vs) n at e
    replied_waits c s q reply.Done n at e = heard c s q reply.Done n at e
    replied_waits c s q (reply.Retry d) n at e = heard c s q (reply.Retry d) n at e
    replied_waits c s q (reply.Changed d) n at e = heard c s q (reply.Changed d) n at e
    replied_waits c s q (reply.AgentIsFailed g) n at e = heard c s q (reply.AgentIsFailed g) n at e
    replied_waits c s q (reply.Action i y v) n at e = heard c s q (reply.Action i y v) n at e
    replied_waits c s q (reply.Opened p v) n at e = heard c s q (reply.Opened p v) n at e
    replied_waits c s q reply.Idle n at e = l
    replied_waits c s q reply.Full n at e = stopped run_of.JournalFull
    replied_waits c s q reply.Memory n at e = stopped run_of.Memory

    asked_waits : (b : Bool) (c : Configuration) (s : ActorState) (q : Ask) → x.at ≡ Unfinished c → turn code c ≡ Asking s → EachWaits code (asked b cells code a c q x sh).actor
    asked_waits false c s q at e = stopped run_of.Unlawful
    asked_waits true c s q at e = replied_waits c s q (serve_on cells a q (sh.books (book_for cells q))).reply (length (sh.books (book_for cells q))) at e

    wants_wait : (c : Configuration) (s : ActorState) (o : Option Ask) → x.at ≡ Unfinished c → turn code c ≡ Asking s → EachWaits code (asks_for cells threads code a c s o x sh).actor
    wants_wait c s None at e = quiet c (Asking s) at e
    wants_wait c s (Some q) at e = asked_waits (may_ask cells threads sh.taken a q (sh.books (book_for cells q))) c s q at e

    turned_waits : (c : Configuration) (o : Turned Configuration) → x.at ≡ Unfinished c → turn code c ≡ o → EachWaits code (turned cells threads code a c o x sh).actor
    turned_waits c (Ended s) at e = quiet c (Ended s) at e
    turned_waits c (Failed f s) at e = quiet c (Failed f s) at e
    turned_waits c (Asking s) at e = wants_wait c s s.wants at e
    turned_waits c (Unfinished d) at e = quiet c (Unfinished d) at e
    turned_waits c Stuck at e = quiet c Stuck at e

    turns_wait : (o : Turned Configuration) (why : Option Stop) → x.at ≡ o → EachWaits code (turns_from cells threads code a o why x sh).actor
    turns_wait (Ended s) why e = l
    turns_wait (Failed f s) why e = l
    turns_wait (Asking s) why e = l
    turns_wait (Unfinished c) None e = turned_waits c (turn code c) e refl
    turns_wait (Unfinished c) (Some s) e = l
    turns_wait Stuck why e = l

    stops_wait : (why : Stop) (o : Turned Configuration) (s : Option Stop) → EachWaits code (stops_from why o s x)
    stops_wait why (Ended s) o = l
    stops_wait why (Failed f s) o = l
    stops_wait why (Asking s) o = l
    stops_wait why (Unfinished c) None = stopped why
    stops_wait why (Unfinished c) (Some s) = l
    stops_wait why Stuck o = l

  module _ (keeps : ServeKeeps) (codes : ℕ → ThreadCode) where
    abbrev AllWait : State → Type 0
    AllWait st = (a : ℕ) → StagedCode (codes a) → EachWaits (codes a) (st.actors a)

    moves_wait : (y : Play) (st : State) → RunInvariant cells threads codes st → AllWait st → StagedCode (codes (actor_of y)) → EachWaits (codes (actor_of y)) (moves cells threads codes y st).actor
    moves_wait (TakesTurn a) st h l known = turns_wait (codes a) a st.shared (st.actors a) (h.actors false a known) (l a known) (st.actors a).at (st.actors a).stopped refl
    moves_wait (IsStopped a why) st h l known = stops_wait (codes a) a st.shared (st.actors a) (h.actors false a known) (l a known) why (st.actors a).at (st.actors a).stopped

    play_waits : (y : Play) (st : State) → RunInvariant cells threads codes st → AllWait st → AllWait (play cells threads codes y st)
    play_waits y st h l b = go (actor_of y == b) refl
      where
        go : (t : Bool) → (actor_of y == b) ≡ t → StagedCode (codes b) → EachWaits (codes b) (if t then (moves cells threads codes y st).actor else st.actors b)
        go true e = subst (λ i. StagedCode (codes i) → EachWaits (codes i) (moves cells threads codes y st).actor) (numbers (actor_of y) b e) (moves_wait y st h l)
        go false e = l b

    -- what holds between plays, with this
    pub record Waiting (st : State) : Type 0 where
      pub holds : RunInvariant cells threads codes st
      pub waits : AllWait st

    all_wait : (ys : List Play) (st : State) → Waiting st → Waiting (plays_from cells threads codes ys st)
    all_wait [] st h = h
    all_wait (y ∷ ys) st h = all_wait ys (play cells threads codes y st) (record { holds = play_holds keeps cells threads codes y st h.holds; waits = play_waits y st h.holds h.waits })

    no_entry : (before : List Entry) (e : Entry) (rest : List Entry) → [] ≡ before ++ e ∷ rest → ⊥
    no_entry [] e rest h = subst is_nil h tt
    no_entry (b ∷ bs) e rest h = subst is_nil h tt

    pub plays_wait : FreshStands → (ys : List Play) → Waiting (plays_from cells threads codes ys (opens cells codes))
    plays_wait fresh ys = all_wait ys (opens cells codes) (record { holds = opening_holds fresh cells threads codes; waits = λ a known before e rest h. absurd (no_entry before e rest h) })

-- ---- the last event

nth_there : (es : List Event) (k : ℕ) → k < length es → (e : Event) × (nth es k ≡ Some e)
nth_there [] k le = absurd (omega (arith, le))
nth_there (e ∷ es) zero le = (e, refl)
nth_there (e ∷ es) (suc k) le = nth_there es k (omega (arith, le))

module _ (cells : List CellDefinition) (threads : ℕ) (books : ℕ → List Event) (a : ℕ) where
  abbrev place_of : Entry → Place
  place_of e = record { book = book_for cells e.ask; at = e.at }

  -- the last of these entries that added an event, which is there
  pub record LastOf (es : List Entry) : Type 0 where
    pub before : List Entry
    pub last : Entry
    pub rest : List Entry
    pub split : es ≡ before ++ last ∷ rest
    pub traces : trace_of cells books a es ≡ trace_of cells books a before ++ place_of last ∷ []
    pub event : Event
    pub there : nth (books (book_for cells last.ask)) last.at ≡ Some event

  added_there : (e : Entry) → EntryHolds cells threads books a e → nat_lt e.at (length (served_at cells books a e).book) ≡ true → (d : Event) × (nth (books (book_for cells e.ask)) e.at ≡ Some d)
  added_there e h more =
      let whole = taken_within (length (served_at cells books a e).book) (books (book_for cells e.ask)) (ap length h.stands) in
      nth_there (books (book_for cells e.ask)) e.at (grind (arith, nat_tests, more, whole))

  last_of : (es : List Entry) → AllHold cells threads books a es → (trace_of cells books a es ≡ []) ⊎ LastOf es
  last_of [] h = inl refl
  last_of (e ∷ es) h = go (last_of es h.1)
    where
      over : (t : Bool) (ps : List Place) (p : Place) → (if t then place_of e ∷ (ps ++ p ∷ []) else ps ++ p ∷ []) ≡ (if t then place_of e ∷ ps else ps) ++ p ∷ []
      over true ps p = refl
      over false ps p = refl

      test : (t : Bool) → nat_lt e.at (length (served_at cells books a e).book) ≡ t → trace_of cells books a es ≡ [] → (trace_of cells books a (e ∷ es) ≡ []) ⊎ LastOf (e ∷ es)
      test false m none = inl (ap (λ t. if t then place_of e ∷ trace_of cells books a es else trace_of cells books a es) m ∙ none)
      test true m none =
          let d = added_there e h.0 m in
          inr (record {
            before = [];
            last = e;
            rest = es;
            split = refl;
            traces = ap (λ t. if t then place_of e ∷ trace_of cells books a es else trace_of cells books a es) m ∙ ap (λ ps. place_of e ∷ ps) none;
            event = d.0;
            there = d.1;
          })

      go : (trace_of cells books a es ≡ []) ⊎ LastOf es → (trace_of cells books a (e ∷ es) ≡ []) ⊎ LastOf (e ∷ es)
      go (inl none) = test (nat_lt e.at (length (served_at cells books a e).book)) refl none
      go (inr d) =
          inr (record {
            before = e ∷ d.before;
            last = d.last;
            rest = d.rest;
            split = ap (λ l. e ∷ l) d.split;
            traces = ap (adding cells books a e) d.traces ∙ over (nat_lt e.at (length (served_at cells books a e).book)) (trace_of cells books a d.before) (place_of d.last);
            event = d.event;
            there = d.there;
          })

  seen_append : (ps : List Place) (p : Place) (e : Event) → nth (books p.book) p.at ≡ Some e → seen_of cells books (ps ++ p ∷ []) ≡ seen_of cells books ps ++ seen_before cells books p (Some e) []
  seen_append [] p e h = ap (λ o. seen_before cells books p o []) h
  seen_append (q ∷ ps) p e h = ap (seen_before cells books q (nth (books q.book) q.at)) (seen_append ps p e h) ∙ over (nth (books q.book) q.at)
    where
      over : (o : Option Event) → seen_before cells books q o (seen_of cells books ps ++ seen_before cells books p (Some e) []) ≡ seen_before cells books q o (seen_of cells books ps) ++ seen_before cells books p (Some e) []
      over None = refl
      over (Some d) = refl

  hold_before : (before rest : List Entry) → AllHold cells threads books a (before ++ rest) → AllHold cells threads books a before
  hold_before [] rest h = tt
  hold_before (e ∷ es) rest h = (h.0, hold_before es rest h.1)

  staged_before : (st end : Stage) (before rest : List Entry) → AreStaged false st (before ++ rest) end → (mid : Stage) × AreStaged false st before mid
  staged_before st end [] rest h = (st, refl)
  staged_before st end (e ∷ es) rest h = let g = staged_before (stage_after st e.ask e.reply) end es rest h.1 in (g.0, (h.0, g.1))

  pub printed_before : Lower → (code : ThreadCode) (x : Actor) (stage : Stage) → ToldBy cells threads books false a x.entries stage → EachWaits code x → PrintedBeforeLast cells code books a x
  printed_before by code x stage t l = go (last_of x.entries t.hold)
    where
      go : (trace_of cells books a x.entries ≡ []) ⊎ LastOf x.entries → PrintedBeforeLast cells code books a x
      go (inl none) = inl (ap (seen_of cells books) none)
      go (inr d) =
          let w = l d.before d.last d.rest d.split in
          let xs = map exchange_of d.before in
          let hs = history_of cells books a d.before in
          let hold = hold_before d.before (d.last ∷ d.rest) (subst (AllHold cells threads books a) d.split t.hold) in
          let staged = staged_before Idle stage d.before (d.last ∷ d.rest) (subst (λ es. AreStaged false Idle es stage) d.split t.staged) in
          let fits : RepliesFit cells Out xs hs = by.fit cells Out xs hs (phase_of cells books staged.0) (entries_fit by.stays cells threads books a Idle staged.0 d.before hold staged.1) in
          let e : target code x.turns xs ≡ Asking w.waiting = exec_run code x.turns (opening code xs) ∙ ap (λ o. and_then o stated) w.asking in
          inr (
            hs,
            seen_in cells (book_for cells d.last.ask) (books (book_for cells d.last.ask)) d.last.at d.event.kind,
            ap (seen_of cells books) d.traces ∙ seen_append (trace_of cells books a d.before) (place_of d.last) d.event d.there,
            λ p same follows. (
              w.waiting.printed,
              subst (λ (o : Outcome). Explained o (thread_meaning p x.turns hs)) e (follows.explained xs hs x.turns (subst (λ ds. RepliesFit ds Out xs hs) (sym same) fits) (subst (λ (o : Outcome). Consumed o) (sym e) w.consumed)),
              w.printed,
            ),
          )

pub run_prints : Lower → ServeKeeps → FreshStands → RunPrints
run_prints by keeps fresh cells threads codes ys a known =
    let h = plays_wait cells threads keeps codes fresh ys in
    let k = h.holds.actors false a known in
    printed_before cells threads _ a by (codes a) _ k.stage k.told (h.waits a known)
