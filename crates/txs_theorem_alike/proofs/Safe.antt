-- Runs of well-typed code that are alike.
use Rattle.std.proofs.Common.{◌≡◌, ◌<◌, ◌≤◌, ℕ, zero, suc, Bool, true, false, ◌==◌, List, [], ◌∷◌, ◌++◌, length, length-append, map, Option, Some, None, refl, sym, ap, subst, ◌∙◌, arith, if◌then◌else◌}
use Rattle.txs_world_protocol.specs.declared.ask.Ask.{Ask}
use Rattle.txs_world_protocol.specs.declared.event.Event.{Event}
use Rattle.txs_value_data.proofs.SameLemmas.{numbers}
use Rattle.txs_value_data.specs.Limits.{most_events}
use Rattle.txs_value_data.specs.declared.fault.Span.{Span}
use Rattle.txs_value_cell.specs.declared.cell.CellDefinition.{CellDefinition}
use Rattle.txs_world_book.specs.Served.{Served}
use Rattle.txs_code_meaning.specs.ActorState.{ActorState}
use Rattle.txs_frame.specs.declared.phase.Task.{Task}
use Rattle.txs_world_protocol.specs.Ask.{Writes}
use Rattle.txs_code_meaning.specs.Machine.{PlainInstr, Push, Load, Store, Pop, Jump, JumpFalse, CoreOf, CallOf, Return, MakeVector, PrintOf, TxBegin, TxEnd, LookOf, PutOf, OpenOf, CloseOf, SendOf, Halt, TakeOf, RunOf, FinishOf, fetch, Savepoint, Activity, Outside, Restarting, Running, Applying, Swapping, ThreadCode, Configuration, Turned, Ended, Failed, Asking, Unfinished, Stuck, turn}
use Rattle.txs_theorem_runs.proofs.Serving as serving
use Rattle.txs_theorem_runs.specs.Invariant.{OpeningHolds, PlayHolds, RunInvariant}
use Rattle.txs_theorem_runs.specs.Lawful.{RunAsksLawful}
use Rattle.txs_theorem_runs.specs.Run.{Stop, Actor, Moved, asked, asks_for, turned, turns_from, Play, TakesTurn, State, play, plays_from, opens, plays}
use Rattle.txs_theorem_runs.specs.Shared.{Shared, book_for, serve_on, may_ask, shared_after}
use Rattle.txs_theorem_runs.specs.Staged.{StagedActor, IsStaged}
use Rattle.txs_theorem_runs.specs.Told.{exchange_of}
use Rattle.txs_theorem_runs.specs.Standing.{MayStandHere, StandingIsStaged}
use Rattle.txs_theorem_alike.specs.Free.{reruns_in}
use Rattle.txs_theorem_alike.specs.LeftOut.{IsAtBegin}
use Rattle.txs_theorem_alike.specs.Safe.{IsSafe, is_agent, IsActor, AreTurnsOf, IsRoomy, TurnsGoFreely, AlikeRunsGoOn, CommitsOfRunsCommute, StandsBefore, IsInTry, TriesHere, OnlyTries, RetriesDontMatter, AlikeRunsAskOn}
use Rattle.txs_theorem_alike.specs.States.{StatesAlike, GoesFreely, GoFreely, after_turns}
use Rattle.txs_theorem_alike.specs.Tries.{TriesOn, TryAmong, kept_if, without, if_own}
use Rattle.txs_theorem_alike.specs.Beginnings.{IsNoTake, IsOfTry}
use Rattle.txs_theorem_alike.specs.Commits.{ask_of}
use Rattle.txs_theorem_alike.specs.Stages.{behind}
use Rattle.txs_theorem_alike.specs.Walks.{goes_alone, walks, asks_on, HasTries, GoesOnAlike, after_asks, AskFreely}
use Rattle.txs_theorem_alike.proofs.Commuting.{asked_turn, commits_commute}
use Rattle.txs_theorem_alike.proofs.Exchanging.{serves}
use Rattle.txs_theorem_alike.proofs.Walks.{alike_go_on_alike, asks_keep_states}
use Rattle.txs_theorem_alike.proofs.Free.{more_reruns, failures_are_seen, runs_go_freely}
use Rattle.txs_theorem_alike.proofs.LeftOut.{tries_are_left_out}
use Rattle.txs_theorem_alike.proofs.States.{runs_keep_states}
use Rattle.txs_theorem_alike.proofs.Unnoticed.{stays}

-- ---- journals only grow

-- what is measured of a list of events doesn't become less where more come behind
abbrev Grows : (List Event → ℕ) → Type 0
Grows f = (xs ys : List Event) → f xs ≤ f (xs ++ ys)

module _ (cells : List CellDefinition) (threads : ℕ) (f : List Event → ℕ) (mono : Grows f) (n : ℕ) where
  book_grows : (b : ℕ) (q : Ask) (sh : Shared) → f (sh.books n) ≤ f ((shared_after cells q (serve_on cells b q (sh.books (book_for cells q))) sh).books n)
  book_grows b q sh = by (n == book_for cells q) refl
    where
      v : Served
      v = serve_on cells b q (sh.books (book_for cells q))

      by : (t : Bool) → (n == book_for cells q) ≡ t → f (sh.books n) ≤ f (if t then v.book else sh.books n)
      by true e =
          let s = serving.serves b (sh.books (book_for cells q)) cells q in
          subst (λ l. f (sh.books n) ≤ f l) (sym s.grown) (subst (λ i. f (sh.books i) ≤ f (sh.books (book_for cells q) ++ s.more)) (sym (numbers n (book_for cells q) e)) (mono (sh.books (book_for cells q)) s.more))
      by false e = omega arith

  module _ (code : ThreadCode) (b : ℕ) (x : Actor) (sh : Shared) where
    abbrev Later : Moved → Type 0
    Later m = f (sh.books n) ≤ f (m.shared.books n)

    asked_grows : (t : Bool) (c : Configuration) (q : Ask) → Later (asked t cells code b c q x sh)
    asked_grows true c q = book_grows b q sh
    asked_grows false c q = omega arith

    waits_grow : (c : Configuration) (s : ActorState) (o : Option Ask) → Later (asks_for cells threads code b c s o x sh)
    waits_grow c s None = omega arith
    waits_grow c s (Some q) = asked_grows (may_ask cells threads sh.taken b q (sh.books (book_for cells q))) c q

    turned_grow : (c : Configuration) (o : Turned Configuration) → Later (turned cells threads code b c o x sh)
    turned_grow c (Ended s) = omega arith
    turned_grow c (Failed g s) = omega arith
    turned_grow c (Asking s) = waits_grow c s s.wants
    turned_grow c (Unfinished d) = omega arith
    turned_grow c Stuck = omega arith

    turns_grow : (o : Turned Configuration) (w : Option Stop) → Later (turns_from cells threads code b o w x sh)
    turns_grow (Ended s) w = omega arith
    turns_grow (Failed g s) w = omega arith
    turns_grow (Asking s) w = omega arith
    turns_grow (Unfinished c) None = turned_grow c (turn code c)
    turns_grow (Unfinished c) (Some why) = omega arith
    turns_grow Stuck w = omega arith

  play_grows : (codes : ℕ → ThreadCode) (b : ℕ) (st : State) → f (st.shared.books n) ≤ f ((play cells threads codes (TakesTurn b) st).shared.books n)
  play_grows codes b st = turns_grow (codes b) b (st.actors b) st.shared (st.actors b).at (st.actors b).stopped

longer : Grows (λ es. length es)
longer xs ys = let l = length-append xs ys in omega (arith, l)

roomy_play : (cells : List CellDefinition) (threads : ℕ) (codes : ℕ → ThreadCode) (b : ℕ) (st : State) → IsRoomy (play cells threads codes (TakesTurn b) st) → IsRoomy st
roomy_play cells threads codes b st h = record {
  room = λ n. let g = play_grows cells threads (λ es. length es) longer n codes b st in let r = h.room n in omega (arith, g, r);
  tries = λ a. let g = play_grows cells threads (reruns_in a) (more_reruns a) 0 codes b st in let r = h.tries a in omega (arith, g, r);
}

-- ---- runs

module _ (cells : List CellDefinition) (threads : ℕ) (codes : ℕ → ThreadCode) where
  roomy_before : (turns : List ℕ) (st : State) → IsRoomy (after_turns cells threads codes turns st) → IsRoomy st
  roomy_before [] st h = h
  roomy_before (b ∷ turns) st h = roomy_play cells threads codes b st (roomy_before turns (play cells threads codes (TakesTurn b) st) h)

  plays_append : (ys zs : List Play) (st : State) → plays_from cells threads codes (ys ++ zs) st ≡ plays_from cells threads codes zs (plays_from cells threads codes ys st)
  plays_append [] zs st = refl
  plays_append (y ∷ ys) zs st = plays_append ys zs (play cells threads codes y st)

  turns_append : (turns later : List ℕ) (st : State) → after_turns cells threads codes (turns ++ later) st ≡ after_turns cells threads codes later (after_turns cells threads codes turns st)
  turns_append [] later st = refl
  turns_append (b ∷ turns) later st = turns_append turns later (play cells threads codes (TakesTurn b) st)

  -- a state that a run comes to
  record Reached (st : State) : Type 0 where
    by_plays : List Play
    is : plays cells threads codes by_plays ≡ st

  next : (b : ℕ) (st : State) → Reached st → Reached (play cells threads codes (TakesTurn b) st)
  next b st r = record {
    by_plays = r.by_plays ++ TakesTurn b ∷ [];
    is = plays_append r.by_plays (TakesTurn b ∷ []) (opens cells codes) ∙ ap (λ u. play cells threads codes (TakesTurn b) u) r.is;
  }

  reached_after : (turns : List ℕ) (st : State) → Reached st → Reached (after_turns cells threads codes turns st)
  reached_after [] st r = r
  reached_after (b ∷ turns) st r = reached_after turns (play cells threads codes (TakesTurn b) st) (next b st r)

  module _ (opening : OpeningHolds) (holds : PlayHolds) where
    all_hold : (ys : List Play) (st : State) → RunInvariant cells threads codes st → RunInvariant cells threads codes (plays_from cells threads codes ys st)
    all_hold [] st h = h
    all_hold (y ∷ ys) st h = all_hold ys (play cells threads codes y st) (holds cells threads codes y st h)

    invariant : (ys : List Play) → RunInvariant cells threads codes (plays cells threads codes ys)
    invariant ys = all_hold ys (opens cells codes) (opening cells threads codes)

    reached_holds : (st : State) → Reached st → RunInvariant cells threads codes st
    reached_holds st r = subst (λ u. RunInvariant cells threads codes u) r.is (invariant r.by_plays)

  module _ (opening : OpeningHolds) (holds : PlayHolds) (lawful : RunAsksLawful) (standing : StandingIsStaged) (safe : IsSafe cells threads codes) where
    staged : (a : ℕ) → StagedActor (is_agent threads a) (codes a)
    staged a = standing (is_agent threads a) (codes a) (safe.stands a)

    free_at : (a : ℕ) (st : State) → Reached st → IsActor cells threads a → IsRoomy st → GoesFreely cells threads codes a st
    free_at a st r lt roomy =
        subst (λ u. IsRoomy u → GoesFreely cells threads codes a u) r.is
        (λ h. runs_go_freely lawful cells threads codes r.by_plays safe.opening safe.known safe.own a lt (safe.stands a) (record { room = h.room; tries = h.tries a })) roomy

    turns_free : (turns : List ℕ) (st : State) → Reached st → AreTurnsOf cells threads turns → IsRoomy (after_turns cells threads codes turns st) → GoFreely cells threads codes (is_agent threads) turns st
    turns_free [] st r are roomy = tt
    turns_free (a ∷ turns) st r are roomy =
        (staged a, free_at a st r are.0 (roomy_before (a ∷ turns) st roomy), turns_free turns (play cells threads codes (TakesTurn a) st) (next a st r) are.1 roomy)

    few_at : (a : ℕ) (st : State) → Reached st → IsRoomy st → HasTries a st
    few_at a st r roomy =
        subst (λ u. IsRoomy u → HasTries a u) r.is
        (λ h. let f = failures_are_seen cells threads codes r.by_plays a in let t = h.tries a in omega (arith, f, t)) roomy

    -- ---- tries

    -- no code of a transaction takes an action
    no_take : (agent : Bool) (left inner : ℕ) (from : Savepoint) (i : Option PlainInstr) → MayStandHere agent (Running left inner from) i → IsNoTake i
    no_take agent left inner from None m = tt
    no_take agent left inner from (Some (Push v)) m = tt
    no_take agent left inner from (Some (Load i)) m = tt
    no_take agent left inner from (Some (Store i)) m = tt
    no_take agent left inner from (Some Pop) m = tt
    no_take agent left inner from (Some (Jump to)) m = tt
    no_take agent left inner from (Some (JumpFalse to)) m = tt
    no_take agent left inner from (Some (CoreOf op args span)) m = tt
    no_take agent left inner from (Some (CallOf f args)) m = tt
    no_take agent left inner from (Some Return) m = tt
    no_take agent left inner from (Some (MakeVector items span)) m = tt
    no_take agent left inner from (Some (PrintOf args)) m = tt
    no_take agent left inner from (Some (TxBegin span)) m = tt
    no_take agent left inner from (Some TxEnd) m = tt
    no_take agent left inner from (Some (LookOf f span)) m = tt
    no_take agent left inner from (Some (PutOf f span)) m = tt
    no_take agent left inner from (Some (OpenOf f args span)) m = tt
    no_take agent left inner from (Some (CloseOf f span)) m = tt
    no_take agent left inner from (Some (SendOf f args span)) m = tt
    no_take agent left inner from (Some Halt) m = tt
    no_take agent left inner from (Some RunOf) m = tt
    no_take agent left inner from (Some (FinishOf g)) m = tt
    no_take true left inner from (Some (TakeOf g)) m = absurd m
    no_take false left inner from (Some (TakeOf g)) m = absurd m

    no_take_later : (agent : Bool) (left : ℕ) (from : Savepoint) (work : List Task) (values : Writes) (i : Option PlainInstr) → MayStandHere agent (Applying left from work values) i → IsNoTake i
    no_take_later agent left from work values None m = tt
    no_take_later agent left from work values (Some (Push v)) m = tt
    no_take_later agent left from work values (Some (Load i)) m = tt
    no_take_later agent left from work values (Some (Store i)) m = tt
    no_take_later agent left from work values (Some Pop) m = tt
    no_take_later agent left from work values (Some (Jump to)) m = tt
    no_take_later agent left from work values (Some (JumpFalse to)) m = tt
    no_take_later agent left from work values (Some (CoreOf op args span)) m = tt
    no_take_later agent left from work values (Some (CallOf f args)) m = tt
    no_take_later agent left from work values (Some Return) m = tt
    no_take_later agent left from work values (Some (MakeVector items span)) m = tt
    no_take_later agent left from work values (Some (PrintOf args)) m = tt
    no_take_later agent left from work values (Some (TxBegin span)) m = tt
    no_take_later agent left from work values (Some TxEnd) m = tt
    no_take_later agent left from work values (Some (LookOf f span)) m = tt
    no_take_later agent left from work values (Some (PutOf f span)) m = tt
    no_take_later agent left from work values (Some (OpenOf f args span)) m = tt
    no_take_later agent left from work values (Some (CloseOf f span)) m = tt
    no_take_later agent left from work values (Some (SendOf f args span)) m = tt
    no_take_later agent left from work values (Some Halt) m = tt
    no_take_later agent left from work values (Some RunOf) m = tt
    no_take_later agent left from work values (Some (FinishOf g)) m = tt
    no_take_later true left from work values (Some (TakeOf g)) m = absurd m
    no_take_later false left from work values (Some (TakeOf g)) m = absurd m

    of_try : (agent : Bool) (D : Activity) (i : Option PlainInstr) → MayStandHere agent D i → IsInTry i D → IsOfTry i D
    of_try agent Outside i m h = h
    of_try agent (Restarting left) i m h = h
    of_try agent (Running left inner from) i m h = no_take agent left inner from i m
    of_try agent (Applying left from work values) i m h = no_take_later agent left from work values i m
    of_try agent (Swapping swap from) i m h = absurd h

    tries_on : (a : ℕ) (st : State) → Reached st → TriesHere cells threads codes a st → TriesOn cells threads codes a st
    tries_on a st r h = record {
      here = h.here;
      is_here = h.is_here;
      part = of_try (is_agent threads a) h.here.doing (fetch (codes a) h.here.body h.here.place) may h.part;
      unseen = h.unseen;
      still = h.still;
    }
      where
        may : MayStandHere (is_agent threads a) h.here.doing (fetch (codes a) h.here.body h.here.place)
        may =
            let inv = (reached_holds opening holds st r).actors (is_agent threads a) a (staged a) in
            (safe.stands a (st.actors a).turns (map exchange_of (st.actors a).entries) h.here (inv.ran ∙ h.is_here)).0

    try_among : (a : ℕ) (turns : List ℕ) (st other : State) → Reached st → Reached other → AreTurnsOf cells threads turns → OnlyTries cells threads codes a turns st
        → IsRoomy (after_turns cells threads codes turns st) → IsRoomy (after_turns cells threads codes (without a turns) other) → TryAmong cells threads codes (is_agent threads) a turns st other
    try_among a [] st other r s are only roomy room = tt
    try_among a (b ∷ turns) st other r s are only roomy room =
        by (a == b) (only_own (a == b) only.0) room
        (λ m. try_among a turns (play cells threads codes (TakesTurn b) st) other (next b st r) s are.1 only.1 roomy m)
        (λ m. try_among a turns (play cells threads codes (TakesTurn b) st) (play cells threads codes (TakesTurn b) other) (next b st r) (next b other s) are.1 only.1 roomy m)
      where
        after : State
        after = play cells threads codes (TakesTurn b) st

        beside : State
        beside = play cells threads codes (TakesTurn b) other

        only_own : (i : Bool) → if_own i (TriesHere cells threads codes a st) (Unit {0}) → if_own i (TriesOn cells threads codes a st) (Unit {0})
        only_own true h = tries_on a st r h
        only_own false h = h

        by : (i : Bool) → if_own i (TriesOn cells threads codes a st) (Unit {0}) → IsRoomy (after_turns cells threads codes (kept_if i b (without a turns)) other)
            → (IsRoomy (after_turns cells threads codes (without a turns) other) → TryAmong cells threads codes (is_agent threads) a turns after other)
            → (IsRoomy (after_turns cells threads codes (without a turns) beside) → TryAmong cells threads codes (is_agent threads) a turns after beside)
            → if_own i (TriesOn cells threads codes a st × TryAmong cells threads codes (is_agent threads) a turns after other)
            (StagedActor (is_agent threads b) (codes b) × GoesFreely cells threads codes b st × GoesFreely cells threads codes b other × TryAmong cells threads codes (is_agent threads) a turns after beside)
        by true h m own others = (h, own m)
        by false h m own others = (
          staged b,
          free_at b st r are.0 (roomy_before (b ∷ turns) st roomy),
          free_at b other s are.0 (roomy_before (b ∷ without a turns) other m),
          others m,
        )

    at_begin : (a : ℕ) (span : Span) (st : State) → Reached st → IsActor cells threads a → IsRoomy st → StandsBefore (codes a) span (st.actors a) → IsAtBegin cells threads codes a st
    at_begin a span st r lt roomy h =
        let inv = (reached_holds opening holds st r).actors (is_agent threads a) a (staged a) in
        let staged_here : IsStaged (is_agent threads a) inv.stage (Unfinished h.here) = subst (λ o. IsStaged (is_agent threads a) inv.stage o) h.is_here inv.staged in
        record {
          span = span;
          stands = record { here = h.here; is_here = h.is_here; goes = h.goes; begins = h.begins; outside = h.outside; heard = staged_here.0; judged = h.judged };
          asks = (free_at a st r lt roomy).asks;
        }

here : (cells : List CellDefinition) (threads : ℕ) (codes : ℕ → ThreadCode) (ys : List Play) → Reached cells threads codes (plays cells threads codes ys)
here cells threads codes ys = record { by_plays = ys; is = refl }

pub turns_go_freely : OpeningHolds → PlayHolds → RunAsksLawful → StandingIsStaged → TurnsGoFreely
turns_go_freely opening holds lawful standing cells threads codes ys turns safe are roomy = turns_free cells threads codes opening holds lawful standing safe turns (plays cells threads codes ys) (here cells threads codes ys) are roomy

pub alike_runs_go_on : OpeningHolds → PlayHolds → RunAsksLawful → StandingIsStaged → AlikeRunsGoOn
alike_runs_go_on opening holds lawful standing cells threads codes ys zs turns safe are alike roomy room =
    runs_keep_states holds cells threads codes (is_agent threads) turns (plays cells threads codes ys) (plays cells threads codes zs)
    (invariant cells threads codes opening holds ys) (invariant cells threads codes opening holds zs) alike
    (turns_free cells threads codes opening holds lawful standing safe turns (plays cells threads codes ys) (here cells threads codes ys) are roomy)
    (turns_free cells threads codes opening holds lawful standing safe turns (plays cells threads codes zs) (here cells threads codes zs) are room)

pub commits_of_runs_commute : OpeningHolds → PlayHolds → RunAsksLawful → StandingIsStaged → CommitsOfRunsCommute
commits_of_runs_commute opening holds lawful standing cells threads codes a b q r ys safe la lb apart na ga nb gb free_of roomy room =
    commits_commute cells threads codes (is_agent threads) a b q r (plays cells threads codes ys) (invariant cells threads codes opening holds ys) (staged cells threads codes opening holds lawful standing safe) apart na ga nb gb free_of low
    (turns_free cells threads codes opening holds lawful standing safe (a ∷ b ∷ []) (plays cells threads codes ys) (here cells threads codes ys) (la, (lb, tt)) roomy)
    (turns_free cells threads codes opening holds lawful standing safe (b ∷ a ∷ []) (plays cells threads codes ys) (here cells threads codes ys) (lb, (la, tt)) room)
  where
    st : State
    st = plays cells threads codes ys

    first : Reached cells threads codes st
    first = here cells threads codes ys

    after_one : State
    after_one = play cells threads codes (TakesTurn a) st

    roomy_here : IsRoomy st
    roomy_here = roomy_before cells threads codes (a ∷ b ∷ []) st roomy

    roomy_next : IsRoomy after_one
    roomy_next = roomy_before cells threads codes (b ∷ []) after_one roomy

    one : after_one.shared ≡ behind cells a (ask_of q) st.shared
    one = ap (λ m. m.shared) (asked_turn cells threads (codes a) a (ask_of q) (st.actors a) st.shared na ga ((free_at cells threads codes opening holds lawful standing safe a st first la roomy_here).asks (ask_of q) na).0)

    grown : length (after_one.shared.books 0) ≡ suc (length (st.shared.books 0))
    grown =
        ap (λ u. length (u.books 0)) one
        ∙ ap (λ v. length v.book) (serves cells a q (st.shared.books 0) (roomy_here.room 0))
        ∙ length-append (st.shared.books 0) (_ ∷ []) ∙ omega arith

    low : suc (length (st.shared.books 0)) < most_events
    low = let r = roomy_next.room 0 in omega (arith, grown, r)

pub retries_dont_matter : OpeningHolds → PlayHolds → RunAsksLawful → StandingIsStaged → RetriesDontMatter
retries_dont_matter opening holds lawful standing cells threads codes a span again ys turns later safe la are more begins only anew roomy room =
    tries_are_left_out holds cells threads codes (is_agent threads) a turns later st (invariant cells threads codes opening holds ys) (staged cells threads codes opening holds lawful standing safe)
    (at_begin cells threads codes opening holds lawful standing safe a span st first la (roomy_before cells threads codes (turns ++ a ∷ later) st roomy) begins)
    (try_among cells threads codes opening holds lawful standing safe a turns st st first first are only roomy_tried roomy_untried)
    (at_begin cells threads codes opening holds lawful standing safe a again tried (reached_after cells threads codes turns st first) la roomy_tried anew)
    (at_begin cells threads codes opening holds lawful standing safe a span untried (reached_after cells threads codes (without a turns) st first) la roomy_untried
    (subst (λ k. StandsBefore (codes a) span k) (sym (stays cells threads codes (is_agent threads) a turns st)) begins))
    (goes turns roomy) (goes (without a turns) room)
  where
    st : State
    st = plays cells threads codes ys

    first : Reached cells threads codes st
    first = here cells threads codes ys

    tried : State
    tried = after_turns cells threads codes turns st

    untried : State
    untried = after_turns cells threads codes (without a turns) st

    behind : (us : List ℕ) → after_turns cells threads codes (us ++ a ∷ later) st ≡ after_turns cells threads codes (a ∷ later) (after_turns cells threads codes us st)
    behind us = turns_append cells threads codes us (a ∷ later) st

    roomy_tried : IsRoomy tried
    roomy_tried = roomy_before cells threads codes (a ∷ later) tried (subst IsRoomy (behind turns) roomy)

    roomy_untried : IsRoomy untried
    roomy_untried = roomy_before cells threads codes (a ∷ later) untried (subst IsRoomy (behind (without a turns)) room)

    goes : (us : List ℕ) → IsRoomy (after_turns cells threads codes (us ++ a ∷ later) st) → GoFreely cells threads codes (is_agent threads) later (after_turns cells threads codes (us ++ a ∷ []) st)
    goes us h =
        subst (λ u. GoFreely cells threads codes (is_agent threads) later u) (sym (turns_append cells threads codes us (a ∷ []) st))
        (turns_free cells threads codes opening holds lawful standing safe later (play cells threads codes (TakesTurn a) (after_turns cells threads codes us st))
        (next cells threads codes a (after_turns cells threads codes us st) (reached_after cells threads codes us st first)) more (subst IsRoomy (behind us) h))

-- ---- from request to request

module _ (cells : List CellDefinition) (threads : ℕ) (codes : ℕ → ThreadCode) (opening : OpeningHolds) (holds : PlayHolds) (lawful : RunAsksLawful) (standing : StandingIsStaged) (safe : IsSafe cells threads codes) (n : ℕ) where
  reached_walk : (a m : ℕ) (st : State) → Reached cells threads codes st → Reached cells threads codes (walks cells threads codes a m st)
  reached_walk a zero st r = r
  reached_walk a (suc m) st r = by (goes_alone (codes a) (st.actors a)) (reached_walk a m (play cells threads codes (TakesTurn a) st) (next cells threads codes a st r))
    where
      by : (i : Bool) → Reached cells threads codes (walks cells threads codes a m (play cells threads codes (TakesTurn a) st)) → Reached cells threads codes (if i then walks cells threads codes a m (play cells threads codes (TakesTurn a) st) else st)
      by true h = h
      by false h = r

  roomy_walk : (a m : ℕ) (st : State) → IsRoomy (walks cells threads codes a m st) → IsRoomy st
  roomy_walk a zero st h = h
  roomy_walk a (suc m) st h = by (goes_alone (codes a) (st.actors a)) (λ k. roomy_play cells threads codes a st (roomy_walk a m (play cells threads codes (TakesTurn a) st) k)) h
    where
      by : (i : Bool) → (IsRoomy (walks cells threads codes a m (play cells threads codes (TakesTurn a) st)) → IsRoomy st) → IsRoomy (if i then walks cells threads codes a m (play cells threads codes (TakesTurn a) st) else st) → IsRoomy st
      by true more k = more k
      by false more k = k

  reached_asks : (ks : List ℕ) (st : State) → Reached cells threads codes st → Reached cells threads codes (after_asks cells threads codes n ks st)
  reached_asks [] st r = r
  reached_asks (a ∷ ks) st r = reached_asks ks (asks_on cells threads codes n a st) (next cells threads codes a (walks cells threads codes a n st) (reached_walk a n st r))

  roomy_asks : (ks : List ℕ) (st : State) → IsRoomy (after_asks cells threads codes n ks st) → IsRoomy st
  roomy_asks [] st h = h
  roomy_asks (a ∷ ks) st h = roomy_walk a n st (roomy_play cells threads codes a (walks cells threads codes a n st) (roomy_asks ks (asks_on cells threads codes n a st) h))

  asks_free : (ks : List ℕ) (st : State) → Reached cells threads codes st → AreTurnsOf cells threads ks → IsRoomy (after_asks cells threads codes n ks st) → AskFreely cells threads codes (is_agent threads) n ks st
  asks_free [] st r are roomy = tt
  asks_free (a ∷ ks) st r are roomy = (
    staged cells threads codes opening holds lawful standing safe a,
    few_at cells threads codes opening holds lawful standing safe a st r (roomy_asks (a ∷ ks) st roomy),
    free_at cells threads codes opening holds lawful standing safe a (walks cells threads codes a n st) (reached_walk a n st r) are.0
        (roomy_play cells threads codes a (walks cells threads codes a n st) (roomy_asks ks (asks_on cells threads codes n a st) roomy)),
    asks_free ks (asks_on cells threads codes n a st) (next cells threads codes a (walks cells threads codes a n st) (reached_walk a n st r)) are.1 roomy,
  )

  asked_alike : (ks : List ℕ) (ys zs : List Play) → AreTurnsOf cells threads ks → StatesAlike cells (is_agent threads) (plays cells threads codes ys) (plays cells threads codes zs)
      → IsRoomy (after_asks cells threads codes n ks (plays cells threads codes ys)) → IsRoomy (after_asks cells threads codes n ks (plays cells threads codes zs))
      → StatesAlike cells (is_agent threads) (after_asks cells threads codes n ks (plays cells threads codes ys)) (after_asks cells threads codes n ks (plays cells threads codes zs))
  asked_alike ks ys zs are alike roomy room =
      asks_keep_states holds cells threads codes (is_agent threads) n ks (plays cells threads codes ys) (plays cells threads codes zs)
      (invariant cells threads codes opening holds ys) (invariant cells threads codes opening holds zs) alike
      (asks_free ks (plays cells threads codes ys) (here cells threads codes ys) are roomy) (asks_free ks (plays cells threads codes zs) (here cells threads codes zs) are room)

  then_alike : (a : ℕ) (st other : State) → Reached cells threads codes st → Reached cells threads codes other → StatesAlike cells (is_agent threads) st other → IsRoomy st → IsRoomy other → GoesOnAlike cells threads codes (is_agent threads) n a st other
  then_alike a st other r s alike roomy room =
      alike_go_on_alike holds cells threads codes (is_agent threads) n a st other (staged cells threads codes opening holds lawful standing safe a)
      (reached_holds cells threads codes opening holds st r) (reached_holds cells threads codes opening holds other s) alike
      (few_at cells threads codes opening holds lawful standing safe a st r roomy) (few_at cells threads codes opening holds lawful standing safe a other s room)

pub alike_runs_ask_on : OpeningHolds → PlayHolds → RunAsksLawful → StandingIsStaged → AlikeRunsAskOn
alike_runs_ask_on opening holds lawful standing cells threads codes ys zs n ks safe are alike roomy room =
    let same = asked_alike cells threads codes opening holds lawful standing safe n ks ys zs are alike roomy room in (
      same,
      λ a lt. then_alike cells threads codes opening holds lawful standing safe n a (after_asks cells threads codes n ks (plays cells threads codes ys)) (after_asks cells threads codes n ks (plays cells threads codes zs))
          (reached_asks cells threads codes opening holds lawful standing safe n ks (plays cells threads codes ys) (here cells threads codes ys))
          (reached_asks cells threads codes opening holds lawful standing safe n ks (plays cells threads codes zs) (here cells threads codes zs)) same roomy room,
    )
