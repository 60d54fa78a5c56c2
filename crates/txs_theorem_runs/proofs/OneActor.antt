-- One actor beside what is shared: where it may view, why its ask is lawful, and where it comes to with the answer.
use Rattle.std.proofs.Common.{◌≡◌, ℕ, zero, suc, true, false, nat_lt, Bool, List, [], ◌∷◌, length, map, Some, None, refl, sym, ap, ◌∙◌, subst, ◌⊎◌, inl, inr}
use Rattle.txs_world_protocol.specs.Ask.{Exchange}
use Rattle.txs_world_protocol.specs.declared.ask.Ask.{Ask}
use Rattle.txs_world_protocol.specs.declared.ask.Reply.{Reply}
use Rattle.txs_world_protocol.specs.declared.ask.Reply.TheVariants as reply
use Rattle.txs_world_protocol.specs.declared.event.Event.{Event}
use Rattle.txs_value_cell.specs.declared.cell.CellDefinition.{CellDefinition}
use Rattle.txs_code_meaning.specs.ActorState.{ActorState}
use Rattle.txs_code_meaning.specs.Machine.{ThreadCode, fetch, Activity, Outside, Restarting, Running, Applying, Swapping, Configuration, Turned, Ended, Failed, Asking, Unfinished, Stuck, and_then, turn, run}
use Rattle.txs_code_meaning.specs.Opening.{given, opening}
use Rattle.txs_world_book.specs.Served.{Served}
use Rattle.txs_theorem_runs.specs.Invariant.{ActorInvariant}
use Rattle.txs_theorem_runs.specs.Lawful.{CodeIsKnown, OpeningIsKnown}
use Rattle.txs_theorem_runs.specs.Run.{Actor, Moved, exchange, replied, asked, asks_for, turned}
use Rattle.txs_theorem_runs.specs.Shared.{Shared, book_for, serve_on, may_ask}
use Rattle.txs_theorem_runs.specs.Staged.{redoes_some, stage_in, stage_of}
use Rattle.txs_theorem_runs.specs.Stages.{Stage, Resting, Idle, Open, Viewing, Swapping}
use Rattle.txs_theorem_runs.specs.Standing.{MayStandHere, StandingCode}
use Rattle.txs_theorem_runs.specs.Told.{Entry, exchange_of, IsExchanged, ToldBy}
use Rattle.txs_theorem_runs.proofs.Growing.{Grown}
use Rattle.txs_theorem_runs.proofs.Lawful.{BooksKnown, Known, PlaceKnown, FreshNow, CleanNow, TurnIsKnown, TryNamed, NamedAt, end_views, end_named, AsksView, Over, Free, free_names, redo_asks, turn_of, placed_of, turns_named, thread_lawful}
use Rattle.txs_theorem_runs.proofs.Naming.{MayName, NamesView, later, still_named}
use Rattle.txs_theorem_runs.proofs.ServedKnown.{ServedKnown, serve_known}
use Rattle.txs_theorem_runs.proofs.Values.{TodoKnown, AskKnown, WantsKnown, RedoIn, locals_known, nothing_known}

-- The read point of a try that the actor is in here may be named as a view, too; or the try is at its end, and its commute phase has to
-- begin again with a view.
abbrev pub MayView : List CellDefinition → ThreadCode → ℕ → (ℕ → List Event) → Configuration → Type 0
MayView cells code a books c = NamesView books a (stage_of false c) ⊎ RedoIn cells c.doing (fetch code c.body c.place) c.state.done

-- ---- views

-- books that are as before leave the views that an actor may name
view_same : (a : ℕ) (books bs : ℕ → List Event) → ((i : ℕ) → bs i ≡ books i) → (st : Stage) → NamesView books a st → NamesView bs a st
view_same a books bs e Resting h = tt
view_same a books bs e Idle h = tt
view_same a books bs e (Open at) h = subst (λ l. NamesView (λ i. l) a (Open at)) (sym (e 0)) h
view_same a books bs e (Viewing at view) h = tt
view_same a books bs e (Swapping c at) h = tt

-- and so does what another actor adds
view_stays : (cells : List CellDefinition) (a b : ℕ) (books bs : ℕ → List Event) → (a ≡ b → ⊥) → Grown a books bs → (st : Stage) → NamesView books b st → NamesView bs b st
view_stays cells a b books bs n g Resting h = tt
view_stays cells a b books bs n g Idle h = tt
view_stays cells a b books bs n g (Open at) h = still_named cells a b books bs n g true 0 at h
view_stays cells a b books bs n g (Viewing at view) h = tt
view_stays cells a b books bs n g (Swapping c at) h = tt

pub may_view_same : (cells : List CellDefinition) (code : ThreadCode) (a : ℕ) (books bs : ℕ → List Event) (c : Configuration) → ((i : ℕ) → bs i ≡ books i) → MayView cells code a books c → MayView cells code a bs c
may_view_same cells code a books bs c e (inl v) = inl (view_same a books bs e (stage_of false c) v)
may_view_same cells code a books bs c e (inr r) = inr r

pub may_view_stays : (cells : List CellDefinition) (code : ThreadCode) (a b : ℕ) (books bs : ℕ → List Event) (c : Configuration) → (a ≡ b → ⊥) → Grown a books bs → MayView cells code b books c → MayView cells code b bs c
may_view_stays cells code a b books bs c n g (inl v) = inl (view_stays cells a b books bs n g (stage_of false c) v)
may_view_stays cells code a b books bs c n g (inr r) = inr r

-- a turn that asks nothing keeps what may be viewed: where a commute phase has to begin again, the turn asks
pub went_view : (cells : List CellDefinition) (code : ThreadCode) (a : ℕ) (books : ℕ → List Event) (c d : Configuration) → c.state.todo ≡ [] → turn code c ≡ Unfinished d → stage_of false d ≡ stage_of false c → MayView cells code a books c → MayView cells code a books d
went_view cells code a books c d e t s (inl v) = inl (subst (NamesView books a) (sym s) v)
went_view cells code a books c d e t s (inr r) = absurd (subst (AsksView cells) t (redo_asks cells code c e r))

-- outside every transaction nothing is viewed
pub idle_view : (cells : List CellDefinition) (code : ThreadCode) (a : ℕ) (books : ℕ → List Event) (c : Configuration) → stage_of false c ≡ Idle → MayView cells code a books c
idle_view cells code a books c e = inl (subst (NamesView books a) (sym e) tt)

-- ---- an ask

-- An actor that was told these entries by the books, up to a stage, stands where it asks this: what it was told names defined cells alone, and it may name
-- the places of its stage, and view.
pub record Asks (cells : List CellDefinition) (threads : ℕ) (code : ThreadCode) (books : ℕ → List Event) (a : ℕ) (es : List Entry) (st : Stage) (q : Ask) : Type 0 where
  pub turns : ℕ
  pub before : Configuration
  pub waiting : ActorState
  pub ran : run code turns (opening code (map exchange_of es)) ≡ Unfinished before
  pub consumed : before.state.todo ≡ []
  pub here : stage_of false before ≡ st
  pub asks : turn code before ≡ Asking waiting
  pub wants : waiting.wants ≡ Some q
  pub views : MayView cells code a books before
  pub told : ToldBy cells threads books false a es st
  pub replies : TodoKnown cells (map exchange_of es)
  pub places : MayName cells books a st

module _ (cells : List CellDefinition) (threads : ℕ) (opened : OpeningIsKnown cells) (code : ThreadCode) (known : CodeIsKnown cells code) where
  abbrev IsKnownHere : Configuration → Type 0
  IsKnownHere c = Known cells threads opened false Free code known (free_names code) c

  abbrev MayNameAt : (ℕ → List Event) → ℕ → Turned Configuration → Type 0
  MayNameAt books a o = NamedAt cells threads opened false Free code known (free_names code) books a o

  -- what a try may view, as it is told of an actor of any run
  try_named : (books : ℕ → List Event) (a : ℕ) (c : Configuration) (doing : Activity) → NamesView books a (stage_in false doing c.state) ⊎ RedoIn cells doing (fetch code c.body c.place) c.state.done → TryNamed cells threads opened false Free code known (free_names code) books a c doing
  try_named books a c Outside h = tt
  try_named books a c (Restarting left) h = tt
  try_named books a c (Running left inner from) h = h
  try_named books a c (Applying left from work values) (inl h) = end_named cells threads opened false Free code known (free_names code) books a c.state (redoes_some work) values h
  try_named books a c (Applying left from work values) (inr h) = absurd h
  try_named books a c (Swapping swap from) h = tt

  may_view : (books : ℕ → List Event) (a : ℕ) (c : Configuration) (doing : Activity) → TryNamed cells threads opened false Free code known (free_names code) books a c doing → NamesView books a (stage_in false doing c.state) ⊎ RedoIn cells doing (fetch code c.body c.place) c.state.done
  may_view books a c Outside h = inl tt
  may_view books a c (Restarting left) h = inl tt
  may_view books a c (Running left inner from) h = h
  may_view books a c (Applying left from work values) h = inl (end_views cells threads opened false Free code known (free_names code) books a c.state (redoes_some work) values h)
  may_view books a c (Swapping swap from) h = inl tt

  -- where an actor that goes on may name what it has to, it may view
  view_of : (books : ℕ → List Event) (a : ℕ) (o : Turned Configuration) (d : Configuration) → o ≡ Unfinished d → MayNameAt books a o → MayView cells code a books d
  view_of books a o d e h = by (subst (MayNameAt books a) e h)
    where
      by : Over false d.state.acting ⊎ (MayName cells books a (stage_of false d) × TryNamed cells threads opened false Free code known (free_names code) books a d d.doing) → MayView cells code a books d
      by (inl over) = absurd over
      by (inr h) = may_view books a d d.doing h.1

  module _ (t : StandingCode code) where
    abbrev place_or : Configuration → Turned Configuration → Configuration
    place_or c (Unfinished u) = u
    place_or c (Ended s) = c
    place_or c (Failed f s) = c
    place_or c (Asking s) = c
    place_or c Stuck = c

    abbrev is_unfinished : Turned Configuration → Type 0
    is_unfinished (Unfinished u) = Unit {0}
    is_unfinished (Ended s) = ⊥
    is_unfinished (Failed f s) = ⊥
    is_unfinished (Asking s) = ⊥
    is_unfinished Stuck = ⊥

    -- wherever the code comes to from here, its instruction may stand there
    abbrev StandsFrom : Configuration → Type 0
    StandsFrom c = (m : ℕ) (d : Configuration) → run code m c ≡ Unfinished d → MayStandHere false d.doing (fetch code d.body d.place)

    next_stands : (c u : Configuration) → turn code c ≡ Unfinished u → StandsFrom c → StandsFrom u
    next_stands c u e s m d r = s (suc m) d (ap (λ o. and_then o (run code m)) e ∙ r)

    -- an actor that was told known values has known values
    known_run : (m : ℕ) (c d : Configuration) → IsKnownHere c → StandsFrom c → run code m c ≡ Unfinished d → IsKnownHere d
    known_run zero c d h s e = subst IsKnownHere (ap (place_or c) e) h
    known_run (suc m) c d h s e = go (λ u k t r. known_run m u d k t r) (turn code c) refl e
      where
        go : ((u : Configuration) → IsKnownHere u → StandsFrom u → run code m u ≡ Unfinished d → IsKnownHere d) → (o : Turned Configuration) → turn code c ≡ o → and_then o (run code m) ≡ Unfinished d → IsKnownHere d
        go more (Unfinished u) i r =
            more u (subst (PlaceKnown cells threads opened false Free code known (free_names code)) i (placed_of cells threads opened false Free code known (free_names code) c (turn code c) (turn_of cells threads opened false Free code known (free_names code) c h (λ y. s 0 c refl)))) (next_stands c u i s) r
        go more (Ended s) i r = absurd (subst is_unfinished (sym r) tt)
        go more (Failed f s) i r = absurd (subst is_unfinished (sym r) tt)
        go more (Asking s) i r = absurd (subst is_unfinished (sym r) tt)
        go more Stuck i r = absurd (subst is_unfinished (sym r) tt)

    opening_known : (xs : List Exchange) → TodoKnown cells xs → IsKnownHere (opening code xs)
    opening_known xs h = (tt, locals_known cells (Unit {0}) (Unit {0}) (Unit {0}) Free code (Some code.main) [] tt, tt, tt, (nothing_known cells (Unit {0}) (Unit {0}) (Unit {0}) Free code, tt, h, tt), λ y. (tt, inl tt))

    module _ (books : ℕ → List Event) (a : ℕ) (es : List Entry) (st : Stage) (q : Ask) (below : nat_lt a threads ≡ true) (values : BooksKnown cells threads opened books) (h : Asks cells threads code books a es st q) where
      known_here : IsKnownHere h.before
      known_here = known_run h.turns (opening code (map exchange_of es)) h.before (opening_known (map exchange_of es) h.replies) (λ m d e. (t m (map exchange_of es) d e).0) h.ran

      -- what its ask names
      ask_known : AskKnown cells (StandingCode code) (FreshNow cells threads opened false Free code known (free_names code) h.before) (CleanNow cells threads opened false Free code known (free_names code) h.before) Free code q
      ask_known =
          subst (λ o. WantsKnown cells (StandingCode code) (FreshNow cells threads opened false Free code known (free_names code) h.before) (CleanNow cells threads opened false Free code known (free_names code) h.before) Free code o) h.wants
          (subst (TurnIsKnown cells threads opened false Free code known (free_names code) h.before) h.asks
          (turn_of cells threads opened false Free code known (free_names code) h.before known_here (λ y. (t h.turns (map exchange_of es) h.before h.ran).0)))

      abbrev w : Served
      w = serve_on cells a q (books (book_for cells q))

      -- what it is answered names defined cells alone, and so does the book after it
      pub served_known : ServedKnown cells opened w
      served_known =
          serve_known cells opened a (books (book_for cells q)) (values (book_for cells q)) (StandingCode code) (FreshNow cells threads opened false Free code known (free_names code) h.before) (CleanNow cells threads opened false Free code known (free_names code) h.before) Free code q ask_known

      module _ (taken : List Bool) where
        abbrev sh : Shared
        sh = record { books = books; taken = taken }

        abbrev x : Actor
        x = record { at = Unfinished h.before; entries = es; turns = h.turns; stopped = None }

        held : ActorInvariant cells threads false code books a x
        held = record { stage = st; ran = h.ran; told = h.told; staged = (h.consumed, h.here) }

        named : MayNameAt books a (Unfinished h.before)
        named = inr (subst (MayName cells books a) (sym h.here) h.places, try_named books a h.before h.before.doing h.views)

        -- its ask is lawful
        pub ask_is_lawful : may_ask cells threads taken a q (books (book_for cells q)) ≡ true
        ask_is_lawful = thread_lawful cells threads opened code known t a sh values x held known_here named below taken h.before h.waiting q refl h.asks h.wants

        abbrev MovesNamed : Moved → Type 0
        MovesNamed m = MayNameAt m.shared.books a m.actor.at

        -- an answer that is taken leads where it does in a run
        taken_named : (bs : ℕ → List Event) (r : Reply) (n : ℕ) → IsExchanged r → MayNameAt bs a (replied code h.before q r n x).at → MayNameAt bs a (turn code (given (exchange q r ∷ []) h.before))
        taken_named bs (reply.At i) n ex k = k
        taken_named bs (reply.Is v) n ex k = k
        taken_named bs (reply.Views i vs) n ex k = k
        taken_named bs reply.Done n ex k = k
        taken_named bs (reply.Retry d) n ex k = k
        taken_named bs (reply.Changed d) n ex k = k
        taken_named bs (reply.AgentIsFailed g) n ex k = k
        taken_named bs (reply.Action i y v) n ex k = k
        taken_named bs (reply.Opened i v) n ex k = k
        taken_named bs reply.Idle n ex k = absurd ex
        taken_named bs reply.Full n ex k = absurd ex
        taken_named bs reply.Memory n ex k = absurd ex

        answer_named : IsExchanged w.reply → MayNameAt (later cells a books q w) a (turn code (given (exchange q w.reply ∷ []) h.before))
        answer_named ex =
            taken_named (later cells a books q w) w.reply (length (books (book_for cells q))) ex
            (subst (λ b. MovesNamed (asked b cells code a h.before q x sh)) ask_is_lawful
            (subst (λ o. MovesNamed (asks_for cells threads code a h.before h.waiting o x sh)) h.wants
            (subst (λ o. MovesNamed (turned cells threads code a h.before o x sh)) h.asks
            (turns_named cells threads opened false Free code known (free_names code) t a sh values x held known_here named (Unfinished h.before) None refl))))

      -- where it comes to with the answer, it may view
      pub answer_views : (d : Configuration) → IsExchanged w.reply → turn code (given (exchange q w.reply ∷ []) h.before) ≡ Unfinished d → MayView cells code a (later cells a books q w) d
      answer_views d ex e = view_of (later cells a books q w) a (turn code (given (exchange q w.reply ∷ []) h.before)) d e (answer_named [] ex)
