-- An actor's run over what is shared, step by step.
use Rattle.std.proofs.Common.{◌≡◌, ◌==◌, ℕ, zero, suc, List, [], ◌∷◌, ◌++◌, length, map, take, get_or, true, false, Bool, nat_lt, ◌≤◌, ◌<◌, Option, Some, None, Result, refl, sym, ap, subst, ◌∙◌, ◌+◌, ◌⊎◌, inl, inr, if◌then◌else◌, arith}
use Rattle.std.proofs.lemmas.Bool.{false≢true}
use Rattle.std.proofs.lemmas.Bool.Decides.{nat_tests}
use Rattle.txs_world_protocol.specs.Ask.{Writes, Exchange}
use Rattle.txs_world_protocol.specs.declared.ask.Ask.{Ask}
use Rattle.txs_world_protocol.specs.declared.ask.Ask.TheVariants as ask
use Rattle.txs_world_protocol.specs.declared.ask.Reply.{Reply}
use Rattle.txs_world_protocol.specs.declared.ask.Reply.TheVariants as reply
use Rattle.txs_world_protocol.specs.declared.event.Event.{Event}
use Rattle.txs_world_protocol.specs.declared.event.EventKind.{EventKind}
use Rattle.txs_world_protocol.specs.declared.event.Outcome.{Outcome}
use Rattle.txs_world_protocol.specs.declared.event.Outcome.TheVariants as outcome
use Rattle.txs_value_data.proofs.SameLemmas.{numbers, number-itself}
use Rattle.txs_value_cell.specs.Cells.{World, validators_of}
use Rattle.txs_value_data.specs.Places.{nth}
use Rattle.txs_value_cell.specs.declared.action.Action.{Action}
use Rattle.txs_value_data.specs.declared.fault.Fault.{Fault}
use Rattle.txs_value_data.specs.declared.fault.Span.{Span}
use Rattle.txs_value_cell.specs.declared.cell.CellDefinition.{CellDefinition}
use Rattle.txs_value_data.specs.declared.value.CellId.{CellId}
use Rattle.txs_value_data.specs.declared.value.Value.{Value}
use Rattle.txs_code_meaning.specs.ActorState.{ActorState}
use Rattle.txs_code_meaning.specs.Machine.{ThreadCode, Configuration, Turned, Ended, Failed, Asking, Unfinished, Stuck, and_then, turn, run}
use Rattle.txs_code_meaning.proofs.Acts.{run_more}
use Rattle.txs_code_meaning.specs.Opening.{given, opening}
use Rattle.txs_code_meaning.specs.PlainCode.{CodeBody, PlainCode, function_codes}
use Rattle.txs_code_meaning.specs.WellTyped.{WellTyped}
use Rattle.txs_machine_actor.specs.Laws.{ActorsRun}
use Rattle.txs_machine_actor.specs.PlainActor.{PlainActor, MayAnswer, Stops, answered, unanswered, configuration_of, state_of, code_of, stands_at, standing, Awaits, AsksLast, HasAsked, HasRun, HasCome, HasEndedSo, own_body, HandsOut}
use Rattle.txs_machine_actor.specs.Turns.{IsNew, OneStep, Answers, Moves, TurnsFrom, Turns, GoesOnAfter, TurnsOf}
use Rattle.txs_machine_actor.specs.declared.outcome.Turn.{Turn}
use Rattle.txs_machine_actor.specs.declared.outcome.Turn.TheVariants as turned
use Rattle.txs_machine_actor.proofs.Following.{Unstopped, unstopped_if}
use Rattle.txs_machine_actor.proofs.Saying.{turn_says}
use Rattle.txs_world_book.specs.Book as world_book
use Rattle.txs_world_book.specs.Atom.{closes, closes_at, swapped_since}
use Rattle.txs_world_book.specs.Book.{is_outdated, least_written, cells_in, is_failed, first_failed}
use Rattle.txs_world_book.specs.Served as entry
use Rattle.txs_world.specs.Store as world
use Rattle.txs_world_book.specs.Served.{cells_of, Served}
use Rattle.txs_world.specs.Store.{serve}
use Rattle.txs_value_data.specs.Limits.{most_events}
use Rattle.txs_theorem_runs.specs.Invariant.{SharedStands}
use Rattle.txs_theorem_runs.specs.Laws.{with_book, ServedIsTold}
use Rattle.txs_theorem_runs.specs.Run.{entry}
use Rattle.txs_theorem_runs.specs.Shared.{Shared, is_atom, atom_of, serve_atom, book_for, serve_on, may_ask}
use Rattle.txs_theorem_runs.specs.Staged.{StagedCode, TurnIsStaged, IsStaged, StagedFrom, stage_of}
use Rattle.txs_theorem_runs.specs.Stages.{Stage, Idle, AsksIn, stage_after}
use Rattle.txs_theorem_runs.specs.Stages as stages
use Rattle.txs_theorem_runs.specs.Told.{Entry, exchange_of, IsExchanged, AllHold, served_at, adding, trace_of, TraceHolds, ToldBy}
use Rattle.txs_theorem_runs.specs.Told as told_by
use Rattle.txs_theorem_runs.proofs.Growing as growing
use Rattle.txs_theorem_runs.proofs.Growing.{Grown, IsFull, Serves, nothing_grown, trace_stays, told_stays}
use Rattle.txs_theorem_runs.specs.Printed.{Prints, HasPrinted}
use Rattle.txs_theorem_runs.proofs.Lasts.{apart, still, turn_prints}
use Rattle.txs_theorem_runs.proofs.Serving.{serves}
use Rattle.txs_code_meaning.specs.OwnCells.{NamesOwnCells}
use Rattle.txs_theorem_runs.specs.Standing.{StandingCode}
use Rattle.txs_theorem_runs.specs.Lawful.{OpeningIsKnown, TypedStands}
use Rattle.txs_theorem_runs.proofs.Known.{standing_staged}
use Rattle.txs_theorem_runs.proofs.OneActor.{MayView, idle_view, went_view}
use Rattle.txs_theorem_runs.proofs.ServedKnown.{BookKnown}
use Rattle.txs_world_shared.specs.SharedState as shared
use Rattle.txs_world_shared.specs.SharedState.{PlainShared, shared_of, numbered_book, is_lawful, answer_to, IsAfter, TakesMemoryFor}
use Rattle.txs_machine.specs.Lawfully.{HasStood, RunLawfully}
use Rattle.txs_machine.proofs.Lawfully.{ask_lawful, heard_lawfully, heard_stood, is_below, others_lawfully, others_stood}
use Rattle.txs_machine.proofs.Answered.{Leaves, answer_leaves, full_stops, memory_stops, stop_ends}
use Rattle.txs_machine.proofs.OwnCells.{openings_known, code_known}
use Rattle.txs_machine.specs.RunOver.{IsStateOf, books_of, IsIn, places_of, AskedOn, AtFullBook}
use Rattle.txs_machine.specs.Serving.{IsNext, with_place, IsServed}
use Rattle.txs_world_protocol.specs.Ask.{may_add_event}
use Rattle.txs_world_protocol.specs.declared.event.Place.{Place}

pub append_nil : {A : Type 0} (xs : List A) → xs ++ [] ≡ xs
append_nil [] = refl
append_nil (x ∷ xs) = ap (λ l. x ∷ l) (append_nil xs)

-- what holds of an actor's outcome and ask as they are
pub as_is : (b : PlainActor) (st : Stage) (o : Option Outcome) (q : Option Ask) → b.outcome ≡ o → unanswered b ≡ q → IsIn b st o q → IsIn b st b.outcome (unanswered b)
as_is b st o q e f h = subst (λ x. IsIn b st x (unanswered b)) (sym e) (subst (λ y. IsIn b st o y) (sym f) h)

-- and the other way round
pub as_known : (b : PlainActor) (st : Stage) (o : Option Outcome) (q : Option Ask) → b.outcome ≡ o → unanswered b ≡ q → IsIn b st b.outcome (unanswered b) → IsIn b st o q
as_known b st o q e f h = subst (λ y. IsIn b st o y) f (subst (λ x. IsIn b st x (unanswered b)) e h)

abbrev is_some : {A : Type 0} → Option A → Type 0
is_some None = ⊥
is_some (Some x) = Unit {0}

abbrev ask_in : Ask → Option Ask → Ask
ask_in d None = d
ask_in d (Some q) = q

-- ---- turns

-- where a turn leaves an actor that was in a stage
abbrev pub Keeps : PlainActor → PlainActor → Stage → Type 0
Keeps a b st = (b.number ≡ a.number) × IsIn b st b.outcome (unanswered b)

ended_keeps : (a b : PlainActor) (st : Stage) (o : Outcome) (q : Option Ask) → OneStep a (Some o) q b → Keeps a b st
ended_keeps a b st o q s = (s.number, as_is b st (Some o) q s.outcome s.unanswered tt)

asked_in : (code : ThreadCode) (c : Configuration) (st : Stage) (b : PlainActor) (q : Ask) (go : Ask → Reply → Turned Configuration)
    → stage_of false c ≡ st → ((r : Reply) → MayAnswer q r → (Stops r → ⊥) → go q r ≡ stands_at (answered b r))
    → StagedFrom false (stage_of false c) (Asking (record (state_of b) { wants = Some q })) go → IsIn b st None (Some q)
asked_in code c st b q go e leads h =
    let same : q ≡ h.0 = ap (ask_in q) h.1 in (
      subst (λ s. AsksIn false s q) e (subst (λ x. AsksIn false (stage_of false c) x) (sym same) h.2),
      λ r may on. subst (λ s. IsStaged false (stage_after s q r) (stands_at (answered b r))) e
          (subst (λ (t : Turned Configuration). IsStaged false (stage_after (stage_of false c) q r) t) (leads r may on)
          (subst (λ x. IsStaged false (stage_after (stage_of false c) x r) (go x r)) (sym same) (h.3 r))),
    )

step_keeps : (code : PlainCode) (a b : PlainActor) (r : Turn) (st : Stage) → TurnIsStaged false (code_of code a.number) (configuration_of a) → Answers code a r b → IsIn a st None None → Keeps a b st
step_keeps code a b turned.Went st law t here =
    let k = code_of code a.number in
    let c = configuration_of a in
    let staged = subst (λ (o : Turned Configuration). StagedFrom false (stage_of false c) o (λ q r. turn k (given (record { ask = q; reply = r } ∷ []) c))) t.0 (law (stage_of false c) refl) in
    (t.1.number, as_is b st None None t.1.outcome t.1.unanswered (staged.1 ∙ here))
step_keeps code a b (turned.Asks q) st law t here =
    let k = code_of code a.number in
    let c = configuration_of a in
    let go : Ask → Reply → Turned Configuration = λ x r. turn k (given (record { ask = x; reply = r } ∷ []) c) in
    let staged = subst (λ (o : Turned Configuration). StagedFrom false (stage_of false c) o go) t.0.asks (law (stage_of false c) refl) in
    (t.1.number, as_is b st None (Some q) t.1.outcome t.1.unanswered (asked_in k c st b q go here t.0.leads staged))
step_keeps code a b (turned.Ended outcome.Done) st law t here = ended_keeps a b st outcome.Done None t.1
step_keeps code a b (turned.Ended (outcome.Failed f)) st law t here = ended_keeps a b st (outcome.Failed f) None t.1
step_keeps code a b (turned.Ended outcome.StepsSpent) st law t here = absurd t
step_keeps code a b (turned.Ended outcome.JournalFull) st law t here = absurd t
step_keeps code a b (turned.Ended outcome.Memory) st law t here = ended_keeps a b st outcome.Memory None t.1

move_keeps : (code : PlainCode) (a b : PlainActor) (r : Turn) (st : Stage) (may : Bool) → TurnIsStaged false (code_of code a.number) (configuration_of a) → Moves code a may r b → IsIn a st None None → Keeps a b st
move_keeps code a b r st true law t here = step_keeps code a b r st law t here
move_keeps code a b r st false law t here = subst (λ x. Keeps a x st) (sym t.1) (refl, tt)

pub turn_keeps : (code : PlainCode) (a b : PlainActor) (r : Turn) (st : Stage) (o : Option Outcome) → (a.outcome ≡ None → TurnIsStaged false (code_of code a.number) (configuration_of a)) → a.outcome ≡ o → unanswered a ≡ None → TurnsFrom code a o r b → IsIn a st o None → Keeps a b st
turn_keeps code a b r st None law e f t here = move_keeps code a b r st (nat_lt a.steps a.limit) (law e) t here
turn_keeps code a b r st (Some o) law e f t here = subst (λ x. Keeps a x st) (sym t.1) (refl, as_is a st (Some o) None e f tt)

-- an outcome that isn't a full book
abbrev pub Unfilled : Option Outcome → Type 0
Unfilled None = Unit {0}
Unfilled (Some outcome.Done) = Unit {0}
Unfilled (Some (outcome.Failed f)) = Unit {0}
Unfilled (Some outcome.StepsSpent) = Unit {0}
Unfilled (Some outcome.JournalFull) = ⊥
Unfilled (Some outcome.Memory) = Unit {0}

-- a turn fills no book
step_unfilled : (code : PlainCode) (a b : PlainActor) (r : Turn) → Answers code a r b → Unfilled b.outcome
step_unfilled code a b turned.Went t = subst Unfilled (sym t.1.outcome) tt
step_unfilled code a b (turned.Asks q) t = subst Unfilled (sym t.1.outcome) tt
step_unfilled code a b (turned.Ended outcome.Done) t = subst Unfilled (sym t.1.outcome) tt
step_unfilled code a b (turned.Ended (outcome.Failed f)) t = subst Unfilled (sym t.1.outcome) tt
step_unfilled code a b (turned.Ended outcome.StepsSpent) t = absurd t
step_unfilled code a b (turned.Ended outcome.JournalFull) t = absurd t
step_unfilled code a b (turned.Ended outcome.Memory) t = subst Unfilled (sym t.1.outcome) tt

pub move_unfilled : (code : PlainCode) (a b : PlainActor) (r : Turn) (may : Bool) → Moves code a may r b → Unfilled b.outcome
move_unfilled code a b r true t = step_unfilled code a b r t
move_unfilled code a b r false t = subst (λ (x : PlainActor). Unfilled x.outcome) (sym t.1) tt

-- so an actor that a turn leaves stopped for a full book was stopped before
turn_full : (cells : List CellDefinition) (t : ThreadCode) (books : ℕ → List Event) (xs : List Exchange) (code : PlainCode) (a b : PlainActor) (r : Turn) (o : Option Outcome) → a.outcome ≡ o → TurnsFrom code a o r b
    → (a.outcome ≡ Some outcome.JournalFull → AtFullBook cells t books xs a) → b.outcome ≡ Some outcome.JournalFull → AtFullBook cells t books xs b
turn_full cells t books xs code a b r None e u h x = absurd (subst Unfilled x (move_unfilled code a b r (nat_lt a.steps a.limit) u))
turn_full cells t books xs code a b r (Some o) e u h x =
    subst (λ (y : PlainActor). y.outcome ≡ Some outcome.JournalFull → AtFullBook cells t books xs y) (sym u.1) h x

-- ---- where an actor stood when it asked

module _ (code : PlainCode) (k : ℕ) (books : ℕ → List Event) (xs : List Exchange) (st : Stage) where
  -- where it stood, by its outcome and its ask
  abbrev Stood : PlainActor → Option Outcome → Option Ask → Type 0
  Stood b o q = HasStood code.cells (code_of code k) k books xs b st o q

  stood_as : (b : PlainActor) (o : Option Outcome) (q : Option Ask) → b.outcome ≡ o → unanswered b ≡ q → Stood b o q → Stood b b.outcome (unanswered b)
  stood_as b o q e f h = subst (λ x. Stood b x (unanswered b)) (sym e) (subst (λ y. Stood b o y) (sym f) h)

  stood_known : (b : PlainActor) (o : Option Outcome) (q : Option Ask) → b.outcome ≡ o → unanswered b ≡ q → Stood b b.outcome (unanswered b) → Stood b o q
  stood_known b o q e f h = subst (λ y. Stood b o y) f (subst (λ x. Stood b x (unanswered b)) e h)

  -- a step from where it may view
  step_stood : (a b : PlainActor) (r : Turn) → a.number ≡ k → TurnIsStaged false (code_of code k) (configuration_of a) → run (code_of code k) a.steps (opening (code_of code k) xs) ≡ Unfinished (configuration_of a) → stage_of false (configuration_of a) ≡ st
      → MayView code.cells (code_of code k) k books (configuration_of a) → Answers code a r b → Stood b b.outcome (unanswered b)
  step_stood a b turned.Went n law ran here may t =
      let c = code_of code k in
      let went = subst (λ m. turn (code_of code m) (configuration_of a) ≡ Unfinished (configuration_of b)) n t.0 in
      let staged = subst (λ (o : Turned Configuration). StagedFrom false (stage_of false (configuration_of a)) o (λ q r. turn c (given (record { ask = q; reply = r } ∷ []) (configuration_of a)))) went (law (stage_of false (configuration_of a)) refl) in
      stood_as b None None t.1.outcome t.1.unanswered (went_view code.cells c k books (configuration_of a) (configuration_of b) refl went staged.1 may)
  step_stood a b (turned.Asks q) n law ran here may t =
      stood_as b None (Some q) t.1.outcome t.1.unanswered
      (record { turns = a.steps; before = configuration_of a; ran = ran; consumed = refl; here = here; awaits = subst (λ m. Awaits (code_of code m) (configuration_of a) b q) n t.0; views = may })
  step_stood a b (turned.Ended outcome.Done) n law ran here may t = stood_as b (Some outcome.Done) None t.1.outcome t.1.unanswered tt
  step_stood a b (turned.Ended (outcome.Failed f)) n law ran here may t = stood_as b (Some (outcome.Failed f)) None t.1.outcome t.1.unanswered tt
  step_stood a b (turned.Ended outcome.StepsSpent) n law ran here may t = absurd t
  step_stood a b (turned.Ended outcome.JournalFull) n law ran here may t = absurd t
  step_stood a b (turned.Ended outcome.Memory) n law ran here may t = stood_as b (Some outcome.Memory) None t.1.outcome t.1.unanswered tt

  move_stood : (a b : PlainActor) (r : Turn) (more : Bool) → a.number ≡ k → TurnIsStaged false (code_of code k) (configuration_of a) → run (code_of code k) a.steps (opening (code_of code k) xs) ≡ Unfinished (configuration_of a) → stage_of false (configuration_of a) ≡ st
      → MayView code.cells (code_of code k) k books (configuration_of a) → Moves code a more r b → Stood b b.outcome (unanswered b)
  move_stood a b r true n law ran here may t = step_stood a b r n law ran here may t
  move_stood a b r false n law ran here may t = subst (λ (x : PlainActor). Stood x x.outcome (unanswered x)) (sym t.1) tt

  turn_stood : (a b : PlainActor) (r : Turn) (o : Option Outcome) → a.number ≡ k → (o ≡ None → TurnIsStaged false (code_of code k) (configuration_of a)) → a.outcome ≡ o → unanswered a ≡ None → HasCome (code_of code k) xs a o None → IsIn a st o None
      → Stood a o None → TurnsFrom code a o r b → Stood b b.outcome (unanswered b)
  turn_stood a b r None n law e f ran here stood t = move_stood a b r (nat_lt a.steps a.limit) n (law refl) ran here stood t
  turn_stood a b r (Some o) n law e f ran here stood t = subst (λ (x : PlainActor). Stood x x.outcome (unanswered x)) (sym t.1) (stood_as a (Some o) None e f tt)

-- ---- what is known of the code

-- a body there is for each number below their count
body_there : (bs : List CodeBody) (k : ℕ) → k < length bs → (b : CodeBody) × (nth bs k ≡ Some b)
body_there [] k h = absurd (omega (arith, h))
body_there (b ∷ bs) zero h = (b, refl)
body_there (b ∷ bs) (suc k) h = body_there bs k (omega (arith, h))

-- the instructions of each thread of well-typed code stand where they may
pub standing_of : TypedStands → (code : PlainCode) (function_rooms thread_rooms : List ℕ) (k : ℕ) → WellTyped code function_rooms thread_rooms → k < length code.threads → StandingCode (code_of code k)
standing_of law code function_rooms thread_rooms k well below =
    let b = body_there code.threads k below in subst (λ (o : Option CodeBody). StandingCode (record { functions = function_codes code; validators = validators_of code.cells; main = own_body code k o })) (sym b.1) (law code function_rooms thread_rooms k b.0 well b.1)

-- an actor that goes on stands where its next instruction asks in its stage
pub stands_staged : (code : PlainCode) (xs : List Exchange) (a : PlainActor) → StagedCode (code_of code a.number) → unanswered a ≡ None → HasRun code xs a → a.outcome ≡ None → TurnIsStaged false (code_of code a.number) (configuration_of a)
stands_staged code xs a known f ran e =
    known a.steps xs (configuration_of a) (subst (λ q. HasCome (code_of code a.number) xs a None q) f (subst (λ o. HasCome (code_of code a.number) xs a o (unanswered a)) e ran)) refl

-- what was printed stays so
prints_as : (out : List ℕ) (a b : PlainActor) → b.printed ≡ a.printed → Prints out (state_of a) → Prints out (state_of b)
prints_as out a b e h = (h.0, e ∙ h.1)

-- an ask that has no reply has none after more turns
waits_on : (code : ThreadCode) (before : List Entry) (a b : PlainActor) → b.steps ≡ a.steps + 1 → (w : AskedOn code before a) → Prints w.waiting.printed (state_of b) → AskedOn code before b
waits_on code before a b n w p = let e : b.steps ≡ suc a.steps = omega (arith, n) in record {
  waiting = w.waiting;
  asking = ap (λ m. run code m (opening code (map exchange_of before))) e ∙ still code a.steps (opening code (map exchange_of before)) w.waiting w.asking;
  consumed = w.consumed;
  printed = p;
}

step_asked : (code : PlainCode) (before : List Entry) (a b : PlainActor) (r : Turn) → Answers code a r b → AskedOn (code_of code a.number) before a → AskedOn (code_of code a.number) before b
step_asked code before a b turned.Went t w =
    waits_on (code_of code a.number) before a b t.1.counted w
    (subst (λ (o : Turned Configuration). HasPrinted w.waiting.printed o) t.0 (turn_prints w.waiting.printed (code_of code a.number) (configuration_of a) w.printed))
step_asked code before a b (turned.Asks q) t w =
    waits_on (code_of code a.number) before a b t.1.counted w
    (subst (λ (o : Turned Configuration). HasPrinted w.waiting.printed o) t.0.asks (turn_prints w.waiting.printed (code_of code a.number) (configuration_of a) w.printed))
step_asked code before a b (turned.Ended outcome.Done) t w =
    waits_on (code_of code a.number) before a b t.1.counted w
    (subst (λ (o : Turned Configuration). HasPrinted w.waiting.printed o) t.0 (turn_prints w.waiting.printed (code_of code a.number) (configuration_of a) w.printed))
step_asked code before a b (turned.Ended (outcome.Failed f)) t w =
    waits_on (code_of code a.number) before a b t.1.counted w
    (subst (λ (o : Turned Configuration). HasPrinted w.waiting.printed o) t.0 (turn_prints w.waiting.printed (code_of code a.number) (configuration_of a) w.printed))
step_asked code before a b (turned.Ended outcome.StepsSpent) t w = absurd t
step_asked code before a b (turned.Ended outcome.JournalFull) t w = absurd t
step_asked code before a b (turned.Ended outcome.Memory) t w =
    waits_on (code_of code a.number) before a b t.1.counted w (prints_as w.waiting.printed a b (sym (ap (λ (s : ActorState). s.printed) t.0)) w.printed)

move_asked : (code : PlainCode) (before : List Entry) (a b : PlainActor) (r : Turn) (may : Bool) → Moves code a may r b → AskedOn (code_of code a.number) before a → AskedOn (code_of code a.number) before b
move_asked code before a b r true t w = step_asked code before a b r t w
move_asked code before a b r false t w = subst (λ (x : PlainActor). AskedOn (code_of code a.number) before x) (sym t.1) (record { waiting = w.waiting; asking = w.asking; consumed = w.consumed; printed = w.printed })

pub turn_asked : (code : PlainCode) (before : List Entry) (a b : PlainActor) (r : Turn) (o : Option Outcome) → TurnsFrom code a o r b → AskedOn (code_of code a.number) before a → AskedOn (code_of code a.number) before b
turn_asked code before a b r None t w = move_asked code before a b r (nat_lt a.steps a.limit) t w
turn_asked code before a b r (Some o) t w = subst (λ (x : PlainActor). AskedOn (code_of code a.number) before x) (sym t.1) w

-- a turn keeps what an actor has done over the books
turn_over : ActorsRun → (code : PlainCode) (k : ℕ) (books : ℕ → List Event) (tr : List Place) (a b : PlainActor) (r : Turn) → unanswered a ≡ None → Turns code a r b → RunLawfully code k books tr a → RunLawfully code k books tr b
turn_over laws code k books tr a b r f t w =
    let h = w.over in
    let known : StagedCode (code_of code k) = standing_staged false (code_of code k) w.stands in
    let staged = stands_staged code (map exchange_of h.entries) a (subst (λ n. StagedCode (code_of code n)) (sym h.number) known) f h.ran in
    let kept = turn_keeps code a b r h.stage a.outcome staged refl f t (as_known a h.stage a.outcome None refl f h.here) in
    record {
      over = record {
        number = kept.0 ∙ h.number;
        entries = h.entries;
        stage = h.stage;
        ran = laws.turns code (map exchange_of h.entries) a b r f h.ran t;
        told = h.told;
        here = kept.1;
        asked = λ before e rest s. subst (λ n. AskedOn (code_of code n) before b) h.number
            (turn_asked code before a b r a.outcome t (subst (λ n. AskedOn (code_of code n) before a) (sym h.number) (h.asked before e rest s)));
        full = turn_full code.cells (code_of code k) books (map exchange_of h.entries) code a b r a.outcome refl t h.full;
      };
      traced = w.traced;
      thread = w.thread;
      stands = w.stands;
      stood = turn_stood code k books (map exchange_of h.entries) h.stage a b r a.outcome h.number (λ e. subst (λ n. TurnIsStaged false (code_of code n) (configuration_of a)) h.number (staged e)) refl f
          (subst (λ n. HasCome (code_of code n) (map exchange_of h.entries) a a.outcome None) h.number (subst (λ q. HasCome (code_of code a.number) (map exchange_of h.entries) a a.outcome q) f h.ran))
          (as_known a h.stage a.outcome None refl f h.here) (stood_known code k books (map exchange_of h.entries) h.stage a a.outcome None refl f w.stood) t;
      lawful = w.lawful;
    }

-- so do many turns
pub turns_over : ActorsRun → (code : PlainCode) (k : ℕ) (books : ℕ → List Event) (tr : List Place) (n : ℕ) (a b : PlainActor) (r : Turn) → unanswered a ≡ None → TurnsOf code n a r b → RunLawfully code k books tr a → RunLawfully code k books tr b
turns_over laws code k books tr zero a b r f t h = subst (λ x. RunLawfully code k books tr x) (sym t.1) h
turns_over laws code k books tr (suc n) a b r f t h = after_turn (λ i g x. turns_over laws code k books tr n t.1 b r i g x) t.0 t.2 t.3
  where
    after_turn : (unanswered t.1 ≡ None → TurnsOf code n t.1 r b → RunLawfully code k books tr t.1 → RunLawfully code k books tr b)
        → (s : Turn) → Turns code a s t.1 → GoesOnAfter s (TurnsOf code n t.1 r b) ((r ≡ s) × (b ≡ t.1)) → RunLawfully code k books tr b
    after_turn go turned.Went u g = go (turn_says code a t.1 turned.Went a.outcome refl u) g (turn_over laws code k books tr a t.1 turned.Went f u h)
    after_turn go (turned.Asks q) u g = subst (λ x. RunLawfully code k books tr x) (sym g.1) (turn_over laws code k books tr a t.1 (turned.Asks q) f u h)
    after_turn go (turned.Ended o) u g = subst (λ x. RunLawfully code k books tr x) (sym g.1) (turn_over laws code k books tr a t.1 (turned.Ended o) f u h)

-- ---- the beginning

abbrev is_nil : {A : Type 0} → List A → Type 0
is_nil [] = Unit {0}
is_nil (x ∷ xs) = ⊥

pub no_entry : (before : List Entry) (e : Entry) (rest : List Entry) → [] ≡ before ++ e ∷ rest → ⊥
no_entry [] e rest h = subst is_nil h tt
no_entry (b ∷ bs) e rest h = subst is_nil h tt

pub new_over : ActorsRun → (code : PlainCode) (k limit : ℕ) (tr : List Place) (a : PlainActor) → tr ≡ [] → k < length code.threads → StandingCode (code_of code k) → IsNew code k limit a → RunLawfully code k (λ n. []) tr a
new_over laws code k limit tr a e there stands n = record {
  over = record {
    number = n.number;
    entries = [];
    stage = Idle;
    ran = laws.begins code k limit a n;
    told = record { hold = tt; staged = refl; traced = λ i. refl };
    here = as_is a Idle None None n.unended n.unasking (ap (stage_of false) n.opens);
    asked = λ before e rest s. absurd (no_entry before e rest s);
    full = λ x. absurd (subst Unfilled x (subst Unfilled (sym n.unended) tt));
  };
  traced = ap places_of e;
  thread = there;
  stands = stands;
  stood = stood_as code k (λ n. []) [] Idle a None None n.unended n.unasking (idle_view code.cells (code_of code k) k (λ n. []) (configuration_of a) (ap (stage_of false) n.opens));
  lawful = record { replies = tt; values = λ opened n. tt; places = tt };
}

-- ---- answers

pub in_after : (b : PlainActor) (st : Stage) (o : Option Outcome) → IsStaged false st (standing o (configuration_of b) (state_of b)) → IsIn b st o None
in_after b st None h = h.1
in_after b st (Some o) h = tt

-- an answer after which the actor isn't stopped is no full book
pub unfilled_of : (o : Option Outcome) → Unstopped o → Unfilled o
unfilled_of None u = tt
unfilled_of (Some outcome.Done) u = tt
unfilled_of (Some (outcome.Failed f)) u = tt
unfilled_of (Some outcome.StepsSpent) u = tt
unfilled_of (Some outcome.JournalFull) u = u
unfilled_of (Some outcome.Memory) u = tt

-- ---- books that grow

pub append_length : {A : Type 0} (xs ys : List A) → length (xs ++ ys) ≡ length xs + length ys
append_length [] ys = omega arith
append_length (x ∷ xs) ys = let h = append_length xs ys in omega (arith, h)

pub longer : (k : ℕ) (books later : ℕ → List Event) → Grown k books later → (n : ℕ) → length (books n) ≤ length (later n)
longer k books later g n = let e = ap length (g.grown n) ∙ append_length (books n) (g.more n) in omega (arith, e)

-- all values of the books name defined cells alone
abbrev pub ValuesKnown : PlainCode → (ℕ → List Event) → Type 0
ValuesKnown code books = (opened : OpeningIsKnown code.cells) (n : ℕ) → BookKnown code.cells opened (books n)

-- what another actor adds leaves what an actor has done, and that its asks are lawful
pub over_others : (code : PlainCode) (k j : ℕ) (books later : ℕ → List Event) (tr : List Place) (a : PlainActor) → (k ≡ j → ⊥) → Grown k books later → ValuesKnown code later → RunLawfully code j books tr a → RunLawfully code j later tr a
over_others code k j books later tr a n g v w =
    let h = w.over in
    record {
      over = record {
        number = h.number;
        entries = h.entries;
        stage = h.stage;
        ran = h.ran;
        told = told_stays code.cells (length code.threads) k j books later g n false h.entries h.stage h.told;
        here = h.here;
        asked = h.asked;
        full = λ x. (let m = h.full x in let l = longer k books later g (book_for code.cells m.ask) in record { ask = m.ask; asked = m.asked; full = omega (arith, m.full, l) });
      };
      traced = w.traced ∙ sym (trace_stays code.cells (length code.threads) k j books later g h.entries h.told.hold);
      thread = w.thread;
      stands = w.stands;
      stood = others_stood code.cells (code_of code j) k j books later (map exchange_of h.entries) a h.stage a.outcome (unanswered a) n g w.stood;
      lawful = others_lawfully code.cells k j books later h.entries h.stage n g v w.lawful;
    }

-- so do books that are as they were
pub over_same : (code : PlainCode) (k : ℕ) (books later : ℕ → List Event) (tr : List Place) (a : PlainActor) → ((n : ℕ) → later n ≡ books n) → RunLawfully code k books tr a → RunLawfully code k later tr a
over_same code k books later tr a same w =
    over_others code (suc k) k books later tr a (λ e. absurd (omega (arith, e))) (record { more = λ n. []; grown = λ n. same n ∙ sym (append_nil (books n)); own = λ n. tt })
    (λ opened n. subst (BookKnown code.cells opened) (sym (same n)) (w.lawful.values opened n)) w

pub not_grown : (k : ℕ) (books : ℕ → List Event) → Grown k books books
not_grown k books = nothing_grown k books

-- ---- what is served

pub map_append : (xs : List Entry) (e : Entry) → map exchange_of (xs ++ e ∷ []) ≡ map exchange_of xs ++ exchange_of e ∷ []
map_append [] e = refl
map_append (x ∷ xs) e = ap (λ l. exchange_of x ∷ l) (map_append xs e)

-- an answer prints nothing, and makes no step
pub answer_asked : (code : ThreadCode) (before : List Entry) (a : PlainActor) (r : Reply) → Leaves a (answered a r) → AskedOn code before a → AskedOn code before (answered a r)
answer_asked code before a r same w = record {
  waiting = w.waiting;
  asking = ap (λ m. run code m (opening code (map exchange_of before))) same.steps ∙ w.asking;
  consumed = w.consumed;
  printed = prints_as w.waiting.printed a (answered a r) same.printed w.printed;
}

-- on the entries so far the code waits with the actor's ask
own_asked : (code : ThreadCode) (es : List Entry) (a : PlainActor) (q : Ask) (r : Reply) → Leaves a (answered a r) → HasAsked code (map exchange_of es) a q → AskedOn code es (answered a r)
own_asked code es a q r same h = record {
  waiting = record (state_of a) { wants = Some q };
  asking = ap (λ m. run code m (opening code (map exchange_of es))) (same.steps ∙ h.2) ∙ run_more code h.0 (opening code (map exchange_of es)) ∙ ap (λ o. and_then o (turn code)) h.3 ∙ h.4.asks;
  consumed = refl;
  printed = ([], same.printed ∙ sym (append_nil a.printed));
}

-- so it is on the entries before each, with one more
pub more_asked : (code : ThreadCode) (es : List Entry) (y : Entry) (a : PlainActor) (q : Ask) (r : Reply) → Leaves a (answered a r) → HasAsked code (map exchange_of es) a q
    → ((before : List Entry) (e : Entry) (rest : List Entry) → es ≡ before ++ e ∷ rest → AskedOn code before a)
    → (before : List Entry) (e : Entry) (rest : List Entry) → es ++ y ∷ [] ≡ before ++ e ∷ rest → AskedOn code before (answered a r)
more_asked code es y a q r same h asked before e rest s = go (apart es y before e rest s)
  where
    go : (before ≡ es) ⊎ ((less : List Entry) × (es ≡ before ++ e ∷ less)) → AskedOn code before (answered a r)
    go (inl i) = subst (λ l. AskedOn code l (answered a r)) (sym i) (own_asked code es a q r same h)
    go (inr i) = answer_asked code before a r same (asked before e i.0 i.1)

module _ (code : PlainCode) (k : ℕ) (books : ℕ → List Event) (taken : List Bool) (q : Ask) (lawful : may_ask code.cells (length code.threads) taken k q (books (book_for code.cells q)) ≡ true) where
  -- the book for the ask
  abbrev pub home : List Event
  home = books (book_for code.cells q)

  abbrev pub v : Served
  v = serve_on code.cells k q home

  -- the books after it was served
  abbrev pub later : ℕ → List Event
  later = with_book (book_for code.cells q) v.book books

  abbrev known : Serves k home v
  known = serves k home code.cells q

  -- what was served adds events of the actor alone
  pub served_grows : Grown k books later
  served_grows = growing.own_grown code.cells (length code.threads) k books q taken lawful v refl known

  -- where nothing is added, the books are as before
  pub left_as : v.book ≡ home → (n : ℕ) → later n ≡ books n
  left_as e n = go (n == book_for code.cells q) refl
    where
      go : (b : Bool) → (n == book_for code.cells q) ≡ b → (if b then v.book else books n) ≡ books n
      go true h = e ∙ ap books (sym (numbers n (book_for code.cells q) h))
      go false h = refl

  -- a full book stays as it is
  pub full_keeps : IsFull v.reply → v.book ≡ home
  full_keeps f = known.grown ∙ ap (λ l. home ++ l) (known.stays (λ ex. never v.reply ex f)) ∙ append_nil home
    where
      never : (r : Reply) → IsExchanged r → IsFull r → ⊥
      never (reply.At p) ex f = f
      never (reply.Is w) ex f = f
      never (reply.Views p vs) ex f = f
      never reply.Done ex f = f
      never (reply.Retry c) ex f = f
      never (reply.Changed c) ex f = f
      never (reply.AgentIsFailed g) ex f = f
      never (reply.Action n x w) ex f = f
      never (reply.Opened p w) ex f = f
      never reply.Idle ex f = f
      never reply.Full ex f = ex
      never reply.Memory ex f = f

  -- the place of the event that was added, if one was
  abbrev pub added : List told_by.Place
  added = if nat_lt (length home) (length v.book) then record { book = book_for code.cells q; at = length home } ∷ [] else []

  -- an entry behind the others adds its place behind theirs
  pub trace_grows : (es : List Entry) → AllHold code.cells (length code.threads) books k es → trace_of code.cells later k (es ++ entry q v.reply (length home) ∷ []) ≡ trace_of code.cells books k es ++ added
  trace_grows es h =
      appended es ∙ ap (λ ps. ps ++ adding code.cells later k own []) (trace_stays code.cells (length code.threads) k k books later served_grows es h)
      ∙ ap (λ (x : Served). trace_of code.cells books k es ++ (if nat_lt (length home) (length x.book) then record { book = book_for code.cells q; at = length home } ∷ [] else [])) served_own
    where
      own : Entry
      own = entry q v.reply (length home)

      taken_back : {A : Type 0} (xs ys : List A) → take (length xs) (xs ++ ys) ≡ xs
      taken_back [] [] = refl
      taken_back [] (y ∷ ys) = refl
      taken_back (x ∷ xs) ys = ap (λ l. x ∷ l) (taken_back xs ys)

      home_later : later (book_for code.cells q) ≡ v.book
      home_later = ap (λ b. if b then v.book else home) (number-itself (book_for code.cells q))

      served_own : served_at code.cells later k (entry q v.reply (length home)) ≡ v
      served_own = ap (serve_on code.cells k q) (ap (take (length home)) (home_later ∙ known.grown) ∙ taken_back home known.more)

      appended : (xs : List Entry) → trace_of code.cells later k (xs ++ entry q v.reply (length home) ∷ []) ≡ trace_of code.cells later k xs ++ adding code.cells later k (entry q v.reply (length home)) []
      appended [] = refl
      appended (x ∷ xs) = ap (adding code.cells later k x) (appended xs) ∙ over (nat_lt x.at (length (served_at code.cells later k x).book))
        where
          over : (b : Bool) → (if b then record { book = book_for code.cells x.ask; at = x.at } ∷ (trace_of code.cells later k xs ++ adding code.cells later k (entry q v.reply (length home)) []) else trace_of code.cells later k xs ++ adding code.cells later k (entry q v.reply (length home)) [])
              ≡ (if b then record { book = book_for code.cells x.ask; at = x.at } ∷ trace_of code.cells later k xs else trace_of code.cells later k xs) ++ adding code.cells later k (entry q v.reply (length home)) []
          over true = refl
          over false = refl

-- places that were noted, as the laws of runs speak of them
pub places_append : (ps qs : List Place) → places_of (ps ++ qs) ≡ places_of ps ++ places_of qs
places_append [] qs = refl
places_append (p ∷ ps) qs = ap (λ l. record { book = p.book; at = p.at } ∷ l) (places_append ps qs)

place_is : (book at : ℕ) (p : Place) → p.book ≡ book → p.at ≡ at → places_of (p ∷ []) ≡ record { book = book; at = at } ∷ []
place_is book at p e f = rw (e, f) refl

pub noted_places : (b : Bool) (ps : List Place) (p : Place) (book at : ℕ) → p.book ≡ book → p.at ≡ at → places_of (with_place b ps p) ≡ places_of ps ++ (if b then record { book = book; at = at } ∷ [] else [])
noted_places true ps p book at e f = places_append ps (p ∷ []) ∙ ap (λ l. places_of ps ++ l) (place_is book at p e f)
noted_places false ps p book at e f = sym (append_nil (places_of ps))

-- an actor that was stopped for a full book asked this with its last step
pub asked_last : ActorsRun → (code : PlainCode) (xs : List Exchange) (a : PlainActor) (q : Ask) → a.outcome ≡ None → unanswered a ≡ Some q → MayAnswer q reply.Full → HasRun code xs a → AsksLast (code_of code a.number) xs (answered a reply.Full) q
asked_last laws code xs a q e f may ran =
    let b = answered a reply.Full in
    let c = code_of code a.number in
    let leaves = answer_leaves a q reply.Full f may (λ i. cc) in
    let asked : HasAsked c xs a q = subst (λ o. HasCome c xs a o (Some q)) e (subst (λ y. HasCome c xs a a.outcome y) f ran) in
    let ends : HasEndedSo c xs b outcome.JournalFull =
    subst (λ i. HasEndedSo (code_of code i) xs b outcome.JournalFull) leaves.number
    (subst (λ o. HasCome (code_of code b.number) xs b o (unanswered b)) (full_stops a q f) (laws.stops code xs a q reply.Full e f may tt ran))
    in
    let last = ends.2 in
    let began = last.1 in
    let count : asked.0 ≡ began.others = omega (arith, asked.2, leaves.steps, began.counted) in
    let place : asked.1 ≡ last.0 = ap (place_or asked.1) (sym asked.3 ∙ ap (λ m. run c m (opening c xs)) count ∙ began.came) in
    let same : Some q ≡ Some ends.0 = ap wanted (sym asked.4.asks ∙ ap (turn c) place ∙ last.3) in
    subst (AsksLast c xs b) (sym (ap (ask_in q) same)) last
  where
    place_or : Configuration → Turned Configuration → Configuration
    place_or c (Unfinished d) = d
    place_or c (Ended s) = c
    place_or c (Failed f s) = c
    place_or c (Asking s) = c
    place_or c Stuck = c

    wanted : Turned Configuration → Option Ask
    wanted (Asking s) = s.wants
    wanted (Unfinished d) = None
    wanted (Ended s) = None
    wanted (Failed f s) = None
    wanted Stuck = None

-- an ask that may be answered so may add an event
pub adds_event : (q : Ask) → MayAnswer q reply.Full → may_add_event q ≡ true
adds_event ask.Begin may = absurd may
adds_event (ask.Look c p) may = refl
adds_event (ask.View cs) may = absurd may
adds_event (ask.Commit p ws es q cs xs) may = refl
adds_event (ask.Fail p q) may = refl
adds_event (ask.Peek c) may = refl
adds_event (ask.Send x) may = refl
adds_event (ask.Take g) may = absurd may
adds_event (ask.Finish g new sends) may = refl
adds_event (ask.OpenAt c) may = absurd may
adds_event (ask.CloseAt c p v) may = refl
adds_event (ask.Broke c p) may = refl

-- the ask at which an actor was stopped for a full book
pub full_at : ActorsRun → (code : PlainCode) (k : ℕ) (books : ℕ → List Event) (xs : List Exchange) (a : PlainActor) (q : Ask) → a.number ≡ k → a.outcome ≡ None → unanswered a ≡ Some q → MayAnswer q reply.Full → most_events ≤ length (books (book_for code.cells q))
    → HasRun code xs a → AtFullBook code.cells (code_of code k) books xs (answered a reply.Full)
full_at laws code k books xs a q n e f may full ran =
    record { ask = q; asked = subst (λ i. AsksLast (code_of code i) xs (answered a reply.Full) q) n (asked_last laws code xs a q e f may ran); full = full }

-- an answer that the actor goes on after
heard_over : ActorsRun → ServedIsTold → (code : PlainCode) (k : ℕ) (books : ℕ → List Event) (taken : List Bool) (tr new : List Place) (a : PlainActor) (q : Ask) (r : Reply)
    → NamesOwnCells code → (lawful : may_ask code.cells (length code.threads) taken k q (books (book_for code.cells q)) ≡ true)
    → a.outcome ≡ None → unanswered a ≡ Some q → unanswered (answered a r) ≡ None → MayAnswer q r → (Stops r → ⊥) → IsExchanged r → r ≡ (v code k books taken q lawful).reply → places_of new ≡ places_of tr ++ added code k books taken q lawful
    → RunLawfully code k books tr a → RunLawfully code k (later code k books taken q lawful) new (answered a r)
heard_over laws law code k books taken tr new a q r mine lawful e f free may on x same placed w =
    let h = w.over in
    let at = length (books (book_for code.cells q)) in
    let more = later code k books taken q lawful in
    let known = as_known a h.stage None (Some q) e f h.here in
    let stood = stood_known code k books (map exchange_of h.entries) h.stage a None (Some q) e f w.stood in
    let unless : r ≡ reply.Idle → ⊥ = λ i. subst IsExchanged i x in
    let leaves = answer_leaves a q r f may unless in
    let below = is_below k (length code.threads) w.thread in
    let xs = map exchange_of (h.entries ++ entry q r at ∷ []) in
    let next = stage_after h.stage q r in
    record {
      over = record {
        number = leaves.number ∙ h.number;
        entries = h.entries ++ entry q r at ∷ [];
        stage = stage_after h.stage q r;
        ran = subst (λ ys. HasRun code ys (answered a r)) (sym (map_append h.entries (entry q r at))) (laws.answers code (map exchange_of h.entries) a q r e f may on unless h.ran);
        told = subst (λ y. ToldBy code.cells (length code.threads) more false k (h.entries ++ entry q y at ∷ []) (stage_after h.stage q y)) (sym same)
            (law code.cells (length code.threads) books taken false k q h.entries h.stage lawful known.0 h.told (subst IsExchanged same x));
        here = as_is (answered a r) (stage_after h.stage q r) (answered a r).outcome None refl free (in_after (answered a r) (stage_after h.stage q r) (answered a r).outcome (known.1 r may on));
        asked = more_asked (code_of code k) h.entries (entry q r at) a q r leaves
            (subst (λ n. HasAsked (code_of code n) (map exchange_of h.entries) a q) h.number
            (subst (λ o. HasCome (code_of code a.number) (map exchange_of h.entries) a o (Some q)) e (subst (λ y. HasCome (code_of code a.number) (map exchange_of h.entries) a a.outcome y) f h.ran))) h.asked;
        full = λ y. absurd (subst Unfilled y (unfilled_of (answered a r).outcome (unstopped_if a e a.pending r on)));
      };
      traced = placed ∙ ap (λ ps. ps ++ added code k books taken q lawful) w.traced ∙ sym (trace_grows code k books taken q lawful h.entries h.told.hold)
          ∙ ap (λ y. trace_of code.cells more k (h.entries ++ entry q y at ∷ [])) (sym same);
      thread = w.thread;
      stands = w.stands;
      stood = stood_as code k more xs next (answered a r) (answered a r).outcome None refl free
          (heard_stood code.cells (length code.threads) (code_of code k) k books h.entries h.stage a q (openings_known code mine) (code_known code k mine) w.stands below h.told stood w.lawful more r (λ i. refl) same xs next may on x);
      lawful =
          heard_lawfully code.cells (length code.threads) (code_of code k) k books h.entries h.stage a q (openings_known code mine) (code_known code k mine) w.stands below h.told stood w.lawful more r (λ i. refl) same at known.0;
    }

-- an answer that stops the actor, and leaves the books as they were
stopped_over : ActorsRun → (code : PlainCode) (k : ℕ) (books : ℕ → List Event) (tr : List Place) (a : PlainActor) (q : Ask) (r : Reply)
    → a.outcome ≡ None → unanswered a ≡ Some q → MayAnswer q r → Stops r
    → ((xs : List Exchange) → HasRun code xs a → (answered a r).outcome ≡ Some outcome.JournalFull → AtFullBook code.cells (code_of code k) books xs (answered a r)) → RunLawfully code k books tr a → RunLawfully code k books tr (answered a r)
stopped_over laws code k books tr a q r e f may stop filled w =
    let h = w.over in
    let ends = stop_ends a q r f stop in
    let leaves = answer_leaves a q r f may (λ i. subst Stops i stop) in
    record {
      over = record {
        number = leaves.number ∙ h.number;
        entries = h.entries;
        stage = h.stage;
        ran = laws.stops code (map exchange_of h.entries) a q r e f may stop h.ran;
        told = h.told;
        here = as_is (answered a r) h.stage (Some ends.0) (unanswered (answered a r)) ends.1 refl tt;
        asked = λ before e rest s. answer_asked (code_of code k) before a r leaves (h.asked before e rest s);
        full = filled (map exchange_of h.entries) h.ran;
      };
      traced = w.traced;
      thread = w.thread;
      stands = w.stands;
      stood = stood_as code k books (map exchange_of h.entries) h.stage (answered a r) (Some ends.0) (unanswered (answered a r)) ends.1 refl tt;
      lawful = w.lawful;
    }

-- want of memory fills no book
memory_over : ActorsRun → (code : PlainCode) (k : ℕ) (books : ℕ → List Event) (tr : List Place) (a : PlainActor) (q : Ask) → a.outcome ≡ None → unanswered a ≡ Some q → MayAnswer q reply.Memory → RunLawfully code k books tr a → RunLawfully code k books tr (answered a reply.Memory)
memory_over laws code k books tr a q e f may w = stopped_over laws code k books tr a q reply.Memory e f may tt (λ xs ran x. absurd (subst Unfilled x (subst Unfilled (sym (memory_stops a q f)) tt))) w

-- a thread's ask isn't answered as an agent's that has nothing to do
pub idle_never : (st : Stage) (q : Ask) → AsksIn false st q → MayAnswer q reply.Idle → ⊥
idle_never stages.Resting (ask.Take g) ok may = false≢true ok
idle_never stages.Idle (ask.Take g) ok may = ok
idle_never (stages.Open at) (ask.Take g) ok may = ok
idle_never (stages.Viewing at view) (ask.Take g) ok may = ok
idle_never (stages.Swapping c at) (ask.Take g) ok may = ok
idle_never st ask.Begin ok may = may
idle_never st (ask.Look c p) ok may = may
idle_never st (ask.View cs) ok may = may
idle_never st (ask.Commit p ws es q cs xs) ok may = may
idle_never st (ask.Fail p q) ok may = may
idle_never st (ask.Peek c) ok may = may
idle_never st (ask.Send x) ok may = may
idle_never st (ask.Finish g new sends) ok may = may
idle_never st (ask.OpenAt c) ok may = may
idle_never st (ask.CloseAt c p v) ok may = may
idle_never st (ask.Broke c p) ok may = may

-- nor is it handed an action
pub action_never : (st : Stage) (q : Ask) (n : ℕ) (x : Action) (v : Value) → AsksIn false st q → MayAnswer q (reply.Action n x v) → ⊥
action_never stages.Resting (ask.Take g) n x v ok may = false≢true ok
action_never stages.Idle (ask.Take g) n x v ok may = ok
action_never (stages.Open at) (ask.Take g) n x v ok may = ok
action_never (stages.Viewing at view) (ask.Take g) n x v ok may = ok
action_never (stages.Swapping c at) (ask.Take g) n x v ok may = ok
action_never st ask.Begin n x v ok may = may
action_never st (ask.Look c p) n x v ok may = may
action_never st (ask.View cs) n x v ok may = may
action_never st (ask.Commit p ws es q cs xs) n x v ok may = may
action_never st (ask.Fail p q) n x v ok may = may
action_never st (ask.Peek c) n x v ok may = may
action_never st (ask.Send y) n x v ok may = may
action_never st (ask.Finish g new sends) n x v ok may = may
action_never st (ask.OpenAt c) n x v ok may = may
action_never st (ask.CloseAt c p w) n x v ok may = may
action_never st (ask.Broke c p) n x v ok may = may

-- what a thread is answered is no want of an action, and hands out none
pub never_idle : (code : PlainCode) (k : ℕ) (books : ℕ → List Event) (tr : List Place) (a : PlainActor) (q : Ask) (r : Reply) → a.outcome ≡ None → unanswered a ≡ Some q → RunLawfully code k books tr a → MayAnswer q r → r ≡ reply.Idle → ⊥
never_idle code k books tr a q r e f w may i = idle_never w.over.stage q (as_known a w.over.stage None (Some q) e f w.over.here).0 (subst (λ (x : Reply). MayAnswer q x) i may)

pub hands_none : (code : PlainCode) (k : ℕ) (books : ℕ → List Event) (tr : List Place) (a : PlainActor) (q : Ask) (r : Reply) → a.outcome ≡ None → unanswered a ≡ Some q → RunLawfully code k books tr a → MayAnswer q r → HandsOut code r
hands_none code k books tr a q (reply.Action n x v) e f w may = absurd (action_never w.over.stage q n x v (as_known a w.over.stage None (Some q) e f w.over.here).0 may)
hands_none code k books tr a q (reply.At p) e f w may = tt
hands_none code k books tr a q (reply.Is v) e f w may = tt
hands_none code k books tr a q (reply.Views p vs) e f w may = tt
hands_none code k books tr a q reply.Done e f w may = tt
hands_none code k books tr a q (reply.Retry d) e f w may = tt
hands_none code k books tr a q (reply.Changed d) e f w may = tt
hands_none code k books tr a q (reply.AgentIsFailed g) e f w may = tt
hands_none code k books tr a q reply.Idle e f w may = tt
hands_none code k books tr a q (reply.Opened p v) e f w may = tt
hands_none code k books tr a q reply.Full e f w may = tt
hands_none code k books tr a q reply.Memory e f w may = tt

-- the state of the code's cells with these books
abbrev pub state_with : PlainCode → List (List Event) → List Bool → PlainShared
state_with code bs taken = record { cells = code.cells; threads = length code.threads; books = bs; taken = taken }

-- what an answer leaves: the state of the same cells, the actor with what it has done, and its own events alone behind those before
pub record Leads (code : PlainCode) (k : ℕ) (s t : PlainShared) (tr : List Place) (a : PlainActor) : Type 0 where
  pub of : IsStateOf code t
  pub over : RunLawfully code k (books_of t) tr a
  pub grown : Grown k (books_of s) (books_of t)

module _ (laws : ActorsRun) (law : ServedIsTold) (code : PlainCode) (k : ℕ) (bs : List (List Event)) (taken : List Bool) (t : PlainShared) (a : PlainActor) (q : Ask) (tr new : List Place) (mine : NamesOwnCells code)
    (lawful : may_ask code.cells (length code.threads) taken k q (get_or bs (book_for code.cells q) []) ≡ true) (e : a.outcome ≡ None) (f : unanswered a ≡ Some q) (h : RunLawfully code k (λ n. get_or bs n []) tr a) where
  abbrev before : PlainShared
  before = state_with code bs taken

  abbrev books : ℕ → List Event
  books n = get_or bs n []

  abbrev answer : Served
  answer = serve_on code.cells k q (get_or bs (book_for code.cells q) [])

  abbrev next : ℕ → List Event
  next = with_book (book_for code.cells q) answer.book books

  abbrev Left : Reply → Type 0
  Left r = Leads code k before t new (answered a r)

  -- the books after an answer that was given
  books_are : IsAfter before q answer t → books_of t ≡ next
  books_are g = ap (λ (sh : Shared). sh.books) g.shared

  state_is : IsAfter before q answer t → IsStateOf code t
  state_is g = record { cells = g.cells; threads = g.threads }

  grows : IsAfter before q answer t → Grown k books (books_of t)
  grows g = subst (λ b. Grown k books b) (sym (books_are g)) (served_grows code k books taken q lawful)

  noted_so : (g : IsAfter before q answer t) (p : Place) → IsNext before q p → new ≡ with_place (nat_lt (length (books (book_for code.cells q))) (length (books_of t (book_for code.cells q)))) tr p
      → places_of new ≡ places_of tr ++ added code k books taken q lawful
  noted_so g p n placed =
      ap places_of placed ∙ noted_places _ tr p (book_for code.cells q) (length (books (book_for code.cells q))) n.book n.at
      ∙ ap (λ (l : List Event). places_of tr ++ (if nat_lt (length (books (book_for code.cells q))) (length l) then record { book = book_for code.cells q; at = length (books (book_for code.cells q)) } ∷ [] else []))
      (ap (λ (b : ℕ → List Event). b (book_for code.cells q)) (books_are g) ∙ ap (λ b. if b then answer.book else books (book_for code.cells q)) (number-itself (book_for code.cells q)))

  -- nothing was added
  as_before : (g : IsAfter before q answer t) (p : Place) → answer.book ≡ books (book_for code.cells q) → new ≡ with_place (nat_lt (length (books (book_for code.cells q))) (length (books_of t (book_for code.cells q)))) tr p → new ≡ tr
  as_before g p same placed =
      placed ∙ ap (λ (l : List Event). with_place (nat_lt (length (books (book_for code.cells q))) (length l)) tr p)
      (ap (λ (b : ℕ → List Event). b (book_for code.cells q)) (books_are g) ∙ left_as code k books taken q lawful same (book_for code.cells q))
      ∙ ap (λ b. with_place b tr p) (not_less (length (books (book_for code.cells q))))
    where
      not_less : (n : ℕ) → nat_lt n n ≡ false
      not_less n = grind (arith, nat_tests)

  heard_leads : (r : Reply) → unanswered (answered a r) ≡ None → MayAnswer q r → (Stops r → ⊥) → IsExchanged r → r ≡ answer.reply → (g : IsAfter before q answer t) (p : Place) → IsNext before q p
      → new ≡ with_place (nat_lt (length (books (book_for code.cells q))) (length (books_of t (book_for code.cells q)))) tr p → Left r
  heard_leads r free may on ex same g p n placed = record {
    of = state_is g;
    over = subst (λ b. RunLawfully code k b new (answered a r)) (sym (books_are g)) (heard_over laws law code k books taken tr new a q r mine lawful e f free may on ex same (noted_so g p n placed) h);
    grown = grows g;
  }

  -- a full book
  filled : MayAnswer q reply.Full → reply.Full ≡ answer.reply → (g : IsAfter before q answer t) (p : Place) → new ≡ with_place (nat_lt (length (books (book_for code.cells q))) (length (books_of t (book_for code.cells q)))) tr p → Left reply.Full
  filled may same g p placed =
      let full : IsFull answer.reply = subst IsFull same tt in
      let kept = full_keeps code k books taken q lawful full in
      let past : most_events ≤ length (books (book_for code.cells q)) = (known code k books taken q lawful).full full in
      record {
        of = state_is g;
        over = subst (λ b. RunLawfully code k b new (answered a reply.Full)) (sym (books_are g))
            (over_same code k books next new (answered a reply.Full) (left_as code k books taken q lawful kept)
            (subst (λ l. RunLawfully code k books l (answered a reply.Full)) (sym (as_before g p kept placed))
            (stopped_over laws code k books tr a q reply.Full e f may tt (λ xs ran x. full_at laws code k books xs a q h.over.number e f may past ran) h)));
        grown = grows g;
      }

  -- nothing was done
  undone : MayAnswer q reply.Memory → t ≡ before → new ≡ tr → Left reply.Memory
  undone may same placed =
      subst (λ (s : PlainShared). Leads code k before s new (answered a reply.Memory)) (sym same)
      (subst (λ l. Leads code k before before l (answered a reply.Memory)) (sym placed)
      (record { of = record { cells = refl; threads = refl }; over = memory_over laws code k books tr a q e f may h; grown = not_grown k books }))

  -- the same place goes on where nothing was done
  unmoved : t ≡ before → (p : Place) → new ≡ with_place (nat_lt (length (books (book_for code.cells q))) (length (books_of t (book_for code.cells q)))) tr p → new ≡ tr
  unmoved same p placed =
      placed ∙ ap (λ (s : PlainShared). with_place (nat_lt (length (books (book_for code.cells q))) (length (books_of s (book_for code.cells q)))) tr p) same
      ∙ ap (λ b. with_place b tr p) (not_less (length (books (book_for code.cells q))))
    where
      not_less : (n : ℕ) → nat_lt n n ≡ false
      not_less n = grind (arith, nat_tests)

  noted_leads : (r : Reply) → unanswered (answered a r) ≡ None → MayAnswer q r → shared.Answers before q answer r t → (p : Place) → IsNext before q p
      → new ≡ with_place (nat_lt (length (books (book_for code.cells q))) (length (books_of t (book_for code.cells q)))) tr p → Left r
  noted_leads (reply.At i) free may g p n placed = heard_leads (reply.At i) free may (λ x. x) tt g.0 g.1 p n placed
  noted_leads (reply.Is x) free may g p n placed = heard_leads (reply.Is x) free may (λ x. x) tt g.0 g.1 p n placed
  noted_leads (reply.Views i vs) free may g p n placed = heard_leads (reply.Views i vs) free may (λ x. x) tt g.0 g.1 p n placed
  noted_leads reply.Done free may g p n placed = heard_leads reply.Done free may (λ x. x) tt g.0 g.1 p n placed
  noted_leads (reply.Retry d) free may g p n placed = heard_leads (reply.Retry d) free may (λ x. x) tt g.0 g.1 p n placed
  noted_leads (reply.Changed d) free may g p n placed = heard_leads (reply.Changed d) free may (λ x. x) tt g.0 g.1 p n placed
  noted_leads (reply.AgentIsFailed d) free may g p n placed = heard_leads (reply.AgentIsFailed d) free may (λ x. x) tt g.0 g.1 p n placed
  noted_leads (reply.Action i y x) free may g p n placed = heard_leads (reply.Action i y x) free may (λ x. x) tt g.0 g.1 p n placed
  noted_leads (reply.Opened i x) free may g p n placed = heard_leads (reply.Opened i x) free may (λ x. x) tt g.0 g.1 p n placed
  noted_leads reply.Idle free may g p n placed = absurd (idle_never h.over.stage q (as_known a h.over.stage None (Some q) e f h.over.here).0 may)
  noted_leads reply.Full free may g p n placed = filled may g.0 g.1 p placed
  noted_leads reply.Memory free may g p n placed = undone may g.1 (unmoved g.1 p placed)

  served_leads : (r : Reply) → unanswered (answered a r) ≡ None → MayAnswer q r → IsServed before k q r t tr new → Left r
  served_leads r free may (inl g) = noted_leads r free may g.answered g.next g.is_next g.noted
  served_leads r free may (inr u) = subst Left (sym u.replied) (undone (subst (MayAnswer q) u.replied may) u.state u.places)

-- a state of the code's
pub as_state : (code : PlainCode) (s : PlainShared) → IsStateOf code s → s ≡ state_with code s.books s.taken
as_state code s h = rw (h.cells, h.threads) refl

-- its books stand
pub state_stands : (code : PlainCode) (s : PlainShared) → IsStateOf code s → SharedStands s.cells s.threads (shared_of s) → SharedStands code.cells (length code.threads) (shared_of s)
state_stands code s h l = subst (λ (x : PlainShared). SharedStands x.cells x.threads (shared_of s)) (as_state code s h) l

pub served_over : ActorsRun → ServedIsTold → (code : PlainCode) (s t : PlainShared) (k : ℕ) (a : PlainActor) (q : Ask) (r : Reply) (tr new : List Place) → IsStateOf code s → NamesOwnCells code → is_lawful s k q ≡ true
    → a.outcome ≡ None → unanswered a ≡ Some q → unanswered (answered a r) ≡ None → MayAnswer q r → IsServed s k q r t tr new
    → RunLawfully code k (books_of s) tr a → Leads code k s t new (answered a r)
served_over laws law code s t k a q r tr new of mine lawful e f free may g h =
    subst (λ (x : PlainShared). Leads code k x t new (answered a r)) (sym (as_state code s of))
    (served_leads laws law code k s.books s.taken t a q tr new mine (subst (λ (x : PlainShared). is_lawful x k q ≡ true) (as_state code s of) lawful) e f h r free may
    (subst (λ (x : PlainShared). IsServed x k q r t tr new) (as_state code s of) g))

-- an actor of a thread asks nothing that it may not ask
pub asks_lawfully : (code : PlainCode) (s : PlainShared) (k : ℕ) (tr : List Place) (a : PlainActor) (q : Ask) → NamesOwnCells code → IsStateOf code s → a.outcome ≡ None → unanswered a ≡ Some q → RunLawfully code k (books_of s) tr a
    → is_lawful s k q ≡ true
asks_lawfully code s k tr a q mine of e f h =
    subst (λ (x : PlainShared). is_lawful x k q ≡ true) (sym (as_state code s of))
    (ask_lawful code.cells (length code.threads) (code_of code k) k (books_of s) h.over.entries h.over.stage a q (openings_known code mine) (code_known code k mine) h.stands (is_below k (length code.threads) h.thread) h.over.told
    (stood_known code k (books_of s) (map exchange_of h.over.entries) h.over.stage a None (Some q) e f h.stood) h.lawful s.taken)

-- ---- the replies are those that an ask may have

one_of : (q : Ask) (w : Served) (s t : PlainShared) (r : Reply) → MayAnswer q w.reply → (TakesMemoryFor q w.reply → MayAnswer q reply.Memory) → shared.Answers s q w r t → MayAnswer q r
one_of q w s t (reply.At p) h m g = subst (MayAnswer q) (sym g.0) h
one_of q w s t (reply.Is x) h m g = subst (MayAnswer q) (sym g.0) h
one_of q w s t (reply.Views p vs) h m g = subst (MayAnswer q) (sym g.0) h
one_of q w s t reply.Done h m g = subst (MayAnswer q) (sym g.0) h
one_of q w s t (reply.Retry d) h m g = subst (MayAnswer q) (sym g.0) h
one_of q w s t (reply.Changed d) h m g = subst (MayAnswer q) (sym g.0) h
one_of q w s t (reply.AgentIsFailed d) h m g = subst (MayAnswer q) (sym g.0) h
one_of q w s t (reply.Action i x y) h m g = subst (MayAnswer q) (sym g.0) h
one_of q w s t reply.Idle h m g = subst (MayAnswer q) (sym g.0) h
one_of q w s t (reply.Opened p x) h m g = subst (MayAnswer q) (sym g.0) h
one_of q w s t reply.Full h m g = subst (MayAnswer q) (sym g.0) h
one_of q w s t reply.Memory h m g = m g.0

added_may : (q : Ask) (a : ℕ) (kind : EventKind) (r : Reply) (book : List Event) (has : Bool) → MayAnswer q r → MayAnswer q reply.Full
    → MayAnswer q (if has then entry.served r (book ++ entry.event_of a kind ∷ []) else entry.served reply.Full book).reply
added_may q a kind r book true h f = h
added_may q a kind r book false h f = f

looked_may : (w : World) (a : ℕ) (c : CellId) (p : ℕ) (book : List Event) (b : Bool) → MayAnswer (ask.Look c p) (world.looks b w a c p book).reply
looked_may w a c p book true = added_may (ask.Look c p) a _ (reply.Retry c) book (nat_lt (length book) most_events) tt tt
looked_may w a c p book false = tt

committed_may : (a p q : ℕ) (sets commuted ws : Writes) (ensured : List CellId) (sends : List Action) (book : List Event) (o c g : Option CellId) → MayAnswer (ask.Commit p sets ensured q commuted sends) (world.commits o c g a p q ws sends book).reply
committed_may a p q sets commuted ws ensured sends book (Some d) c g = added_may (ask.Commit p sets ensured q commuted sends) a _ (reply.Retry d) book (nat_lt (length book) most_events) tt tt
committed_may a p q sets commuted ws ensured sends book None (Some d) g = added_may (ask.Commit p sets ensured q commuted sends) a _ (reply.Changed d) book (nat_lt (length book) most_events) tt tt
committed_may a p q sets commuted ws ensured sends book None None (Some g) = added_may (ask.Commit p sets ensured q commuted sends) a _ (reply.AgentIsFailed g) book (nat_lt (length book) most_events) tt tt
committed_may a p q sets commuted ws ensured sends book None None None = added_may (ask.Commit p sets ensured q commuted sends) a _ reply.Done book (nat_lt (length book) most_events) tt tt

sent_may : (a : ℕ) (x : Action) (book : List Event) (b : Bool) → MayAnswer (ask.Send x) (world.sends_to b a x book).reply
sent_may a x book true = added_may (ask.Send x) a _ (reply.AgentIsFailed x.agent) book (nat_lt (length book) most_events) tt tt
sent_may a x book false = added_may (ask.Send x) a _ reply.Done book (nat_lt (length book) most_events) tt tt

taken_may : (g : CellId) (n : ℕ) (x : Value) (o : Option Action) → MayAnswer (ask.Take g) (world.takes o n x)
taken_may g n x None = tt
taken_may g n x (Some y) = tt

peeked_may : (cells : List CellDefinition) (a : ℕ) (c : CellId) (book : List Event) (b : Bool)
    → MayAnswer (ask.Peek c) (if b then serve_atom (atom_of cells c book) a (ask.Peek c) else serve (cells_of cells) a (ask.Peek c) book).reply
peeked_may cells a c book true = added_may (ask.Peek c) a _ (reply.Is _) book (nat_lt (length book) most_events) tt tt
peeked_may cells a c book false = added_may (ask.Peek c) a _ (reply.Is _) book (nat_lt (length book) most_events) tt tt

closed_may : (a : ℕ) (c : CellId) (p : Option ℕ) (x : Value) (book : List Event) → MayAnswer (ask.CloseAt c p x) (closes p a c x book).reply
closed_may a c None x book = added_may (ask.CloseAt c None x) a _ reply.Done book (nat_lt (length book) most_events) tt tt
closed_may a c (Some p) x book = go (swapped_since p book)
  where
    go : (b : Bool) → MayAnswer (ask.CloseAt c (Some p) x) (closes_at b a c x book).reply
    go true = tt
    go false = added_may (ask.CloseAt c (Some p) x) a _ reply.Done book (nat_lt (length book) most_events) tt tt

finished_may : (a : ℕ) (g : CellId) (n : ℕ) (new : Result Value Fault) (sends : List Action) (span : Span) (book : List Event) (o : Option CellId) → MayAnswer (ask.Finish g new sends) (world.finishes o a g n new sends span book).reply
finished_may a g n new sends span book None = added_may (ask.Finish g new sends) a _ reply.Done book (nat_lt (length book) most_events) tt tt
finished_may a g n new sends span book (Some h) = added_may (ask.Finish g new sends) a _ (reply.AgentIsFailed h) book (nat_lt (length book) most_events) tt tt

length_map : {A B : Type 0} (f : A → B) (xs : List A) → length (map f xs) ≡ length xs
length_map f [] = refl
length_map f (x ∷ xs) = ap suc (length_map f xs)

-- what is answered to an ask
pub serve_may : (cells : List CellDefinition) (a : ℕ) (q : Ask) (book : List Event) → MayAnswer q (serve_on cells a q book).reply
serve_may cells a ask.Begin book = tt
serve_may cells a (ask.Look c p) book = looked_may _ a c p book (is_outdated c.number p book)
serve_may cells a (ask.View cs) book = length_map (λ c. world_book.newest (world_book.opening (cells_of cells)) book c.number) cs
serve_may cells a (ask.Commit p sets ensured q commuted sends) book =
    committed_may a p q sets commuted _ ensured sends book (least_written book p (cells_in sets ++ ensured)) (least_written book q (cells_in commuted)) (first_failed (cells_of cells) book sends)
serve_may cells a (ask.Fail p q) book = added_may (ask.Fail p q) a _ reply.Done book (nat_lt (length book) most_events) tt tt
serve_may cells a (ask.Peek c) book = peeked_may cells a c book (is_atom c)
serve_may cells a (ask.Send x) book = sent_may a x book (is_failed (cells_of cells) book x.agent)
serve_may cells a (ask.Take g) book = taken_may g _ _ (world.next_action (cells_of cells) book g)
serve_may cells a (ask.Finish g new sends) book = finished_may a g _ new sends _ book (first_failed (cells_of cells) book sends)
serve_may cells a (ask.OpenAt c) book = tt
serve_may cells a (ask.CloseAt c p x) book = closed_may a c p x book
serve_may cells a (ask.Broke c p) book = added_may (ask.Broke c p) a _ reply.Done book (nat_lt (length book) most_events) tt tt

-- want of memory is told of what takes some
pub memory_may : (q : Ask) (r : Reply) → MayAnswer q r → TakesMemoryFor q r → MayAnswer q reply.Memory
memory_may ask.Begin (reply.At p) m t = t
memory_may ask.Begin (reply.Is v) m t = absurd m
memory_may ask.Begin (reply.Views p vs) m t = absurd m
memory_may ask.Begin reply.Done m t = absurd m
memory_may ask.Begin (reply.Retry d) m t = absurd m
memory_may ask.Begin (reply.Changed d) m t = absurd m
memory_may ask.Begin (reply.AgentIsFailed g) m t = absurd m
memory_may ask.Begin (reply.Action i x v) m t = absurd m
memory_may ask.Begin reply.Idle m t = absurd m
memory_may ask.Begin (reply.Opened p v) m t = absurd m
memory_may ask.Begin reply.Full m t = absurd m
memory_may ask.Begin reply.Memory m t = absurd m
memory_may (ask.Look c p) r m t = tt
memory_may (ask.View cs) r m t = tt
memory_may (ask.Commit p ws es q cs xs) r m t = tt
memory_may (ask.Fail p q) r m t = tt
memory_may (ask.Peek c) r m t = tt
memory_may (ask.Send x) r m t = tt
memory_may (ask.Take g) r m t = tt
memory_may (ask.Finish g new sends) r m t = tt
memory_may (ask.OpenAt c) r m t = tt
memory_may (ask.CloseAt c p v) r m t = tt
memory_may (ask.Broke c p) r m t = tt

-- so is that of what may add an event
adding_may : (q : Ask) → may_add_event q ≡ true → MayAnswer q reply.Memory
adding_may ask.Begin h = absurd (false≢true h)
adding_may (ask.Look c p) h = tt
adding_may (ask.View cs) h = tt
adding_may (ask.Commit p ws es q cs xs) h = tt
adding_may (ask.Fail p q) h = tt
adding_may (ask.Peek c) h = tt
adding_may (ask.Send x) h = tt
adding_may (ask.Take g) h = tt
adding_may (ask.Finish g new sends) h = tt
adding_may (ask.OpenAt c) h = tt
adding_may (ask.CloseAt c p v) h = tt
adding_may (ask.Broke c p) h = tt

pub served_may : (s t : PlainShared) (a : ℕ) (q : Ask) (r : Reply) (tr new : List Place) → IsServed s a q r t tr new → MayAnswer q r
served_may s t a q r tr new (inl g) =
    let w = answer_to s a q in
    one_of q w s t r (serve_may s.cells a q (numbered_book s (book_for s.cells q))) (memory_may q w.reply (serve_may s.cells a q (numbered_book s (book_for s.cells q)))) g.answered
served_may s t a q r tr new (inr u) = subst (MayAnswer q) (sym u.replied) (adding_may q u.adds)

-- an ask that adds nothing leaves its book, and no place is noted
pub reads_alone : (s t : PlainShared) (a : ℕ) (q : Ask) (r : Reply) (tr : List Place) → may_add_event q ≡ false → shared.Answers s q (answer_to s a q) r t → IsServed s a q r t tr tr
reads_alone s t a q r tr none g = inl (record {
  answered = g;
  next = place;
  is_next = record { book = refl; at = refl };
  noted = sym (ap (λ b. with_place b tr place) (quiet r g));
})
  where
    place : Place
    place = record { book = book_for s.cells q; at = length ((shared_of s).books (book_for s.cells q)) }

    left : (x : Ask) (book : List Event) → may_add_event x ≡ false → (serve_on s.cells a x book).book ≡ book
    left ask.Begin book e = refl
    left (ask.View cs) book e = refl
    left (ask.Take g) book e = refl
    left (ask.OpenAt c) book e = refl
    left (ask.Look c p) book e = absurd (false≢true (sym e))
    left (ask.Commit p ws es y cs xs) book e = absurd (false≢true (sym e))
    left (ask.Fail p y) book e = absurd (false≢true (sym e))
    left (ask.Peek c) book e = absurd (false≢true (sym e))
    left (ask.Send x) book e = absurd (false≢true (sym e))
    left (ask.Finish g new sends) book e = absurd (false≢true (sym e))
    left (ask.CloseAt c p v) book e = absurd (false≢true (sym e))
    left (ask.Broke c p) book e = absurd (false≢true (sym e))

    before : List Event
    before = (shared_of s).books (book_for s.cells q)

    not_less : (n : ℕ) → nat_lt n n ≡ false
    not_less n = grind (arith, nat_tests)

    unmoved : (u : PlainShared) → (shared_of u).books (book_for s.cells q) ≡ (shared_of s).books (book_for s.cells q) → nat_lt (length ((shared_of s).books (book_for s.cells q))) (length ((shared_of u).books (book_for s.cells q))) ≡ false
    unmoved u e = ap (λ (l : List Event). nat_lt (length ((shared_of s).books (book_for s.cells q))) (length l)) e ∙ not_less (length ((shared_of s).books (book_for s.cells q)))

    after : IsAfter s q (answer_to s a q) t → nat_lt (length ((shared_of s).books (book_for s.cells q))) (length ((shared_of t).books (book_for s.cells q))) ≡ false
    after x =
        unmoved t (ap (λ (sh : Shared). sh.books (book_for s.cells q)) x.shared
        ∙ ap (λ b. if b then (answer_to s a q).book else (shared_of s).books (book_for s.cells q)) (number-itself (book_for s.cells q)) ∙ left q ((shared_of s).books (book_for s.cells q)) none)

    quiet : (y : Reply) → shared.Answers s q (answer_to s a q) y t → nat_lt (length ((shared_of s).books (book_for s.cells q))) (length ((shared_of t).books (book_for s.cells q))) ≡ false
    quiet (reply.At p) x = after x.1
    quiet (reply.Is v) x = after x.1
    quiet (reply.Views p vs) x = after x.1
    quiet reply.Done x = after x.1
    quiet (reply.Retry d) x = after x.1
    quiet (reply.Changed d) x = after x.1
    quiet (reply.AgentIsFailed g) x = after x.1
    quiet (reply.Action i z v) x = after x.1
    quiet reply.Idle x = after x.1
    quiet (reply.Opened p v) x = after x.1
    quiet reply.Full x = after x.1
    quiet reply.Memory x = unmoved t (ap (λ (u : PlainShared). (shared_of u).books (book_for s.cells q)) x.1)

-- ---- the end

-- the trace names the actor's events of each book, and no others
pub trace_holds : (code : PlainCode) (k : ℕ) (books : ℕ → List Event) (tr : List Place) (a : PlainActor) → RunLawfully code k books tr a → TraceHolds books k (places_of tr)
trace_holds code k books tr a w = subst (TraceHolds books k) (sym w.traced) w.over.told.traced
