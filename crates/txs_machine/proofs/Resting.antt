-- An agent's actor that has nothing to do asks for an action, and is told that there is none: after the turn it is where it was.
use Rattle.std.proofs.Common.{◌≡◌, ◌<◌, ℕ, zero, suc, ◌==◌, Bool, true, false, nat_lt, List, [], ◌∷◌, length, map, Option, Some, None, refl, sym, ap, subst, ◌∙◌, inl, inr, if◌then◌else◌, arith}
use Rattle.std.proofs.lemmas.Bool.Decides.{nat_tests}
use Rattle.std.proofs.Math.Path.{fun_ext}
use Rattle.txs_world_protocol.specs.declared.ask.Ask.TheVariants as ask
use Rattle.txs_world_protocol.specs.declared.ask.Reply.TheVariants as reply
use Rattle.txs_world_protocol.specs.declared.event.Event.{Event}
use Rattle.txs_value_cell.specs.declared.action.Action.{Action}
use Rattle.txs_value_cell.specs.declared.cell.CellDefinition.{CellDefinition}
use Rattle.txs_value_data.proofs.SameLemmas.{numbers, number-itself}
use Rattle.txs_value_data.specs.declared.value.CellId.{CellId}
use Rattle.txs_world_protocol.specs.Ask.{Writes}
use Rattle.txs_code_meaning.specs.ActorState.{ActorState, InHand, Await, take_action, asks, heard, handed_out, receives}
use Rattle.txs_code_meaning.specs.Machine.{PlainInstr, Push, Load, Store, Pop, Jump, JumpFalse, CoreOf, CallOf, Return, MakeVector, PrintOf, TxBegin, TxEnd, LookOf, PutOf, OpenOf, CloseOf, SendOf, Halt, TakeOf, RunOf, FinishOf, ThreadCode, Configuration, Activity, Outside, Restarting, Running, Applying, Swapping, Asking, Unfinished, agent_code, act, fetch, on, started, turn}
use Rattle.txs_code_meaning.specs.OwnCells.{NamesOwnCells}
use Rattle.txs_code_meaning.specs.PlainCode.{PlainCode, library_of}
use Rattle.txs_machine_actor.specs.PlainActor.{PlainActor, code_of, configuration_of}
use Rattle.txs_world.specs.Laws.{ServeKeeps}
use Rattle.txs_world.specs.Store.{first_action, next_action, is_taken, takes}
use Rattle.txs_world_book.specs.Book.{is_failed, mail_after, newest, opening, waits}
use Rattle.txs_world_book.specs.Served.{Served, cells_of, served}
use Rattle.txs_theorem_runs.specs.Invariant.{ActorInvariant, RunInvariant}
use Rattle.txs_theorem_runs.specs.Lawful.{RunAsksLawful}
use Rattle.txs_theorem_runs.specs.Run.{Actor, State, Play, TakesTurn, Moved, moved, asked, play, placed, replied}
use Rattle.txs_theorem_runs.specs.Shared.{Shared, serve_on, shared_after}
use Rattle.txs_theorem_runs.specs.Staged.{IsOpen, IsStaged, StagedActor, StandsIn, outside_stage, redoes_some, stage_at_end, stage_in}
use Rattle.txs_theorem_runs.specs.Stages.{Stage, Resting, Idle, Open, Viewing, Swapping as SwappingAt}
use Rattle.txs_theorem_runs.specs.Standing.{StandingActor, TakesOne, TakesTurns}
use Rattle.txs_theorem_runs.specs.Told.{exchange_of}
use Rattle.txs_theorem_runs.proofs.Known.{standing_staged}
use Rattle.txs_theorem_runs.proofs.Steps.{play_holds}
use Rattle.txs_theorem_runs.proofs.Taken.{is_busy, stage_by, stage_is, taken_so}
use Rattle.txs_theorem_runs.proofs.Told.{fresh_stands}
use Rattle.txs_theorem_runs.proofs.Whole.{opening_holds}
use Rattle.txs_world_shared.specs.SharedState.{PlainShared}
use Rattle.txs_machine.specs.RunOver.{books_of}
use Rattle.txs_machine.specs.Running.{GoesAs, IsAgentAt, IsPlayerOf}
use Rattle.txs_machine.specs.Scheduled.{after_turns, own_turns, run_of}
use Rattle.txs_world_protocol.specs.declared.event.Place.{Place}
use Rattle.txs_machine.proofs.Attending.{agent_names, asks_so}
use Rattle.txs_machine.proofs.Going.{Stood, own_turn, stood, turn_is}

abbrev is_some : {A : Type 0} → Option A → Type 0
is_some None = ⊥
is_some (Some x) = Unit {0}

abbrev is_resting : Stage → Type 0
is_resting Resting = Unit {0}
is_resting _ = ⊥

abbrev is_true : Bool → Type 0
is_true true = Unit {0}
is_true false = ⊥

all_hold : ServeKeeps → (code : PlainCode) (ys : List Play) (st : State) → RunInvariant code.cells (length code.threads) (code_of code) st → RunInvariant code.cells (length code.threads) (code_of code) (after_turns code ys st)
all_hold keeps code [] st h = h
all_hold keeps code (y ∷ ys) st h = all_hold keeps code ys (play code.cells (length code.threads) (code_of code) y st) (play_holds keeps code.cells (length code.threads) (code_of code) y st h)

run_holds : ServeKeeps → (code : PlainCode) (ys : List Play) → RunInvariant code.cells (length code.threads) (code_of code) (run_of code ys)
run_holds keeps code ys = all_hold keeps code ys _ (opening_holds fresh_stands code.cells (length code.threads) (code_of code))

end_never : (b : Bool) (ws : Writes) (s : ActorState) → stage_at_end b ws s ≡ Resting → ⊥
end_never true ws s e = subst is_resting (sym e) tt
end_never false [] s e = subst is_resting (sym e) tt
end_never false (w ∷ ws) s e = subst is_resting (sym e) tt

-- an agent's actor that rests runs no action
outside_none : (o : Option InHand) → outside_stage true o ≡ Resting → o ≡ None
outside_none None f = refl
outside_none (Some h) f = absurd (subst is_resting (sym f) tt)

resting_none : (d : Activity) (s : ActorState) → stage_in true d s ≡ Resting → s.acting ≡ None
resting_none Outside s e = outside_none s.acting e
resting_none (Restarting left) s e = absurd (subst is_resting (sym e) tt)
resting_none (Running left inner from) s e = absurd (subst is_resting (sym e) tt)
resting_none (Applying left from work values) s e = absurd (end_never (redoes_some work) values s e)
resting_none (Swapping swap from) s e = absurd (subst is_resting (sym e) tt)

rests : (st : Stage) → is_busy st ≡ false → st ≡ Resting
rests Resting e = refl
rests Idle e = absurd (subst is_true e tt)
rests (Open at) e = absurd (subst is_true e tt)
rests (Viewing at view) e = absurd (subst is_true e tt)
rests (SwappingAt c at) e = absurd (subst is_true e tt)

stands_none : (st : Stage) (c : Configuration) → st ≡ Resting → StandsIn true st c → c.state.acting ≡ None
stands_none st c e (inl h) = resting_none c.doing c.state (h ∙ e)
stands_none st c e (inr h) = absurd (subst IsOpen e h.0)

-- one that runs none takes one
takes_is : (o : Option PlainInstr) → TakesOne o → (g : CellId) × (o ≡ Some (TakeOf g))
takes_is None h = absurd h
takes_is (Some (Push v)) h = absurd h
takes_is (Some (Load i)) h = absurd h
takes_is (Some (Store i)) h = absurd h
takes_is (Some Pop) h = absurd h
takes_is (Some (Jump to)) h = absurd h
takes_is (Some (JumpFalse to)) h = absurd h
takes_is (Some (CoreOf op n span)) h = absurd h
takes_is (Some (CallOf f n)) h = absurd h
takes_is (Some Return) h = absurd h
takes_is (Some (MakeVector n span)) h = absurd h
takes_is (Some (PrintOf n)) h = absurd h
takes_is (Some (TxBegin span)) h = absurd h
takes_is (Some TxEnd) h = absurd h
takes_is (Some (LookOf form span)) h = absurd h
takes_is (Some (PutOf form span)) h = absurd h
takes_is (Some (OpenOf form n span)) h = absurd h
takes_is (Some (CloseOf form span)) h = absurd h
takes_is (Some (SendOf callee n span)) h = absurd h
takes_is (Some Halt) h = absurd h
takes_is (Some (TakeOf g)) h = (g, refl)
takes_is (Some RunOf) h = absurd h
takes_is (Some (FinishOf g)) h = absurd h

-- and asks for it
take_waits : (g : CellId) (s : ActorState) → s.todo ≡ [] → take_action g s ≡ Await (record s { wants = Some (ask.Take g) })
unfolding take_action asks
take_waits g s e = ap (λ l. heard handed_out (receives (ask.Take g) s l)) e

-- an action that is taken waits, and its agent hasn't failed
some_next : (b : Bool) (xs : List Action) → b ≡ false → waits xs ≡ true → first_action b xs ≡ None → ⊥
some_next true xs e w f = subst is_true e tt
some_next false [] e w f = subst is_true (sym w) tt
some_next false (x ∷ xs) e w f = subst is_some f tt

-- a reply that there is none leaves what is shared
shared_same : (cells : List CellDefinition) (g : CellId) (sh : Shared) → shared_after cells (ask.Take g) (served reply.Idle (sh.books 0)) sh ≡ sh
shared_same cells g sh = ap (λ (b : ℕ → List Event). record { books = b; taken = sh.taken }) (fun_ext same)
  where
    same : (n : ℕ) → (if n == 0 then sh.books 0 else sh.books n) ≡ sh.books n
    same n = go (n == 0) refl
      where
        go : (b : Bool) → (n == 0) ≡ b → (if b then sh.books 0 else sh.books n) ≡ sh.books n
        go true e = ap sh.books (sym (numbers n 0 e))
        go false e = refl

less_so : (i n : ℕ) → i < n → nat_lt i n ≡ true
less_so i n h = grind (arith, nat_tests, h)

module _ (keeps : ServeKeeps) (law : RunAsksLawful) (code : PlainCode) (g : CellId) (k : ℕ) (at : IsAgentAt code g k) (stands : StandingActor true (agent_code (library_of code) g)) (mine : NamesOwnCells code) where
  abbrev kd : ThreadCode
  kd = code_of code k

  stands_k : StandingActor true kd
  stands_k = subst (StandingActor true) (sym at.acts) stands

  staged_k : StagedActor true kd
  staged_k = standing_staged true kd stands_k

  module _ (before : List Play) (a : PlainActor) (here : Stood k a ((run_of code before).actors k)) (none : next_action (cells_of code.cells) ((run_of code before).shared.books 0) g ≡ None) where
    abbrev st : State
    st = run_of code before

    abbrev x : Actor
    x = st.actors k

    abbrev c : Configuration
    c = configuration_of a

    holds : RunInvariant code.cells (length code.threads) (code_of code) st
    holds = run_holds keeps code before

    own : ActorInvariant code.cells (length code.threads) true kd st.shared.books k x
    own = holds.actors true k staged_k

    untaken : (b : Bool) → is_taken st.shared.taken g ≡ b → b ≡ false
    untaken false e = refl
    untaken true e = let w = holds.shared.store.taken g.number e in absurd (some_next (is_failed (cells_of code.cells) (st.shared.books 0) g) (mail_after (cells_of code.cells) (st.shared.books 0) g.number).actions w.0 w.1 none)

    busy : is_busy own.stage ≡ false
    busy =
        ap is_busy (sym (stage_is true Resting x.entries own.stage own.told.staged))
        ∙ ap (λ i. is_busy (stage_by Resting (st.actors i).entries)) at.place
        ∙ sym (taken_so code.cells (length code.threads) (code_of code) keeps fresh_stands before g at.has (subst (λ i. StagedActor true (code_of code i)) at.place staged_k))
        ∙ untaken (is_taken st.shared.taken g) refl

    staged : IsStaged true own.stage (Unfinished c)
    staged = subst (IsStaged true own.stage) here.at own.staged

    acting : c.state.acting ≡ None
    acting = stands_none own.stage c (rests own.stage busy) staged.1

    takes_so : (h : CellId) × (fetch kd c.body c.place ≡ Some (TakeOf h))
    takes_so = takes_is (fetch kd c.body c.place) (subst (λ o. TakesTurns true o (fetch kd c.body c.place)) acting (stands_k x.turns (map exchange_of x.entries) c (own.ran ∙ here.at)).2)

    named : takes_so.0 ≡ g
    named = (agent_names code g c.body c.place takes_so.0).0 (subst (λ t. fetch t c.body c.place ≡ Some (TakeOf takes_so.0)) at.acts takes_so.1)

    abbrev waiting : ActorState
    waiting = record c.state { wants = Some (ask.Take g) }

    asks_take : turn kd c ≡ Asking waiting
    asks_take =
        ap (λ o. act kd o c) (takes_so.1 ∙ ap (λ h. Some (TakeOf h)) named)
        ∙ ap (λ r. on c.doing r (λ o s. started g o c s)) (take_waits g c.state staged.0)

    nothing : serve_on code.cells k (ask.Take g) (st.shared.books 0) ≡ served reply.Idle (st.shared.books 0)
    nothing = ap (λ o. served (takes o (suc (mail_after (cells_of code.cells) (st.shared.books 0) g.number).acts) (newest (opening (cells_of code.cells)) (st.shared.books 0) g.number)) (st.shared.books 0)) none

    abbrev left : Served → Moved
    left v = moved (replied kd c (ask.Take g) v.reply (length (st.shared.books 0)) x) (shared_after code.cells (ask.Take g) v st.shared)

    -- the turn leaves all as it is
    stays_so : (u : ℕ) → play code.cells (length code.threads) (code_of code) (TakesTurn k) st ≡ placed k (moved x st.shared) st
    stays_so limit =
        turn_is code k limit st c (Asking waiting) here.at here.free asks_take
        ∙ ap (λ b. placed k (asked b code.cells kd k c (ask.Take g) x st.shared) st) (asks_so law code g k at stands mine before c waiting (ask.Take g) here.at asks_take refl)
        ∙ ap (λ v. placed k (left v) st) nothing
        ∙ ap (λ sh. placed k (moved x sh) st) (shared_same code.cells g st.shared)

    one_turn : (m limit : ℕ) → a.limit ≡ limit → a.steps < limit → own_turns code limit k (suc m) st ≡ TakesTurn k ∷ []
    one_turn m limit e less = own_turn code k limit m st c (Asking waiting) here.at here.free (less_so x.turns limit (let n = here.counted in omega (arith, n, less))) asks_take

  own_same : (y : Actor) (st : State) → (placed k (moved y st.shared) st).actors k ≡ y
  own_same y st = ap (λ b. if b then y else st.actors k) (number-itself k)

  pub rests_goes : (n : ℕ) (s : PlainShared) (a : PlainActor) (ps : List Place) → 0 < n → a.outcome ≡ None → a.steps < a.limit → next_action (cells_of code.cells) (books_of s 0) g ≡ None → GoesAs code k n s a ps s a ps
  rests_goes zero s a ps some going less none before same hold p = absurd (omega (arith, some))
  rests_goes (suc m) s a ps some going less none before same hold p =
      let here = stood code k (books_of s) a ps ((run_of code before).actors k) going p in
      let idle : next_action (cells_of code.cells) ((run_of code before).shared.books 0) g ≡ None = subst (λ (sh : Shared). next_action (cells_of code.cells) (sh.books 0) g ≡ None) same none in
      let is = stays_so before a here idle a.limit in
      record {
        turns = TakesTurn k ∷ [];
        made = inl (sym (one_turn before a here idle m a.limit refl less));
        shared = same ∙ sym (ap (λ (u : State). u.shared) is);
        player = subst (IsPlayerOf code k (books_of s) a ps) (sym (ap (λ (u : State). u.actors k) is ∙ own_same ((run_of code before).actors k) (run_of code before))) p;
      }
