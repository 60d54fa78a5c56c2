-- An agent's actor that goes on, while no action waits for its agent, asks next for one: so it stays where it is when it goes on alone.
use Rattle.std.proofs.Common.{◌≡◌, ℕ, Bool, true, false, List, [], ◌∷◌, map, Option, Some, None, refl, sym, ap, subst, ◌∙◌, inl, inr}
use Rattle.txs_world_protocol.specs.Ask.{Writes}
use Rattle.txs_world_protocol.specs.declared.ask.Ask.TheVariants as ask
use Rattle.txs_value_cell.specs.declared.action.Action.{Action}
use Rattle.txs_value_data.specs.declared.value.CellId.{CellId}
use Rattle.txs_code_meaning.specs.ActorState.{ActorState, InHand, Await, take_action, asks, heard, handed_out, receives}
use Rattle.txs_code_meaning.specs.Machine.{PlainInstr, Push, Load, Store, Pop, Jump, JumpFalse, CoreOf, CallOf, Return, MakeVector, PrintOf, TxBegin, TxEnd, LookOf, PutOf, OpenOf, CloseOf, SendOf, Halt, TakeOf, RunOf, FinishOf, Configuration, Activity, Outside, Restarting, Running, Applying, Swapping, Asking, Unfinished, act, fetch, on, started, turn}
use Rattle.txs_world.specs.Laws.{ServeKeeps}
use Rattle.txs_world.specs.Store.{first_action, next_action, is_taken}
use Rattle.txs_world_book.specs.Book.{has_agent, is_failed, mail_after, waits}
use Rattle.txs_world_book.specs.Book as world
use Rattle.txs_world_book.specs.Served.{cells_of}
use Rattle.txs_theorem_runs.specs.Invariant.{ActorInvariant, RunInvariant, OpeningHolds, PlayHolds}
use Rattle.txs_theorem_runs.specs.Run.{State, Play, play, opens}
use Rattle.txs_theorem_runs.specs.Staged.{IsOpen, IsStaged, StagedActor, StandsIn, outside_stage, redoes_some, stage_at_end, stage_in}
use Rattle.txs_theorem_runs.specs.Stages.{Stage, Resting, Idle, Open, Viewing, Swapping as SwappingAt}
use Rattle.txs_theorem_runs.specs.Standing.{TakesOne, TakesTurns}
use Rattle.txs_theorem_runs.specs.Told.{exchange_of}
use Rattle.txs_theorem_runs.proofs.Known.{standing_staged}
use Rattle.txs_theorem_runs.proofs.Taken.{is_busy, stage_is, taken_so}
use Rattle.txs_theorem_runs.proofs.Told.{fresh_stands}
use Rattle.txs_explore.specs.Ends.{IsScript}
use Rattle.txs_explore.specs.Runners.{Explored, played}

abbrev is_some : {A : Type 0} → Option A → Type 0
is_some None = ⊥
is_some (Some x) = Unit {0}

abbrev is_resting : Stage → Type 0
is_resting Resting = Unit {0}
is_resting _ = ⊥

abbrev is_true : Bool → Type 0
is_true true = Unit {0}
is_true false = ⊥

-- ---- an agent's actor that runs no action

end_never : (b : Bool) (ws : Writes) (s : ActorState) → stage_at_end b ws s ≡ Resting → ⊥
end_never true ws s e = subst is_resting (sym e) tt
end_never false [] s e = subst is_resting (sym e) tt
end_never false (w ∷ ws) s e = subst is_resting (sym e) tt

outside_none : (o : Option InHand) → outside_stage true o ≡ Resting → o ≡ None
outside_none None f = refl
outside_none (Some h) f = absurd (subst is_resting (sym f) tt)

resting_none : (d : Activity) (s : ActorState) → stage_in true d s ≡ Resting → s.acting ≡ None
resting_none Outside s e = outside_none s.acting e
resting_none (Restarting left) s e = absurd (subst is_resting (sym e) tt)
resting_none (Running left inner from) s e = absurd (subst is_resting (sym e) tt)
resting_none (Applying left from work values) s e = absurd (end_never (redoes_some work) values s e)
resting_none (Swapping swap from) s e = absurd (subst is_resting (sym e) tt)

rests : (st : Stage) → is_busy st ≡ false → st ≡ Resting
rests Resting e = refl
rests Idle e = absurd (subst is_true e tt)
rests (Open at) e = absurd (subst is_true e tt)
rests (Viewing at view) e = absurd (subst is_true e tt)
rests (SwappingAt c at) e = absurd (subst is_true e tt)

stands_none : (st : Stage) (c : Configuration) → st ≡ Resting → StandsIn true st c → c.state.acting ≡ None
stands_none st c e (inl h) = resting_none c.doing c.state (h ∙ e)
stands_none st c e (inr h) = absurd (subst IsOpen e h.0)

-- it takes one
takes_is : (o : Option PlainInstr) → TakesOne o → (g : CellId) × (o ≡ Some (TakeOf g))
takes_is None h = absurd h
takes_is (Some (Push v)) h = absurd h
takes_is (Some (Load i)) h = absurd h
takes_is (Some (Store i)) h = absurd h
takes_is (Some Pop) h = absurd h
takes_is (Some (Jump to)) h = absurd h
takes_is (Some (JumpFalse to)) h = absurd h
takes_is (Some (CoreOf op n span)) h = absurd h
takes_is (Some (CallOf f n)) h = absurd h
takes_is (Some Return) h = absurd h
takes_is (Some (MakeVector n span)) h = absurd h
takes_is (Some (PrintOf n)) h = absurd h
takes_is (Some (TxBegin span)) h = absurd h
takes_is (Some TxEnd) h = absurd h
takes_is (Some (LookOf form span)) h = absurd h
takes_is (Some (PutOf form span)) h = absurd h
takes_is (Some (OpenOf form n span)) h = absurd h
takes_is (Some (CloseOf form span)) h = absurd h
takes_is (Some (SendOf callee n span)) h = absurd h
takes_is (Some Halt) h = absurd h
takes_is (Some (TakeOf g)) h = (g, refl)
takes_is (Some RunOf) h = absurd h
takes_is (Some (FinishOf g)) h = absurd h

-- and asks for it
take_waits : (g : CellId) (s : ActorState) → s.todo ≡ [] → take_action g s ≡ Await (record s { wants = Some (ask.Take g) })
unfolding take_action asks
take_waits g s e = ap (λ l. heard handed_out (receives (ask.Take g) s l)) e

-- an action that is taken waits, and its agent hasn't failed
some_next : (b : Bool) (xs : List Action) → b ≡ false → waits xs ≡ true → first_action b xs ≡ None → ⊥
some_next true xs e w f = subst is_true e tt
some_next false [] e w f = subst is_true (sym w) tt
some_next false (x ∷ xs) e w f = subst is_some f tt

-- ---- what it asks next

module _ (x : Explored) (script : IsScript x) (keeps : ServeKeeps) (opened : OpeningHolds) (kept : PlayHolds) where
  abbrev run : List Play → State
  run ys = played x ys (opens x.cells x.codes)

  holds_from : (ys : List Play) (st : State) → RunInvariant x.cells x.threads x.codes st → RunInvariant x.cells x.threads x.codes (played x ys st)
  holds_from [] st h = h
  holds_from (y ∷ ys) st h = holds_from ys (play x.cells x.threads x.codes y st) (kept x.cells x.threads x.codes y st h)

  holds : (ys : List Play) → RunInvariant x.cells x.threads x.codes (run ys)
  holds ys = holds_from ys (opens x.cells x.codes) (opened x.cells x.threads x.codes)

  module _ (ys : List Play) (g : CellId) (has : has_agent (cells_of x.cells) g ≡ true) (none : next_action (cells_of x.cells) ((run ys).shared.books 0) g ≡ None) where
    abbrev mine : ℕ
    mine = world.actor_of x.threads (cells_of x.cells) g

    abbrev st : State
    st = run ys

    code_staged : StagedActor true (x.codes mine)
    code_staged = standing_staged true (x.codes mine) (script.stands g has)

    own : ActorInvariant x.cells x.threads true (x.codes mine) st.shared.books mine (st.actors mine)
    own = (holds ys).actors true mine code_staged

    untaken : (b : Bool) → is_taken st.shared.taken g ≡ b → b ≡ false
    untaken false e = refl
    untaken true e =
        let w = (holds ys).shared.store.taken g.number e in
        absurd (some_next (is_failed (cells_of x.cells) (st.shared.books 0) g) (mail_after (cells_of x.cells) (st.shared.books 0) g.number).actions w.0 w.1 none)

    resting : own.stage ≡ Resting
    resting =
        rests own.stage
        (ap is_busy (sym (stage_is true Resting (st.actors mine).entries own.stage own.told.staged))
        ∙ sym (taken_so x.cells x.threads x.codes keeps fresh_stands ys g has code_staged)
        ∙ untaken (is_taken st.shared.taken g) refl)

    -- the state in which it waits
    pub asks_one : (c : Configuration) → (st.actors mine).at ≡ Unfinished c → (h : CellId) × (turn (x.codes mine) c ≡ Asking (record c.state { wants = Some (ask.Take h) }))
    asks_one c at =
        let staged : IsStaged true own.stage (Unfinished c) = subst (IsStaged true own.stage) at own.staged in
        let acting : c.state.acting ≡ None = stands_none own.stage c resting staged.1 in
        let takes = takes_is (fetch (x.codes mine) c.body c.place)
        (subst (λ o. TakesTurns true o (fetch (x.codes mine) c.body c.place)) acting (script.stands g has (st.actors mine).turns (map exchange_of (st.actors mine).entries) c (own.ran ∙ at)).2) in
        (takes.0, ap (λ o. act (x.codes mine) o c) takes.1 ∙ ap (λ r. on c.doing r (λ o s. started takes.0 o c s)) (take_waits takes.0 c.state staged.0))
