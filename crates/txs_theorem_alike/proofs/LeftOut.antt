-- A list of turns without tries that failed, from one state.
use Rattle.std.proofs.Common.{◌≡◌, ℕ, Bool, List, [], ◌∷◌, Option, Some, None, refl, sym, ap, ◌∙◌, subst}
use Rattle.txs_world_protocol.specs.declared.ask.Ask.{Ask}
use Rattle.txs_world_protocol.specs.declared.ask.Ask.TheVariants as ask
use Rattle.txs_value_cell.specs.declared.cell.CellDefinition.{CellDefinition}
use Rattle.txs_value_data.specs.declared.fault.Span.{Span}
use Rattle.txs_code_meaning.specs.Machine.{ThreadCode, PlainInstr, TxBegin, fetch, Activity, Outside, Restarting, Running, Applying, Swapping, Configuration, Unfinished, Asking, turn}
use Rattle.txs_code_meaning.specs.Opening.{given}
use Rattle.txs_theorem_runs.specs.Invariant.{PlayHolds, ActorInvariant}
use Rattle.txs_theorem_runs.specs.Run.{State, exchange}
use Rattle.txs_theorem_runs.specs.Staged.{StagedActor, IsStaged, StagedFrom}
use Rattle.txs_theorem_runs.specs.Stages.{Stage, Resting, Idle, Open, Viewing, AsksIn}
use Rattle.txs_theorem_runs.specs.Stages as stages
use Rattle.txs_theorem_alike.specs.Anew.{IsOutside, StandsAtBegin, BothBegin}
use Rattle.txs_theorem_alike.specs.Beginnings.{undo_in, undo}
use Rattle.txs_theorem_alike.specs.InStages.{AlikeInStages}
use Rattle.txs_theorem_alike.specs.LeftOut.{IsAtBegin, TriesAreLeftOut}
use Rattle.txs_theorem_alike.specs.States.{after_turns}
use Rattle.txs_theorem_alike.specs.Tries.{AlikeBut, without}
use Rattle.txs_theorem_alike.proofs.Anew.{here_or, alike_stands}
use Rattle.txs_theorem_alike.proofs.Anew as anew
use Rattle.txs_theorem_alike.proofs.Leaving.{failed_try_leaves_nothing}
use Rattle.txs_theorem_alike.proofs.Relating as relating
use Rattle.txs_theorem_alike.proofs.Whole.{failed_tries_are_left_out}
use Rattle.txs_theorem_alike.proofs.Within.{places_are_within}

-- who may ask to begin a transaction is outside of every one
begins_idle : (agent : Bool) (st : Stage) → AsksIn agent st ask.Begin → st ≡ Idle
begins_idle agent Resting h = absurd h
begins_idle agent Idle h = refl
begins_idle agent (Open at) h = absurd h
begins_idle agent (Viewing at view) h = absurd h
begins_idle agent (stages.Swapping c at) h = absurd h

abbrev ask_or : Option Ask → Ask
ask_or None = ask.Begin
ask_or (Some q) = q

module _ (cells : List CellDefinition) (threads : ℕ) (codes : ℕ → ThreadCode) (a : ℕ) where
  -- an actor that begins a transaction is in no stage of one
  idle_at : (agent : Bool) (st : State) → StagedActor agent (codes a) → (h : ActorInvariant cells threads agent (codes a) st.shared.books a (st.actors a)) → IsAtBegin cells threads codes a st → h.stage ≡ Idle
  idle_at agent st asks h b =
      let c = b.stands.here in
      let staged : IsStaged agent h.stage (Unfinished c) = subst (λ o. IsStaged agent h.stage o) b.stands.is_here h.staged in
      let from : StagedFrom agent h.stage (turn (codes a) c) (λ q r. turn (codes a) (given (exchange q r ∷ []) c)) =
      asks (st.actors a).turns _ c (h.ran ∙ b.stands.is_here) b.stands.heard h.stage staged.1 in
      let waiting : StagedFrom agent h.stage (Asking (record c.state { wants = Some ask.Begin })) (λ q r. turn (codes a) (given (exchange q r ∷ []) c)) =
      subst (λ o. StagedFrom agent h.stage o (λ q r. turn (codes a) (given (exchange q r ∷ []) c))) (anew.waits cells threads (codes a) a b.span (st.actors a) st.shared b.stands b.asks) from in
      begins_idle agent h.stage (subst (λ q. AsksIn agent h.stage q) (sym (ap ask_or waiting.1)) waiting.2)

  -- ---- the form where it begins

  body_kept : (D : Activity) (c : Configuration) → IsOutside D → (undo_in D c).body ≡ c.body
  body_kept Outside c o = refl
  body_kept (Restarting left) c o = refl
  body_kept (Running left inner from) c o = absurd o
  body_kept (Applying left from work values) c o = absurd o
  body_kept (Swapping swap from) c o = absurd o

  place_kept : (D : Activity) (c : Configuration) → IsOutside D → (undo_in D c).place ≡ c.place
  place_kept Outside c o = refl
  place_kept (Restarting left) c o = refl
  place_kept (Running left inner from) c o = absurd o
  place_kept (Applying left from work values) c o = absurd o
  place_kept (Swapping swap from) c o = absurd o

  abbrev span_or : Span → Option PlainInstr → Span
  span_or s (Some (TxBegin span)) = span
  span_or s _ = s

  instr_kept : (c : Configuration) → IsOutside c.doing → fetch (codes a) (undo c).body (undo c).place ≡ fetch (codes a) c.body c.place
  instr_kept c o = ap (λ b. fetch (codes a) b (undo c).place) (body_kept c.doing c o) ∙ ap (λ i. fetch (codes a) c.body i) (place_kept c.doing c o)

  both_at : (agent : ℕ → Bool) (st other : State) → AlikeBut cells agent a st other → IsAtBegin cells threads codes a st → IsAtBegin cells threads codes a other → BothBegin cells threads codes a st other
  both_at agent st other alike b e = record {
    span = b.span;
    one = b.stands;
    two = subst (λ s. StandsAtBegin (codes a) s (other.actors a)) (sym same) e.stands;
    asks_one = b.asks;
    asks_two = e.asks;
  }
    where
      starts : undo b.stands.here ≡ undo e.stands.here
      starts =
          ap undo (ap (here_or b.stands.here) (sym b.stands.is_here ∙ alike.tries.1)) ∙ alike.tries.2
          ∙ sym (ap undo (ap (here_or e.stands.here) (sym e.stands.is_here ∙ alike.waits.1)) ∙ alike.waits.2)

      same : b.span ≡ e.span
      same = ap (span_or b.span) (
          sym b.stands.begins
          ∙ sym (instr_kept b.stands.here b.stands.outside)
          ∙ ap (λ c. fetch (codes a) c.body c.place) starts
          ∙ instr_kept e.stands.here e.stands.outside
          ∙ e.stands.begins
          )

pub tries_are_left_out : PlayHolds → TriesAreLeftOut
tries_are_left_out holds cells threads codes agent a turns later st h asks here among ends end free loose =
    failed_tries_are_left_out holds cells threads codes agent a turns later st st h h itself idle idle both among
    (both_at cells threads codes a agent (after_turns cells threads codes turns st) (after_turns cells threads codes (without a turns) st)
    (failed_try_leaves_nothing holds cells threads codes agent a turns st st h h (alike_stands cells threads codes agent a st st itself both idle idle) among) ends end)
    free loose
  where
    itself : AlikeInStages cells agent st st
    itself = record {
      first = λ b. (h.actors (agent b) b (asks b)).stage;
      second = λ b. (h.actors (agent b) b (asks b)).stage;
      all = relating.itself cells st.shared (λ b. (h.actors (agent b) b (asks b)).stage) (λ b. places_are_within cells threads codes st h (agent b) b (asks b));
      actors = λ b. (refl, refl);
      in_first = λ b e. (h.actors (agent b) b (asks b)).staged;
      in_other = λ b e. (h.actors (agent b) b (asks b)).staged;
    }

    idle : (h.actors (agent a) a (asks a)).stage ≡ Idle
    idle = idle_at cells threads codes a (agent a) st (asks a) (h.actors (agent a) a (asks a)) here

    both : BothBegin cells threads codes a st st
    both = record { span = here.span; one = here.stands; two = here.stands; asks_one = here.asks; asks_two = here.asks }
