-- Every run is explained.
use Rattle.std.proofs.Common.{◌≡◌, ℕ, zero, suc, Bool, true, false, inl, List, [], ◌∷◌, length, map, take, Option, Some, None, refl, sym, subst, ◌∙◌, ap, arith}
use Rattle.txs_world_protocol.specs.declared.ask.Ask.{Ask}
use Rattle.txs_world_protocol.specs.declared.ask.Ask.TheVariants as ask
use Rattle.txs_world_protocol.specs.declared.ask.Reply.{Reply}
use Rattle.txs_world_protocol.specs.declared.ask.Reply.TheVariants as reply
use Rattle.txs_world_protocol.specs.declared.event.Event.{Event}
use Rattle.txs_value_data.specs.Places.{nth}
use Rattle.txs_value_cell.specs.declared.cell.CellDefinition.{CellDefinition}
use Rattle.txs_tree_meaning.specs.Thread.{thread_meaning}
use Rattle.txs_tree_meaning.specs.Tree.{PlainThread}
use Rattle.txs_code_meaning.specs.Machine.{ThreadCode, Configuration, Turned, Ended, Failed, Asking, Unfinished, Stuck, Outcome, and_then}
use Rattle.txs_code_meaning.specs.Opening.{opening, target}
use Rattle.txs_code_meaning.proofs.Acts.{stated, exec_run}
use Rattle.txs_theorem_threads.specs.Follows.{Follows}
use Rattle.txs_theorem_threads.specs.FollowsAll.{source_of}
use Rattle.txs_theorem_threads.specs.RepliesFit.{Out, RepliesFit, Explained, Consumed}
use Rattle.txs_theorem_threads.specs.RepliesFitTo.{FittingToFits}
use Rattle.txs_world_book.specs.Laws.{UnwrittenStays}
use Rattle.txs_world.specs.Laws.{ServeKeeps, DoneIsUndisturbed, StoreStands}
use Rattle.txs_world_book.specs.Served.{cells_of}
use Rattle.txs_world.specs.Store.{serve}
use Rattle.txs_theorem_runs.specs.Shared.{untouched, store_of}
use Rattle.txs_theorem_runs.specs.Stages.{Stage, first_stage, phase_of}
use Rattle.txs_theorem_runs.specs.Told.{Entry, exchange_of, EntryHolds, AllHold, history_of}
use Rattle.txs_theorem_runs.specs.Staged.{IsStaged, StandsIn}
use Rattle.txs_theorem_runs.specs.Explains.{outcome_at, CommitUndisturbed, CommitsUndisturbed, ActorExplained, BooksStand, RunExplained, code_or_none, code_of, ProgramExplained}
use Rattle.txs_theorem_runs.specs.Invariant.{ActorInvariant, SharedStands, RunInvariant, OpeningHolds, InvariantExplains}
use Rattle.txs_theorem_runs.specs.Run.{Actor, State, Play, opens, play, plays_from}
use Rattle.txs_theorem_runs.proofs.Fits.{told_fits}
use Rattle.txs_theorem_runs.proofs.Steps as steps

-- what is known of the layers below
pub record Lower : Type 0 where
  pub stays : UnwrittenStays
  pub done : DoneIsUndisturbed
  pub fit : FittingToFits

-- before the first ask no store was used
abbrev pub FreshStands : Type 0
FreshStands = (cells : List CellDefinition) (threads : ℕ) → StoreStands (store_of cells threads (untouched cells))

pub opening_holds : FreshStands → OpeningHolds
opening_holds fresh cells threads codes = record {
  shared = record { store = fresh cells threads; atoms = λ c h. record { few = omega arith; each = tt }; by_threads = λ c h. tt };
  actors = λ agent a known. record { stage = first_stage agent; ran = refl; told = record { hold = tt; staged = refl; traced = λ n. refl }; staged = (refl, opens_so agent (codes a)) };
}
  where
    opens_so : (agent : Bool) (code : ThreadCode) → StandsIn agent (first_stage agent) (opening code [])
    opens_so false code = refl
    opens_so true code = inl refl

consumed : (agent : Bool) (st : Stage) (o : Turned Configuration) → IsStaged agent st o → Consumed (outcome_at o)
consumed agent st (Ended s) h = h
consumed agent st (Failed f s) h = h
consumed agent st (Asking s) h = absurd h
consumed agent st (Unfinished c) h = h.0
consumed agent st Stuck h = tt

then_outcome : (o : Turned Configuration) → and_then o stated ≡ outcome_at o
then_outcome (Ended s) = refl
then_outcome (Failed f s) = refl
then_outcome (Asking s) = refl
then_outcome (Unfinished c) = refl
then_outcome Stuck = refl

-- an entry that says that a commit is done was undisturbed
undisturbed : DoneIsUndisturbed → (cells : List CellDefinition) (a : ℕ) (q : Ask) (r : Reply) (book : List Event) → r ≡ (serve (cells_of cells) a q book).reply → CommitUndisturbed book q r
undisturbed done cells a (ask.Commit at sets ensured view commuted sends) reply.Done book e = done (cells_of cells) a at view sets commuted ensured sends book (sym e)
undisturbed done cells a (ask.Commit at sets ensured view commuted sends) (reply.At p) book e = tt
undisturbed done cells a (ask.Commit at sets ensured view commuted sends) (reply.Is v) book e = tt
undisturbed done cells a (ask.Commit at sets ensured view commuted sends) (reply.Views p vs) book e = tt
undisturbed done cells a (ask.Commit at sets ensured view commuted sends) (reply.Retry c) book e = tt
undisturbed done cells a (ask.Commit at sets ensured view commuted sends) (reply.Changed c) book e = tt
undisturbed done cells a (ask.Commit at sets ensured view commuted sends) (reply.AgentIsFailed g) book e = tt
undisturbed done cells a (ask.Commit at sets ensured view commuted sends) (reply.Action n x v) book e = tt
undisturbed done cells a (ask.Commit at sets ensured view commuted sends) reply.Idle book e = tt
undisturbed done cells a (ask.Commit at sets ensured view commuted sends) (reply.Opened p v) book e = tt
undisturbed done cells a (ask.Commit at sets ensured view commuted sends) reply.Full book e = tt
undisturbed done cells a (ask.Commit at sets ensured view commuted sends) reply.Memory book e = tt
undisturbed done cells a ask.Begin r book e = tt
undisturbed done cells a (ask.Look c p) r book e = tt
undisturbed done cells a (ask.View cs) r book e = tt
undisturbed done cells a (ask.Fail p q) r book e = tt
undisturbed done cells a (ask.Peek c) r book e = tt
undisturbed done cells a (ask.Send x) r book e = tt
undisturbed done cells a (ask.Take g) r book e = tt
undisturbed done cells a (ask.Finish g new sends) r book e = tt
undisturbed done cells a (ask.OpenAt c) r book e = tt
undisturbed done cells a (ask.CloseAt c p v) r book e = tt
undisturbed done cells a (ask.Broke c p) r book e = tt

-- so it is of each entry that holds; one that isn't a commit says nothing
entry_undisturbed : DoneIsUndisturbed → (cells : List CellDefinition) (threads : ℕ) (books : ℕ → List Event) (a : ℕ) (q : Ask) (r : Reply) (k : ℕ) → EntryHolds cells threads books a (record { ask = q; reply = r; at = k }) → CommitUndisturbed (take k (books 0)) q r
entry_undisturbed done cells threads books a (ask.Commit at sets ensured view commuted sends) r k h = undisturbed done cells a (ask.Commit at sets ensured view commuted sends) r (take k (books 0)) h.replied
entry_undisturbed done cells threads books a ask.Begin r k h = tt
entry_undisturbed done cells threads books a (ask.Look c p) r k h = tt
entry_undisturbed done cells threads books a (ask.View cs) r k h = tt
entry_undisturbed done cells threads books a (ask.Fail p q) r k h = tt
entry_undisturbed done cells threads books a (ask.Peek c) r k h = tt
entry_undisturbed done cells threads books a (ask.Send x) r k h = tt
entry_undisturbed done cells threads books a (ask.Take g) r k h = tt
entry_undisturbed done cells threads books a (ask.Finish g new sends) r k h = tt
entry_undisturbed done cells threads books a (ask.OpenAt c) r k h = tt
entry_undisturbed done cells threads books a (ask.CloseAt c p v) r k h = tt
entry_undisturbed done cells threads books a (ask.Broke c p) r k h = tt

pub all_undisturbed : DoneIsUndisturbed → (cells : List CellDefinition) (threads : ℕ) (books : ℕ → List Event) (a : ℕ) (es : List Entry) → AllHold cells threads books a es → CommitsUndisturbed books es
all_undisturbed done cells threads books a [] h = tt
all_undisturbed done cells threads books a (e ∷ es) h = (entry_undisturbed done cells threads books a e.ask e.reply e.at h.0, all_undisturbed done cells threads books a es h.1)

pub actor_explained : Lower → (cells : List CellDefinition) (threads : ℕ) (code : ThreadCode) (books : ℕ → List Event) (a : ℕ) (x : Actor) → ActorInvariant cells threads false code books a x → ActorExplained cells code books a x
actor_explained by cells threads code books a x k =
    let xs = map exchange_of x.entries in
    let seen = history_of cells books a x.entries in
    let f : RepliesFit cells Out xs seen = by.fit cells Out xs seen (phase_of cells books k.stage) (told_fits by.stays cells threads books a x.entries k.stage k.told.hold k.told.staged) in
    let e : target code x.turns xs ≡ outcome_at x.at = exec_run code x.turns (opening code xs) ∙ ap (λ o. and_then o stated) k.ran ∙ then_outcome x.at in
    record {
      ran = k.ran;
      fits = f;
      traced = k.told.traced;
      undisturbed = all_undisturbed by.done cells threads books a x.entries k.told.hold;
      means = λ p same follows. subst (λ (o : Outcome). Explained o (thread_meaning p x.turns seen)) e
          (follows.explained xs seen x.turns (subst (λ ds. RepliesFit ds Out xs seen) (sym same) f) (subst (λ (o : Outcome). Consumed o) (sym e) (consumed false k.stage x.at k.staged)));
      noted = λ p same follows. follows.noted xs seen x.turns (subst (λ ds. RepliesFit ds Out xs seen) (sym same) f) (subst (λ (o : Outcome). Consumed o) (sym e) (consumed false k.stage x.at k.staged));
    }

books_stand : (cells : List CellDefinition) (threads : ℕ) (st : State) → SharedStands cells threads st.shared → BooksStand cells threads st.shared
books_stand cells threads st h = record { legal = h.store.legal; undisturbed = h.store.undisturbed; atoms = h.atoms; by_threads = h.by_threads }

pub invariant_explains : Lower → InvariantExplains
invariant_explains by cells threads codes st h = record {
  books = books_stand cells threads st h.shared;
  actors = λ a known. actor_explained by cells threads (codes a) st.shared.books a (st.actors a) (h.actors false a known);
}

pub all_hold : ServeKeeps → (cells : List CellDefinition) (threads : ℕ) (codes : ℕ → ThreadCode) (ys : List Play) (st : State) → RunInvariant cells threads codes st → RunInvariant cells threads codes (plays_from cells threads codes ys st)
all_hold keeps cells threads codes [] st h = h
all_hold keeps cells threads codes (y ∷ ys) st h = all_hold keeps cells threads codes ys (play cells threads codes y st) (steps.play_holds keeps cells threads codes y st h)

pub run_explained : Lower → ServeKeeps → FreshStands → RunExplained
run_explained by keeps fresh cells threads codes ys = invariant_explains by cells threads codes _ (all_hold keeps cells threads codes ys (opens cells codes) (opening_holds fresh cells threads codes))

abbrev is_none : {A : Type 0} → Option A → Type 0
is_none None = Unit {0}
is_none (Some x) = ⊥

-- as many codes as threads: each thread has one
pub has_code : (codes : List ThreadCode) (ts : List PlainThread) (i : ℕ) (t : PlainThread) → length codes ≡ length ts → nth ts i ≡ Some t → (c : ThreadCode) × (nth codes i ≡ Some c)
has_code [] [] i t e h = absurd (subst is_none h tt)
has_code [] (u ∷ ts) i t e h = absurd (omega (arith, e))
has_code (c ∷ cs) [] i t e h = absurd (omega (arith, e))
has_code (c ∷ cs) (u ∷ ts) zero t e h = (c, refl)
has_code (c ∷ cs) (u ∷ ts) (suc i) t e h = has_code cs ts i t (omega (arith, e)) h

pub program_explained : Lower → ServeKeeps → FreshStands → ProgramExplained
program_explained by keeps fresh codes p ys f staged =
    let h = run_explained by keeps fresh p.cells (length p.threads) (code_of codes) ys in
    record {
      books = h.books;
      threads = λ i t e. (let c = has_code codes p.threads i t f.as_many e in
          (h.actors i (staged i)).means (source_of p t) refl (subst (λ k. Follows k (source_of p t)) (sym (ap code_or_none c.1)) (f.each i c.0 t c.1 e)));
      noted = λ i t e. (let c = has_code codes p.threads i t f.as_many e in
          (h.actors i (staged i)).noted (source_of p t) refl (subst (λ k. Follows k (source_of p t)) (sym (ap code_or_none c.1)) (f.each i c.0 t c.1 e)));
      traced = λ i t e. (h.actors i (staged i)).traced;
      undisturbed = λ i t e. (h.actors i (staged i)).undisturbed;
    }
