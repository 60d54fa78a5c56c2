-- Commits on different refs may be exchanged: each is answered as if the other had not been, and nobody can tell which came first.
use Rattle.std.specs.Prelude.{◌≡◌, ◌<◌, ◌⊎◌, ℕ, suc, Bool, true, false, ◌==◌, List, [], ◌∷◌, ◌++◌, length, None}
use Rattle.txs_world_protocol.specs.Ask.{Writes}
use Rattle.txs_world_protocol.specs.declared.ask.Ask.{Ask}
use Rattle.txs_world_protocol.specs.declared.ask.Ask.TheVariants as ask
use Rattle.txs_world_protocol.specs.declared.ask.Reply.{Reply}
use Rattle.txs_value_cell.specs.declared.action.Action.{Action}
use Rattle.txs_value_cell.specs.declared.cell.CellDefinition.{CellDefinition}
use Rattle.txs_value_data.specs.Limits.{most_events}
use Rattle.txs_value_data.specs.declared.value.CellId.{CellId}
use Rattle.txs_world_book.specs.Book.{cells_in, sent_to}
use Rattle.txs_world.specs.Store.{is_among}
use Rattle.txs_code_meaning.specs.Machine.{ThreadCode}
use Rattle.txs_theorem_runs.specs.Invariant.{RunInvariant}
use Rattle.txs_theorem_runs.specs.Run.{State}
use Rattle.txs_theorem_runs.specs.Shared.{Shared, book_for, serve_on}
use Rattle.txs_theorem_runs.specs.Staged.{StagedActor}
use Rattle.txs_theorem_runs.specs.Stages.{Stage}
use Rattle.txs_theorem_alike.specs.Actors.{AsksNext}
use Rattle.txs_theorem_alike.specs.Books.{Alike}
use Rattle.txs_theorem_alike.specs.Stages.{SameStage, behind}
use Rattle.txs_theorem_alike.specs.States.{StatesAlike, GoFreely, after_turns}
use Rattle.txs_theorem_alike.specs.Unseen.{IsWithin}

-- a request to commit a transaction: its read point, what it set and ensured, the place of its view with what it commuted, and what it sends
pub record CommitAsk : Type 0 where
  pub at : ℕ
  pub sets : Writes
  pub ensured : List CellId
  pub view : ℕ
  pub commuted : Writes
  pub sends : List Action

-- as a request
abbrev pub ask_of : CommitAsk → Ask
ask_of q = ask.Commit q.at q.sets q.ensured q.view q.commuted q.sends

-- the refs that it writes: those that were set and those that were commuted
abbrev pub writes_in : CommitAsk → List CellId
writes_in q = cells_in q.sets ++ cells_in q.commuted

-- the refs on which its answer depends: those that it writes, and those that it ensures
abbrev pub uses_in : CommitAsk → List CellId
uses_in q = (cells_in q.sets ++ q.ensured) ++ cells_in q.commuted

-- no cell is among both
abbrev pub AreApart : List CellId → List CellId → Type 0
AreApart cs ds = (k : ℕ) → is_among k cs ≡ true → is_among k ds ≡ false

-- no agent gets an action of both
abbrev pub SendApart : List Action → List Action → Type 0
SendApart xs ys = (k : ℕ) → (sent_to k xs ≡ []) ⊎ (sent_to k ys ≡ [])

-- Two commits have nothing to do with each other: neither writes a ref that the other set, commuted or ensured, and they send to different agents.
pub record AreIndependent (q r : CommitAsk) : Type 0 where
  pub first : AreApart (writes_in q) (uses_in r)
  pub second : AreApart (writes_in r) (uses_in q)
  pub sends : SendApart q.sends r.sends

-- what an actor is answered
abbrev pub reply_to : List CellDefinition → ℕ → Ask → Shared → Reply
reply_to cells a q sh = (serve_on cells a q (sh.books (book_for cells q))).reply

-- Two requests in both orders: each has the reply that it has without the other; nobody can tell apart what is shared after both, and each place that there was before tells the same.
pub record Exchanged (cells : List CellDefinition) (a b : ℕ) (q r : Ask) (sh : Shared) : Type 0 where
  pub first : reply_to cells a q (behind cells b r sh) ≡ reply_to cells a q sh
  pub second : reply_to cells b r (behind cells a q sh) ≡ reply_to cells b r sh
  pub shared : Alike cells (behind cells b r (behind cells a q sh)) (behind cells a q (behind cells b r sh))
  pub places : (st : Stage) → IsWithin cells sh st → SameStage cells (behind cells b r (behind cells a q sh)) (behind cells a q (behind cells b r sh)) st st

-- commits that have nothing to do with each other may be exchanged, where there is room for both
abbrev pub CommitsExchange : Type 0
CommitsExchange = (cells : List CellDefinition) (a b : ℕ) (q r : CommitAsk) (sh : Shared) → AreIndependent q r → suc (length (sh.books 0)) < most_events → Exchanged cells a b (ask_of q) (ask_of r) sh

-- Two actors of a run ask to commit, and the commits have nothing to do with each other. Nobody can tell which of them came first, if nothing stops them in either order.
abbrev pub CommitsCommute : Type 0
CommitsCommute = (cells : List CellDefinition) (threads : ℕ) (codes : ℕ → ThreadCode) (agent : ℕ → Bool) (a b : ℕ) (q r : CommitAsk) (st : State)
    → RunInvariant cells threads codes st → ((c : ℕ) → StagedActor (agent c) (codes c)) → (a == b) ≡ false
    → AsksNext (codes a) (st.actors a).at (ask_of q) → (st.actors a).stopped ≡ None → AsksNext (codes b) (st.actors b).at (ask_of r) → (st.actors b).stopped ≡ None
    → AreIndependent q r → suc (length (st.shared.books 0)) < most_events
    → GoFreely cells threads codes agent (a ∷ b ∷ []) st → GoFreely cells threads codes agent (b ∷ a ∷ []) st
    → StatesAlike cells agent (after_turns cells threads codes (a ∷ b ∷ []) st) (after_turns cells threads codes (b ∷ a ∷ []) st)
