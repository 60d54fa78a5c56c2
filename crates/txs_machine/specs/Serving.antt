-- How a run serves an actor's ask, and keeps the place of the event that it adds.
use Rattle.std.specs.Prelude.{◌≡◌, ℕ, Bool, true, List, [], ◌∷◌, ◌++◌, length, nat_lt, if◌then◌else◌}
use Rattle.std.proofs.Common.{◌⊎◌}
use Rattle.txs_world_protocol.specs.Ask.{may_add_event}
use Rattle.txs_world_protocol.specs.declared.ask.Ask.{Ask}
use Rattle.txs_world_protocol.specs.declared.ask.Reply.{Reply}
use Rattle.txs_world_protocol.specs.declared.ask.Reply.TheVariants.{Memory}
use Rattle.txs_theorem_runs.specs.Shared.{book_for}
use Rattle.txs_world_shared.specs.SharedState.{PlainShared, shared_of, answer_to, Answers}
use Rattle.txs_world_protocol.specs.declared.event.Place.{Place}

-- the index at which the book for an ask continues
pub record IsNext (s : PlainShared) (q : Ask) (p : Place) : Type 0 where
  pub book : p.book ≡ book_for s.cells q
  pub at : p.at ≡ length ((shared_of s).books (book_for s.cells q))

-- these places, and the one that was reserved behind them, if an event was added there
abbrev pub with_place : Bool → List Place → Place → List Place
with_place added ps p = if added then ps ++ p ∷ [] else ps

-- An ask was answered as the state serves it, and the place of the event that it added, if it did, is behind those before.
pub record IsNoted (s : PlainShared) (a : ℕ) (q : Ask) (r : Reply) (t : PlainShared) (ps later : List Place) : Type 0 where
  pub answered : Answers s q (answer_to s a q) r t
  pub next : Place
  pub is_next : IsNext s q next
  pub noted : later ≡ with_place (nat_lt (length ((shared_of s).books (book_for s.cells q))) (length ((shared_of t).books (book_for s.cells q)))) ps next

-- There was no memory for the place of an event that the ask may add: nothing was served.
pub record IsUnserved (s : PlainShared) (q : Ask) (r : Reply) (t : PlainShared) (ps later : List Place) : Type 0 where
  pub adds : may_add_event q ≡ true
  pub replied : r ≡ Memory
  pub state : t ≡ s
  pub places : later ≡ ps

-- an ask comes to one or the other
abbrev pub IsServed : PlainShared → ℕ → Ask → Reply → PlainShared → List Place → List Place → Type 0
IsServed s a q r t ps later = IsNoted s a q r t ps later ⊎ IsUnserved s q r t ps later
