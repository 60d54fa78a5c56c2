-- How an actor follows a history by its code, and that all who do so are the actors of a run by turns.
use Rattle.std.specs.Prelude.{◌≡◌, ◌<◌, ℕ, zero, suc, true, List, [], ◌∷◌, ◌++◌, None}
use Rattle.std.proofs.Common.{◌⊎◌}
use Rattle.txs_value_cell.specs.declared.cell.CellDefinition.{CellDefinition}
use Rattle.txs_code_meaning.specs.Machine.{ThreadCode, Configuration, Unfinished, turn}
use Rattle.txs_history.specs.declared.log.Entry.TheVariants as entry
use Rattle.txs_theorem_runs.specs.Goes.{AsksNothing, AsksAt}
use Rattle.txs_theorem_runs.specs.Run.{Stop, Actor, Play, comes_to, new_actor, plays, stop, turns_from, actor_of}
use Rattle.txs_theorem_runs.specs.Shared.{Shared, book_for, may_ask}
use Rattle.txs_history.specs.declared.asked.Asked.{Asked}
use Rattle.txs_history.specs.Asked.{History, shared_by, asks_in, sum_to}

-- ---- an actor

-- an actor goes on, since it hasn't ended and wasn't stopped, and this is where
pub record IsAt (x : Actor) (c : Configuration) : Type 0 where
  pub at : x.at ≡ Unfinished c
  pub going : x.stopped ≡ None

-- so many turns that ask nothing lead an actor from one place to another
abbrev pub Strolls : ThreadCode → ℕ → Actor → Actor → Type 0
Strolls code zero x z = x ≡ z
Strolls code (suc n) x z = (c : Configuration) × IsAt x c × AsksNothing (turn code c) × Strolls code n (comes_to (turn code c) x) z

-- one that goes on is stopped where it is, or it is left as it is
abbrev pub IsLeft : Actor → Actor → Type 0
IsLeft x z = (x ≡ z) ⊎ ((why : Stop) × (c : Configuration) × IsAt x c × (z ≡ stop why x))

-- an entry of a history is an actor's next ask: it may make it where this is shared, and the lock is that of the book that answers
pub record IsNextAsk (cells : List CellDefinition) (threads : ℕ) (code : ThreadCode) (a : ℕ) (x : Actor) (k : ℕ) (e : Asked) (sh : Shared) : Type 0 where
  pub actor : e.actor ≡ a
  pub from : Configuration
  pub going : IsAt x from
  pub asks : AsksAt code from e.ask
  pub lock : k ≡ book_for cells e.ask
  pub may : may_ask cells threads sh.taken a e.ask (sh.books (book_for cells e.ask)) ≡ true

-- where an actor is after its turn, where this is shared
abbrev pub after_turn : List CellDefinition → ℕ → ThreadCode → ℕ → Actor → Shared → Actor
after_turn cells threads code a x sh = (turns_from cells threads code a x.at x.stopped x sh).actor

-- The actor with this number comes from one place to another along a history, and makes so many asks. It passes an entry by, or the entry is its next ask,
-- behind some turns that ask nothing. It hears what is answered there, by the asks before that entry. Behind the last entry it takes some turns that ask
-- nothing, and may be stopped.
abbrev pub Follows : List CellDefinition → ℕ → ThreadCode → ℕ → (before : History) → Actor → ℕ → History → Actor → Type 0
Follows cells threads code a before x m [] z = (m ≡ 0) × (n : ℕ) × (w : Actor) × Strolls code n x w × IsLeft w z
Follows cells threads code a before x m (entry.Locks n ∷ h) z = Follows cells threads code a (before ++ entry.Locks n ∷ []) x m h z
Follows cells threads code a before x m (entry.Event k e ∷ h) z =
    Follows cells threads code a (before ++ entry.Event k e ∷ []) x m h z
    ⊎ ((rest : ℕ) × (n : ℕ) × (w : Actor) × (m ≡ suc rest) × Strolls code n x w × IsNextAsk cells threads code a w k e (shared_by cells before)
    × Follows cells threads code a (before ++ entry.Event k e ∷ []) (after_turn cells threads code a w (shared_by cells before)) rest h z)

-- so it does from its beginning
abbrev pub FollowsAll : List CellDefinition → ℕ → ThreadCode → ℕ → ℕ → History → Actor → Type 0
FollowsAll cells threads code a m h z = Follows cells threads code a [] (new_actor code) m h z

-- ---- all actors

-- these turns are those of the first so many actors
abbrev pub AreBelow : ℕ → List Play → Type 0
AreBelow m [] = Unit {0}
AreBelow m (y ∷ ys) = (actor_of y < m) × AreBelow m ys

-- The first so many actors follow a history from their beginnings, and its asks are as many as they made. Then it is a run by turns: some list of their turns
-- leaves what is shared as the history does, and each of them at its end.
abbrev pub HistoryIsRun : Type 0
HistoryIsRun =
    (cells : List CellDefinition) (threads : ℕ) (codes : ℕ → ThreadCode) (m : ℕ) (h : History) (made : ℕ → ℕ) (ends : ℕ → Actor)
    → ((a : ℕ) → a < m → FollowsAll cells threads (codes a) a (made a) h (ends a)) → sum_to m made ≡ asks_in h
    → (ys : List Play) × AreBelow m ys × ((plays cells threads codes ys).shared ≡ shared_by cells h) × ((a : ℕ) → a < m → (plays cells threads codes ys).actors a ≡ ends a)
