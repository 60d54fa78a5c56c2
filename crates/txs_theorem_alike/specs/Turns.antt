-- A play of an actor in two alike states: the actor and what is shared stay alike. What is shared answers alike by its own law.
use Rattle.std.specs.Prelude.{◌≡◌, ℕ, Bool, true, List, None}
use Rattle.txs_world_protocol.specs.declared.ask.Ask.{Ask}
use Rattle.txs_value_cell.specs.declared.cell.CellDefinition.{CellDefinition}
use Rattle.txs_code_meaning.specs.Machine.{ThreadCode, Configuration, Turned, Ended, Failed, Asking, Unfinished, Stuck}
use Rattle.txs_theorem_runs.specs.Run.{Actor, Moved, turns_from}
use Rattle.txs_theorem_runs.specs.Shared.{Shared, book_for, may_ask}
use Rattle.txs_theorem_runs.specs.Staged.{IsStaged, TurnIsStaged}
use Rattle.txs_theorem_runs.specs.Stages.{Stage}
use Rattle.txs_theorem_alike.specs.Actors.{ActorsAlike, AsksNext}
use Rattle.txs_theorem_alike.specs.Books.{HasRoom}
use Rattle.txs_theorem_alike.specs.Stages.{AllAlike, AsksKeepAlike, with_stage}
use Rattle.txs_theorem_alike.specs.TriesLeft.{HasTry}

-- from here the code asks in its stages, and a transaction may run again
abbrev pub IsAble : Bool → ThreadCode → Turned Configuration → Type 0
IsAble agent code (Ended s) = Unit {0}
IsAble agent code (Failed f s) = Unit {0}
IsAble agent code (Asking s) = Unit {0}
IsAble agent code (Unfinished c) = HasTry c.doing × TurnIsStaged agent code c
IsAble agent code Stuck = Unit {0}

-- An actor that wasn't stopped stands in this stage, and is able to go on.
abbrev pub Stands : Bool → ThreadCode → Stage → Actor → Type 0
Stands agent code st k = k.stopped ≡ None → IsStaged agent st k.at × IsAble agent code k.at

-- what the actor asks next it may ask, and there is room for its event
abbrev pub AsksFreely : List CellDefinition → ℕ → ThreadCode → ℕ → Turned Configuration → Shared → Type 0
AsksFreely cells threads code a o sh = (q : Ask) → AsksNext code o q → (may_ask cells threads sh.taken a q (sh.books (book_for cells q)) ≡ true) × HasRoom cells q sh

-- what two actors came to, each over its own shared state, and stages in which they are then
pub record StayAlikeIn (cells : List CellDefinition) (agent : Bool) (a : ℕ) (x y : ℕ → Stage) (m n : Moved) : Type 0 where
  pub first : Stage
  pub other : Stage
  pub all : AllAlike cells m.shared n.shared (with_stage a first x) (with_stage a other y)
  pub in_first : m.actor.stopped ≡ None → IsStaged agent first m.actor.at
  pub in_other : n.actor.stopped ≡ None → IsStaged agent other n.actor.at

-- Where what is shared answers alike, a turn of an actor keeps all alike: the actor, what is shared, and the places of all actors.
abbrev pub TurnKeepsAlike : Type 0
TurnKeepsAlike = AsksKeepAlike → (cells : List CellDefinition) (threads : ℕ) (code : ThreadCode) (agent : Bool) (a : ℕ) (k l : Actor) (sh th : Shared) (x y : ℕ → Stage)
    → AllAlike cells sh th x y → ActorsAlike k l → Stands agent code (x a) k → Stands agent code (y a) l
    → AsksFreely cells threads code a k.at sh → AsksFreely cells threads code a l.at th
    → ActorsAlike (turns_from cells threads code a k.at k.stopped k sh).actor (turns_from cells threads code a l.at l.stopped l th).actor
    × StayAlikeIn cells agent a x y (turns_from cells threads code a k.at k.stopped k sh) (turns_from cells threads code a l.at l.stopped l th)
