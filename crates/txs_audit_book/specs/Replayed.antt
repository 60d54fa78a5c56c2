-- A book gone through, and what it is that it was gone through.
use Rattle.std.specs.Prelude.{◌≡◌, ◌<◌, ◌≤◌, ℕ, suc, Bool, nat_lt, List, [], ◌∷◌, length, take, Option, Some, None, if◌then◌else◌}
use Rattle.txs_tree_eval_transaction.specs.Views.{held, world_of}
use Rattle.txs_value_data.specs.Places.{nth}
use Rattle.txs_value_cell.specs.declared.action.Action.{Action}
use Rattle.txs_value_data.specs.declared.fault.Fault.{Fault}
use Rattle.txs_value_data.specs.declared.value.Value.{Value}
use Rattle.txs_world_book.specs.Book.{Mail, after, mail_after, newest, opening, value_or}
use Rattle.txs_world_book.specs.declared.cell.StoreCell.{StoreCell}
use Rattle.txs_world_protocol.specs.declared.event.Event.{Event}
use Rattle.txs_theorem_audit.specs.Audited.{Fine, Off}
use Rattle.txs_theorem_audit.specs.Verdict.{book_found}
use Rattle.txs_audit_book.specs.Tests.{store_test}
use Rattle.txs_audit_book.specs.declared.replay.Gone.{Gone}
use Rattle.txs_audit_book.specs.declared.replay.Gone.TheVariants.{Through, UpTo}

-- the cells as they opened, how many threads there are, and the book
pub record PlainReplay : Type 0 where
  pub cells : List StoreCell
  pub threads : ℕ
  pub book : List Event

abbrev pub plain_replay : List StoreCell → ℕ → List Event → PlainReplay
plain_replay cells threads book = record { cells = cells; threads = threads; book = book }

-- the newest value of the cell with this number, if there is one
abbrev pub newest_there : PlainReplay → ℕ → Option Value
newest_there r k = if nat_lt k (length r.cells) then Some (newest (opening r.cells) r.book k) else None

-- the fault of the agent with this number
abbrev pub failure_there : PlainReplay → ℕ → Option Fault
failure_there r k = (mail_after r.cells r.book k).fault

-- the actor of an event, 0 where there is none
abbrev pub actor_in : Option Event → ℕ
actor_in None = 0
actor_in (Some e) = e.actor

-- a book is legal by this test, or the event at an index is the first that isn't, whatever tells where an event stands in its actor's trace
abbrev pub IsLegalBook : (List Event → Event → Bool) → List Event → Type 0
IsLegalBook test book = (index : ℕ → ℕ → ℕ) → book_found test index [] book ≡ Fine

abbrev pub IsOffAt : (List Event → Event → Bool) → List Event → ℕ → Type 0
IsOffAt test book i = (i < length book) × ((index : ℕ → ℕ → ℕ) → book_found test index [] book ≡ Off (actor_in (nth book i)) (index (actor_in (nth book i)) i))

-- the store's book was gone through, or up to an event that may not stand there
abbrev pub WentThrough : List StoreCell → ℕ → List Event → Gone PlainReplay → Type 0
WentThrough cells threads book (Through r) = (r ≡ plain_replay cells threads book) × IsLegalBook (store_test cells threads) book
WentThrough cells threads book (UpTo i) = IsOffAt (store_test cells threads) book i

-- ---- what is looked up at an index of the book

-- the value of the cell with this number behind so many events, if there is one
abbrev pub value_there : PlainReplay → ℕ → ℕ → Option Value
value_there r k p = if nat_lt k (length r.cells) then Some (after (opening r.cells) r.book p k) else None

-- These histories give the worlds at each index of the store's book; and with an atom's swaps those at each index of its own.
pub record WorldsAre (r : PlainReplay) (histories : List (List (ℕ × Value))) : Type 0 where
  pub store : (p : ℕ) → world_of (record { cells = histories; swaps = None; place = p }) ≡ after (opening r.cells) r.book p
  pub atoms : (h : List (ℕ × Value)) (p : ℕ) → world_of (record { cells = histories; swaps = Some h; place = p }) ≡ (λ k. value_or (held h p) (opening r.cells k))

-- the mail of the agent with this number behind so many events
abbrev pub mail_there : PlainReplay → ℕ → ℕ → Mail
mail_there r k j = mail_after r.cells (take j r.book) k

-- this is the first action that waited at each index at which the agent had run one less
abbrev pub IsRun : PlainReplay → ℕ → ℕ → Option Action → Type 0
IsRun r k n a = (j : ℕ) → j ≤ length r.book → n ≡ suc (mail_there r k j).acts → (x : Action) (xs : List Action) → (mail_there r k j).actions ≡ x ∷ xs → a ≡ Some x
