-- Where actors are in a book, and which actor is whose.
use Rattle.std.specs.Prelude.{◌≡◌, ◌<◌, ◌≤◌, ℕ, true, false, Bool, ◌&&◌, ◌==◌, List, length, slice_index, if◌then◌else◌}
use Rattle.std.proofs.Common.{get_or}
use Rattle.txs_world_protocol.specs.declared.event.Event.{Event}
use Rattle.txs_world_book.specs.Book.{agents_below, all_before}
use Rattle.txs_world_book.specs.declared.cell.StoreCell.{StoreCell}

-- how many events there are up to the actor's last one that counts
pub record StandsAt (all : Bool) (book : List Event) (a n : ℕ) : Type 0 where
  pub stands : (p : ℕ) → n ≤ p → all_before all a p book ≡ true
  pub passed : (p : ℕ) → p < n → all_before all a p book ≡ false

-- where an actor stands after an event of this one, the last of so many, where it counts
abbrev pub mark_at : Bool → Bool → ℕ → ℕ → ℕ
mark_at counts own n stand = if own && counts then n else stand

-- where actors stand after an event of this one, the last of so many, where it counts
abbrev pub Marked : Bool → ℕ → ℕ → List ℕ → List ℕ → Type 0
Marked counts a n old new = (b : ℕ) → slice_index new b ≡ mark_at counts (a == b) n (slice_index old b)

-- every actor is where it was
abbrev pub StandAsBefore : List ℕ → List ℕ → Type 0
StandAsBefore old new = (b : ℕ) → slice_index new b ≡ slice_index old b

-- of each cell it is known how many agents there are before it, and how many there are
pub record AreCounted (cells : List StoreCell) (before : List ℕ) (agents : ℕ) : Type 0 where
  pub many : length before ≡ length cells
  pub each : (k : ℕ) → k < length before → get_or before k 0 ≡ agents_below cells k
  pub all : agents ≡ agents_below cells (length cells)
