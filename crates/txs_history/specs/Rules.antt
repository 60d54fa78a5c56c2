-- The rule of the words, and what their steps say.
use Rattle.std.specs.Prelude.{ℕ, ◌≡◌, ◌==◌, ◌<◌, true, List, [], ◌∷◌, ◌++◌, length, MatchBool}
use Rattle.logbook.specs.Pages.{Cell, cell, Step, View, Book, Named}
use Rattle.txs_history.specs.declared.log.Entry.{Entry}
use mathlib.Core.List.{IsPrefix}
use Rattle.txs_history.specs.History.{events_of, locks_in, IsWithin}

-- each word is the number of its lock's events
pub record IsKept {E : Type 0} (cells : List Cell) (log : List (Entry E)) : Type 0 where
  pub headed : locks_in log ≡ length cells
  pub within : IsWithin (length cells) log
  pub counted : (k : ℕ) → k < length cells → cell cells k ≡ (length (events_of k log), true)

abbrev pub word_of : ℕ → Book → Named
word_of k b = record { tracked = true; key = k; book = b }

-- the number of the lock's events was found
abbrev pub Looks : {E : Type 0} → Step (Entry E) → View (Entry E) ℕ → ℕ → View (Entry E) ℕ → Type 0
Looks s v found w = length (events_of s.key w.0) ≡ found

-- the event was added behind all that was seen, where its lock had as many as expected; or there were more of them
abbrev pub Adds : {E : Type 0} → Step (Entry E) → View (Entry E) ℕ → ℕ → View (Entry E) ℕ → Type 0
Adds s v found w = MatchBool (found == s.old) ((mid : List (Entry _)) × IsPrefix v.0 mid × (length (events_of s.key mid) ≡ s.old) × (w.0 ≡ mid ++ s.ask ∷ [])) (length (events_of s.key w.0) ≡ found)
