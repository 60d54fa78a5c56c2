-- The outcomes that an exploration lists: what ways come to, their text, and their status.
use Rattle.std.specs.Prelude.{◌≡◌, ◌⊎◌, ◌&&◌, ℕ, suc, max, nat_lt, Bool, true, false, List, [], ◌∷◌, ◌++◌, length, codes, decimal}
use Rattle.txs_explore.specs.System.{IsIn}
use Rattle.txs_cli_explore.specs.Changes.{IsChange, lines_in}
use Rattle.txs_cli_explore.specs.declared.outcomes.Outcome.{Outcome}

-- ---- the list

-- two outcomes have the same lines and the same status
abbrev pub AreSame : Outcome → Outcome → Type 0
AreSame a b = (a.lines.items ≡ b.lines.items) × (a.status ≡ b.status)

-- one of these outcomes is the same
abbrev pub IsListed : Outcome → List Outcome → Type 0
IsListed o os = (x : Outcome) × IsIn x os × AreSame x o

-- none of these outcomes is the same
abbrev pub IsNew : Outcome → List Outcome → Type 0
IsNew o os = (x : Outcome) → IsIn x os → AreSame x o → ⊥

-- each outcome is listed once
abbrev pub AreDistinct : List Outcome → Type 0
AreDistinct [] = Unit {0}
AreDistinct (o ∷ os) = IsNew o os × AreDistinct os

-- nothing is added where the outcome is listed; else it is listed behind the others
abbrev pub Adds : Outcome → List Outcome → List Outcome → Type 0
Adds o old new = (IsListed o old × (new ≡ old)) ⊎ (IsNew o old × (new ≡ old ++ o ∷ []))

-- These are the outcomes of these ways, where it is known which outcomes come by which way, and what lines and status a way has. Each outcome comes by a way, and has its lines and status.
-- Of each way there is an outcome with its lines and status. None is listed twice.
pub record AreOutcomes {W : Type 0} (Comes : Outcome → W → Type 0) (Has : W → List ℕ → ℕ → Type 0) (ways : List W) (os : List Outcome) : Type 0 where
  pub each : (o : Outcome) → IsIn o os → (w : W) × IsIn w ways × Comes o w × Has w o.lines.items o.status
  pub all : (w : W) → IsIn w ways → (o : Outcome) × IsIn o os × Has w o.lines.items o.status
  pub once : AreDistinct os

-- ---- the status

-- the highest of this status and those of these outcomes
abbrev pub highest : ℕ → List Outcome → ℕ
highest n [] = n
highest n (o ∷ os) = highest (max n o.status) os

-- the status of the search: 4 where it didn't go everywhere; else 3 where outcomes differ that were to be the same
abbrev pub search_status : Bool → Bool → ℕ
search_status false differ = 4
search_status true true = 3
search_status true false = 0

-- the highest status of the search and of its outcomes, where these were to be the same or weren't
abbrev pub status_of : Bool → Bool → List Outcome → ℕ
status_of whole same os = highest (search_status whole (same && nat_lt 1 (length os))) os

-- ---- the text

-- a list of plays as it is written behind an option: of the empty list two quotes
abbrev pub as_word : List ℕ → List ℕ
as_word [] = codes "\"\""
as_word (b ∷ bs) = b ∷ bs

-- the head of an outcome: its number, and its list of plays
abbrev pub head : ℕ → List ℕ → List ℕ
head n list = (((codes "outcome " ++ decimal n) ++ codes ", by --turns ") ++ as_word list) ++ codes "\n"

-- an outcome behind the first one: its head, and the change from the first one's lines
pub record IsBlock (first : Outcome) (n : ℕ) (o : Outcome) (block : List ℕ) : Type 0 where
  pub change : List ℕ
  pub is_change : IsChange (lines_in first.lines.items) (lines_in o.lines.items) change
  pub written : block ≡ head n o.list.items ++ change

-- such outcomes, from this number on
abbrev pub AreBlocks : Outcome → ℕ → List Outcome → List ℕ → Type 0
AreBlocks first n [] text = text ≡ []
AreBlocks first n (o ∷ os) text = (block : List ℕ) × (rest : List ℕ) × IsBlock first n o block × (text ≡ block ++ rest) × AreBlocks first (suc n) os rest

-- all outcomes: the head and the lines of the first one, and then the others
abbrev pub AreWritten : List Outcome → List ℕ → Type 0
AreWritten [] text = text ≡ []
AreWritten (o ∷ os) text = (rest : List ℕ) × (text ≡ (head 1 o.list.items ++ o.lines.items) ++ rest) × AreBlocks o 2 os rest
