-- What holds of the state that all actors share.
use Rattle.std.specs.Prelude.{◌≡◌, ℕ, true, List, [], ◌∷◌}
use Rattle.txs_world_protocol.specs.declared.ask.Ask.{Ask}
use Rattle.txs_value_cell.specs.declared.cell.CellDefinition.{CellDefinition}
use Rattle.txs_theorem_runs.specs.Invariant.{SharedStands}
use Rattle.txs_theorem_runs.specs.Shared.{Shared, untouched, book_for, serve_on, may_ask, shared_after}

-- what is shared after an actor's ask was served
abbrev pub after_ask : List CellDefinition → ℕ × Ask → Shared → Shared
after_ask cells x sh = shared_after cells x.1 (serve_on cells x.0 x.1 (sh.books (book_for cells x.1))) sh

-- what is shared after these asks of actors were served, one after another
abbrev pub after_asks : List CellDefinition → List (ℕ × Ask) → Shared → Shared
after_asks cells [] sh = sh
after_asks cells (x ∷ xs) sh = after_asks cells xs (after_ask cells x sh)

-- each of these asks may be made, where those before it were served
abbrev pub AreLawful : List CellDefinition → ℕ → List (ℕ × Ask) → Shared → Type 0
AreLawful cells threads [] sh = Unit {0}
AreLawful cells threads (x ∷ xs) sh = (may_ask cells threads sh.taken x.0 x.1 (sh.books (book_for cells x.1)) ≡ true) × AreLawful cells threads xs (after_ask cells x sh)

-- where nothing was done yet, the books are legal
abbrev pub UntouchedStands : Type 0
UntouchedStands = (cells : List CellDefinition) (threads : ℕ) → SharedStands cells threads (untouched cells)

-- after any number of lawful asks the books are legal, where they were before
abbrev pub ServesStand : Type 0
ServesStand =
    (cells : List CellDefinition) (threads : ℕ) (xs : List (ℕ × Ask)) (sh : Shared)
    → AreLawful cells threads xs sh → SharedStands cells threads sh → SharedStands cells threads (after_asks cells xs sh)
