-- An actor that has the store for itself did what the store's book says of it.
use Rattle.std.proofs.Common.{◌≡◌, ℕ, zero, suc, Bool, true, false, ◌==◌, List, [], ◌∷◌, if◌then◌else◌, drop, Some, refl, sym, ap, ◌∙◌, subst}
use Rattle.txs_world_protocol.specs.declared.event.Event.{Event}
use Rattle.txs_value_data.proofs.SameLemmas.{number-itself}
use Rattle.txs_value_cell.specs.Cells.{World}
use Rattle.txs_value_data.specs.Places.{nth}
use Rattle.txs_value_cell.specs.declared.cell.CellDefinition.{CellDefinition}
use Rattle.txs_world_book.specs.Book.{opening}
use Rattle.txs_world_book.specs.History as world
use Rattle.txs_world_book.specs.Laws.{HistoryOfWhole}
use Rattle.txs_world_book.specs.Served.{cells_of}
use Rattle.txs_theorem_runs.specs.Laws.{alone, AloneHistory}
use Rattle.txs_theorem_runs.specs.Told.{Place, trace_of, places_in, places_by, seen_before, seen_of}

abbrev is_empty : List ℕ → Type 0
is_empty [] = Unit {0}
is_empty (x ∷ xs) = ⊥

-- the store's places
abbrev store_places : List ℕ → List Place
store_places [] = []
store_places (k ∷ ks) = record { book = 0; at = k } ∷ store_places ks

-- a trace of no atom's book is of the store's
all_of_store : (ps : List Place) → ((n : ℕ) → places_in (suc n) ps ≡ []) → ps ≡ store_places (places_in 0 ps)
all_of_store [] h = refl
all_of_store (p ∷ ps) h = go p.book refl (all_of_store ps (λ n. rest n (p.book == suc n) (h n)))
  where
    rest : (n : ℕ) (b : Bool) → (if b then p.at ∷ places_in (suc n) ps else places_in (suc n) ps) ≡ [] → places_in (suc n) ps ≡ []
    rest n true e = absurd (subst is_empty (sym e) tt)
    rest n false e = e

    of_store : (p : Place) (k : ℕ) → p.book ≡ 0 → p.at ≡ k → p ≡ record { book = 0; at = k }
    of_store p k e f = rw (e, f) refl

    go : (b : ℕ) → p.book ≡ b → ps ≡ store_places (places_in 0 ps) → p ∷ ps ≡ store_places (if p.book == 0 then p.at ∷ places_in 0 ps else places_in 0 ps)
    go zero e r =
        ap (λ l. p ∷ l) r ∙ ap (λ x. x ∷ store_places (places_in 0 ps)) (of_store p p.at e refl)
        ∙ ap (λ b. store_places (if b then p.at ∷ places_in 0 ps else places_in 0 ps)) (sym (ap (λ i. i == 0) e))
    go (suc m) e r = absurd (subst is_empty (sym (sym (ap (λ b. if b then p.at ∷ places_in (suc m) ps else places_in (suc m) ps) (ap (λ i. i == suc m) e ∙ number-itself (suc m))) ∙ h m)) tt)

there : (book : List Event) (k : ℕ) (e : Event) (es : List Event) → drop k book ≡ e ∷ es → nth book k ≡ Some e
there [] zero e es h = absurd (subst is_none_left h tt)
  where
    is_none_left : List Event → Type 0
    is_none_left [] = Unit {0}
    is_none_left (x ∷ xs) = ⊥
there [] (suc k) e es h = absurd (subst is_none_left h tt)
  where
    is_none_left : List Event → Type 0
    is_none_left [] = Unit {0}
    is_none_left (x ∷ xs) = ⊥
there (d ∷ book) zero e es h = ap (λ l. nth l 0) h
there (d ∷ book) (suc k) e es h = there book k e es h

behind : (book : List Event) (k : ℕ) (e : Event) (es : List Event) → drop k book ≡ e ∷ es → drop (suc k) book ≡ es
behind [] zero e es h = absurd (subst is_none_left h tt)
  where
    is_none_left : List Event → Type 0
    is_none_left [] = Unit {0}
    is_none_left (x ∷ xs) = ⊥
behind [] (suc k) e es h = absurd (subst is_none_left h tt)
  where
    is_none_left : List Event → Type 0
    is_none_left [] = Unit {0}
    is_none_left (x ∷ xs) = ⊥
behind (d ∷ book) zero e es h = first book ∙ ap (drop 1) h
  where
    first : (l : List Event) → l ≡ l
    first l = refl
behind (d ∷ book) (suc k) e es h = behind book k e es h

module _ (cells : List CellDefinition) (a : ℕ) (book : List Event) where
  abbrev w : World
  w = opening (cells_of cells)

  -- the actor's events from a place on, at their places of the book
  replayed : (k : ℕ) (es : List Event) → drop k book ≡ es → seen_of cells (alone book) (store_places (places_by a k es)) ≡ world.replayed_from w a book k es
  replayed k [] h = refl
  replayed k (e ∷ es) h = go (e.actor == a) (replayed (suc k) es (behind book k e es h))
    where
      go : (b : Bool) → seen_of cells (alone book) (store_places (places_by a (suc k) es)) ≡ world.replayed_from w a book (suc k) es
          → seen_of cells (alone book) (store_places (if b then k ∷ places_by a (suc k) es else places_by a (suc k) es)) ≡ world.before b (world.past_at w book k e.kind) (world.replayed_from w a book (suc k) es)
      go true r =
          ap (λ o. seen_before cells (alone book) (record { book = 0; at = k }) o (seen_of cells (alone book) (store_places (places_by a (suc k) es)))) (there book k e es h)
          ∙ ap (λ l. world.past_at w book k e.kind ∷ l) r
      go false r = r

pub alone_history : HistoryOfWhole → AloneHistory
alone_history whole cells threads book agent a es st legal t =
    ap (seen_of cells (alone book)) (all_of_store (trace_of cells (alone book) a es) (λ n. t.traced (suc n)) ∙ ap store_places (t.traced 0))
    ∙ replayed cells a book 0 book refl
    ∙ sym (whole (cells_of cells) threads (opening (cells_of cells)) a book legal)
