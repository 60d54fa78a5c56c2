-- The state where nothing was done yet.
use Rattle.std.proofs.Common.{◌≡◌, ℕ, zero, suc, Bool, true, false, List, [], ◌∷◌, map, get_or, refl, sym, ap, subst, arith, if◌then◌else◌}
use Rattle.std.proofs.Math.Path.{fun_ext}
use Rattle.txs_world_protocol.specs.declared.event.Event.{Event}
use Rattle.txs_value_cell.specs.declared.cell.CellDefinition.{CellDefinition}
use Rattle.txs_world_book.specs.Atom.{PlainAtom}
use Rattle.txs_world.specs.Store.{PlainStore, store_with, none_taken}
use Rattle.txs_world_book.specs.Served.{cells_of}
use Rattle.txs_theorem_runs.specs.Invariant.{SharedStands}
use Rattle.txs_theorem_runs.specs.Shared.{untouched}
use Rattle.txs_theorem_runs.proofs.Told.{fresh_stands}
use Rattle.txs_world_shared.specs.Kept.{state_of, opens_atom, new_atom, atoms_of, places_of, without_book, IsKept}
use Rattle.txs_world_shared.specs.SharedState.{shared_of}

-- no atom has an event
none_at : (m : ℕ) (cells : List CellDefinition) (n : ℕ) → get_or (map (λ a. a.book) (atoms_of m cells)) n [] ≡ []
none_at m [] n = refl
none_at m (d ∷ ds) n = go (opens_atom m d) n (none_at (suc m) ds)
  where
    go : (b : Bool) (k : ℕ) → ((i : ℕ) → get_or (map (λ a. a.book) (atoms_of (suc m) ds)) i [] ≡ []) → get_or (map (λ a. a.book) (if b then new_atom m d ∷ atoms_of (suc m) ds else atoms_of (suc m) ds)) k [] ≡ []
    go true zero h = refl
    go true (suc k) h = h k
    go false k h = h k

unbooked : (m : ℕ) (cells : List CellDefinition) → map without_book (atoms_of m cells) ≡ atoms_of m cells
unbooked m [] = refl
unbooked m (d ∷ ds) = go (opens_atom m d) (unbooked (suc m) ds)
  where
    go : (b : Bool) → map without_book (atoms_of (suc m) ds) ≡ atoms_of (suc m) ds → map without_book (if b then new_atom m d ∷ atoms_of (suc m) ds else atoms_of (suc m) ds) ≡ (if b then new_atom m d ∷ atoms_of (suc m) ds else atoms_of (suc m) ds)
    go true h = ap (λ l. new_atom m d ∷ l) h
    go false h = h

-- the store of these cells before its first event
abbrev pub new_store : List CellDefinition → ℕ → PlainStore
new_store cells threads = store_with (cells_of cells) threads [] (none_taken (cells_of cells))

opened : (cells : List CellDefinition) (threads : ℕ) → shared_of (state_of cells (new_store cells threads) (atoms_of 0 cells)) ≡ untouched cells
opened cells threads = ap (λ (b : ℕ → List Event). record { books = b; taken = none_taken (cells_of cells) }) (fun_ext none_in)
  where
    none_in : (n : ℕ) → get_or ([] ∷ map (λ a. a.book) (atoms_of 0 cells)) n [] ≡ []
    none_in zero = refl
    none_in (suc n) = none_at 0 cells n

pub untouched_stands : (cells : List CellDefinition) (threads : ℕ) → SharedStands cells threads (untouched cells)
untouched_stands cells threads = record { store = fresh_stands cells threads; atoms = λ c h. record { few = omega arith; each = tt }; by_threads = λ c h. tt }

pub opened_shared : (cells own : List CellDefinition) (threads : ℕ) (store : PlainStore) (atoms : List PlainAtom) → own ≡ cells → store ≡ new_store cells threads → atoms ≡ atoms_of 0 cells → shared_of (state_of own store atoms) ≡ untouched cells
opened_shared cells own threads store atoms c s a =
    subst (λ x. shared_of (state_of x store atoms) ≡ untouched cells) (sym c)
    (subst (λ x. shared_of (state_of cells x atoms) ≡ untouched cells) (sym s)
    (subst (λ x. shared_of (state_of cells (new_store cells threads) x) ≡ untouched cells) (sym a) (opened cells threads)))

pub opened_kept : (cells own : List CellDefinition) (threads : ℕ) (store : PlainStore) (atoms : List PlainAtom) (places : List ℕ) → own ≡ cells → store ≡ new_store cells threads → atoms ≡ atoms_of 0 cells → places ≡ places_of 0 cells → IsKept own store atoms places
opened_kept cells own threads store atoms places c s a p =
    subst (λ x. IsKept x store atoms places) (sym c)
    (subst (λ x. IsKept cells x atoms places) (sym s)
    (subst (λ x. IsKept cells (new_store cells threads) x places) (sym a)
    (subst (IsKept cells (new_store cells threads) (atoms_of 0 cells)) (sym p) (record {
      cells_are = refl;
      atoms_are = unbooked 0 cells;
      places_are = refl;
      stands = subst (SharedStands cells threads) (sym (opened cells threads)) (untouched_stands cells threads);
    }))))
