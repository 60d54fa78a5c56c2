-- The store and the atoms before the first ask.
use Rattle.std.proofs.Common.{◌≡◌, ◌+◌, ◌<◌, ◌≤◌, ◌&&◌, nat_lt, ℕ, zero, suc, Bool, true, false, List, [], ◌∷◌, length, map, get_or, Some, if◌then◌else◌, refl, ap, sym, ◌∙◌, arith}
use Rattle.std.proofs.lemmas.Bool.{false≢true}
use Rattle.std.proofs.lemmas.Bool.Decides.{nat_tests}
use Rattle.txs_value_data.specs.Places.{nth}
use Rattle.txs_value_cell.specs.Forms.{same_kind}
use Rattle.txs_value_cell.specs.declared.cell.CellDefinition.{CellDefinition}
use Rattle.txs_value_data.specs.declared.value.CellKind.{CellKind}
use Rattle.txs_value_data.specs.declared.value.CellKind.TheVariants.{Ref, Atom, Agent}
use Rattle.txs_code_meaning.specs.PlainCode.{PlainCode}
use Rattle.txs_world_protocol.specs.SeenEvent.{home, atoms_below}
use Rattle.txs_world_protocol.specs.declared.event.Event.{Event}
use Rattle.txs_world_book.specs.Atom.{PlainAtom}
use Rattle.txs_world_book.specs.Book.{is_of_kind, opened}
use Rattle.txs_world_book.specs.Served.{cell_of, cells_of}
use Rattle.txs_world_book.specs.declared.cell.StoreCell.{StoreCell}
use Rattle.txs_world.specs.Store.{PlainStore, store_with}
use Rattle.txs_theorem_runs.specs.Shared.{Shared, atom_of, has_atom, untouched}
use Rattle.txs_world_shared.specs.Kept.{atom_id, atoms_of, new_atom, state_of, without_book}
use Rattle.txs_world_shared.specs.SharedState.{PlainShared, shared_of}
use Rattle.txs_world_shared.proofs.Apart.{each_new}
use Rattle.txs_history.specs.Logged.{locks_of}
use Rattle.txs_threads.specs.Run.{AreOpened}

-- ---- the locks of the atoms, one after another

-- an atom of the cells without events, whose lock has this number
pub record IsNext (cells : List CellDefinition) (k : ℕ) (a : PlainAtom) : Type 0 where
  pub there : has_atom cells a.cell ≡ true
  pub is : a ≡ atom_of cells a.cell []
  pub home_is : home cells a.cell ≡ k

-- so are these, from this number on
abbrev pub AreNext : List CellDefinition → ℕ → List PlainAtom → Type 0
AreNext cells k [] = Unit {0}
AreNext cells k (a ∷ more) = IsNext cells k a × AreNext cells (suc k) more

atom_turned : (k : CellKind) → same_kind k Atom ≡ true → same_kind Atom k ≡ true
atom_turned Ref h = absurd (false≢true h)
atom_turned Atom h = refl
atom_turned Agent h = absurd (false≢true h)

one_more : (b : Bool) (k n x : ℕ) → n ≡ (if b then suc k else k) → k + (if b then suc x else x) ≡ n + x
one_more true k n x h = omega (arith, h)
one_more false k n x h = omega (arith, h)

small : (m n : ℕ) → m < n → nat_lt m n ≡ true
small m n lt = grind (arith, nat_tests, lt)

-- the definition at the place m opens the next atom, if one of an atom
next_new : (cells : List CellDefinition) (m k : ℕ) (d : CellDefinition) → nth (cells_of cells) m ≡ Some (cell_of d) → atoms_below cells m ≡ k → same_kind d.kind Atom ≡ true → IsNext cells (suc k) (new_atom m d)
next_new cells m k d at below is = record {
  there = ap (is_of_kind Atom) at ∙ atom_turned d.kind is;
  is = ap (λ v. record { cell = atom_id m; opening = v; book = [] }) (sym (ap opened at));
  home_is = ap suc below;
}

-- the definitions from the place m on open those behind the atoms before it
next_from : (cells ds : List CellDefinition) (m k : ℕ) → ((j : ℕ) → nth (cells_of cells) (m + j) ≡ nth (cells_of ds) j) → ((j : ℕ) → atoms_below cells (m + j) ≡ k + atoms_below ds j) → m + length ds ≤ 65536
    → AreNext cells (suc k) (atoms_of m ds)
next_from cells [] m k at below few = tt
next_from cells (d ∷ ds) m k at below few =
    go (same_kind d.kind Atom) (nat_lt m 65536) (small m 65536 (omega (arith, few)))
    (next_new cells m k d (ap (nth (cells_of cells)) (let n : m ≡ m + 0 = omega arith in n) ∙ at 0) (ap (atoms_below cells) (let n : m ≡ m + 0 = omega arith in n) ∙ below 0 ∙ omega arith))
    (λ n is. next_from cells ds (suc m) n
    (λ j. ap (nth (cells_of cells)) (along j) ∙ at (suc j))
    (λ j. ap (atoms_below cells) (along j) ∙ below (suc j) ∙ one_more (same_kind d.kind Atom) k n (atoms_below ds j) is)
    (omega (arith, few)))
  where
    along : (j : ℕ) → suc m + j ≡ m + suc j
    along j = omega arith

    go : (b t : Bool) → t ≡ true → (b ≡ true → IsNext cells (suc k) (new_atom m d)) → ((n : ℕ) → n ≡ (if b then suc k else k) → AreNext cells (suc n) (atoms_of (suc m) ds))
        → AreNext cells (suc k) (if b && t then new_atom m d ∷ atoms_of (suc m) ds else atoms_of (suc m) ds)
    go true true same one rest = (one refl, rest (suc k) refl)
    go true false same one rest = absurd (false≢true same)
    go false t same one rest = rest k refl

-- the atoms of the cells, whose locks come behind the store's
pub all_next : (cells : List CellDefinition) → length cells ≤ 65535 → AreNext cells 1 (atoms_of 0 cells)
all_next cells few = next_from cells cells 0 0 (λ j. ap (nth (cells_of cells)) (none j)) (λ j. ap (atoms_below cells) (none j) ∙ sym (none (atoms_below cells j))) (omega (arith, few))
  where
    none : (n : ℕ) → 0 + n ≡ n
    none n = omega arith

-- there is a lock for each
pub each_lock : (cells : List CellDefinition) → length cells ≤ 65535 → 1 + length (atoms_of 0 cells) ≡ locks_of cells
each_lock cells few = let n = each_new 0 cells (omega (arith, few)) in omega (arith, n)

-- ---- the parts of the state as it opens

none_done : (atoms : List PlainAtom) → ((k : ℕ) → get_or (map (λ (a : PlainAtom). a.book) atoms) k [] ≡ []) → atoms ≡ map without_book atoms
none_done [] h = refl
none_done (a ∷ more) h =
    ap (λ (b : List Event). (let x : PlainAtom = record { cell = a.cell; opening = a.opening; book = b } in x) ∷ more) (h zero) ∙ ap (λ l. without_book a ∷ l) (none_done more (λ k. h (suc k)))

same_store : (s : PlainStore) (cells : List StoreCell) (threads : ℕ) (book : List Event) (taken : List Bool) → s.cells ≡ cells → s.threads ≡ threads → s.book ≡ book → s.taken ≡ taken → s ≡ store_with cells threads book taken
same_store s cells threads book taken c t b k =
    ap (λ x. store_with x s.threads s.book s.taken) c ∙ ap (λ x. store_with cells x s.book s.taken) t ∙ ap (λ x. store_with cells threads x s.taken) b ∙ ap (λ x. store_with cells threads book x) k

-- they are the store and the atoms of the code's cells
pub parts_opened : (code : PlainCode) (s : PlainShared) (store : PlainStore) (atoms : List PlainAtom)
    → s.cells ≡ code.cells → s.threads ≡ length code.threads → shared_of s ≡ untouched code.cells
    → store.cells ≡ cells_of s.cells → map without_book atoms ≡ atoms_of 0 s.cells → state_of s.cells store atoms ≡ s → AreOpened code store atoms
parts_opened code s store atoms cells threads none store_is atoms_are is =
    let shared : shared_of (state_of s.cells store atoms) ≡ untouched code.cells = ap shared_of is ∙ none in
    record {
      store_is = same_store store (cells_of code.cells) (length code.threads) [] (untouched code.cells).taken
          (store_is ∙ ap cells_of cells) (ap (λ (x : PlainShared). x.threads) is ∙ threads) (ap (λ (x : Shared). x.books 0) shared) (ap (λ (x : Shared). x.taken) shared);
      atoms_are = none_done atoms (λ k. ap (λ (x : Shared). x.books (suc k)) shared) ∙ atoms_are ∙ ap (atoms_of 0) cells;
    }
