-- What one atom may be asked, and when parts are those of a state.
use Rattle.std.proofs.Common.{◌≡◌, ◌<◌, ◌≤◌, ◌+◌, ◌==◌, ℕ, zero, suc, Bool, true, false, ◌&&◌, nat_lt, List, [], ◌∷◌, ◌++◌, length, map, drop, get_or, refl, sym, ap, subst, ◌∙◌, arith, drop-cons, add-one, if◌then◌else◌}
use Rattle.std.proofs.lemmas.Bool.{false≢true}
use Rattle.std.proofs.lemmas.Bool.Decides.{nat_tests}
use Rattle.txs_world_protocol.specs.SeenEvent.{home, atoms_below}
use Rattle.txs_world_protocol.specs.declared.event.Event.{Event}
use Rattle.txs_value_data.proofs.SameLemmas.{and_both}
use Rattle.txs_value_cell.specs.Forms.{same_kind}
use Rattle.txs_value_cell.specs.declared.cell.CellDefinition.{CellDefinition}
use Rattle.txs_value_data.specs.declared.value.CellId.{CellId}
use Rattle.txs_value_data.specs.declared.value.CellKind.TheVariants.{Atom}
use Rattle.txs_world_book.specs.Atom.{PlainAtom, LegalAtom}
use Rattle.txs_world_book.specs.Book.{actors, Each}
use Rattle.txs_world.specs.Laws.{StoreStands}
use Rattle.txs_world.specs.Store.{PlainStore, store_with}
use Rattle.txs_theorem_runs.specs.Explains.{AreActors}
use Rattle.txs_theorem_runs.specs.Invariant.{SharedStands}
use Rattle.txs_theorem_runs.specs.Shared.{is_atom, has_atom}
use Rattle.txs_world_shared.specs.Apart.{MadeByActors, AllByActors, AreLegal, ArePartsOf}
use Rattle.txs_world_shared.specs.Kept.{state_of, opens_atom, new_atom, atoms_of, places_of, without_book, no_atom, IsKept}
use Rattle.txs_world_shared.specs.SharedState.{shared_of}
use Rattle.txs_world_shared.proofs.Placing.{atom_is, unbooked_many}

-- ---- what one atom may be asked

same_number : (c d : CellId) (t b : Bool) → (t && ((same_kind c.kind d.kind && c.number == d.number) && b)) ≡ true → ((c.number == d.number) ≡ true) × (b ≡ true)
same_number c d t b h =
    let r = and_both (same_kind c.kind d.kind && c.number == d.number) b (and_both t ((same_kind c.kind d.kind && c.number == d.number) && b) h).1 in
    ((and_both (same_kind c.kind d.kind) (c.number == d.number) r.0).1, r.1)

-- ---- parts of a state

actors_each : (n : ℕ) (done es : List Event) → MadeByActors n es → Each (λ xs e. e.actor < n) done es
actors_each n done [] h = tt
actors_each n done (e ∷ es) h = (h.0, actors_each n (done ++ e ∷ []) es h.1)

actors_at : (n : ℕ) (xs : List PlainAtom) (i : ℕ) → AllByActors n xs → AreActors n (get_or (map (λ (x : PlainAtom). x.book) xs) i [])
actors_at n [] i h = tt
actors_at n (x ∷ xs) zero h = actors_each n [] x.book h.0
actors_at n (x ∷ xs) (suc i) h = actors_at n xs i h.1

legal_at : (xs : List PlainAtom) (i : ℕ) → AreLegal xs → i < length xs → LegalAtom (get_or xs i no_atom).cell (get_or xs i no_atom).book
legal_at [] i h lt = absurd (omega (arith, lt))
legal_at (x ∷ xs) zero h lt = h.0
legal_at (x ∷ xs) (suc i) h lt = legal_at xs i h.1 (omega (arith, lt))

none_behind : (xs : List PlainAtom) (i : ℕ) → length xs ≤ i → get_or (map (λ (x : PlainAtom). x.book) xs) i [] ≡ []
none_behind [] i le = refl
none_behind (x ∷ xs) zero le = absurd (omega (arith, le))
none_behind (x ∷ xs) (suc i) le = none_behind xs i (omega (arith, le))

not_small : (m n : ℕ) → n ≤ m → nat_lt m n ≡ false
not_small m n le = grind (arith, nat_tests, le)

unopened : (m : ℕ) (d : CellDefinition) → 65536 ≤ m → opens_atom m d ≡ false
unopened m d le = ap (λ b. same_kind d.kind Atom && b) (not_small m 65536 le) ∙ go (same_kind d.kind Atom)
  where
    go : (b : Bool) → (b && false) ≡ false
    go true = refl
    go false = refl

none_new : (m : ℕ) (cells : List CellDefinition) → 65536 ≤ m → length (atoms_of m cells) ≤ 0
none_new m [] le = omega arith
none_new m (d ∷ ds) le = subst (λ b. length (if b then new_atom m d ∷ atoms_of (suc m) ds else atoms_of (suc m) ds) ≤ 0) (sym (unopened m d le)) (none_new (suc m) ds (omega (arith, le)))

-- a cell with a number that no cell id has comes behind all atoms
few_new : (m : ℕ) (cells : List CellDefinition) (k : ℕ) → 65536 ≤ m + k → length (atoms_of m cells) ≤ atoms_below cells k
few_new m [] k le = omega arith
few_new m (d ∷ ds) zero le = none_new m (d ∷ ds) (omega (arith, le))
few_new m (d ∷ ds) (suc k) le = go (same_kind d.kind Atom) (nat_lt m 65536) (few_new (suc m) ds k (omega (arith, le)))
  where
    go : (b t : Bool) → length (atoms_of (suc m) ds) ≤ atoms_below ds k → length (if b && t then new_atom m d ∷ atoms_of (suc m) ds else atoms_of (suc m) ds) ≤ (if b then suc (atoms_below ds k) else atoms_below ds k)
    go true true r = omega (arith, r)
    go true false r = omega (arith, r)
    go false t r = r

-- where each cell has a number that a cell id has, there is an atom for each that a script defines
pub each_new : (m : ℕ) (cells : List CellDefinition) → m + length cells ≤ 65536 → length (atoms_of m cells) ≡ atoms_below cells (length cells)
each_new m [] le = refl
each_new m (d ∷ ds) le = go (same_kind d.kind Atom) (nat_lt m 65536) (small m 65536 (omega (arith, le))) (each_new (suc m) ds (omega (arith, le)))
  where
    small : (i n : ℕ) → i < n → nat_lt i n ≡ true
    small i n lt = grind (arith, nat_tests, lt)

    go : (b t : Bool) → t ≡ true → length (atoms_of (suc m) ds) ≡ atoms_below ds (length ds)
        → length (if b && t then new_atom m d ∷ atoms_of (suc m) ds else atoms_of (suc m) ds) ≡ (if b then suc (atoms_below ds (length ds)) else atoms_below ds (length ds))
    go true true e r = ap suc r
    go true false e r = absurd (false≢true e)
    go false t e r = r

-- ---- atoms that opened alike

head_in : List PlainAtom → PlainAtom
head_in [] = no_atom
head_in (x ∷ xs) = x

tail_in : List PlainAtom → List PlainAtom
tail_in [] = []
tail_in (x ∷ xs) = xs

-- these opened like the others
abbrev pub OpenedLike : List PlainAtom → List PlainAtom → Type 0
OpenedLike xs ys = map without_book xs ≡ map without_book ys

module _ (xs ys : List PlainAtom) (i : ℕ) (x y : PlainAtom) (lx : i < length xs) (ly : i < length ys) (rx : x ≡ get_or xs i x) (ry : y ≡ get_or ys i y) where
  from_x : drop i xs ≡ x ∷ drop (i + 1) xs
  from_x = drop-cons xs i x lx ∙ ap (λ z. z ∷ drop (suc i) xs) (sym rx) ∙ ap (λ (k : ℕ). x ∷ drop k xs) (sym (add-one i))

  from_y : drop i ys ≡ y ∷ drop (i + 1) ys
  from_y = drop-cons ys i y ly ∙ ap (λ z. z ∷ drop (suc i) ys) (sym ry) ∙ ap (λ (k : ℕ). y ∷ drop k ys) (sym (add-one i))

  pub like_more : without_book x ≡ without_book y → OpenedLike (drop (i + 1) xs) (drop (i + 1) ys) → OpenedLike (drop i xs) (drop i ys)
  like_more e h =
      ap (map without_book) (from_x) ∙ ap (λ z. z ∷ map without_book (drop (i + 1) xs)) e ∙ ap (λ zs. without_book y ∷ zs) h ∙ sym (ap (map without_book) (from_y))

  both_from : OpenedLike (drop i xs) (drop i ys) → (without_book x ∷ map without_book (drop (i + 1) xs)) ≡ (without_book y ∷ map without_book (drop (i + 1) ys))
  both_from h = sym (ap (map without_book) (from_x)) ∙ h ∙ ap (map without_book) (from_y)

  pub like_here : OpenedLike (drop i xs) (drop i ys) → without_book x ≡ without_book y
  unfolding head_in
  like_here h = ap head_in (both_from h)

  pub like_rest : OpenedLike (drop i xs) (drop i ys) → OpenedLike (drop (i + 1) xs) (drop (i + 1) ys)
  unfolding tail_in
  like_rest h = ap tail_in (both_from h)

-- what is shared stands, where its parts do
module _ (cells : List CellDefinition) (store : PlainStore) (atoms : List PlainAtom) (parts : ArePartsOf cells store atoms) (legal : AreLegal atoms) where
  is_home : (c : CellId) → has_atom cells c ≡ true → home cells c ≡ suc (atoms_below cells c.number)
  is_home c has = ap (λ b. if b then suc (atoms_below cells c.number) else 0) (and_both (is_atom c) _ has).0

  book_there : (c : CellId) → has_atom cells c ≡ true → get_or (store.book ∷ map (λ (x : PlainAtom). x.book) atoms) (home cells c) [] ≡ get_or (map (λ (x : PlainAtom). x.book) atoms) (atoms_below cells c.number) []
  book_there c has = ap (λ i. get_or (store.book ∷ map (λ (x : PlainAtom). x.book) atoms) i []) (is_home c has)

  atom_stands : (c : CellId) → has_atom cells c ≡ true → LegalAtom c (get_or (map (λ (x : PlainAtom). x.book) atoms) (atoms_below cells c.number) [])
  atom_stands c has = go (nat_lt c.number 65536) refl
    where
      go : (b : Bool) → nat_lt c.number 65536 ≡ b → LegalAtom c (get_or (map (λ (x : PlainAtom). x.book) atoms) (atoms_below cells c.number) [])
      go true e =
          let lt : c.number < 65536 = grind (arith, nat_tests, e) in
          let is = atom_is cells atoms c parts.atoms_are has lt in
          subst (λ (x : PlainAtom). LegalAtom x.cell x.book) is.is (legal_at atoms (atoms_below cells c.number) legal is.within)
      go false e =
          let le : 65536 ≤ c.number = grind (arith, nat_tests, e) in
          let few = few_new 0 cells c.number (omega (arith, le)) in
          let many = sym (unbooked_many atoms) ∙ ap length parts.atoms_are in
          subst (LegalAtom c) (sym (none_behind atoms (atoms_below cells c.number) (omega (arith, few, many)))) (record { few = omega arith; each = tt })

  pub parts_stand : StoreStands store → SharedStands cells store.threads (shared_of (state_of cells store atoms))
  parts_stand st = record {
    store = subst (λ cs. StoreStands (store_with cs store.threads store.book store.taken)) parts.store_is st;
    atoms = λ c has. subst (LegalAtom c) (sym (book_there c has)) (atom_stands c has);
    by_threads = λ c has. subst (λ ds. AreActors (actors store.threads ds) (get_or (store.book ∷ map (λ (x : PlainAtom). x.book) atoms) (home cells c) [])) parts.store_is
        (subst (AreActors (actors store.threads store.cells)) (sym (book_there c has)) (actors_at (actors store.threads store.cells) atoms (atoms_below cells c.number) parts.by_actors));
  }

pub joined_kept : (cells own : List CellDefinition) (store : PlainStore) (atoms : List PlainAtom) (places : List ℕ) → own ≡ cells → places ≡ places_of 0 own → ArePartsOf cells store atoms → AreLegal atoms → StoreStands store → IsKept own store atoms places
joined_kept cells own store atoms places c p parts legal st =
    let here : ArePartsOf own store atoms = subst (λ ds. ArePartsOf ds store atoms) (sym c) parts in
    record { cells_are = here.store_is; atoms_are = here.atoms_are; places_are = p; stands = parts_stand own store atoms here legal st }
