-- Where an atom stands among the atoms.
use Rattle.std.proofs.Common.{◌≡◌, ◌<◌, ◌≤◌, ◌+◌, ℕ, zero, suc, Bool, true, false, ◌&&◌, nat_lt, List, [], ◌∷◌, length, map, get_or, refl, sym, ap, subst, ◌∙◌, arith, if◌then◌else◌}
use Rattle.std.specs.Prelude.{min}
use Rattle.std.proofs.lemmas.Bool.{false≢true}
use Rattle.std.proofs.lemmas.Bool.Decides.{nat_tests}
use Rattle.txs_world_protocol.specs.SeenEvent.{home, atoms_below}
use Rattle.txs_world_protocol.specs.declared.event.Event.{Event}
use Rattle.txs_value_data.proofs.SameLemmas.{and_both}
use Rattle.txs_value_cell.specs.Forms.{same_kind}
use Rattle.txs_value_data.specs.Places.{nth}
use Rattle.txs_value_cell.specs.declared.cell.CellDefinition.{CellDefinition}
use Rattle.txs_value_data.specs.declared.value.CellId.{CellId}
use Rattle.txs_value_data.specs.declared.value.CellKind.{CellKind}
use Rattle.txs_value_data.specs.declared.value.CellKind.TheVariants.{Ref, Atom, Agent}
use Rattle.txs_world_book.specs.Atom.{PlainAtom}
use Rattle.txs_world_book.specs.Book.{has_cell, is_of_kind, opening}
use Rattle.txs_world_book.specs.Served.{cells_of}
use Rattle.txs_theorem_runs.specs.Shared.{is_atom, has_atom, atom_of}
use Rattle.txs_world_shared.specs.Kept.{atom_id, opens_atom, new_atom, atoms_of, places_of, without_book, no_atom}

-- ---- places

pub few_below : (cells : List CellDefinition) (k : ℕ) → atoms_below cells k ≤ k
few_below [] k = omega arith
few_below (d ∷ ds) zero = omega arith
few_below (d ∷ ds) (suc k) = go (same_kind d.kind Atom) (few_below ds k)
  where
    go : (b : Bool) → atoms_below ds k ≤ k → (if b then suc (atoms_below ds k) else atoms_below ds k) ≤ suc k
    go true h = omega (arith, h)
    go false h = omega (arith, h)

pub many_places : (n : ℕ) (cells : List CellDefinition) → length (places_of n cells) ≡ suc (length cells)
many_places n [] = refl
many_places n (d ∷ ds) = ap suc (many_places (if same_kind d.kind Atom then suc n else n) ds)

place_at : (n : ℕ) (cells : List CellDefinition) (k : ℕ) → k ≤ length cells → get_or (places_of n cells) k 0 ≡ n + atoms_below cells k
place_at n [] zero le = omega arith
place_at n [] (suc k) le = absurd (omega (arith, le))
place_at n (d ∷ ds) zero le = omega arith
place_at n (d ∷ ds) (suc k) le = go (same_kind d.kind Atom) (λ m. place_at m ds k (omega (arith, le)))
  where
    go : (b : Bool) → ((m : ℕ) → get_or (places_of m ds) k 0 ≡ m + atoms_below ds k) → get_or (places_of (if b then suc n else n) ds) k 0 ≡ n + (if b then suc (atoms_below ds k) else atoms_below ds k)
    go true r = let h = r (suc n) in omega (arith, h)
    go false r = r n

-- behind the last cell as many atoms are as there are in all
all_below : (cells : List CellDefinition) (k : ℕ) → length cells ≤ k → atoms_below cells k ≡ atoms_below cells (length cells)
all_below [] k le = refl
all_below (d ∷ ds) zero le = absurd (omega (arith, le))
all_below (d ∷ ds) (suc k) le = ap (λ n. if same_kind d.kind Atom then suc n else n) (all_below ds k (omega (arith, le)))

pub place_is : (cells : List CellDefinition) (places : List ℕ) (k i : ℕ) → places ≡ places_of 0 cells → i ≡ min k (length cells) → (i < length places) × (get_or places i 0 ≡ atoms_below cells k)
place_is cells places k i are is = (
  (let m = ap length are ∙ many_places 0 cells in omega (arith, m, is)),
  ap (λ l. get_or l i 0) are ∙ (let h = place_at 0 cells i (omega (arith, is)) in let n : get_or (places_of 0 cells) i 0 ≡ atoms_below cells i = omega (arith, h) in n) ∙ go (nat_lt k (length cells)) refl,
)
  where
    go : (b : Bool) → nat_lt k (length cells) ≡ b → atoms_below cells i ≡ atoms_below cells k
    go true e = ap (atoms_below cells) (let n : i ≡ k = grind (arith, nat_tests, e, is) in n)
    go false e = ap (atoms_below cells) (let n : i ≡ length cells = grind (arith, nat_tests, e, is) in n) ∙ sym (all_below cells k (let n : length cells ≤ k = grind (arith, nat_tests, e) in n))

-- ---- atoms

turned_kind : (k : CellKind) → same_kind Atom k ≡ true → same_kind k Atom ≡ true
turned_kind Ref h = absurd (false≢true h)
turned_kind Atom h = refl
turned_kind Agent h = absurd (false≢true h)

atom_kind : (k : CellKind) → same_kind k Atom ≡ true → k ≡ Atom
atom_kind Ref h = absurd (false≢true h)
atom_kind Atom h = refl
atom_kind Agent h = absurd (false≢true h)

small_true : (k n : ℕ) → k < n → nat_lt k n ≡ true
small_true k n lt = grind (arith, nat_tests, lt)

-- among these atoms stands the one of a cell, before its first event
abbrev pub StandsThere : List PlainAtom → ℕ → PlainAtom → Type 0
StandsThere xs i x = (i < length xs) × (get_or xs i no_atom ≡ x)

new_there : (m : ℕ) (cells : List CellDefinition) (k j : ℕ) → m + k ≡ j → j < 65536 → is_of_kind Atom (nth (cells_of cells) k) ≡ true
    → StandsThere (atoms_of m cells) (atoms_below cells k) (record { cell = atom_id j; opening = opening (cells_of cells) k; book = [] })
new_there m [] k j e lt h = absurd (false≢true h)
new_there m (d ∷ ds) zero j e lt h =
    subst (λ b. StandsThere (if b then new_atom m d ∷ atoms_of (suc m) ds else atoms_of (suc m) ds) 0 (record { cell = atom_id j; opening = d.opening; book = [] })) (sym (opens (turned_kind d.kind h)))
    ((let n : 0 < suc (length (atoms_of (suc m) ds)) = omega arith in n), ap (λ i. record { cell = atom_id i; opening = d.opening; book = [] }) (let n : m ≡ j = omega (arith, e) in n))
  where
    opens : same_kind d.kind Atom ≡ true → opens_atom m d ≡ true
    opens q = ap (λ b. b && nat_lt m 65536) q ∙ small_true m 65536 (omega (arith, e, lt))
new_there m (d ∷ ds) (suc k) j e lt h = go (same_kind d.kind Atom) (new_there (suc m) ds k j (omega (arith, e)) lt h)
  where
    x : PlainAtom
    x = record { cell = atom_id j; opening = opening (cells_of ds) k; book = [] }

    go : (b : Bool) → StandsThere (atoms_of (suc m) ds) (atoms_below ds k) x → StandsThere (if b && nat_lt m 65536 then new_atom m d ∷ atoms_of (suc m) ds else atoms_of (suc m) ds) (if b then suc (atoms_below ds k) else atoms_below ds k) x
    go true r = subst (λ t. StandsThere (if t then new_atom m d ∷ atoms_of (suc m) ds else atoms_of (suc m) ds) (suc (atoms_below ds k)) x) (sym (small_true m 65536 (omega (arith, e, lt)))) ((let n = r.0 in omega (arith, n)), r.1)
    go false r = r

pub book_at : (xs : List PlainAtom) (i : ℕ) → get_or (map (λ a. a.book) xs) i [] ≡ (get_or xs i no_atom).book
book_at [] i = refl
book_at (x ∷ xs) zero = refl
book_at (x ∷ xs) (suc i) = book_at xs i

unbooked_at : (xs : List PlainAtom) (i : ℕ) → get_or (map without_book xs) i no_atom ≡ without_book (get_or xs i no_atom)
unbooked_at [] i = refl
unbooked_at (x ∷ xs) zero = refl
unbooked_at (x ∷ xs) (suc i) = unbooked_at xs i

pub unbooked_many : (xs : List PlainAtom) → length (map without_book xs) ≡ length xs
unbooked_many [] = refl
unbooked_many (x ∷ xs) = ap suc (unbooked_many xs)

-- an atom among those of the cells: it is there, and its book is that at its place
pub record AtomIs (cells : List CellDefinition) (atoms : List PlainAtom) (c : CellId) : Type 0 where
  pub within : atoms_below cells c.number < length atoms
  pub home_is : home cells c ≡ suc (atoms_below cells c.number)
  pub is : get_or atoms (atoms_below cells c.number) no_atom ≡ atom_of cells c (get_or (map (λ a. a.book) atoms) (atoms_below cells c.number) [])

whole_atom : (x y : PlainAtom) (c : CellId) (book : List Event) → c.kind ≡ Atom → without_book x ≡ record { cell = atom_id c.number; opening = y.opening; book = [] } → book ≡ x.book → x ≡ record { cell = c; opening = y.opening; book = book }
whole_atom x y c book k h b = rw (sym (cell_is c k ∙ sym (ap (λ (a : PlainAtom). a.cell) h)), sym b, sym (ap (λ (a : PlainAtom). a.opening) h)) refl
  where
    cell_is : (d : CellId) → d.kind ≡ Atom → d ≡ atom_id d.number
    cell_is d e = rw e refl

pub atom_is : (cells : List CellDefinition) (atoms : List PlainAtom) (c : CellId) → map without_book atoms ≡ atoms_of 0 cells → has_atom cells c ≡ true → c.number < 65536 → AtomIs cells atoms c
atom_is cells atoms c are has lt =
    let h = and_both (is_atom c) (has_cell (cells_of cells) c) has in
    let k = atom_kind c.kind h.0 in
    let i = atoms_below cells c.number in
    let t = new_there 0 cells c.number c.number (omega arith) lt (subst (λ x. is_of_kind x (nth (cells_of cells) c.number) ≡ true) k h.1) in
    record {
      within = subst (λ n. i < n) (sym (ap length are) ∙ unbooked_many atoms) t.0;
      home_is = ap (λ b. if b then suc i else 0) h.0;
      is = whole_atom (get_or atoms i no_atom) (record { cell = c; opening = opening (cells_of cells) c.number; book = [] }) c (get_or (map (λ a. a.book) atoms) i []) k (sym (unbooked_at atoms i) ∙ ap (λ l. get_or l i no_atom) are ∙ t.1) (book_at atoms i);
    }
