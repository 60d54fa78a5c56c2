-- What is shared where the store and the atoms are those that a history leaves.
use Rattle.std.proofs.Common.{◌≡◌, ◌+◌, ◌<◌, ◌≤◌, ◌&&◌, nat_lt, ℕ, zero, suc, Bool, true, false, List, [], ◌∷◌, length, map, get_or, Some, if◌then◌else◌, refl, ap, sym, ◌∙◌, subst, arith}
use Rattle.std.proofs.lemmas.Bool.{false≢true}
use Rattle.std.proofs.lemmas.Bool.Decides.{nat_tests}
use Rattle.txs_world_protocol.specs.SeenEvent.{home, atoms_below}
use Rattle.txs_world_protocol.specs.declared.event.Event.{Event}
use Rattle.txs_value_data.specs.Places.{nth}
use Rattle.txs_value_cell.specs.Forms.{same_kind}
use Rattle.txs_value_cell.specs.declared.cell.CellDefinition.{CellDefinition}
use Rattle.txs_value_data.specs.declared.value.CellKind.TheVariants.{Atom}
use Rattle.txs_code_meaning.specs.PlainCode.{PlainCode}
use Rattle.txs_world_book.specs.Atom.{PlainAtom}
use Rattle.txs_world.specs.Store.{PlainStore}
use Rattle.txs_history.specs.History.{events_of}
use Rattle.txs_theorem_runs.specs.Shared.{Shared}
use Rattle.txs_history.specs.declared.asked.Asked.{Asked}
use Rattle.txs_history.specs.Asked.{History, asks_in, book_by, shared_by, sum_to}
use Rattle.txs_world_shared.specs.Apart.{ArePartsOf}
use Rattle.txs_world_shared.specs.Kept.{atom_id, atoms_of, new_atom, state_of, without_book}
use Rattle.txs_world_shared.specs.SharedState.{shared_of}
use Rattle.txs_world_shared.proofs.Apart.{each_new}
use Rattle.txs_machine.specs.Agents.{actors_of}
use Rattle.txs_history.specs.Logged.{PlainLoggedStore, PlainLoggedAtom, locks_of}
use Rattle.txs_history_run.specs.Actor.{PlainLogged}
use Rattle.txs_history_run.specs.Back.{AreBack, asked_of, asked_at, book_of}
use Rattle.txs_history_run.specs.Settled.{AreSettled, asks_by}
use Rattle.txs_history_run.proofs.Counting.{asked_under, locks_sum, none_beyond, sum_first, sum_same}
use Rattle.txs_history_run.proofs.Lists.{is_some, or_else, there_at, mapped_at, length_map}

-- ---- the cells of atoms

-- how many atoms come before a cell, where the first is one or isn't
below_from : Bool → List CellDefinition → ℕ → ℕ
below_from b ds zero = 0
below_from b ds (suc j) = if b then suc (atoms_below ds j) else atoms_below ds j

below_is : (d : CellDefinition) (ds : List CellDefinition) (j : ℕ) → atoms_below (d ∷ ds) j ≡ below_from (same_kind d.kind Atom) ds j
unfolding below_from
below_is d ds zero = refl
below_is d ds (suc j) = refl

-- the n-th atom of these definitions is the cell before which there are n atoms
opens_at : (m : ℕ) (ds : List CellDefinition) (k : ℕ) (a : PlainAtom) → m + length ds ≤ 65536 → nth (atoms_of m ds) k ≡ Some a → (j : ℕ) × (a.cell ≡ atom_id (m + j)) × (atoms_below ds j ≡ k)
unfolding below_from
opens_at m [] k a few e = absurd (subst is_some (sym e) tt)
opens_at m (d ∷ ds) k a few e =
    let less : m < 65536 = omega (arith, few) in
    let small : nat_lt m 65536 ≡ true = grind (arith, nat_tests, less) in
    let r = go (same_kind d.kind Atom) (nat_lt m 65536) small k (λ i f. opens_at (suc m) ds i a (omega (arith, few)) f) e in
    (r.0, r.1, below_is d ds r.0 ∙ r.2)
  where
    go : (b t : Bool) → t ≡ true → (k : ℕ) → ((i : ℕ) → nth (atoms_of (suc m) ds) i ≡ Some a → (j : ℕ) × (a.cell ≡ atom_id (suc m + j)) × (atoms_below ds j ≡ i))
        → nth (if b && t then new_atom m d ∷ atoms_of (suc m) ds else atoms_of (suc m) ds) k ≡ Some a → (j : ℕ) × (a.cell ≡ atom_id (m + j)) × (below_from b ds j ≡ k)
    go true true same zero more f = (0, ap (λ (x : PlainAtom). x.cell) (sym (ap (or_else (new_atom m d)) f)) ∙ ap atom_id (omega arith), refl)
    go true true same (suc i) more f = let r = more i f in (suc r.0, r.1 ∙ ap atom_id (omega arith), ap suc r.2)
    go true false same i more f = absurd (false≢true same)
    go false t same i more f = let r = more i f in (suc r.0, r.1 ∙ ap atom_id (omega arith), r.2)

-- so its book has the next number
home_at : (cells : List CellDefinition) (k : ℕ) (a : PlainAtom) → length cells ≤ 65535 → nth (atoms_of 0 cells) k ≡ Some a → home cells a.cell ≡ suc k
home_at cells k a few e =
    let r = opens_at 0 cells k a (omega (arith, few)) e in
    ap (home cells) (r.1 ∙ ap atom_id (omega arith)) ∙ ap suc r.2

-- ---- lists

read_at : {A B : Type 0} (f : A → B) (xs : List A) (k : ℕ) (x : A) (d : B) → nth xs k ≡ Some x → get_or (map f xs) k d ≡ f x
read_at f [] k x d e = absurd (subst is_some (sym e) tt)
read_at f (y ∷ xs) zero x d e = ap (λ o. f (or_else y o)) e
read_at f (y ∷ xs) (suc k) x d e = read_at f xs k x d e

read_beyond : {B : Type 0} (xs : List B) (k : ℕ) (d : B) → length xs ≤ k → get_or xs k d ≡ d
read_beyond [] k d le = refl
read_beyond (y ∷ xs) zero d le = absurd (omega (arith, le))
read_beyond (y ∷ xs) (suc k) d le = read_beyond xs k d (omega (arith, le))

abbrev both : (ℕ → List Event) → List Bool → Shared
both b t = record { books = b; taken = t }

same_shared : (b c : ℕ → List Event) (t u : List Bool) → ((n : ℕ) → b n ≡ c n) → t ≡ u → both b t ≡ both c u
same_shared b c t u books taken =
    let all : b ≡ c = λ i. λ n. books n i in
    ap (λ (d : ℕ → List Event). both d t) all ∙ ap (λ (v : List Bool). both c v) taken

-- ---- what is shared

module _ (code : PlainCode) (limit : ℕ) (h : History) (store : PlainLoggedStore) (atoms : List PlainLoggedAtom) (actors : List PlainLogged) (back : AreBack code limit h store atoms actors) (few : length code.cells ≤ 65535) (parts : ArePartsOf code.cells store.store (map book_of atoms)) where
  -- an atom has the number behind its place
  home_is : (k : ℕ) (a : PlainLoggedAtom) → nth atoms k ≡ Some a → home code.cells a.atom.cell ≡ suc k
  home_is k a e =
      home_at code.cells k (without_book a.atom) few
      (subst (λ (l : List PlainAtom). nth l k ≡ Some (without_book a.atom)) parts.atoms_are (mapped_at without_book (map book_of atoms) k a.atom (mapped_at book_of atoms k a e)))

  -- there are as many as the history has locks beside the store's
  all_locks : suc (length atoms) ≡ locks_of code.cells
  all_locks =
      ap suc (sym (length_map book_of atoms) ∙ sym (length_map without_book (map book_of atoms)) ∙ ap length parts.atoms_are ∙ each_new 0 code.cells (omega (arith, few)))

  book_at : (k : ℕ) (b : Bool) → nat_lt k (length atoms) ≡ b → get_or (map (λ (a : PlainAtom). a.book) (map book_of atoms)) k [] ≡ (shared_by code.cells h).books (suc k)
  book_at k true is =
      let less : k < length atoms = grind (arith, nat_tests, is) in
      let x = there_at atoms k less in
      read_at (λ (a : PlainAtom). a.book) (map book_of atoms) k x.0.atom [] (mapped_at book_of atoms k x.0 x.1)
      ∙ ap (λ (a : PlainAtom). a.book) (back.atoms_are k x.0 x.1)
      ∙ ap (λ n. (shared_by code.cells h).books n) (home_is k x.0 x.1)
  book_at k false is =
      let le : length atoms ≤ k = grind (arith, nat_tests, is) in
      let many = length_map (λ (a : PlainAtom). a.book) (map book_of atoms) in
      let one = length_map book_of atoms in
      read_beyond (map (λ (a : PlainAtom). a.book) (map book_of atoms)) k [] (omega (arith, le, many, one))
      ∙ sym (ap (λ (es : List Asked). book_by code.cells es []) (none_beyond (locks_of code.cells) (suc k) h (let l = all_locks in subst (λ n. n ≤ suc k) l (omega (arith, le))) back.within))

  books_are : (n : ℕ) → (shared_of (state_of code.cells store.store (map book_of atoms))).books n ≡ (shared_by code.cells h).books n
  books_are zero = ap (λ (s : PlainStore). s.book) back.store_is
  books_are (suc k) = book_at k (nat_lt k (length atoms)) refl

  shared_is : shared_of (state_of code.cells store.store (map book_of atoms)) ≡ shared_by code.cells h
  shared_is =
      same_shared (shared_of (state_of code.cells store.store (map book_of atoms))).books (shared_by code.cells h).books store.store.taken (shared_by code.cells h).taken books_are
      (ap (λ (s : PlainStore). s.taken) back.store_is)

  -- the actors made all asks
  all_asked : sum_to (length actors) (asks_by actors) ≡ asks_in h
  all_asked =
      sym back.all
      ∙ ap (λ n. length (events_of 0 h) + n) (sum_same (length atoms) (asked_at code.cells h atoms) (λ k. asked_under h (suc k)) (λ k less. (let x = there_at atoms k less in ap (asked_of code.cells h) x.1 ∙ ap (asked_under h) (home_is k x.0 x.1))))
      ∙ sym (sum_first (length atoms) (asked_under h))
      ∙ ap (λ n. sum_to n (asked_under h)) all_locks
      ∙ locks_sum (locks_of code.cells) h back.within

  pub settled_so : length actors ≡ actors_of code → AreSettled code limit (state_of code.cells store.store (map book_of atoms)) h actors
  settled_so one_each = record {
    of = record { cells = refl; threads = ap (λ (s : PlainStore). s.threads) back.store_is };
    shared = shared_is;
    one_each = one_each;
    each = back.each;
    all = all_asked;
  }
