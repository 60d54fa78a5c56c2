-- What the books of a report tell, by what is known of them.
use Rattle.std.proofs.Common.{◌≡◌, ◌≤◌, ◌<◌, ◌+◌, ◌&&◌, ◌||◌, nat_lt, ℕ, zero, suc, Bool, true, false, List, [], ◌∷◌, length, drop, get_or, Option, Some, None, refl, sym, ap, ◌∙◌, arith, if◌then◌else◌}
use Rattle.std.proofs.lemmas.Bool.{lt-ltb}
use Rattle.std.proofs.lemmas.List.{drop_all, drop_more, length-map}
use Rattle.txs_value_data.specs.Places.{nth}
use Rattle.txs_value_data.specs.declared.fault.Fault.{Fault}
use Rattle.txs_value_cell.specs.Agents.{agents_from}
use Rattle.txs_value_cell.specs.Forms.{same_kind}
use Rattle.txs_value_cell.specs.declared.cell.CellDefinition.{CellDefinition}
use Rattle.txs_value_data.specs.declared.value.CellId.{CellId}
use Rattle.txs_value_data.specs.declared.value.CellKind.TheVariants.{Atom}
use Rattle.txs_value_data.specs.declared.value.Value.{Value}
use Rattle.txs_world_protocol.specs.Ask.{same_value}
use Rattle.txs_world_protocol.specs.SeenEvent.{home}
use Rattle.txs_world_protocol.specs.declared.event.Event.{Event}
use Rattle.txs_world_book.specs.Atom.{atom_after}
use Rattle.txs_world_book.specs.Book.{actors, mail_after, newest, opening, value_or}
use Rattle.txs_tree_eval_transaction.specs.Views.{held}
use Rattle.txs_world_book.specs.Served.{cell_of, cells_of}
use Rattle.txs_world_book.specs.declared.cell.StoreCell.{StoreCell}
use Rattle.txs_tree_meaning.specs.Tree.{PlainProgram}
use Rattle.txs_tree_meaning.specs.View.{Parts, program_of}
use Rattle.txs_theorem_audit.specs.Audited.{PlainReport, books_of, check, entry_of}
use Rattle.txs_theorem_audit.specs.Verdict.{atoms_from, has_failed, has_values, index_if, is_value, length_if, same_failure}
use Rattle.txs_theorem_audit.proofs.Listing.{listed_home}
use Rattle.txs_audit_book.specs.Replayed.{IsLegalBook, IsOffAt, PlainReplay, actor_in, newest_there}
use Rattle.txs_audit_book.specs.Swapped.{SwapsAre, atom_test}
use Rattle.txs_audit_book.specs.Tests.{store_test}
use Rattle.txs_audit_evidence.proofs.Sized.{threads_many}
use Rattle.txs_audit_event.specs.Transactions.{or_else}
use Rattle.txs_audit_event.specs.declared.what.What.{What}
use Rattle.txs_audit_event.specs.declared.what.What.TheVariants as what
use Rattle.txs_audit_difference.specs.Difference.{atom_leaves, atom_told, atom_what, atoms_told, book_told, books_told, cell_what, event_in, failed_what, first, illegal_at, left_what, or_event, store_told, tells, value_what}
use Rattle.txs_audit_difference.specs.Left.{atom_left_told, illegal_told, left_told, newest_what}
use Rattle.txs_audit_difference.specs.Pieces.{at_event}
use Rattle.txs_audit_difference.specs.declared.told.Difference.{Difference}
use Rattle.txs_audit_difference.specs.declared.told.Told.{Told}
use Rattle.txs_audit_difference.specs.declared.told.Told.TheVariants as told

-- whether there is nothing
abbrev pub nothing : Option What → Bool
nothing None = true
nothing (Some w) = false

both_nothing : (o u : Option What) → nothing (or_else o u) ≡ (nothing o && nothing u)
both_nothing None u = refl
both_nothing (Some w) u = refl

-- ---- the values of cells

cell_so : (c : CellId) (v w : Value) → same_value v w ≡ nothing (cell_what c v w)
cell_so c v w = test (same_value v w)
  where
    test : (b : Bool) → b ≡ nothing (if b then None else Some (what.Cell c v w))
    test true = refl
    test false = refl

module _ (all : List CellDefinition) (r : PlainReport) where
  value_so : (n : ℕ) (d : CellDefinition) (ds : List CellDefinition) (v : Value) (vs : List Value) → has_values all r (suc n) ds vs ≡ nothing (value_what all r (suc n) ds vs)
      → has_values all r n (d ∷ ds) (v ∷ vs) ≡ nothing (value_what all r n (d ∷ ds) (v ∷ vs))
  value_so n d ds v vs rest = test (same_kind d.kind Atom) (record { kind = d.kind; number = n }) (newest (opening (cells_of all)) r.book n)
    where
      test : (b : Bool) (c : CellId) (now : Value) → ((b || same_value now v) && has_values all r (suc n) ds vs) ≡ nothing (if b then value_what all r (suc n) ds vs else or_else (cell_what c now v) (value_what all r (suc n) ds vs))
      test true c now = rest
      test false c now = ap (λ z. z && has_values all r (suc n) ds vs) (cell_so c now v) ∙ ap (λ z. nothing (cell_what c now v) && z) rest ∙ sym (both_nothing (cell_what c now v) (value_what all r (suc n) ds vs))

  pub values_so : (n : ℕ) (ds : List CellDefinition) (vs : List Value) → length vs ≡ length ds → has_values all r n ds vs ≡ nothing (value_what all r n ds vs)
  values_so n [] vs e = refl
  values_so n (d ∷ ds) [] e = absurd (omega (arith, e))
  values_so n (d ∷ ds) (v ∷ vs) e = value_so n d ds v vs (values_so (suc n) ds vs (omega (arith, e)))

  -- one after the other
  module _ (ds : List CellDefinition) (vs : List Value) where
    value_at : (i : ℕ) (d : CellDefinition) (v : Value) → i < length ds → i < length vs → d ≡ get_or ds i d → v ≡ get_or vs i v
        → value_what all r i (drop i ds) (drop i vs)
        ≡ (if same_kind d.kind Atom then value_what all r (suc i) (drop (i + 1) ds) (drop (i + 1) vs) else or_else (cell_what (record { kind = d.kind; number = i }) (newest (opening (cells_of all)) r.book i) v) (value_what all r (suc i) (drop (i + 1) ds) (drop (i + 1) vs)))
    value_at i d v lt less is has =
        ap (λ l. value_what all r i l (drop i vs)) (drop_more ds i d lt ∙ ap (λ x. x ∷ drop (i + 1) ds) (sym is))
        ∙ ap (value_what all r i (d ∷ drop (i + 1) ds)) (drop_more vs i v less ∙ ap (λ x. x ∷ drop (i + 1) vs) (sym has))

    -- this cell has its newest value, where it is one of the store's
    pub value_by : (i : ℕ) (d : CellDefinition) (v : Value) → i < length ds → i < length vs → d ≡ get_or ds i d → v ≡ get_or vs i v → (o : Option What)
        → o ≡ newest_what (record { kind = d.kind; number = i }) (Some (newest (opening (cells_of all)) r.book i)) v → value_what all r i (drop i ds) (drop i vs) ≡ or_else o (value_what all r (i + 1) (drop (i + 1) ds) (drop (i + 1) vs))
    value_by i d v lt less is has o e =
        let next : suc i ≡ i + 1 = omega arith in
        value_at i d v lt less is has ∙ test (same_kind d.kind Atom) ∙ ap (λ z. or_else z (value_what all r (suc i) (drop (i + 1) ds) (drop (i + 1) vs))) (sym e)
        ∙ ap (λ m. or_else o (value_what all r m (drop (i + 1) ds) (drop (i + 1) vs))) next
      where
        test : (b : Bool)
            → (if b then value_what all r (suc i) (drop (i + 1) ds) (drop (i + 1) vs) else or_else (cell_what (record { kind = d.kind; number = i }) (newest (opening (cells_of all)) r.book i) v) (value_what all r (suc i) (drop (i + 1) ds) (drop (i + 1) vs)))
            ≡ or_else (if b then None else cell_what (record { kind = d.kind; number = i }) (newest (opening (cells_of all)) r.book i) v) (value_what all r (suc i) (drop (i + 1) ds) (drop (i + 1) vs))
        test true = refl
        test false = refl

    pub values_end : (i : ℕ) → length ds ≤ i → value_what all r i (drop i ds) (drop i vs) ≡ None
    values_end i le = ap (λ l. value_what all r i l (drop i vs)) (drop_all i ds le)

-- the newest value of a cell, by a replay of the same book
pub newest_so : (q : PlainReplay) (all : List CellDefinition) (r : PlainReport) → q.cells ≡ cells_of all → r.book ≡ q.book → (k : ℕ) → k < length all → newest_there q k ≡ Some (newest (opening (cells_of all)) r.book k)
newest_so q all r cells book k lt =
    let many : length q.cells ≡ length all = ap length cells ∙ length-map all cell_of in
    let here : nat_lt k (length q.cells) ≡ true = lt-ltb k (length q.cells) (omega (arith, many, lt)) in
    ap (λ b. if b then Some (newest (opening q.cells) q.book k) else None) here
    ∙ ap (λ c. Some (newest (opening c) q.book k)) cells
    ∙ ap (λ b. Some (newest (opening (cells_of all)) b k)) (sym book)

-- ---- the failures of agents

module _ (cells : List StoreCell) (book : List Event) where
  failed_one : (g : CellId) (f : Option Fault) (gs : List CellId) (fs : List (Option Fault)) → has_failed cells book gs fs ≡ nothing (failed_what cells book gs fs)
      → has_failed cells book (g ∷ gs) (f ∷ fs) ≡ nothing (failed_what cells book (g ∷ gs) (f ∷ fs))
  failed_one g f gs fs rest = test (same_failure (mail_after cells book g.number).fault f)
    where
      test : (b : Bool) → (b && has_failed cells book gs fs) ≡ nothing (if b then failed_what cells book gs fs else Some (what.Failure g (mail_after cells book g.number).fault f))
      test true = rest
      test false = refl

  pub failures_so : (gs : List CellId) (fs : List (Option Fault)) → length fs ≡ length gs → has_failed cells book gs fs ≡ nothing (failed_what cells book gs fs)
  failures_so [] fs e = refl
  failures_so (g ∷ gs) [] e = absurd (omega (arith, e))
  failures_so (g ∷ gs) (f ∷ fs) e = failed_one g f gs fs (failures_so gs fs (omega (arith, e)))

  -- one after the other
  module _ (gs : List CellId) (fs : List (Option Fault)) (i : ℕ) (g : CellId) (f : Option Fault) (lt : i < length gs) (less : i < length fs) (is : g ≡ get_or gs i g) (has : f ≡ get_or fs i f) where
    failed_at : failed_what cells book (drop i gs) (drop i fs) ≡ (if same_failure (mail_after cells book g.number).fault f then failed_what cells book (drop (i + 1) gs) (drop (i + 1) fs) else Some (what.Failure g (mail_after cells book g.number).fault f))
    failed_at =
        ap (λ l. failed_what cells book l (drop i fs)) (drop_more gs i g lt ∙ ap (λ x. x ∷ drop (i + 1) gs) (sym is))
        ∙ ap (failed_what cells book (g ∷ drop (i + 1) gs)) (drop_more fs i f less ∙ ap (λ x. x ∷ drop (i + 1) fs) (sym has))

    pub failed_on : same_failure (mail_after cells book g.number).fault f ≡ true → failed_what cells book (drop (i + 1) gs) (drop (i + 1) fs) ≡ failed_what cells book (drop i gs) (drop i fs)
    failed_on e = sym (failed_at ∙ ap (λ b. if b then failed_what cells book (drop (i + 1) gs) (drop (i + 1) fs) else Some (what.Failure g (mail_after cells book g.number).fault f)) e)

    pub failed_here : same_failure (mail_after cells book g.number).fault f ≡ false → Some (what.Failure g (mail_after cells book g.number).fault f) ≡ failed_what cells book (drop i gs) (drop i fs)
    failed_here e = sym (failed_at ∙ ap (λ b. if b then failed_what cells book (drop (i + 1) gs) (drop (i + 1) fs) else Some (what.Failure g (mail_after cells book g.number).fault f)) e)

  pub failed_end : (gs : List CellId) (fs : List (Option Fault)) (i : ℕ) → length gs ≤ i → None ≡ failed_what cells book (drop i gs) (drop i fs)
  failed_end gs fs i le = sym (ap (λ l. failed_what cells book l (drop i fs)) (drop_all i gs le))

-- ---- what the store's book leaves

-- what is left of the store's book, in a report of the right sizes
pub left_so : (p : PlainProgram) (r : PlainReport) → length r.cells ≡ length p.cells → length r.failed ≡ length (agents_from 0 p.cells)
    → tells (at_event (left_what p r)) (check (has_values p.cells r 0 p.cells r.cells && has_failed (cells_of p.cells) r.book (agents_from 0 p.cells) r.failed) 0 (length_if (entry_of r 0)))
    ≡ left_told r (or_else (value_what p.cells r 0 p.cells r.cells) (failed_what (cells_of p.cells) r.book (agents_from 0 p.cells) r.failed))
left_so p r cells agents =
    let V = value_what p.cells r 0 p.cells r.cells in
    let F = failed_what (cells_of p.cells) r.book (agents_from 0 p.cells) r.failed in
    ap (λ b. tells (at_event (or_event (or_else V F))) (check (b && has_failed (cells_of p.cells) r.book (agents_from 0 p.cells) r.failed) 0 (length_if (entry_of r 0)))) (values_so p.cells r 0 p.cells r.cells cells)
    ∙ ap (λ b. tells (at_event (or_event (or_else V F))) (check (nothing V && b) 0 (length_if (entry_of r 0)))) (failures_so (cells_of p.cells) r.book (agents_from 0 p.cells) r.failed agents) ∙ both V F
  where
    both : (o u : Option What) → tells (at_event (or_event (or_else o u))) (check (nothing o && nothing u) 0 (length_if (entry_of r 0))) ≡ left_told r (or_else o u)
    both None None = refl
    both None (Some w) = refl
    both (Some w) u = refl

-- ---- books that were gone through

-- which entry of its actor's trace names an event of this book
abbrev pub entry_index : PlainReport → ℕ → ℕ → ℕ → ℕ
entry_index r b a k = index_if b k (entry_of r a)

-- a book that is legal tells nothing, and one that isn't the event that may not stand there
pub book_clear : (test : List Event → Event → Bool) (index : ℕ → ℕ → ℕ) (b : ℕ) (book : List Event) → IsLegalBook test book → book_told test index b book ≡ told.Clear
book_clear test index b book legal = ap (tells (at_event (what.Illegal b (illegal_at test book)))) (legal index)

pub book_illegal : (test : List Event → Event → Bool) (r : PlainReport) (b i : ℕ) (book : List Event) → IsOffAt test book i → book_told test (entry_index r b) b book ≡ illegal_told r b (actor_in (nth book i)) i
book_illegal test r b i book off =
    ap (tells (at_event (what.Illegal b (illegal_at test book)))) (off.1 (entry_index r b)) ∙ ap (λ k. told.So (at_event (what.Illegal b k) (actor_in (nth book i)) (entry_index r b (actor_in (nth book i)) i))) (ap event_in (off.1 (λ a k. k)))

module _ (p : Parts) (r : PlainReport) where
  abbrev leaves : Told
  leaves = tells (at_event (left_what (program_of p) r)) (check (has_values p.cells r 0 p.cells r.cells && has_failed (cells_of p.cells) r.book (agents_from 0 p.cells) r.failed) 0 (length_if (entry_of r 0)))

  abbrev store_by : ℕ → Told
  store_by n = first (book_told (store_test (cells_of p.cells) n) (entry_index r 0) 0 r.book) leaves

  store_split : store_told (program_of p) r ≡ store_by (length p.threads)
  store_split = ap store_by (threads_many p.threads)

  pub store_through : IsLegalBook (store_test (cells_of p.cells) (length p.threads)) r.book → store_told (program_of p) r ≡ leaves
  store_through legal = store_split ∙ ap (λ t. first t leaves) (book_clear (store_test (cells_of p.cells) (length p.threads)) (entry_index r 0) 0 r.book legal)

  pub store_illegal : (i : ℕ) → IsOffAt (store_test (cells_of p.cells) (length p.threads)) r.book i → store_told (program_of p) r ≡ illegal_told r 0 (actor_in (nth r.book i)) i
  store_illegal i off = store_split ∙ ap (λ t. first t leaves) (book_illegal (store_test (cells_of p.cells) (length p.threads)) r 0 i r.book off)

  module _ (n : ℕ) (c : CellId) (there : nth (atoms_from 0 p.cells) n ≡ Some c) where
    abbrev atom_by : ℕ → ℕ → Told
    atom_by threads b = first (book_told (atom_test c (actors threads (cells_of p.cells))) (entry_index r b) b (books_of r b)) (atom_left_told (program_of p) r c)

    atom_split : atom_told (program_of p) r c ≡ atom_by (length p.threads) (suc n)
    atom_split = ap (λ m. atom_by m (home p.cells c)) (threads_many p.threads) ∙ ap (atom_by (length p.threads)) (listed_home p.cells n c there)

    pub atom_through : IsLegalBook (atom_test c (actors (length p.threads) (cells_of p.cells))) (books_of r (suc n)) → atom_told (program_of p) r c ≡ atom_left_told (program_of p) r c
    atom_through legal = atom_split ∙ ap (λ t. first t (atom_left_told (program_of p) r c)) (book_clear (atom_test c (actors (length p.threads) (cells_of p.cells))) (entry_index r (suc n)) (suc n) (books_of r (suc n)) legal)

    pub atom_illegal : (i : ℕ) → IsOffAt (atom_test c (actors (length p.threads) (cells_of p.cells))) (books_of r (suc n)) i → atom_told (program_of p) r c ≡ illegal_told r (suc n) (actor_in (nth (books_of r (suc n)) i)) i
    atom_illegal i off = atom_split ∙ ap (λ t. first t (atom_left_told (program_of p) r c)) (book_illegal (atom_test c (actors (length p.threads) (cells_of p.cells))) r (suc n) i (books_of r (suc n)) off)

  -- what an atom's book leaves
  pub atom_left : (c : CellId) (v w : Value) → v ≡ atom_leaves (program_of p) r c → nth r.cells c.number ≡ Some w → left_told r (cell_what c v w) ≡ atom_left_told (program_of p) r c
  atom_left c v w is there =
      let x = atom_leaves (program_of p) r c in
      ap (λ y. left_told r (cell_what c y w)) is ∙ test x ∙ ap (λ o. tells (at_event (atom_what c x o)) (check (is_value x o) 0 (length_if (entry_of r 0)))) (sym there)
    where
      test : (x : Value) → left_told r (cell_what c x w) ≡ tells (at_event (atom_what c x (Some w))) (check (is_value x (Some w)) 0 (length_if (entry_of r 0)))
      test x = by (same_value x w)
        where
          by : (b : Bool) → left_told r (if b then None else Some (what.Cell c x w)) ≡ tells (at_event (what.Cell c x w)) (check b 0 (length_if (entry_of r 0)))
          by true = refl
          by false = refl

-- the value that a cell opens with is that of its definition
opens_so : (ds : List CellDefinition) (k : ℕ) (d : CellDefinition) → k < length ds → d ≡ get_or ds k d → opening (cells_of ds) k ≡ d.opening
opens_so [] k d lt is = absurd (omega (arith, lt))
opens_so (x ∷ ds) zero d lt is = ap (λ (y : CellDefinition). y.opening) (sym is)
opens_so (x ∷ ds) (suc k) d lt is = opens_so ds k d (omega (arith, lt)) is

-- the value that the swaps of an atom leave
pub leaves_so : (p : PlainProgram) (r : PlainReport) (n : ℕ) (c : CellId) → nth (atoms_from 0 p.cells) n ≡ Some c → (h : List (ℕ × Value)) → SwapsAre h (books_of r (suc n)) → (m : ℕ) → m ≡ length (books_of r (suc n))
    → (d : CellDefinition) → c.number < length p.cells → d ≡ get_or p.cells c.number d → value_or (held h m) d.opening ≡ atom_leaves p r c
leaves_so p r n c there h are m many d lt is =
    let o = opening (cells_of p.cells) c.number in
    ap (λ k. value_or (held h k) d.opening) many ∙ ap (value_or (held h (length (books_of r (suc n))))) (sym (opens_so p.cells c.number d lt is)) ∙ sym (are o (length (books_of r (suc n))))
    ∙ ap (λ b. atom_after o (books_of r b) (length (books_of r b))) (sym (listed_home p.cells n c there))

-- ---- the books of all atoms

module _ (p : PlainProgram) (r : PlainReport) (cs : List CellId) (n : ℕ) where
  atoms_at : (c : CellId) → n < length cs → c ≡ get_or cs n c → atoms_told p r (drop n cs) ≡ first (atom_told p r c) (atoms_told p r (drop (n + 1) cs))
  atoms_at c lt is = ap (atoms_told p r) (drop_more cs n c lt ∙ ap (λ x. x ∷ drop (n + 1) cs) (sym is))

  pub atoms_on : (c : CellId) → n < length cs → c ≡ get_or cs n c → told.Clear ≡ atom_told p r c → atoms_told p r (drop (n + 1) cs) ≡ atoms_told p r (drop n cs)
  atoms_on c lt is e = sym (atoms_at c lt is ∙ ap (λ t. first t (atoms_told p r (drop (n + 1) cs))) (sym e))

  pub atoms_open : (c : CellId) → n < length cs → c ≡ get_or cs n c → told.Open ≡ atom_told p r c → told.Open ≡ atoms_told p r (drop n cs)
  atoms_open c lt is e = sym (atoms_at c lt is ∙ ap (λ t. first t (atoms_told p r (drop (n + 1) cs))) (sym e))

  pub atoms_so : (d : Difference) (c : CellId) → n < length cs → c ≡ get_or cs n c → told.So d ≡ atom_told p r c → told.So d ≡ atoms_told p r (drop n cs)
  atoms_so d c lt is e = sym (atoms_at c lt is ∙ ap (λ t. first t (atoms_told p r (drop (n + 1) cs))) (sym e))

  pub atoms_end : length cs ≤ n → told.Clear ≡ atoms_told p r (drop n cs)
  atoms_end le = sym (ap (atoms_told p r) (drop_all n cs le))

-- ---- all books

module _ (p : PlainProgram) (r : PlainReport) where
  pub store_clear : told.Clear ≡ store_told p r → atoms_told p r (atoms_from 0 p.cells) ≡ books_told p r
  store_clear e = ap (λ t. first t (atoms_told p r (atoms_from 0 p.cells))) e

  pub store_open : told.Open ≡ store_told p r → told.Open ≡ books_told p r
  store_open e = ap (λ t. first t (atoms_told p r (atoms_from 0 p.cells))) e

  pub store_so : (d : Difference) → told.So d ≡ store_told p r → told.So d ≡ books_told p r
  store_so d e = ap (λ t. first t (atoms_told p r (atoms_from 0 p.cells))) e
