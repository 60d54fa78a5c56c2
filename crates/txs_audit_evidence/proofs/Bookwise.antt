-- What an audit finds in the books, one after the other.
use Rattle.std.proofs.Common.{◌≡◌, ◌≤◌, ◌<◌, ◌+◌, ◌&&◌, nat_lt, ℕ, suc, Bool, true, false, List, [], ◌∷◌, ◌++◌, length, drop, get_or, Some, refl, sym, ap, ◌∙◌, subst, arith, ⊎_elim}
use Rattle.std.proofs.lemmas.Bool.{cases_lt, false≢true, ltb-true}
use Rattle.std.proofs.lemmas.List.{drop_all, drop_more, get_or_append_left, get_or_push, length_push}
use Rattle.txs_value_data.specs.Places.{nth}
use Rattle.txs_value_cell.specs.Agents.{agents_from}
use Rattle.txs_value_data.specs.Limits.{most_events}
use Rattle.txs_value_data.specs.declared.value.CellId.{CellId}
use Rattle.txs_value_data.specs.declared.value.Value.{Value}
use Rattle.txs_tree_meaning.specs.View.{Parts, program_of}
use Rattle.txs_world_book.specs.Atom.{atom_after}
use Rattle.txs_world_book.specs.Book.{actors, opening}
use Rattle.txs_world_book.specs.Served.{cells_of}
use Rattle.txs_world_book.proofs.Outcomes.{both}
use Rattle.txs_world_protocol.specs.SeenEvent.{home}
use Rattle.txs_world_protocol.specs.declared.event.Event.{Event}
use Rattle.txs_world_protocol.specs.declared.report.Report.{Report}
use Rattle.txs_theorem_audit.specs.Audited.{Finding, Fine, Off, Short, and_then, books_of, check, entry_of, report_as}
use Rattle.txs_theorem_audit.specs.Verdict.{atom_found, atoms_found, atoms_from, book_found, has_failed, has_values, index_if, is_value, length_if, store_found}
use Rattle.txs_theorem_audit.proofs.Findings.{and_fine, check_fine}
use Rattle.txs_theorem_audit.proofs.Listing.{listed_home}
use Rattle.txs_audit_book.specs.Replayed.{IsLegalBook, IsOffAt, actor_in}
use Rattle.txs_audit_book.specs.Swapped.{SwapsAre, atom_test}
use Rattle.txs_audit_book.specs.Tests.{store_test}
use Rattle.txs_audit_book.specs.Judged.{is_fine}
use Rattle.txs_audit_evidence.specs.Evidence.{AreSwaps}
use Rattle.txs_audit_evidence.proofs.Sized.{threads_many}

-- ---- findings

pub fine_is : (f : Finding) → is_fine f ≡ true → f ≡ Fine
fine_is Fine h = refl
fine_is (Off a i) h = absurd (false≢true h)
fine_is (Short a i) h = absurd (false≢true h)

first_stays : (f g : Finding) → is_fine f ≡ false → f ≡ and_then f g
first_stays Fine g h = absurd (false≢true (sym h))
first_stays (Off a i) g h = refl
first_stays (Short a i) g h = refl

-- which entry of its actor's trace names an event of this book
abbrev pub entry_index : Report → ℕ → ℕ → ℕ → ℕ
entry_index r b a k = index_if b k (entry_of (report_as r) a)

-- ---- the store's book

abbrev pub store_rest : Parts → Report → Finding
store_rest p r = check (has_values p.cells (report_as r) 0 p.cells r.cells.items && has_failed (cells_of p.cells) r.book.items (agents_from 0 p.cells) r.failed.items) 0 (length_if (entry_of (report_as r) 0))

store_split : (p : Parts) (r : Report) → store_found (program_of p) (report_as r) ≡ and_then (book_found (store_test (cells_of p.cells) (length p.threads)) (entry_index r 0) [] r.book.items) (store_rest p r)
store_split p r = ap (λ n. and_then (book_found (store_test (cells_of p.cells) n) (entry_index r 0) [] r.book.items) (store_rest p r)) (threads_many p.threads)

pub store_through : (p : Parts) (r : Report) → IsLegalBook (store_test (cells_of p.cells) (length p.threads)) r.book.items → store_found (program_of p) (report_as r) ≡ store_rest p r
store_through p r legal = store_split p r ∙ ap (λ f. and_then f (store_rest p r)) (legal (entry_index r 0))

pub store_off : (p : Parts) (r : Report) (i a : ℕ) → IsOffAt (store_test (cells_of p.cells) (length p.threads)) r.book.items i → a ≡ actor_in (nth r.book.items i)
    → store_found (program_of p) (report_as r) ≡ Off a (index_if 0 i (entry_of (report_as r) a))
store_off p r i a off is = store_split p r ∙ ap (λ f. and_then f (store_rest p r)) (off.1 (entry_index r 0) ∙ ap (λ m. Off m (entry_index r 0 m i)) (sym is))

-- ---- the book of an atom

abbrev pub atom_rest : Parts → Report → ℕ → CellId → Finding
atom_rest p r n c =
    check (is_value (atom_after (opening (cells_of p.cells) c.number) (books_of (report_as r) (suc n)) (length (books_of (report_as r) (suc n)))) (nth r.cells.items c.number)) 0 (length_if (entry_of (report_as r) 0))

module _ (p : Parts) (r : Report) (n : ℕ) (c : CellId) (there : nth (atoms_from 0 p.cells) n ≡ Some c) where
  abbrev book : List Event
  book = books_of (report_as r) (suc n)

  -- what is found by the book of this number
  abbrev found_in : ℕ → ℕ → Finding
  found_in threads b =
      and_then (book_found (atom_test c (actors threads (cells_of p.cells))) (λ a k. index_if b k (entry_of (report_as r) a)) [] (books_of (report_as r) b))
      (check (is_value (atom_after (opening (cells_of p.cells) c.number) (books_of (report_as r) b) (length (books_of (report_as r) b))) (nth r.cells.items c.number)) 0 (length_if (entry_of (report_as r) 0)))

  atom_split : atom_found (program_of p) (report_as r) c ≡ and_then (book_found (atom_test c (actors (length p.threads) (cells_of p.cells))) (entry_index r (suc n)) [] book) (atom_rest p r n c)
  atom_split = ap (λ m. found_in m (home p.cells c)) (threads_many p.threads) ∙ ap (found_in (length p.threads)) (listed_home p.cells n c there)

  pub atom_through : IsLegalBook (atom_test c (actors (length p.threads) (cells_of p.cells))) book → atom_found (program_of p) (report_as r) c ≡ atom_rest p r n c
  atom_through legal = atom_split ∙ ap (λ f. and_then f (atom_rest p r n c)) (legal (entry_index r (suc n)))

  pub atom_off : (i a : ℕ) → IsOffAt (atom_test c (actors (length p.threads) (cells_of p.cells))) book i → a ≡ actor_in (nth book i)
      → atom_found (program_of p) (report_as r) c ≡ Off a (index_if (suc n) i (entry_of (report_as r) a))
  atom_off i a off is = atom_split ∙ ap (λ f. and_then f (atom_rest p r n c)) (off.1 (entry_index r (suc n)) ∙ ap (λ m. Off m (entry_index r (suc n) m i)) (sym is))

-- ---- the books of atoms

module _ (p : Parts) (r : Report) (cs : List CellId) (n : ℕ) (c : CellId) (lt : n < length cs) (is : c ≡ get_or cs n c) where
  atoms_one : atoms_found (program_of p) (report_as r) (drop n cs) ≡ and_then (atom_found (program_of p) (report_as r) c) (atoms_found (program_of p) (report_as r) (drop (n + 1) cs))
  atoms_one = ap (atoms_found (program_of p) (report_as r)) (drop_more cs n c lt ∙ ap (λ x. x ∷ drop (n + 1) cs) (sym is))

  pub atoms_next : atom_found (program_of p) (report_as r) c ≡ Fine → atoms_found (program_of p) (report_as r) (drop n cs) ≡ atoms_found (program_of p) (report_as r) (drop (n + 1) cs)
  atoms_next fine = atoms_one ∙ ap (λ f. and_then f (atoms_found (program_of p) (report_as r) (drop (n + 1) cs))) fine

  pub atoms_off : (f : Finding) → f ≡ atom_found (program_of p) (report_as r) c → is_fine f ≡ false → f ≡ atoms_found (program_of p) (report_as r) (drop n cs)
  atoms_off f e off =
      first_stays f (atoms_found (program_of p) (report_as r) (drop (n + 1) cs)) off
      ∙ ap (λ g. and_then g (atoms_found (program_of p) (report_as r) (drop (n + 1) cs))) e ∙ sym atoms_one

pub atoms_end : (p : Parts) (r : Report) (cs : List CellId) (n : ℕ) → length cs ≤ n → atoms_found (program_of p) (report_as r) (drop n cs) ≡ Fine
atoms_end p r cs n le = ap (atoms_found (program_of p) (report_as r)) (drop_all n cs le)

-- ---- swaps

pub no_swaps : (p : Parts) (r : Report) → AreSwaps p r []
no_swaps p r = record { legal = λ n c lt there. absurd (omega (arith, lt)); swapped = λ n lt. absurd (omega (arith, lt)) }

module _ (p : Parts) (r : Report) (swaps : List (List (ℕ × Value))) (n : ℕ) (c : CellId) (h : List (ℕ × Value)) (many : length swaps ≡ n) (there : nth (atoms_from 0 p.cells) n ≡ Some c)
    (legal : IsLegalBook (atom_test c (actors (length p.threads) (cells_of p.cells))) (books_of (report_as r) (suc n))) (swapped : SwapsAre h (books_of (report_as r) (suc n))) (before : AreSwaps p r swaps) where
  some_same : (x y : CellId) → Some x ≡ Some y → x ≡ y
  some_same x y e = cc

  legal_more : (m : ℕ) (d : CellId) → m < length (swaps ++ h ∷ []) → nth (atoms_from 0 p.cells) m ≡ Some d → IsLegalBook (atom_test d (actors (length p.threads) (cells_of p.cells))) (books_of (report_as r) (suc m))
  legal_more m d lt is =
      ⊎_elim
      (λ less. before.legal m d (omega (arith, less, many)) is)
      (λ le. (let long = length_push swaps h in
      let same : n ≡ m = omega (arith, lt, le, long, many) in
      let cell : c ≡ d = some_same c d (sym there ∙ ap (nth (atoms_from 0 p.cells)) same ∙ is) in
      subst (λ k. IsLegalBook (atom_test d (actors (length p.threads) (cells_of p.cells))) (books_of (report_as r) (suc k))) same (subst (λ x. IsLegalBook (atom_test x (actors (length p.threads) (cells_of p.cells))) (books_of (report_as r) (suc n))) cell legal)))
      (cases_lt m n)

  swapped_more : (m : ℕ) → m < length (swaps ++ h ∷ []) → SwapsAre (get_or (swaps ++ h ∷ []) m []) (books_of (report_as r) (suc m))
  swapped_more m lt =
      ⊎_elim
      (λ less. (let low : m < length swaps = omega (arith, less, many) in
      subst (λ l. SwapsAre l (books_of (report_as r) (suc m))) (sym (get_or_append_left swaps (h ∷ []) [] m low)) (before.swapped m low)))
      (λ le. (let long = length_push swaps h in
      let same : n ≡ m = omega (arith, lt, le, long, many) in
      subst (λ k. SwapsAre (get_or (swaps ++ h ∷ []) k []) (books_of (report_as r) (suc k))) same
      (subst (λ l. SwapsAre l (books_of (report_as r) (suc n))) (sym (get_or_push swaps h [] n many)) swapped)))
      (cases_lt m n)

  pub swaps_more : AreSwaps p r (swaps ++ h ∷ [])
  swaps_more = record { legal = legal_more; swapped = swapped_more }

-- ---- how long a legal book is

abbrev no_index : ℕ → ℕ → ℕ
no_index a k = 0

few_from : (test : List Event → Event → Bool) (done es : List Event) → length done ≤ most_events → book_found test no_index done es ≡ Fine → length done + length es ≤ most_events
few_from test done [] le h = omega (arith, le)
few_from test done (e ∷ es) le h =
    let b = nat_lt (length done) most_events && test done e in
    let parts = and_fine (check b e.actor 0) (book_found test no_index (done ++ e ∷ []) es) h in
    let lt = ltb-true (length done) most_events (both (nat_lt (length done) most_events) (test done e) (check_fine b e.actor 0 parts.0)).0 in
    let long = length_push done e in
    let rest = few_from test (done ++ e ∷ []) es (omega (arith, lt, long)) parts.1 in
    omega (arith, rest, long)

pub legal_few : (test : List Event → Event → Bool) (es : List Event) → IsLegalBook test es → length es ≤ most_events
legal_few test es h = let le = few_from test [] es (omega arith) (h no_index) in omega (arith, le)
