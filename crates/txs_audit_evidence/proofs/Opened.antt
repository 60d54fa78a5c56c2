-- What going through the books of a report says of them.
use Rattle.std.proofs.Common.{◌≡◌, ◌<◌, ◌+◌, ℕ, zero, suc, true, List, [], ◌∷◌, length, get_or, Some, sym, ap, ◌∙◌, subst, arith}
use Rattle.txs_value_data.specs.Places.{nth}
use Rattle.txs_value_cell.specs.Agents.{agents_from}
use Rattle.txs_value_cell.specs.declared.cell.CellDefinition.{CellDefinition}
use Rattle.txs_value_data.specs.declared.value.CellId.{CellId}
use Rattle.txs_value_data.specs.declared.value.Value.{Value}
use Rattle.txs_tree_eval_transaction.specs.Views.{held}
use Rattle.txs_tree_meaning.specs.View.{Parts, program_of}
use Rattle.txs_tree_meaning.specs.declared.node.Thread.{Thread}
use Rattle.txs_world_book.specs.Atom.{atom_after}
use Rattle.txs_world_book.specs.Book.{actors, agents_below, opening, value_or}
use Rattle.txs_world_book.specs.Served.{cells_of}
use Rattle.txs_world_protocol.specs.Ask.{same_value}
use Rattle.txs_world_protocol.specs.declared.event.Event.{Event}
use Rattle.txs_world_protocol.specs.declared.report.Report.{Report}
use Rattle.txs_theorem_audit.specs.Audited.{books_of, report_as}
use Rattle.txs_theorem_serial.specs.Order.{book_or_none}
use Rattle.txs_theorem_audit.specs.Verdict.{atoms_from, fits_sizes, is_value}
use Rattle.txs_theorem_audit.proofs.Listing.{within}
use Rattle.txs_theorem_serial.proofs.Together.{agents_many}
use Rattle.txs_audit_book.specs.Replayed.{IsLegalBook, IsOffAt, PlainReplay, WentThrough, plain_replay}
use Rattle.txs_audit_book.specs.Swapped.{SwapsAre, WentAtom, atom_test}
use Rattle.txs_audit_book.specs.Tests.{store_test}
use Rattle.txs_audit_book.specs.declared.replay.Gone.{Gone}
use Rattle.txs_audit_book.specs.declared.replay.Gone.TheVariants.{Through, UpTo}
use Rattle.txs_audit_evidence.proofs.Sized.{nth_at, sized}

-- ---- the store's book

module _ (ds es : List CellDefinition) (t u : ℕ) (b book : List Event) (cells : ds ≡ es) (threads : t ≡ u) (is : b ≡ book) (g : Gone PlainReplay) (went : WentThrough (cells_of ds) t b g) where
  went_so : WentThrough (cells_of es) u book g
  went_so = subst (λ l. WentThrough (cells_of es) u l g) is (subst (λ n. WentThrough (cells_of es) n b g) threads (subst (λ l. WentThrough (cells_of l) t b g) cells went))

  pub store_up_to : (i : ℕ) → g ≡ UpTo i → IsOffAt (store_test (cells_of es) u) book i
  store_up_to i e = subst (WentThrough (cells_of es) u book) e went_so

  pub store_gone : (r : PlainReplay) → g ≡ Through r → (r ≡ plain_replay (cells_of es) u book) × IsLegalBook (store_test (cells_of es) u) book
  store_gone r e = subst (WentThrough (cells_of es) u book) e went_so

-- ---- the book of an atom

module _ (c : CellId) (t u : ℕ) (b book : List Event) (threads : t ≡ u) (is : b ≡ book) (g : Gone (List (ℕ × Value))) (went : WentAtom c t b g) where
  went_atom : WentAtom c u book g
  went_atom = subst (λ l. WentAtom c u l g) is (subst (λ n. WentAtom c n b g) threads went)

  pub atom_up_to : (i : ℕ) → g ≡ UpTo i → IsOffAt (atom_test c u) book i
  atom_up_to i e = subst (WentAtom c u book) e went_atom

  pub atom_gone : (h : List (ℕ × Value)) → g ≡ Through h → IsLegalBook (atom_test c u) book × SwapsAre h book
  atom_gone h e = subst (WentAtom c u book) e went_atom

-- how many actors there are
pub actors_many : (p : Parts) (ts : List Thread) (ds : List CellDefinition) (n k : ℕ) → ts ≡ p.threads → ds ≡ p.cells → n ≡ length (agents_from 0 ds) → k ≡ length ts + n → k ≡ actors (length p.threads) (cells_of p.cells)
actors_many p ts ds n k threads cells agents sum =
    let a = ap length threads in
    let b : n ≡ agents_below (cells_of p.cells) (length (cells_of p.cells)) = agents ∙ ap (λ l. length (agents_from 0 l)) cells ∙ agents_many 0 p.cells in
    omega (arith, a, b, sum)

-- there is a book of each atom
pub book_in : (p : Parts) (r : Report) (n : ℕ) (c : CellId) → fits_sizes (program_of p) (report_as r) ≡ true → nth (atoms_from 0 p.cells) n ≡ Some c → n < length r.atom_books.items
book_in p r n c fits there =
    let many = (sized p (report_as r) fits).books in
    let lt = within (atoms_from 0 p.cells) n c there in
    omega (arith, many, lt)

-- and it is what is read at its index
pub book_read : (r : Report) (n : ℕ) (l es : List Event) → n < length r.atom_books.items → l ≡ get_or r.atom_books.items n l → es ≡ l → es ≡ books_of (report_as r) (suc n)
book_read r n l es lt is same = same ∙ sym (ap book_or_none (nth_at r.atom_books.items n l lt is))

-- ---- what it leaves

opens_so : (ds : List CellDefinition) (k : ℕ) (d : CellDefinition) → k < length ds → d ≡ get_or ds k d → opening (cells_of ds) k ≡ d.opening
opens_so [] k d lt is = absurd (omega (arith, lt))
opens_so (x ∷ ds) zero d lt is = ap (λ (y : CellDefinition). y.opening) (sym is)
opens_so (x ∷ ds) (suc k) d lt is = opens_so ds k d (omega (arith, lt)) is

module _ (ds l : List CellDefinition) (k j : ℕ) (d : CellDefinition) (vs : List Value) (v : Value) (h : List (ℕ × Value)) (book es : List Event) (cells : l ≡ ds) (number : j ≡ k) (in_cells : k < length ds) (is : d ≡ get_or l j d)
    (in_values : k < length vs) (has : v ≡ get_or vs j v) (are : SwapsAre h book) (same : es ≡ book) where
  pub left_is : same_value (value_or (held h (length es)) d.opening) v ≡ is_value (atom_after (opening (cells_of ds) k) book (length book)) (nth vs k)
  left_is =
      let there = is ∙ ap (λ m. get_or m j d) cells ∙ ap (λ i. get_or ds i d) number in
      ap (λ b. same_value (value_or (held h (length b)) d.opening) v) same
      ∙ ap (λ x. same_value (value_or (held h (length book)) x) v) (sym (opens_so ds k d in_cells there))
      ∙ ap (λ x. same_value x v) (sym (are (opening (cells_of ds) k) (length book)))
      ∙ ap (is_value (atom_after (opening (cells_of ds) k) book (length book))) (sym (nth_at vs k v in_values (has ∙ ap (λ i. get_or vs i v) number)))
