-- What is found of transactions, one event of the trace after the other.
use Rattle.std.proofs.Common.{◌≡◌, ◌≤◌, ◌<◌, ◌+◌, ◌==◌, ℕ, zero, suc, Bool, true, false, not, ◌&&◌, ◌||◌, List, [], ◌∷◌, length, take, drop, get_or, Option, Some, None, refl, sym, ap, ◌∙◌, arith, if◌then◌else◌}
use Rattle.std.specs.Borrow.{Bor}
use Rattle.std.specs.Prelude.{IfSome, option_copied}
use Rattle.std.proofs.lemmas.Bool.{eqb-true}
use Rattle.std.proofs.lemmas.List.{drop_all, drop_more}
use Rattle.txs_value_data.specs.Places.{nth}
use Rattle.txs_value_cell.specs.Agents.{agents_from}
use Rattle.txs_world_book.specs.Book.{actors}
use Rattle.txs_world_book.specs.Served.{cells_of}
use Rattle.txs_world_book.specs.declared.cell.StoreCell.{StoreCell}
use Rattle.txs_world_book.proofs.Outcomes.{both}
use Rattle.txs_world_protocol.specs.declared.event.Event.{Event}
use Rattle.txs_world_protocol.specs.declared.event.EventKind.{EventKind}
use Rattle.txs_world_protocol.specs.declared.event.Place as event
use Rattle.txs_tree_eval.specs.declared.transaction.TxMeaning.{TxMeaning}
use Rattle.txs_tree_meaning.specs.View.{program_of}
use Rattle.txs_theorem_runs.specs.Told.{Place}
use Rattle.txs_theorem_audit.specs.Audited.{Fine, Off, and_then, books_of, check, place_of}
use Rattle.txs_theorem_serial.specs.Order.{book_or_none}
use Rattle.txs_theorem_audit.specs.Verdict.{atoms_from, is_commit, is_end}
use Rattle.txs_theorem_audit.specs.Evaluated.{calm_at_by, calm_by, calm_found_by, covered_all_by, covered_if_by, state_of, with_first}
use Rattle.txs_theorem_serial.specs.Serial.{is_covered}
use Rattle.txs_audit_evidence.specs.Evidence.{AreLegal, PlainBooks, atoms_in}
use Rattle.txs_audit_order.specs.Named.{plain_trace}
use Rattle.txs_audit_evidence.specs.Transacted.{covered_by, end_in}
use Rattle.txs_audit_order.specs.Kinds.{end_of}
use Rattle.txs_audit_evidence.proofs.Unwritten.{no_end}

-- ---- tests

pub and_three : (a b c : Bool) → ((a && b) && c) ≡ (a && (b && c))
and_three true b c = refl
and_three false b c = refl

pub not_false : (b : Bool) → not b ≡ false → b ≡ true
not_false true e = refl
not_false false e = sym e

pub not_true : (b : Bool) → not b ≡ true → b ≡ false
not_true true e = sym e
not_true false e = refl

-- ---- the events that end transactions

-- an event of no transaction has none
no_end_of : (e : Event) → is_end e.kind ≡ false → end_of e ≡ None
no_end_of e off = ap (λ t. if t then Some e.kind else None) off

-- where lists are as long, one has as many members as the other
member_too : {A B : Type 0} (xs : List A) (ys : List B) (n : ℕ) (x : A) → length xs ≡ length ys → nth xs n ≡ Some x → (y : B) × (nth ys n ≡ Some y)
member_too [] ys n x same is = absurd cc
member_too (z ∷ xs) [] n x same is = absurd (omega (arith, same))
member_too (z ∷ xs) (y ∷ ys) zero x same is = (y, refl)
member_too (z ∷ xs) (y ∷ ys) (suc n) x same is = member_too xs ys n x (omega (arith, same)) is

-- only the store's book has ends of transactions
pub end_is_home : (b : PlainBooks) → AreLegal b → (book at : ℕ) (d : EventKind) → end_in (nth (books_of b.report book) at) ≡ Some d → book ≡ 0
end_is_home b legal zero at d is = refl
end_is_home b legal (suc n) at d is = go (nth b.report.atom_books n) refl
  where
    as_many : length b.report.atom_books ≡ length (atoms_in b)
    as_many =
        let r = b.report in
        let p = program_of b.program in
        let one = both (length r.threads == length p.threads) (length r.agents == length (agents_from 0 p.cells) && (length r.atom_books == length (atoms_from 0 p.cells) && (length r.cells == length p.cells && length r.failed == length (agents_from 0 p.cells)))) legal.fits in
        let two = both (length r.agents == length (agents_from 0 p.cells)) (length r.atom_books == length (atoms_from 0 p.cells) && (length r.cells == length p.cells && length r.failed == length (agents_from 0 p.cells))) one.1 in
        let three = both (length r.atom_books == length (atoms_from 0 p.cells)) (length r.cells == length p.cells && length r.failed == length (agents_from 0 p.cells)) two.1 in
        eqb-true (length r.atom_books) (length (atoms_from 0 p.cells)) three.0

    no_such : (o : Option Event) → ((e : Event) → o ≡ Some e → is_end e.kind ≡ false) → end_in o ≡ None
    no_such None h = refl
    no_such (Some e) h = no_end_of e (h e refl)

    apart : (o : Option EventKind) → o ≡ None → o ≡ Some d → ⊥
    apart o e f = cc

    clash : end_in (nth (books_of b.report (suc n)) at) ≡ None → suc n ≡ 0
    clash none = absurd (apart (end_in (nth (books_of b.report (suc n)) at)) none is)

    go : (o : Option (List Event)) → nth b.report.atom_books n ≡ o → suc n ≡ 0
    go None q = clash (ap (λ x. end_in (nth (book_or_none x) at)) q)
    go (Some es) q =
        let there = member_too b.report.atom_books (atoms_in b) n es as_many q in
        clash (no_such (nth (books_of b.report (suc n)) at) (λ e f. no_end there.0 (actors (length b.program.threads) (cells_of b.program.cells)) (books_of b.report (suc n)) (legal.atoms n there.0 there.1) at e f))

-- the same of one that was looked up
pub home_of : (b : PlainBooks) → AreLegal b → (book at : ℕ) (o : Option (Bor EventKind)) → option_copied o ≡ end_in (nth (books_of b.report book) at) → IfSome o (λ k. book ≡ 0)
home_of b legal book at None is = tt
home_of b legal book at (Some k) is = end_is_home b legal book at k.now (sym is)

-- ---- what is found

module _ (cells : List StoreCell) (books : ℕ → List Event) (a : ℕ) where
  -- without transactions nothing is found
  pub none_found : (i : ℕ) (ps : List Place) → calm_found_by cells books a i ps [] ≡ Fine
  none_found i [] = refl
  none_found i (p ∷ ps) = go (nth (books p.book) p.at) (none_found (suc i) ps)
    where
      at_end : (e : Event) (b : Bool) → calm_found_by cells books a (suc i) ps [] ≡ Fine
          → (if b then with_first [] (λ m ns. and_then (check (calm_by cells (take p.at (books p.book)) e.kind m) a i) (calm_found_by cells books a (suc i) ps ns)) else calm_found_by cells books a (suc i) ps []) ≡ Fine
      at_end e true rest = refl
      at_end e false rest = rest

      go : (o : Option Event) → calm_found_by cells books a (suc i) ps [] ≡ Fine → calm_at_by cells books a i p o (λ ns. calm_found_by cells books a (suc i) ps ns) [] ≡ Fine
      go None rest = rest
      go (Some e) rest = at_end e (is_end e.kind) rest

  pub none_covered : (ps : List Place) → covered_all_by books ps [] ≡ true
  none_covered [] = refl
  none_covered (p ∷ ps) = go (nth (books p.book) p.at) (none_covered ps)
    where
      go : (o : Option Event) → covered_all_by books ps [] ≡ true → covered_if_by o (λ ns. covered_all_by books ps ns) [] ≡ true
      go None rest = rest
      go (Some e) rest = rest

  -- an event that isn't there, or ends no transaction
  pub found_beside : (i : ℕ) (p : Place) (ps : List Place) (ms : List TxMeaning) → end_in (nth (books p.book) p.at) ≡ None → calm_found_by cells books a i (p ∷ ps) ms ≡ calm_found_by cells books a (suc i) ps ms
  found_beside i p ps ms none = go (nth (books p.book) p.at) none
    where
      at_end : (e : Event) (b : Bool) → (if b then Some e.kind else None) ≡ None
          → (if b then with_first ms (λ m ns. and_then (check (calm_by cells (take p.at (books p.book)) e.kind m) a i) (calm_found_by cells books a (suc i) ps ns)) else calm_found_by cells books a (suc i) ps ms)
          ≡ calm_found_by cells books a (suc i) ps ms
      at_end e true h = absurd cc
      at_end e false h = refl

      go : (o : Option Event) → end_in o ≡ None → calm_at_by cells books a i p o (λ ns. calm_found_by cells books a (suc i) ps ns) ms ≡ calm_found_by cells books a (suc i) ps ms
      go None h = refl
      go (Some e) h = at_end e (is_end e.kind) h

  pub covered_beside : (p : Place) (ps : List Place) (ms : List TxMeaning) → end_in (nth (books p.book) p.at) ≡ None → covered_all_by books (p ∷ ps) ms ≡ covered_all_by books ps ms
  covered_beside p ps ms none = go (nth (books p.book) p.at) ms none
    where
      at_end : (e : Event) (m : TxMeaning) (ns : List TxMeaning) (b : Bool) → (if b then Some e.kind else None) ≡ None
          → (if b then (not (is_commit e.kind) || is_covered (state_of m)) && covered_all_by books ps ns else covered_all_by books ps (m ∷ ns)) ≡ covered_all_by books ps (m ∷ ns)
      at_end e m ns true h = absurd cc
      at_end e m ns false h = refl

      go : (o : Option Event) (ns : List TxMeaning) → end_in o ≡ None → covered_if_by o (λ ls. covered_all_by books ps ls) ns ≡ covered_all_by books ps ns
      go None ns h = refl
      go (Some e) [] h = refl
      go (Some e) (m ∷ ns) h = at_end e m ns (is_end e.kind) h

  -- an event that ends one
  pub found_here : (i : ℕ) (p : Place) (ps : List Place) (m : TxMeaning) (ms : List TxMeaning) (d : EventKind) → end_in (nth (books p.book) p.at) ≡ Some d
      → calm_found_by cells books a i (p ∷ ps) (m ∷ ms) ≡ and_then (check (calm_by cells (take p.at (books p.book)) d m) a i) (calm_found_by cells books a (suc i) ps ms)
  found_here i p ps m ms d is = go (nth (books p.book) p.at) is
    where
      kind_or : EventKind → Option EventKind → EventKind
      kind_or x None = x
      kind_or x (Some y) = y

      at_end : (e : Event) (b : Bool) → (if b then Some e.kind else None) ≡ Some d
          → (if b then and_then (check (calm_by cells (take p.at (books p.book)) e.kind m) a i) (calm_found_by cells books a (suc i) ps ms) else calm_found_by cells books a (suc i) ps (m ∷ ms))
          ≡ and_then (check (calm_by cells (take p.at (books p.book)) d m) a i) (calm_found_by cells books a (suc i) ps ms)
      at_end e true h = ap (λ x. and_then (check (calm_by cells (take p.at (books p.book)) x m) a i) (calm_found_by cells books a (suc i) ps ms)) (kind_is e.kind h)
        where
          kind_is : (k : EventKind) → Some k ≡ Some d → k ≡ d
          kind_is k q = cc
      at_end e false h = absurd cc

      go : (o : Option Event) → end_in o ≡ Some d
          → calm_at_by cells books a i p o (λ ns. calm_found_by cells books a (suc i) ps ns) (m ∷ ms) ≡ and_then (check (calm_by cells (take p.at (books p.book)) d m) a i) (calm_found_by cells books a (suc i) ps ms)
      go None h = absurd cc
      go (Some e) h = at_end e (is_end e.kind) h

  pub covered_here : (p : Place) (ps : List Place) (m : TxMeaning) (ms : List TxMeaning) (d : EventKind) → end_in (nth (books p.book) p.at) ≡ Some d
      → covered_all_by books (p ∷ ps) (m ∷ ms) ≡ (covered_by d m && covered_all_by books ps ms)
  covered_here p ps m ms d is = go (nth (books p.book) p.at) is
    where
      at_end : (e : Event) (b : Bool) → (if b then Some e.kind else None) ≡ Some d
          → (if b then (not (is_commit e.kind) || is_covered (state_of m)) && covered_all_by books ps ms else covered_all_by books ps (m ∷ ms)) ≡ (covered_by d m && covered_all_by books ps ms)
      at_end e true h = ap (λ x. covered_by x m && covered_all_by books ps ms) (kind_is e.kind h)
        where
          kind_is : (k : EventKind) → Some k ≡ Some d → k ≡ d
          kind_is k q = cc
      at_end e false h = absurd cc

      go : (o : Option Event) → end_in o ≡ Some d → covered_if_by o (λ ns. covered_all_by books ps ns) (m ∷ ms) ≡ (covered_by d m && covered_all_by books ps ms)
      go None h = absurd cc
      go (Some e) h = at_end e (is_end e.kind) h

-- ---- the loop over a trace

-- a member that is there is itself, whatever stands for one that isn't
pub there_is : {A : Type 0} (xs : List A) (i : ℕ) (d : A) → i < length xs → get_or xs i d ≡ get_or xs i (get_or xs i d)
there_is [] i d lt = absurd (omega (arith, lt))
there_is (x ∷ xs) zero d lt = refl
there_is (x ∷ xs) (suc i) d lt = there_is xs i d (omega (arith, lt))

-- a list from an index on, where its member there is known
pub from_here : {A : Type 0} (xs : List A) (i : ℕ) (x : A) → i < length xs → x ≡ get_or xs i x → drop i xs ≡ x ∷ drop (i + 1) xs
from_here xs i x lt is = drop_more xs i x lt ∙ ap (λ y. y ∷ drop (i + 1) xs) (sym is)

-- What is found so far: of the rest of the trace and of the transactions what is found of all, and the rest is covered with those before if all are.
pub record Left (cells : List StoreCell) (books : ℕ → List Event) (a first : ℕ) (trace : List event.Place) (txs : List TxMeaning) (i next : ℕ) (serial : Bool) : Type 0 where
  pub within : next ≤ length txs
  pub found : calm_found_by cells books a (first + i) (plain_trace (drop i trace)) (drop next txs) ≡ calm_found_by cells books a first (plain_trace trace) txs
  pub covered : (serial && covered_all_by books (plain_trace (drop i trace)) (drop next txs)) ≡ covered_all_by books (plain_trace trace) txs

module _ (cells : List StoreCell) (books : ℕ → List Event) (a first : ℕ) (trace : List event.Place) (txs : List TxMeaning) where
  abbrev left : ℕ → ℕ → Bool → Type 0
  left i next serial = Left cells books a first trace txs i next serial

  -- before the first event
  pub left_first : left 0 0 true
  left_first = (let z : first + 0 ≡ first = omega arith in record { within = omega arith; found = ap (λ n. calm_found_by cells books a n (plain_trace trace) txs) z; covered = refl })

  -- where no transaction is left
  pub left_found : (i next : ℕ) (serial : Bool) → left i next serial → length txs ≤ next → Fine ≡ calm_found_by cells books a first (plain_trace trace) txs
  left_found i next serial h le = sym (none_found cells books a (first + i) (plain_trace (drop i trace))) ∙ ap (calm_found_by cells books a (first + i) (plain_trace (drop i trace))) (sym (drop_all next txs le)) ∙ h.found

  pub left_covered : (i next : ℕ) (serial : Bool) → left i next serial → length txs ≤ next → serial ≡ covered_all_by books (plain_trace trace) txs
  left_covered i next serial h le =
      sym (and_true serial) ∙ ap (λ b. serial && b) (sym (none_covered cells books a (plain_trace (drop i trace)))) ∙ ap (λ ms. serial && covered_all_by books (plain_trace (drop i trace)) ms) (sym (drop_all next txs le)) ∙ h.covered
    where
      and_true : (b : Bool) → (b && true) ≡ b
      and_true true = refl
      and_true false = refl

  module _ (i next : ℕ) (serial : Bool) (h : left i next serial) (p : event.Place) (lt : i < length trace) (is : p ≡ get_or trace i p) where
    here : plain_trace (drop i trace) ≡ place_of p ∷ plain_trace (drop (i + 1) trace)
    here = ap plain_trace (from_here trace i p lt is)

    next_index : first + (i + 1) ≡ suc (first + i)
    next_index = omega arith

    -- one more event, which ends no transaction
    pub left_beside : end_in (nth (books p.book) p.at) ≡ None → left (i + 1) next serial
    left_beside none = record {
      within = h.within;
      found = ap (λ n. calm_found_by cells books a n (plain_trace (drop (i + 1) trace)) (drop next txs)) next_index
          ∙ sym (found_beside cells books a (first + i) (place_of p) (plain_trace (drop (i + 1) trace)) (drop next txs) none)
          ∙ ap (λ ps. calm_found_by cells books a (first + i) ps (drop next txs)) (sym here) ∙ h.found;
      covered = ap (λ b. serial && b) (sym (covered_beside cells books a (place_of p) (plain_trace (drop (i + 1) trace)) (drop next txs) none))
          ∙ ap (λ ps. serial && covered_all_by books ps (drop next txs)) (sym here) ∙ h.covered;
    }

    module _ (d : EventKind) (ends : end_in (nth (books p.book) p.at) ≡ Some d) (m : TxMeaning) (there : next < length txs) (at : m ≡ get_or txs next m) where
      both_here : calm_found_by cells books a first (plain_trace trace) txs
          ≡ and_then (check (calm_by cells (take p.at (books p.book)) d m) a (first + i)) (calm_found_by cells books a (suc (first + i)) (plain_trace (drop (i + 1) trace)) (drop (next + 1) txs))
      both_here =
          sym h.found ∙ ap (λ ps. calm_found_by cells books a (first + i) ps (drop next txs)) here
          ∙ ap (calm_found_by cells books a (first + i) (place_of p ∷ plain_trace (drop (i + 1) trace))) (from_here txs next m there at)
          ∙ found_here cells books a (first + i) (place_of p) (plain_trace (drop (i + 1) trace)) m (drop (next + 1) txs) d ends

      -- one that ends a transaction which was disturbed
      pub off_here : calm_by cells (take p.at (books p.book)) d m ≡ false → Off a (first + i) ≡ calm_found_by cells books a first (plain_trace trace) txs
      off_here off = sym (both_here ∙ ap (λ b. and_then (check b a (first + i)) (calm_found_by cells books a (suc (first + i)) (plain_trace (drop (i + 1) trace)) (drop (next + 1) txs))) off)

      -- one that ends a transaction which wasn't
      pub left_here : calm_by cells (take p.at (books p.book)) d m ≡ true → (more : Bool) → more ≡ (serial && covered_by d m) → left (i + 1) (next + 1) more
      left_here calm more all = record {
        within = omega (arith, there);
        found = ap (λ n. calm_found_by cells books a n (plain_trace (drop (i + 1) trace)) (drop (next + 1) txs)) next_index
            ∙ sym (both_here ∙ ap (λ b. and_then (check b a (first + i)) (calm_found_by cells books a (suc (first + i)) (plain_trace (drop (i + 1) trace)) (drop (next + 1) txs))) calm);
        covered = ap (λ b. b && covered_all_by books (plain_trace (drop (i + 1) trace)) (drop (next + 1) txs)) all
            ∙ and_three serial (covered_by d m) (covered_all_by books (plain_trace (drop (i + 1) trace)) (drop (next + 1) txs))
            ∙ ap (λ b. serial && b) (sym (covered_here cells books a (place_of p) (plain_trace (drop (i + 1) trace)) m (drop (next + 1) txs) d ends))
            ∙ ap (λ ps. serial && covered_all_by books ps (m ∷ drop (next + 1) txs)) (sym here)
            ∙ ap (λ ms. serial && covered_all_by books (plain_trace (drop i trace)) ms) (sym (from_here txs next m there at)) ∙ h.covered;
      }
