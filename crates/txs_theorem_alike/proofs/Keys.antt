-- States and places with the same keys are alike.
use Rattle.std.proofs.Common.{◌≡◌, ◌≤◌, ◌<◌, ◌+◌, ℕ, zero, suc, Bool, true, false, not, ◌&&◌, nat_lt, List, [], ◌∷◌, length, drop, Option, Some, None, refl, sym, ap, subst, ◌∙◌, arith, if◌then◌else◌}
use Rattle.std.proofs.lemmas.Bool.{false≢true}
use Rattle.std.proofs.lemmas.Bool.Decides.{nat_tests}
use Rattle.txs_world_protocol.specs.declared.event.Event.{Event}
use Rattle.txs_value_data.specs.Places.{nth}
use Rattle.txs_value_data.specs.declared.value.CellKind.{CellKind}
use Rattle.txs_value_data.specs.declared.value.CellKind.TheVariants.{Ref, Atom, Agent}
use Rattle.txs_value_cell.specs.Forms.{same_kind}
use Rattle.txs_value_cell.specs.declared.cell.CellDefinition.{CellDefinition}
use Rattle.txs_world_protocol.specs.SeenEvent.{home}
use Rattle.txs_world_book.specs.Atom.{atom_newest}
use Rattle.txs_world_book.specs.Book.{is_of_kind, opening, after, newest, written, times_written, is_outdated, mail_after}
use Rattle.txs_world_book.specs.Served.{cells_of}
use Rattle.txs_world_book.specs.declared.cell.StoreCell.{StoreCell}
use Rattle.txs_world.specs.Kept.{kept_at}
use Rattle.txs_theorem_runs.specs.Shared.{Shared, atom_of}
use Rattle.txs_theorem_alike.specs.Books.{up_to_eleven, SamePoint, SameView, Alike}
use Rattle.txs_theorem_alike.specs.Keys.{each, of_kind, atom_value, key_of, point_key, view_key}
use Rattle.txs_theorem_alike.proofs.Eleven.{outdated_of}

-- ---- lists by number

abbrev first_or : {A : Type 0} → A → List A → A
first_or d [] = d
first_or d (x ∷ xs) = x

each_same : {A : Type 0} (f g : ℕ → A) (n m k : ℕ) → each f n m ≡ each g n m → n ≤ k → k < n + m → f k ≡ g k
each_same f g n zero k e lo hi = absurd (omega (arith, lo, hi))
each_same {A} f g n (suc m) k e lo hi = by (λ l. each_same f g (suc n) m k (ap (drop 1) e) l (omega (arith, hi))) (nat_lt n k) refl
  where
    by : (suc n ≤ k → f k ≡ g k) → (t : Bool) → nat_lt n k ≡ t → f k ≡ g k
    by later true l = later (grind (arith, nat_tests, l))
    by later false l = let at : n ≡ k = grind (arith, nat_tests, l, lo) in subst (λ i. f i ≡ g i) at (ap (first_or (f n)) e)

there : (kind : CellKind) (cells : List StoreCell) (k : ℕ) → is_of_kind kind (nth cells k) ≡ true → k < length cells
there kind [] k h = absurd (false≢true h)
there kind (c ∷ cs) zero h = omega arith
there kind (c ∷ cs) (suc k) h = let l = there kind cs k h in omega (arith, l)

abbrev some_or : {A : Type 0} → A → Option A → A
some_or d None = d
some_or d (Some x) = x

kind_same : {A : Type 0} (kind : CellKind) (cells : List StoreCell) (f g : ℕ → A) (k : ℕ) → each (of_kind kind cells f) 0 (length cells) ≡ each (of_kind kind cells g) 0 (length cells)
    → is_of_kind kind (nth cells k) ≡ true → f k ≡ g k
kind_same kind cells f g k e h =
    let l = there kind cells k h in
    let at = each_same (of_kind kind cells f) (of_kind kind cells g) 0 (length cells) k e (omega arith) (omega (arith, l)) in
    ap (some_or (f k)) (sym (ap (λ t. if t then Some (f k) else None) h) ∙ at ∙ ap (λ t. if t then Some (g k) else None) h)

-- ---- kinds

at_ref : (k : CellKind) (n : ℕ) (cells : List StoreCell) → (same_kind k Ref && is_of_kind k (nth cells n)) ≡ true → is_of_kind Ref (nth cells n) ≡ true
at_ref Ref n cells h = h
at_ref Atom n cells h = absurd (false≢true h)
at_ref Agent n cells h = absurd (false≢true h)

at_agent : (k : CellKind) (n : ℕ) (cells : List StoreCell) → (same_kind k Agent && is_of_kind k (nth cells n)) ≡ true → is_of_kind Agent (nth cells n) ≡ true
at_agent Ref n cells h = absurd (false≢true h)
at_agent Atom n cells h = absurd (false≢true h)
at_agent Agent n cells h = h

module _ (cells : List CellDefinition) (sh th : Shared) (e : key_of cells sh ≡ key_of cells th) where
  value_same : (k : CellKind) (n : ℕ) → (not (same_kind k Atom) && is_of_kind k (nth (cells_of cells) n)) ≡ true
      → newest (opening (cells_of cells)) (sh.books 0) n ≡ newest (opening (cells_of cells)) (th.books 0) n
  value_same Ref n h = kind_same Ref (cells_of cells) (λ k. newest (opening (cells_of cells)) (sh.books 0) k) (λ k. newest (opening (cells_of cells)) (th.books 0) k) n (ap (λ s. s.refs) e) h
  value_same Atom n h = absurd (false≢true h)
  value_same Agent n h = kind_same Agent (cells_of cells) (λ k. newest (opening (cells_of cells)) (sh.books 0) k) (λ k. newest (opening (cells_of cells)) (th.books 0) k) n (ap (λ s. s.agents) e) h

  atom_same : (k : CellKind) (n : ℕ) → (same_kind k Atom && is_of_kind k (nth (cells_of cells) n)) ≡ true
      → atom_newest (atom_of cells (record { kind = k; number = n }) (sh.books (home cells (record { kind = k; number = n })))) ≡ atom_newest (atom_of cells (record { kind = k; number = n }) (th.books (home cells (record { kind = k; number = n }))))
  atom_same Ref n h = absurd (false≢true h)
  atom_same Atom n h = kind_same Atom (cells_of cells) (atom_value cells sh) (atom_value cells th) n (ap (λ s. s.atoms) e) h
  atom_same Agent n h = absurd (false≢true h)

  pub exact : Alike cells sh th
  exact = record {
    store = λ c i. value_same c.kind c.number i;
    mail = λ g i. record {
      actions = kind_same Agent (cells_of cells) (λ k. (mail_after (cells_of cells) (sh.books 0) k).actions) (λ k. (mail_after (cells_of cells) (th.books 0) k).actions) g.number (ap (λ s. s.waiting) e) (at_agent g.kind g.number (cells_of cells) i);
      fault = kind_same Agent (cells_of cells) (λ k. (mail_after (cells_of cells) (sh.books 0) k).fault) (λ k. (mail_after (cells_of cells) (th.books 0) k).fault) g.number (ap (λ s. s.faults) e) (at_agent g.kind g.number (cells_of cells) i);
    };
    atoms = λ c i. atom_same c.kind c.number i;
    taken = ap (λ s. s.taken) e;
  }

-- ---- places

pub point_exact : (cells : List StoreCell) (b c : List Event) (p q : ℕ) → p ≤ length b → q ≤ length c → point_key cells b p ≡ point_key cells c q → SamePoint cells b c p q
point_exact cells b c p q le lf e = record {
  in_first = le;
  in_other = lf;
  refs = λ r i. record {
    times = times_at r.number (at_ref r.kind r.number cells i);
    value = λ f. value_at r.number (at_ref r.kind r.number cells i) f (sym (outdated_of (times_written r.number p b) (times_written r.number q c) (times_at r.number (at_ref r.kind r.number cells i))) ∙ f);
  };
}
  where
    times_at : (k : ℕ) → is_of_kind Ref (nth cells k) ≡ true → up_to_eleven (times_written k p b) ≡ up_to_eleven (times_written k q c)
    times_at k i = kind_same Ref cells (λ n. up_to_eleven (times_written n p b)) (λ n. up_to_eleven (times_written n q c)) k (ap (λ s. s.times) e) i

    value_at : (k : ℕ) → is_of_kind Ref (nth cells k) ≡ true → is_outdated k p b ≡ false → is_outdated k q c ≡ false → after (opening cells) b p k ≡ after (opening cells) c q k
    value_at k i f g =
        let kept = kind_same Ref cells (λ n. kept_at (opening cells) n p b) (λ n. kept_at (opening cells) n q c) k (ap (λ s. s.values) e) i in
        ap (some_or (after (opening cells) b p k)) (sym (ap (λ t. if t then None else Some (after (opening cells) b p k)) f) ∙ kept ∙ ap (λ t. if t then None else Some (after (opening cells) c q k)) g)

pub view_exact : (cells : List StoreCell) (b c : List Event) (p q : ℕ) → p ≤ length b → q ≤ length c → view_key cells b p ≡ view_key cells c q → SameView cells b c p q
view_exact cells b c p q le lf e = record {
  in_first = le;
  in_other = lf;
  refs = λ r i. kind_same Ref cells (λ n. written n p b) (λ n. written n q c) r.number e (at_ref r.kind r.number cells i);
}
