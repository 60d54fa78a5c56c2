-- Entries and books of a report by number.
use Rattle.std.proofs.Common.{◌≡◌, ℕ, zero, suc, ◌+◌, Bool, true, false, List, [], ◌∷◌, ◌++◌, length, map, get_or, Some, refl, sym, ap, ◌∙◌, arith, ⊎_elim, inl, inr, ◌⊎◌, if◌then◌else◌}
use Rattle.txs_value_data.specs.Places.{nth}
use Rattle.txs_value_cell.specs.Forms.{same_kind}
use Rattle.txs_value_cell.specs.declared.cell.CellDefinition.{CellDefinition}
use Rattle.txs_value_data.specs.declared.value.CellKind.TheVariants.{Atom}
use Rattle.txs_world_protocol.specs.SeenEvent.{atoms_below}
use Rattle.txs_world_protocol.specs.declared.event.Event.{Event}
use Rattle.txs_world_protocol.specs.declared.event.Place as event
use Rattle.txs_world_protocol.specs.declared.report.Report.{Report}
use Rattle.txs_world_shared.specs.SharedState.{PlainShared, shared_of}
use Rattle.txs_theorem_serial.specs.Order.{book_or_none}
use Rattle.txs_machine.specs.Reported.{IsReportOf}
use Rattle.txs_machine.specs.RunOver.{places_of}
use Rattle.txs_theorem_audit.specs.Audited.{PlainReport, place_of, report_as, books_of}
use Rattle.txs_theorem_audit.specs.Verdict.{atoms_from}
use Rattle.txs_theorem_audit.proofs.Findings.{not_there}

-- ---- lists

pub many : {A B : Type 0} (f : A → B) (xs : List A) → length (map f xs) ≡ length xs
many f [] = refl
many f (x ∷ xs) = ap suc (many f xs)

pub mapped : {A B : Type 0} (f : A → B) (xs : List A) (i : ℕ) (y : B) → nth (map f xs) i ≡ Some y → (x : A) × (nth xs i ≡ Some x) × (f x ≡ y)
mapped f [] i y h = not_there h
mapped f (x ∷ xs) zero y h = let same : f x ≡ y = cc in (x, refl, same)
mapped f (x ∷ xs) (suc i) y h = mapped f xs i y h

-- a member of the first list or of the second
pub either : {A : Type 0} (xs ys : List A) (a : ℕ) (x : A) → nth (xs ++ ys) a ≡ Some x → (nth xs a ≡ Some x) ⊎ ((i : ℕ) × (a ≡ length xs + i) × (nth ys i ≡ Some x))
either [] ys a x h = let z : a ≡ 0 + a = omega arith in inr (a, z, h)
either (y ∷ xs) ys zero x h = inl h
either (y ∷ xs) ys (suc a) x h = ⊎_elim (λ l. inl l) (λ r. (let e = r.1 in let z : suc a ≡ suc (length xs) + r.0 = omega (arith, e) in inr (r.0, z, r.2))) (either xs ys a x h)

pub places_same : (ps : List event.Place) → places_of ps ≡ map place_of ps
places_same [] = refl
places_same (p ∷ ps) = ap (λ l. place_of p ∷ l) (places_same ps)

-- ---- books by number

book_same : (bs : List (List Event)) (n : ℕ) → get_or bs n [] ≡ book_or_none (nth bs n)
book_same [] n = refl
book_same (b ∷ bs) zero = refl
book_same (b ∷ bs) (suc n) = book_same bs n

numbered_same : (r : PlainReport) (n : ℕ) → get_or (r.book ∷ r.atom_books) n [] ≡ books_of r n
numbered_same r zero = refl
numbered_same r (suc n) = book_same r.atom_books n

books_same : (r : PlainReport) → (λ n. get_or (r.book ∷ r.atom_books) n []) ≡ books_of r
books_same r = λ i n. numbered_same r n i

pub many_atoms : (n : ℕ) (ds : List CellDefinition) → atoms_below ds (length ds) ≡ length (atoms_from n ds)
many_atoms n [] = refl
many_atoms n (d ∷ ds) = go (same_kind d.kind Atom) (many_atoms (suc n) ds)
  where
    go : (b : Bool) → atoms_below ds (length ds) ≡ length (atoms_from (suc n) ds)
        → (if b then suc (atoms_below ds (length ds)) else atoms_below ds (length ds)) ≡ length (if b then record { kind = Atom; number = n } ∷ atoms_from (suc n) ds else atoms_from (suc n) ds)
    go true h = ap suc h
    go false h = h

-- ---- the books of a report

-- they are the state's
pub same_books : (s : PlainShared) (r : Report) → IsReportOf s r → (shared_of s).books ≡ books_of (report_as r)
same_books s r of = let numbered : List (List Event) → ℕ → List Event = λ bs n. get_or bs n [] in ap numbered (sym of.books) ∙ books_same (report_as r)
