-- Pieces gone through one after the other.
use Rattle.std.proofs.Common.{◌≡◌, ◌≤◌, ◌<◌, ℕ, ◌+◌, ◌&&◌, Bool, true, false, List, ◌∷◌, drop, get_or, length, refl, sym, ap, ◌∙◌}
use Rattle.std.proofs.lemmas.Bool.{false≢true}
use Rattle.std.proofs.lemmas.List.{drop_all, drop_more}
use Rattle.txs_theorem_audit.specs.Audited.{Finding, Fine, Off, Short, and_then}
use Rattle.txs_audit_book.specs.Judged.{as_found, is_fine}
use Rattle.txs_audit_book.specs.declared.finding.Finding.TheVariants as found
use Rattle.txs_audit_evidence.specs.Evidence.{PlainBooks}
use Rattle.txs_audit_evidence.specs.declared.transactions.Found.{Found}
use Rattle.txs_audit.specs.Pieced.{IsFound, Sought, piece_as, pieces_as, sought_of, sought_of_one}
use Rattle.txs_audit.specs.declared.pieces.Piece.{Piece}

is_there : (f : Finding) → is_fine f ≡ true → f ≡ Fine
is_there Fine h = refl
is_there (Off a i) h = absurd (false≢true h)
is_there (Short a i) h = absurd (false≢true h)

-- a finding that isn't fine is the first
stays : (f g : Finding) → is_fine f ≡ false → and_then f g ≡ f
stays Fine g h = absurd (false≢true (sym h))
stays (Off a i) g h = refl
stays (Short a i) g h = refl

not_fine : {A : Type 0} (f : Finding) → is_fine f ≡ false → f ≡ Fine → A
not_fine Fine h e = absurd (false≢true (sym h))
not_fine (Off a i) h e = absurd (false≢true (sym h ∙ ap is_fine e))
not_fine (Short a i) h e = absurd (false≢true (sym h ∙ ap is_fine e))

and_three : (a b c : Bool) → ((a && b) && c) ≡ (a && (b && c))
and_three true b c = refl
and_three false b c = refl

and_one : (b : Bool) → (b && true) ≡ b
and_one true = refl
and_one false = refl

module _ (b : PlainBooks) (n : ℕ) (xs : List Piece) where
  abbrev whole : List Piece → Sought
  whole l = sought_of b n (pieces_as l)

  module _ (i : ℕ) (x : Piece) (lt : i < length xs) (is : x ≡ get_or xs i x) where
    left : drop i xs ≡ x ∷ drop (i + 1) xs
    left = drop_more xs i x lt ∙ ap (λ y. y ∷ drop (i + 1) xs) (sym is)

    -- something is found of this piece
    pub found_here : (whole (drop i xs)).finding ≡ (whole xs).finding → (f : Found) → IsFound (sought_of_one b n (piece_as x)) f → is_fine (as_found f.finding) ≡ false → IsFound (whole xs) f
    found_here h f found wrong =
        let one = (sought_of_one b n (piece_as x)).finding in
        let rest = (whole (drop (i + 1) xs)).finding in
        let off : is_fine one ≡ false = ap is_fine (sym found.finding) ∙ wrong in
        let all : one ≡ (whole xs).finding = sym (stays one rest off) ∙ ap (λ l. (whole l).finding) (sym left) ∙ h in
        record {
          finding = found.finding ∙ all;
          serial = λ fine. not_fine one off (all ∙ fine);
        }

    -- nothing is found of it
    pub found_more : (s : Bool) → ((whole (drop i xs)).finding ≡ (whole xs).finding) × ((s && (whole (drop i xs)).serial) ≡ (whole xs).serial)
        → (f : Found) → IsFound (sought_of_one b n (piece_as x)) f → is_fine (as_found f.finding) ≡ true
        → ((whole (drop (i + 1) xs)).finding ≡ (whole xs).finding) × (((s && f.serial) && (whole (drop (i + 1) xs)).serial) ≡ (whole xs).serial)
    found_more s h f found right =
        let one = (sought_of_one b n (piece_as x)).finding in
        let rest = (whole (drop (i + 1) xs)) in
        let fine : one ≡ Fine = is_there one (ap is_fine (sym found.finding) ∙ right) in (
          ap (λ g. and_then g rest.finding) (sym fine) ∙ ap (λ l. (whole l).finding) (sym left) ∙ h.0,
          and_three s f.serial rest.serial ∙ ap (λ z. s && (z && rest.serial)) (found.serial fine) ∙ ap (λ l. s && (whole l).serial) (sym left) ∙ h.1,
        )

  -- nothing is found of all
  pub found_end : (i : ℕ) → length xs ≤ i → (s : Bool) → ((whole (drop i xs)).finding ≡ (whole xs).finding) × ((s && (whole (drop i xs)).serial) ≡ (whole xs).serial)
      → IsFound (whole xs) (record { finding = found.Fine; serial = s })
  found_end i past s h =
      let none = drop_all i xs past in
      record {
        finding = ap (λ l. (whole l).finding) (sym none) ∙ h.0;
        serial = λ fine. sym (and_one s) ∙ ap (λ l. s && (whole l).serial) (sym none) ∙ h.1;
      }
