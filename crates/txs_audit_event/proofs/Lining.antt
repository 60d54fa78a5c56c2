-- The first line in which two texts differ, byte by byte.
use Rattle.std.proofs.Common.{◌≡◌, ◌<◌, ◌==◌, ◌+◌, ℕ, zero, suc, true, false, List, [], ◌∷◌, ◌++◌, length, drop, get_or, refl, sym, ap, ◌∙◌, arith, if◌then◌else◌}
use Rattle.std.proofs.lemmas.Bool.{eq-eqb, eqb-true, false≢true}
use Rattle.std.proofs.lemmas.List.{drop_more}
use Rattle.txs_value_data.specs.Places.{nth}
use Rattle.txs_audit_event.specs.Lines.{HasPassed, is_byte, is_byte_at, line_from, line_what}
use Rattle.txs_audit_event.specs.declared.what.What.TheVariants as what

-- ---- numbers and lists

equal : (n : ℕ) → (n == n) ≡ true
equal n = eq-eqb n n refl

-- ---- a text at an index

byte_there : (ys : List ℕ) (i b : ℕ) → is_byte_at ys i b ≡ true → (i < length ys) × (get_or ys i b ≡ b)
byte_there [] i b e = absurd (false≢true e)
byte_there (y ∷ ys) zero b e = (omega arith, sym (eqb-true b y e))
byte_there (y ∷ ys) (suc i) b e = let r = byte_there ys i b e in (let lt = r.0 in omega (arith, lt), r.1)

pub there_is : (ys : List ℕ) (i b : ℕ) → is_byte_at ys i b ≡ true → i < length ys
there_is ys i b e = (byte_there ys i b e).0

-- both texts have this byte at this index, which is passed
pub passed_on : (n m i : ℕ) (front next xs ys : List ℕ) (b : ℕ) → i < length xs → get_or xs i b ≡ b → is_byte_at ys i b ≡ true → HasPassed n front b m next
    → line_what m next (drop (i + 1) xs) (drop (i + 1) ys) ≡ line_what n front (drop i xs) (drop i ys)
passed_on n m i front next xs ys b lt is e passed =
    let r = byte_there ys i b e in
    let here : drop i xs ≡ b ∷ drop (i + 1) xs = drop_more xs i b lt ∙ ap (λ z. z ∷ drop (i + 1) xs) is in
    let there : drop i ys ≡ b ∷ drop (i + 1) ys = drop_more ys i b r.0 ∙ ap (λ z. z ∷ drop (i + 1) ys) r.1 in
    passed (drop (i + 1) xs) (drop (i + 1) ys) ∙ sym (ap (λ l. line_what n front l (drop i ys)) here ∙ ap (line_what n front (b ∷ drop (i + 1) xs)) there)

-- ---- where they differ

differ : (n : ℕ) (front : List ℕ) (x : ℕ) (xs ys : List ℕ) → is_byte x (nth ys 0) ≡ false → line_what n front (x ∷ xs) ys ≡ what.Line n (line_from front (x ∷ xs)) (line_from front ys)
differ n front x xs [] e = refl
differ n front x xs (y ∷ ys) e = ap (λ t. if t then (if x == 10 then line_what (suc n) [] xs ys else line_what n (front ++ x ∷ []) xs ys) else what.Line n (line_from front (x ∷ xs)) (line_from front (y ∷ ys))) e
