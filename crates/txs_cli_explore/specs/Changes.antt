-- How a text differs from another, line by line.
use Rattle.std.specs.Prelude.{◌≡◌, ℕ, List, [], ◌∷◌, ◌++◌, ◌==◌, codes, if◌then◌else◌, Bool, map}
use Rattle.std.specs.Borrow.{Bor}

abbrev pub is_newline : ℕ → Bool
is_newline b = b == 10

-- a byte before the first of some lines
abbrev pub led_by : ℕ → List (List ℕ) → List (List ℕ)
led_by b [] = (b ∷ []) ∷ []
led_by b (l ∷ ls) = (b ∷ l) ∷ ls

-- the lines of a text, without the newline that ends each; the last may have none
abbrev pub lines_in : List ℕ → List (List ℕ)
lines_in [] = []
lines_in (b ∷ bs) = if is_newline b then [] ∷ lines_in bs else led_by b (lines_in bs)

-- these lines, each behind a sign and with its newline
abbrev pub signed : List ℕ → List (List ℕ) → List ℕ
signed sign [] = []
signed sign (l ∷ ls) = ((sign ++ l) ++ codes "\n") ++ signed sign ls

-- these texts, which are lent
abbrev pub lines_of : List (Bor (List ℕ)) → List (List ℕ)
lines_of ls = map (λ l. l.now) ls

-- The change from some lines to others. Both begin with the same lines, and end with the same lines. Of the lines between these, each of the first is written behind a minus,
-- and then each of the others behind a plus.
pub record IsChange (first others : List (List ℕ)) (change : List ℕ) : Type 0 where
  pub before : List (List ℕ)
  pub without : List (List ℕ)
  pub instead : List (List ℕ)
  pub behind : List (List ℕ)
  pub of_first : first ≡ before ++ (without ++ behind)
  pub of_others : others ≡ before ++ (instead ++ behind)
  pub written : change ≡ signed (codes "- ") without ++ signed (codes "+ ") instead
