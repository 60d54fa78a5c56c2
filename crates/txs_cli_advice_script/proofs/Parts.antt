-- Laws of what is written part by part.
use Rattle.std.proofs.Common.{◌≡◌, ℕ, List, ◌++◌, append_assoc}

-- some parts, and then the rest
pub halves : (out a b c d rest : List ℕ) → (out ++ (a ++ (b ++ (c ++ d)))) ++ rest ≡ out ++ (a ++ (b ++ (c ++ (d ++ rest))))
halves out a b c d rest = simp append_assoc
