-- Outputs that grow.
use Rattle.std.proofs.Common.{◌≡◌, List, ℕ, ◌++◌, ◌∙◌, length, take, ap, Result, Ok, Err, OnOk, OnErr, append_assoc}
use Rattle.std.proofs.lemmas.List.{take_at}
use Rattle.txs_reader.specs.Extends.{Extends}

-- what is cut off again
pub Extends-undone : (old new cut : List ℕ) (n : ℕ) → Extends old new → length old ≡ n → cut ≡ take n new → cut ≡ old
Extends-undone old new cut n x size is = is ∙ ap (take n) x.is ∙ take_at old x.more n size

pub on_err : {A E : Type 0} (r : Result A E) (P : Type 0) → P → OnErr r P
on_err (Ok x) P p = tt
on_err (Err x) P p = p

-- what was appended in two steps, if the second succeeded
pub then_appended : {A E : Type 0} (r : Result A E) (old a b whole one two : List ℕ) → one ≡ old ++ a → OnOk r (two ≡ one ++ b) → a ++ b ≡ whole → OnOk r (two ≡ old ++ whole)
then_appended (Ok x) old a b whole one two p q is = rw (q, p, ← is) (simp append_assoc)
then_appended (Err x) old a b whole one two p q is = tt
